use Rattle.std.proofs.Common.{◌≡◌, ◌<◌, ◌+◌, ℕ, sym, ap, ◌∙◌, subst, arith}
use Rattle.char_sequence.specs.Places.{IsAfter, IsPast}
use Rattle.char_sequence.specs.Chunks.{joined, IsSpot, IsSpotOf}
use Rattle.char_sequence.proofs.Chunking.{spot_after, spot_start, option_at}
use Rattle.char_sequence.proofs.chunk_list.ChunkList.spot_for.Goals.{in-Some, in-None}
use Rattle.char_sequence.proofs.chunk_list.ChunkList.spot_for.Goals as goal

pub overflow_add-from : goal.overflow_add-from
overflow_add-from c =
    let low = option_at _ (λ s. s.at < 64) c.spot_of.result c.unwrap-spot.result c.unwrap-spot.ensures c.spot_of.ensures.within in
    omega (arith, low)

pub past_greater-requires : goal.past_greater-requires
past_greater-requires c =
    let cs = c.args.self.now.chunks in
    let from = c.match-parent.from in
    let same : c.deref.result.now ≡ cs = c.deref.ensures.value ∙ ap (λ v. v.chunks) c.self.view_is in
    let r : (x : ℕ) × IsAfter (joined cs) c.args.parent x × IsSpot cs from.position from.at x =
    elim c.match-parent.branch [
      | in-Some w ↦
          (let spot = option_at _ (λ s. IsSpotOf cs w.in-Some.parent s.position s.at) w.spot_of.result w.unwrap-spot.result w.unwrap-spot.ensures w.spot_of.ensures.found in
          subst (λ f. (x : ℕ) × IsAfter (joined cs) c.args.parent x × IsSpot cs f.position f.at x) (sym w.from-is)
          (subst (λ p. (x : ℕ) × IsAfter (joined cs) p x × IsSpot cs w.unwrap-spot.result.position (w.unwrap-spot.result.at + 1) x) (sym w.in-Some.is) (spot_after _ _ _ _ spot)))
      | in-None w ↦
          subst (λ f. (x : ℕ) × IsAfter (joined cs) c.args.parent x × IsSpot cs f.position f.at x) (sym w.from-is)
          (subst (λ p. (x : ℕ) × IsAfter (joined cs) p x × IsSpot cs 0 0 x) (sym w.in-None.is) (spot_start cs c.requires.some))
    ] in
    (r.0, subst (λ z. IsSpot z from.position from.at r.0) (sym same) r.2)

pub returns : goal.returns
returns c =
    let cs = c.args.self.now.chunks in
    let from = c.match-parent.from in
    let same : c.deref.result.now ≡ cs = c.deref.ensures.value ∙ ap (λ v. v.chunks) c.self.view_is in
    let r : (x : ℕ) × IsAfter (joined cs) c.args.parent x × IsSpot cs from.position from.at x =
    elim c.match-parent.branch [
      | in-Some w ↦
          (let spot = option_at _ (λ s. IsSpotOf cs w.in-Some.parent s.position s.at) w.spot_of.result w.unwrap-spot.result w.unwrap-spot.ensures w.spot_of.ensures.found in
          subst (λ f. (x : ℕ) × IsAfter (joined cs) c.args.parent x × IsSpot cs f.position f.at x) (sym w.from-is)
          (subst (λ p. (x : ℕ) × IsAfter (joined cs) p x × IsSpot cs w.unwrap-spot.result.position (w.unwrap-spot.result.at + 1) x) (sym w.in-Some.is) (spot_after _ _ _ _ spot)))
      | in-None w ↦
          subst (λ f. (x : ℕ) × IsAfter (joined cs) c.args.parent x × IsSpot cs f.position f.at x) (sym w.from-is)
          (subst (λ p. (x : ℕ) × IsAfter (joined cs) p x × IsSpot cs 0 0 x) (sym w.in-None.is) (spot_start cs c.requires.some))
    ] in
    let p = subst (λ z. (place : ℕ) × IsSpot z c.past_greater.result.position c.past_greater.result.at place × IsPast (joined z) c.args.id r.0 place) same (c.past_greater.ensures r.0 (subst (λ z. IsSpot z from.position from.at r.0) (sym same) r.2)) in
    (r.0, (p.0, r.1, p.2, p.1))

use Rattle.std.proofs.Common.{◌≡◌, ℕ, ◌+◌, ◌<◌, ◌∷◌, ◌++◌, [], List, Option, get_or, length, None, sym, ap, ◌∙◌, subst}
use Rattle.std.specs.List.{slice_get}
use Rattle.std.proofs.lemmas.List.{length_push}
use Rattle.bpf_words.specs.Words.{program_of}
use Rattle.known_ways.specs.Ways.{target_at}
use Rattle.known_ways.proofs.Gathering.{each_more}
use Rattle.known_ways.proofs.jumps.targets.Goals as goal

pub loop-slot-preserved : goal.loop-slot-preserved
loop-slot-preserved c =
    let program = program_of c.args.words.now in
    let slot = c.loop-slot.slot in
    let old = c.loop-slot.targets.items in
    let one = c.target_at-target.result in
    let items : c.push.new.self.items ≡ old ++ one ∷ [] = c.in_ok-push.ensures.items in
    record {
      count = ap length items ∙ length_push old one ∙ ap (λ (n : ℕ). n + 1) c.loop-slot.invariant.count;
      each = subst (λ (xs : List (Option ℕ)). (k : ℕ) → k < slot + 1 → get_or xs k None ≡ target_at k (slice_get program k)) (sym items)
          (each_more old one None (λ k. target_at k (slice_get program k)) slot c.loop-slot.invariant.count c.loop-slot.invariant.each c.target_at-target.ensures);
    }

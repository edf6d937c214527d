use Rattle.std.proofs.Common.{◌≡◌, ◌<◌, ◌≤◌, ◌∷◌, ◌++◌, [], ℕ, List, sym, subst, arith, ⊎_elim}
use Rattle.std.specs.List.{Contains}
use Rattle.std.specs.List.Sorted.{IsStrictlyIncreasing}
use Rattle.std.proofs.lemmas.List.Elements.{Contains-push_cases}
use Rattle.mark_anchors.proofs.Windows.{rising_push}
use Rattle.mark_anchors.proofs.comment_segments.segment_cuts.Goals as goal

pub loop-cut-preserved : goal.loop-cut-preserved
loop-cut-preserved c =
    let cuts : List ℕ = c.loop-cut.cuts.items in
    let cut : ℕ = c.in-Some.cut in
    let less : c.loop-cut.from < cut = c.in-Some.ensures in
    let items : c.push.new.self.items ≡ cuts ++ cut ∷ [] = c.in_ok-push.ensures.items in
    record {
      rising =
          subst IsStrictlyIncreasing (sym items)
          (rising_push cuts cut c.loop-cut.invariant.rising (λ x held. let le : x ≤ c.loop-cut.from = c.loop-cut.invariant.behind x held in omega arith));
      behind =
          λ x held.
          ⊎_elim
          (λ (old : Contains cuts x). let le : x ≤ c.loop-cut.from = c.loop-cut.invariant.behind x old in omega arith)
          (λ (new : cut ≡ x). omega arith)
          (Contains-push_cases cuts cut x (subst (λ (l : List ℕ). Contains l x) items held));
    }

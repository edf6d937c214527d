use Rattle.std.proofs.Common.{List, ℕ, eqb, sym, subst}
use Rattle.std.specs.List.{Contains}
use Rattle.std.specs.List.Sorted.{IsStrictlyIncreasing}
use Rattle.std.proofs.lemmas.List.Filters.{dedup_is}
use Rattle.std.proofs.lemmas.List.Kept.{Contains-dedup_nat, Contains-from_dedup}
use Rattle.std.proofs.lemmas.List.Sorted.{Contains-permutation, IsPermutation-sym}
use Rattle.std.proofs.lemmas.Map.Keys.{IsStrictlyIncreasing-dedup}
use Rattle.mark_anchors.proofs.key_marks.in_order.Goals as goal

pub returns-clause-rising : goal.returns-clause-rising
returns-clause-rising c =
    let sorted = c.sort.new.self.items in
    subst IsStrictlyIncreasing (sym (dedup_is eqb sorted c.dedup.new.self.items c.dedup.ensures.filtered)) (IsStrictlyIncreasing-dedup sorted c.in_ok-sort.ensures.sorted)

pub returns-clause-members : goal.returns-clause-members
returns-clause-members c =
    λ x.
    let places : List ℕ = c.args.places.items in
    let sorted : List ℕ = c.sort.new.self.items in
    let is = dedup_is eqb sorted c.dedup.new.self.items c.dedup.ensures.filtered in (
      λ held. Contains-permutation sorted places x (IsPermutation-sym places sorted c.sort.ensures.permutation) (Contains-from_dedup eqb sorted x (subst (λ (l : List ℕ). Contains l x) is held)),
      λ held. subst (λ (l : List ℕ). Contains l x) (sym is) (Contains-dedup_nat sorted x (Contains-permutation places sorted x c.sort.ensures.permutation held)),
    )

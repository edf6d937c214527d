-- What a sort by ids gives.
use Rattle.std.proofs.Common.{◌≡◌, ℕ, ◌<◌, ◌≤◌, List, Some, get_or, ap, refl, arith, rules}
use Rattle.std.specs.List.{slice_get}
use Rattle.std.specs.List.Sorted.{IsSortedByKey, IsNonDecreasingBy}
use Rattle.std.specs.Cmp.{IsTotalOrder}
use Rattle.std.specs.Cmp.Rules.{comparing}
use Rattle.std.specs.Ordering.{ordering_index}
use Rattle.std.proofs.lemmas.List.Sorted.{searchable_from_sorted}
use Rattle.std.proofs.lemmas.Option.{slice_get_within, get_or_from_slice_get}
use Rattle.change_ops.specs.Ids.{Less, id_cmp}
use Rattle.change_ops.specs.declared.id.OpId.{OpId}
use Rattle.change_ops.proofs.IdLaws.{compares_ids}

id_total : IsTotalOrder id_cmp
id_total = search (comparing, rules)

greater_index : (a b : OpId) → Less b a → ordering_index (id_cmp a b) ≡ 2
greater_index a b less = ap ordering_index ((compares_ids a b).greater.1 less)

equal_index : (a : OpId) → ordering_index (id_cmp a a) ≡ 1
equal_index a = ap ordering_index ((compares_ids a a).equal.1 refl)

pub non_decreasing : {X : Type 0} (n : X → ℕ) (xs : List X) → IsNonDecreasingBy n xs → (i j : ℕ) (x y : X) → i < j → slice_get xs i ≡ Some x → slice_get xs j ≡ Some y → n x ≤ n y
non_decreasing n xs h i j x y less at next =
    let here : get_or xs i x ≡ x = get_or_from_slice_get xs i x x at in
    let there : get_or xs j x ≡ y = get_or_from_slice_get xs j y x next in
    let le : n (get_or xs i x) ≤ n (get_or xs j x) = h i j x (omega arith) (slice_get_within xs j y next) in
    let one : n (get_or xs i x) ≡ n x = ap n here in
    let two : n (get_or xs j x) ≡ n y = ap n there in
    omega arith

-- no element has a greater id than one behind it
pub never_falls : {X : Type 0} (key : X → OpId) (xs : List X) → IsSortedByKey key id_cmp xs → (i j : ℕ) (x y : X) → i < j → slice_get xs i ≡ Some x → slice_get xs j ≡ Some y → Less (key y) (key x) → ⊥
never_falls key xs sorted i j x y less at next below =
    let rise = searchable_from_sorted id_total key xs (key y) sorted in
    let le = non_decreasing (λ z. ordering_index (id_cmp (key z) (key y))) xs rise i j x y less at next in
    let one : ordering_index (id_cmp (key y) (key y)) ≡ 1 = equal_index (key y) in
    let two : ordering_index (id_cmp (key x) (key y)) ≡ 2 = greater_index (key x) (key y) below in
    absurd (omega arith)

-- What searches among things in order find.
use Rattle.std.proofs.Common.{◌≡◌, ℕ, zero, suc, ◌<◌, ◌≤◌, true, false, List, [], ◌∷◌, Some, length, get_or, sym, refl, ◌∙◌, subst, arith, ⊎_elim}
use Rattle.std.specs.Prelude.{nat_le}
use Rattle.std.specs.List.{slice_get}
use Rattle.std.specs.List.Sorted.{IsPartitionPoint, IsBinarySearchResult, IsSearchInRange}
use Rattle.std.specs.Ordering.{nat_cmp, ordering_index}
use Rattle.std.specs.Cmp.{nat_cmp_is}
use Rattle.std.specs.declared.cmp.Ordering.{Ordering}
use Rattle.std.specs.declared.cmp.Ordering.TheVariants as ordering
use Rattle.std.specs.declared.result.Result.{Result}
use Rattle.std.specs.declared.result.Result.TheVariants.{Ok, Err}
use Rattle.std.proofs.lemmas.Bool.{cases_lt, leb-true, le-leb, false≢true}
use Rattle.std.proofs.lemmas.Cmp.{ranked}
use Rattle.std.proofs.lemmas.Option.{slice_get_within, get_or_from_slice_get}
use Rattle.removal_runs.specs.Apart.{AreApart, HaveBegun, IsPlaceOf, IsFound, IsGap}
use Rattle.removal_runs.proofs.Apart.{begins_rise}

pub place_within : {X : Type 0} (xs : List X) (k : ℕ) → k < length xs → (x : X) × (slice_get xs k ≡ Some x)
place_within [] k within = absurd (omega arith)
place_within (x ∷ xs) zero within = (x, refl)
place_within (x ∷ xs) (suc k) within = place_within xs k (omega (arith, within))

pub have_begun : {X : Type 0} (begin : X → ℕ) (xs : List X) (number count : ℕ) → count ≤ length xs → IsPartitionPoint (λ y. nat_le (begin y) number ≡ true) (λ y. nat_le (begin y) number ≡ false) xs count → HaveBegun begin xs number count
have_begun begin xs number count within point = record {
  within = within;
  first =
      λ k x less at.
      subst (λ z. begin z ≤ number) (get_or_from_slice_get xs k x x at) (leb-true (begin (get_or xs k x)) number (point.0 k x (omega arith) less));
  rest =
      λ k x le at.
      let not = subst (λ z. nat_le (begin z) number ≡ false) (get_or_from_slice_get xs k x x at) (point.1 k x le (slice_get_within xs k x at)) in
      ⊎_elim
      (λ (past : number < begin x). past)
      (λ (upto : begin x ≤ number). absurd (false≢true (sym not ∙ le-leb (begin x) number upto)))
      (cases_lt number (begin x));
}

index_is_small : (o : Ordering) → ordering_index o ≤ 2
index_is_small ordering.Less = omega arith
index_is_small ordering.Equal = omega arith
index_is_small ordering.Greater = omega arith

index_rises : (a b n : ℕ) → a ≤ b → ordering_index (nat_cmp a n) ≤ ordering_index (nat_cmp b n)
index_rises a b n le =
    ⊎_elim
    (λ (less : a < n). let is : ordering.Less ≡ nat_cmp a n = nat_cmp_is a n ordering.Less less in subst (λ z. ordering_index z ≤ ordering_index (nat_cmp b n)) is (omega arith))
    (λ (from : n ≤ a).
    ⊎_elim
    (λ (more : n < b).
    let is : ordering.Greater ≡ nat_cmp b n = nat_cmp_is b n ordering.Greater more in
    subst (λ z. ordering_index (nat_cmp a n) ≤ ordering_index z) is (index_is_small (nat_cmp a n)))
    (λ (upto : b ≤ n). let same : a ≡ b = omega arith in subst (λ z. ordering_index (nat_cmp a n) ≤ ordering_index (nat_cmp z n)) same (omega arith))
    (cases_lt n b))
    (cases_lt a n)

is_found : {X : Type 0} (key : X → ℕ) (xs : List X) (wanted place : ℕ) → place < length xs → ((d : X) → nat_cmp (key (get_or xs place d)) wanted ≡ ordering.Equal) → IsFound key xs wanted place
is_found key xs wanted place within equal =
    let there = place_within xs place within in
    let at = get_or_from_slice_get xs place there.0 there.0 there.1 in
    let is : nat_cmp (key there.0) wanted ≡ ordering.Equal = subst (λ z. nat_cmp (key z) wanted ≡ ordering.Equal) at (equal there.0) in
    record { thing = there.0; at = there.1; same = ranked (key there.0) wanted ordering.Equal (sym is) }

is_gap : {X : Type 0} (key : X → ℕ) (xs : List X) (wanted place : ℕ) → place ≤ length xs → IsPartitionPoint (λ y. nat_cmp (key y) wanted ≡ ordering.Less) (λ y. nat_cmp (key y) wanted ≡ ordering.Greater) xs place → IsGap key xs wanted place
is_gap key xs wanted place within point = record {
  within = within;
  below =
      λ k x less at.
      let is = subst (λ z. nat_cmp (key z) wanted ≡ ordering.Less) (get_or_from_slice_get xs k x x at) (point.0 k x (omega arith) less) in
      ranked (key x) wanted ordering.Less (sym is);
  above =
      λ k x le at.
      let is = subst (λ z. nat_cmp (key z) wanted ≡ ordering.Greater) (get_or_from_slice_get xs k x x at) (point.1 k x le (slice_get_within xs k x at)) in
      ranked (key x) wanted ordering.Greater (sym is);
}

pub is_place_of : {X : Type 0} (key end : X → ℕ) (low : ℕ) (xs : List X) (high wanted : ℕ) (answer : Result ℕ ℕ) → AreApart key end low xs high → IsSearchInRange answer (length xs) → IsBinarySearchResult (λ y. nat_cmp (key y) wanted) xs answer → IsPlaceOf key xs wanted answer
is_place_of key end low xs high wanted (Ok place) apart within is = is_found key xs wanted place within is
is_place_of key end low xs high wanted (Err place) apart within is =
    is_gap key xs wanted place within (is (λ i j d le inside. index_rises _ _ wanted (begins_rise key end low xs high apart i j d le inside)))

-- Marks by the ranks of their ends.
use Rattle.std.proofs.Common.{◌≡◌, ℕ, zero, suc, ◌+◌, ◌*◌, ◌/◌, ◌%◌, ◌==◌, ◌<◌, ◌≤◌, ◌^◌, ◌++◌, List, [], ◌∷◌, Some, map, take, drop, length, refl, sym, ap, subst, ◌∙◌, arith, ⊎_elim, All}
use Rattle.std.specs.List.{slice_get}
use Rattle.std.specs.List.Sorted.{IsPermutation}
use Rattle.std.proofs.lemmas.Bool.{cases_lt, eqb-true, eqb-false}
use Rattle.std.proofs.lemmas.Option.{same_Some, none-some}
use Rattle.std.proofs.lemmas.List.{length-map, take_all, drop_all}
use Rattle.std.proofs.lemmas.List.Sorted.{All-permutation}
use Rattle.std.proofs.lemmas.Grind.{common_steps}
use Rattle.std.proofs.lemmas.List.Elements.{All-nil, All-cons, All-map, All-weaker}
use Rattle.change_ops.specs.declared.operation.Op.{Op}
use Rattle.char_sequence.specs.declared.sequence.Element.{Element}
use Rattle.mark_anchors.proofs.Lists.{contains_from}
use Rattle.mark_places.specs.MarkPlace.{MarkPlace}
use Rattle.mark_places.specs.declared.ranked.RankedMark.{RankedMark}
use Rattle.mark_places.specs.Places.{AreMarkPlaces}
use Rattle.mark_places.specs.Ranks.{is_odd, place_of, raised, mark_raised, IsBelow}
use Rattle.mark_places.specs.Shifted.{IsShifted, IsMarkShifted, AreShifted}
use Rattle.mark_places.proofs.Placing.{place_within, places_shifted}
use Rattle.mark_places.proofs.Raising.{raised_from, raised_below, raised_between, all_of_map, contains_map}

-- ---- ends that are moved
module _ (place count : ℕ) where
  rank_shifted : (rank : ℕ) → IsShifted place count (is_odd rank) (rank / 2) (raised (2 * place + 1) (2 * count) rank / 2)
  rank_shifted rank =
      ⊎_elim
      (λ (low : rank < 2 * place + 1).
      let same = raised_below (2 * place + 1) (2 * count) rank low in
      record {
        behind = λ far. absurd (omega arith);
        moves = λ at odd. let is = eqb-true (rank % 2) 1 odd in absurd (omega (arith, is));
        stays = λ at even. ap (λ r. r / 2) same;
        before = λ near. ap (λ r. r / 2) same;
      })
      (λ (high : 2 * place + 1 ≤ rank).
      let same = raised_from (2 * place + 1) (2 * count) rank high in
      let half : (rank + 2 * count) / 2 ≡ rank / 2 + count = omega arith in
      record {
        behind = λ far. ap (λ r. r / 2) same ∙ half;
        moves = λ at odd. ap (λ r. r / 2) same ∙ half;
        stays = λ at even. absurd (eqb-false (rank % 2) 1 even (omega arith));
        before = λ near. absurd (omega arith);
      })
      (cases_lt rank (2 * place + 1))

  rank_kept : (rank : ℕ) → is_odd (raised (2 * place + 1) (2 * count) rank) ≡ is_odd rank
  rank_kept rank =
      ⊎_elim
      (λ (low : rank < 2 * place + 1). ap is_odd (raised_below (2 * place + 1) (2 * count) rank low))
      (λ (high : 2 * place + 1 ≤ rank).
      let same : (rank + 2 * count) % 2 ≡ rank % 2 = omega arith in
      ap is_odd (raised_from (2 * place + 1) (2 * count) rank high) ∙ ap (λ (r : ℕ). r == 1) same)
      (cases_lt rank (2 * place + 1))

  one_shifted : (m : RankedMark) → IsMarkShifted place count (place_of m) (place_of (mark_raised (2 * place + 1) (2 * count) m))
  one_shifted m = record {
    start = rank_shifted m.start;
    end = rank_shifted m.end;
    index = refl;
    id = refl;
    key = refl;
    start_same = rank_kept m.start;
    end_same = rank_kept m.end;
  }

  each_shifted : (marks : List RankedMark) (i : ℕ) (p q : MarkPlace) → slice_get (map place_of marks) i ≡ Some p
      → slice_get (map place_of (map (mark_raised (2 * place + 1) (2 * count)) marks)) i ≡ Some q → IsMarkShifted place count p q
  each_shifted [] i p q g h = absurd (none-some p g)
  each_shifted (m ∷ marks) zero p q g h =
      subst (λ z. IsMarkShifted place count z q) (same_Some _ p g) (subst (IsMarkShifted place count (place_of m)) (same_Some _ q h) (one_shifted m))
  each_shifted (m ∷ marks) (suc i) p q g h = each_shifted marks i p q g h

  pub are_shifted : (marks : List RankedMark) → AreShifted place count (map place_of marks) (map place_of (map (mark_raised (2 * place + 1) (2 * count)) marks))
  are_shifted marks = record {
    sized = length-map (map (mark_raised (2 * place + 1) (2 * count)) marks) place_of ∙ length-map marks (mark_raised (2 * place + 1) (2 * count)) ∙ sym (length-map marks place_of);
    shifted = each_shifted marks;
  }

-- ---- ranks are no larger than the text
rank_low : (es : List Element) (operations : List Op) (marks : List RankedMark) → AreMarkPlaces es operations (map place_of marks) → (i : ℕ) (m : RankedMark) → slice_get marks i ≡ Some m
    → (m.start / 2 ≤ length es) × (m.end / 2 ≤ length es)
rank_low es operations marks are i m at = place_within es operations (map place_of marks) are (place_of m) (contains_map place_of marks m (contains_from marks i m at))

pub all_from_each : {X : Type 0} (P : X → Type 0) (xs : List X) → ((i : ℕ) (x : X) → slice_get xs i ≡ Some x → P x) → All P xs
all_from_each P [] each = All-nil P
all_from_each P (x ∷ xs) each = All-cons P x xs (each zero x refl) (all_from_each P xs (λ i y at. each (suc i) y at))

pub ranks_low : (es : List Element) (operations : List Op) (marks : List RankedMark) → AreMarkPlaces es operations (map place_of marks)
    → All (λ m. (m.start / 2 ≤ length es) × (m.end / 2 ≤ length es)) marks
ranks_low es operations marks are = all_from_each (λ m. (m.start / 2 ≤ length es) × (m.end / 2 ≤ length es)) marks (rank_low es operations marks are)

-- ---- loops
-- what a loop over the elements has left
left_over : {X : Type 0} (f : X → X) (xs : List X) (i : ℕ) → i < length xs → slice_get (map f (take i xs) ++ drop i xs) i ≡ slice_get xs i
left_over f [] i within = absurd (omega arith)
left_over f (x ∷ xs) zero within = refl
left_over f (x ∷ xs) (suc i) within = left_over f xs i (omega arith)

pub read_over : {X : Type 0} (f : X → X) (xs ys : List X) (i : ℕ) → i < length xs → ys ≡ map f (take i xs) ++ drop i xs → slice_get ys i ≡ slice_get xs i
read_over f xs ys i within is = ap (λ zs. slice_get zs i) is ∙ left_over f xs i within

pub mapped_all : {X : Type 0} (f : X → X) (xs ys : List X) (n : ℕ) → length xs ≤ n → ys ≡ map f (take n xs) ++ drop n xs → ys ≡ map f xs
mapped_all f xs ys n all is = is ∙ grind (arith, common_steps, take_all n xs all, drop_all n xs all)

-- ---- ranks that are moved
pub ranks_fit : (es : List Element) (operations : List Op) (marks : List RankedMark) (from count : ℕ) → AreMarkPlaces es operations (map place_of marks) → length es + count < 2 ^ 30
    → All (λ m. IsBelow (2 ^ 31) (mark_raised from (2 * count) m)) marks
ranks_fit es operations marks from count are few =
    All-weaker (λ m. (m.start / 2 ≤ length es) × (m.end / 2 ≤ length es)) (λ m. IsBelow (2 ^ 31) (mark_raised from (2 * count) m)) (λ m low.
    let start = low.0 in
    let end = low.1 in
    (omega (arith, (raised_between from (2 * count) m.start).1), omega (arith, (raised_between from (2 * count) m.end).1)))
    marks (ranks_low es operations marks are)

pub places_moved : (front run back : List Element) (operations : List Op) (marks : List RankedMark) (place count : ℕ) → length front ≡ place → length run ≡ count
    → AreMarkPlaces (front ++ back) operations (map place_of marks) → AreMarkPlaces (front ++ (run ++ back)) operations (map place_of (map (mark_raised (2 * place + 1) (2 * count)) marks))
places_moved front run back operations marks place count at many are =
    places_shifted front run back operations (map place_of marks) (map place_of (map (mark_raised (2 * place + 1) (2 * count)) marks))
    (subst (λ n. AreShifted (length front) n (map place_of marks) (map place_of (map (mark_raised (2 * place + 1) (2 * count)) marks))) (sym many)
    (subst (λ n. AreShifted n count (map place_of marks) (map place_of (map (mark_raised (2 * place + 1) (2 * count)) marks))) (sym at) (are_shifted place count marks))) are

-- ---- shifts that are pending
-- no rank is moved farther by two shifts as one
pub joined_fit : (f b f' b' f'' b'' : ℕ) → ((rank : ℕ) → raised f b rank ≡ raised f'' b'' (raised f' b' rank)) → (marks : List RankedMark)
    → All (λ m. IsBelow (2 ^ 31) (mark_raised f'' b'' m)) (map (mark_raised f' b') marks) → All (λ m. IsBelow (2 ^ 31) (mark_raised f b m)) marks
joined_fit f b f' b' f'' b'' same marks fits =
    All-weaker (λ m. IsBelow (2 ^ 31) (mark_raised f'' b'' (mark_raised f' b' m))) (λ m. IsBelow (2 ^ 31) (mark_raised f b m)) (λ m w.
    let start = w.0 in
    let end = w.1 in
    (omega (arith, start, same m.start), omega (arith, end, same m.end)))
    marks (all_of_map (λ m. IsBelow (2 ^ 31) (mark_raised f'' b'' m)) (mark_raised f' b') marks fits)

-- where none is pending, and a mark was added
pub settled_fit : (f b f' b' : ℕ) → ((rank : ℕ) → raised f b rank ≡ rank) → (marks : List RankedMark) → All (λ m. IsBelow (2 ^ 31) (mark_raised f' b' m)) marks
    → All (λ m. IsBelow (2 ^ 31) (mark_raised f b m)) (map (mark_raised f' b') marks)
settled_fit f b f' b' none marks fits =
    All-weaker (IsBelow (2 ^ 31)) (λ m. IsBelow (2 ^ 31) (mark_raised f b m)) (λ m w.
    let start = w.0 in
    let end = w.1 in
    (omega (arith, start, none m.start), omega (arith, end, none m.end)))
    (map (mark_raised f' b') marks) (All-map (IsBelow (2 ^ 31)) (mark_raised f' b') marks fits)

pub added_fit : (f b f' b' : ℕ) → ((rank : ℕ) → raised f b rank ≡ rank) → (marks later : List RankedMark) (mark : RankedMark) → IsBelow (2 ^ 31) mark
    → All (λ m. IsBelow (2 ^ 31) (mark_raised f' b' m)) marks → IsPermutation (mark ∷ map (mark_raised f' b') marks) later → All (λ m. IsBelow (2 ^ 31) (mark_raised f b m)) later
added_fit f b f' b' none marks later mark below fits same =
    let start = below.0 in
    let end = below.1 in
    All-permutation (λ m. IsBelow (2 ^ 31) (mark_raised f b m)) (mark ∷ map (mark_raised f' b') marks) later same
    (All-cons (λ m. IsBelow (2 ^ 31) (mark_raised f b m)) mark (map (mark_raised f' b') marks)
    (omega (arith, start, none mark.start), omega (arith, end, none mark.end)) (settled_fit f b f' b' none marks fits))

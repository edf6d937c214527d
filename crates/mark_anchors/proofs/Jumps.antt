-- Jumps past the indices of the places that are painted.
use Rattle.std.proofs.Common.{◌≡◌, ◌≢◌, ℕ, ◌+◌, ◌<◌, ◌≤◌, ◌↔◌, List, Option, Some, None, length, get_or, replicate, set, sym, ap, ◌∙◌, subst, ⊎_elim, arith}
use Rattle.std.specs.List.{slice_get, range_with_len}
use Rattle.std.proofs.lemmas.Bool.{cases_lt, cases_eq}
use Rattle.std.proofs.lemmas.List.{length-set, length-replicate, get_or-replicate}
use Rattle.std.proofs.lemmas.List.FromFn.{length-range_with_len, get_or-range_with_len}
use Rattle.std.proofs.lemmas.Option.{same_Some, none-some, slice_get-get_or, slice_get_within}
use Rattle.char_sequence.proofs.Lists.{slice_get_set_same, slice_get_set_other, set_cases}
use Rattle.mark_anchors.specs.KeyMarks.{IsFree, NoneFree, AreJumps, AreJumpsOver}

-- ---- a jump to where the next jump leads
module _ (jumps : List ℕ) (index to next : ℕ) (are : AreJumps jumps) (first : slice_get jumps index ≡ Some to) (far : to ≢ index) (second : slice_get jumps to ≡ Some next) where
  pub longer : (index < to) × (to ≤ next) × (next < length jumps)
  longer = let one = are index to first in let two = are to next second in let low : index ≤ to = one.0 in (omega arith, two.0, two.1)

  pub none_free_between : NoneFree jumps index next
  none_free_between j low high free =
      ⊎_elim
      (λ (less : j < to). (are index to first).2 j low less free)
      (λ (ge : to ≤ j). (are to next second).2 j ge high free)
      (cases_lt j to)

  pub free_still : (j : ℕ) → IsFree jumps j ↔ IsFree (set jumps index next) j
  free_still j =
      ⊎_elim
      (λ (same : j ≡ index). (
        λ free. absurd (far (same_Some to index (sym first ∙ subst (IsFree jumps) same free))),
        λ free.
            let is : next ≡ j = same_Some next j (sym (slice_get_set_same jumps index next (slice_get_within jumps index to first)) ∙ ap (slice_get (set jumps index next)) (sym same) ∙ free) in
            let less : index < to = longer.0 in
            let more : to ≤ next = longer.1 in
            absurd (omega arith),
      ))
      (λ (other : j ≢ index). let is = slice_get_set_other jumps index j next other in (λ free. is ∙ free, λ free. sym is ∙ free))
      (cases_eq j index)

  pub halved : AreJumps (set jumps index next)
  halved i t at =
      ⊎_elim
      (λ (here : (i ≡ index) × (next ≡ t)).
      let less : index < to = longer.0 in
      let more : to ≤ next = longer.1 in
      let within : next < length jumps = longer.2 in
      let sized : length (set jumps index next) ≡ length jumps = length-set jumps index next in (
        omega (arith, here.0, here.1),
        omega (arith, here.1),
        λ j low high free. none_free_between j (omega (arith, here.0)) (omega (arith, here.1)) ((free_still j).1 free),
      ))
      (λ (there : (i ≢ index) × (slice_get jumps i ≡ Some t)).
      let old = are i t there.1 in
      let within : t < length jumps = old.1 in
      let sized : length (set jumps index next) ≡ length jumps = length-set jumps index next in
      (old.0, omega arith, λ j low high free. old.2 j low high ((free_still j).1 free)))
      (set_cases jumps index next i t (slice_get_within jumps index to first) at)

pub none_free_more : (jumps : List ℕ) (from index next : ℕ) → NoneFree jumps from index → NoneFree jumps index next → NoneFree jumps from next
none_free_more jumps from index next one two j low high free =
    ⊎_elim
    (λ (less : j < index). one j low less free)
    (λ (ge : index ≤ j). two j ge high free)
    (cases_lt j index)

-- ---- a place more is painted
pub over_still : (jumps after : List ℕ) (numbers : List (Option ℕ)) → AreJumpsOver jumps numbers → AreJumps after → length after ≡ length jumps → ((j : ℕ) → IsFree jumps j ↔ IsFree after j) → AreJumpsOver after numbers
over_still jumps after numbers over are sized same = record {
  past = are;
  sized = sized ∙ over.sized;
  free = λ j less. (λ free. (over.free j less).0 ((same j).1 free), λ none. (same j).0 ((over.free j less).1 none));
}

module _ (jumps : List ℕ) (numbers : List (Option ℕ)) (index number : ℕ) (over : AreJumpsOver jumps numbers) (within : index < length numbers) where
  inside : index < length jumps
  inside = let sized : length jumps ≡ length numbers + 1 = over.sized in omega arith

  here : slice_get (set jumps index (index + 1)) index ≡ Some (index + 1)
  here = slice_get_set_same jumps index (index + 1) inside

  taken : IsFree (set jumps index (index + 1)) index → ⊥
  taken free = let is : index + 1 ≡ index = same_Some (index + 1) index (sym here ∙ free) in absurd (omega arith)

  free_before : (j : ℕ) → IsFree (set jumps index (index + 1)) j → (j ≢ index) × IsFree jumps j
  free_before j free =
      ⊎_elim
      (λ (same : j ≡ index). absurd (taken (subst (IsFree (set jumps index (index + 1))) same free)))
      (λ (other : j ≢ index). (other, sym (slice_get_set_other jumps index j (index + 1) other) ∙ free))
      (cases_eq j index)

  jumps_past : AreJumps (set jumps index (index + 1))
  jumps_past i t at =
      let sized : length (set jumps index (index + 1)) ≡ length jumps = length-set jumps index (index + 1) in
      let all : length jumps ≡ length numbers + 1 = over.sized in
      ⊎_elim
      (λ (one : (i ≡ index) × (index + 1 ≡ t)). (
        omega (arith, one.0, one.1),
        omega (arith, one.1),
        λ j low high free. let same : j ≡ index = omega (arith, one.0, one.1) in (free_before j free).0 same,
      ))
      (λ (there : (i ≢ index) × (slice_get jumps i ≡ Some t)).
      let old = over.past i t there.1 in
      let less : t < length jumps = old.1 in
      (old.0, omega arith, λ j low high free. old.2 j low high (free_before j free).1))
      (set_cases jumps index (index + 1) i t inside at)

  pub over_more : AreJumpsOver (set jumps index (index + 1)) (set numbers index (Some number))
  over_more =
      let many : length (set numbers index (Some number)) ≡ length numbers = length-set numbers index (Some number) in
      let sized : length (set jumps index (index + 1)) ≡ length jumps = length-set jumps index (index + 1) in
      let all : length jumps ≡ length numbers + 1 = over.sized in
      record {
        past = jumps_past;
        sized = omega arith;
        free =
            λ j less.
            let before : j < length numbers = omega arith in (
              λ free.
                  let old = free_before j free in
                  slice_get_set_other numbers index j (Some number) old.0 ∙ (over.free j before).0 old.1,
              λ none.
                  ⊎_elim
                  (λ (same : j ≡ index).
                  let is : Some number ≡ None = same_Some (Some number) None (sym (slice_get_set_same numbers index (Some number) within) ∙ ap (slice_get (set numbers index (Some number))) (sym same) ∙ none) in
                  absurd (none-some number (sym is)))
                  (λ (other : j ≢ index).
                  slice_get_set_other jumps index j (index + 1) other ∙ (over.free j before).1 (sym (slice_get_set_other numbers index j (Some number) other) ∙ none))
                  (cases_eq j index),
            );
      }

-- ---- none is painted yet
pub none_at : (numbers : List (Option ℕ)) (n j : ℕ) → numbers ≡ replicate n None → j < length numbers → slice_get numbers j ≡ Some None
none_at numbers n j is less =
    let sized : length numbers ≡ n = ap length is ∙ length-replicate n None in
    slice_get-get_or numbers j None less ∙ ap Some (ap (λ (l : List (Option ℕ)). get_or l j None) is ∙ get_or-replicate n j None None (omega arith))

pub over_none : (jumps : List ℕ) (numbers : List (Option ℕ)) → AreJumps jumps → length jumps ≡ length numbers + 1 → ((j : ℕ) → j < length jumps → IsFree jumps j) → ((j : ℕ) → j < length numbers → slice_get numbers j ≡ Some None) → AreJumpsOver jumps numbers
over_none jumps numbers are sized free none = record {
  past = are;
  sized = sized;
  free = λ j less. (λ is. none j less, λ is. free j (omega arith));
}

pub free_from_range : (jumps : List ℕ) (n : ℕ) → jumps ≡ range_with_len 0 n → (j : ℕ) → j < length jumps → IsFree jumps j
free_from_range jumps n is j less =
    let sized : length jumps ≡ n = ap length is ∙ length-range_with_len 0 n in
    let is_j : get_or (range_with_len 0 n) j 0 ≡ 0 + j = get_or-range_with_len 0 n j 0 (omega arith) in
    let one : get_or jumps j 0 ≡ get_or (range_with_len 0 n) j 0 = ap (λ (l : List ℕ). get_or l j 0) is in
    let at : get_or jumps j 0 ≡ j = omega arith in
    slice_get-get_or jumps j 0 less ∙ ap Some at

-- a list of jumps that are all to themselves
pub jumps_from_free : (jumps : List ℕ) → ((j : ℕ) → j < length jumps → IsFree jumps j) → AreJumps jumps
jumps_from_free jumps free i to at =
    let within : i < length jumps = slice_get_within jumps i to at in
    let same : i ≡ to = same_Some i to (sym (free i within) ∙ at) in
    (omega arith, omega arith, λ j low high is. absurd (omega arith))

-- The visible text of ranges of places, chunk after chunk.
use Rattle.std.proofs.Common.{◌≡◌, ℕ, zero, suc, cond, ◌+◌, ◌-◌, ◌≤◌, List, [], ◌∷◌, ◌++◌, Some, length, take, drop, slice_range, sym, ap, refl, ◌∙◌, arith, append_assoc, append-nil, length-append}
use Rattle.std.specs.List.{slice_get}
use Rattle.std.proofs.lemmas.Option.{same_Some, none-some}
use Rattle.std.proofs.lemmas.List.{take_all, drop_all, drop-drop}
use Rattle.std.proofs.lemmas.List.Sums.{sum_by-append}
use Rattle.std.proofs.lemmas.Grind.{common_steps}
use Rattle.char_sequence.specs.declared.sequence.Element.{Element}
use Rattle.char_sequence.specs.Chunks.{joined, start_of}
use Rattle.char_sequence.specs.Visible.{visible_text, visible_count}
use Rattle.char_sequence.proofs.VisibleText.{visible_none, visible_append}

abbrev the_nil : List Element
the_nil = []

drop_nil : (n : ℕ) → drop n the_nil ≡ the_nil
drop_nil zero = refl
drop_nil (suc n) = refl

take_nil : (n : ℕ) → take n the_nil ≡ the_nil
take_nil zero = refl
take_nil (suc n) = refl

-- of no chunk
range_nil : (from to : ℕ) → slice_range the_nil from to ≡ the_nil
range_nil from to = ap (take (to - from)) (drop_nil from) ∙ take_nil (to - from)

pub range_none : (from to : ℕ) → visible_text (slice_range [] from to) ≡ []
range_none from to = ap visible_text (range_nil from to) ∙ visible_none

pub count_none : (from to : ℕ) → visible_count (slice_range [] from to) ≡ 0
count_none from to = ap visible_count (range_nil from to)

take_append : (n : ℕ) (xs ys : List Element) → take n (xs ++ ys) ≡ take n xs ++ take (n - length xs) ys
take_append n [] ys = let same : n ≡ n - 0 = omega arith in ap (λ m. take m ys) same ∙ sym (ap (λ z. z ++ take (n - 0) ys) (take_nil n))
take_append zero (x ∷ xs) ys = let none : 0 - length (x ∷ xs) ≡ 0 = omega arith in sym (ap (λ m. take m ys) none)
take_append (suc n) (x ∷ xs) ys =
    let less : n - length xs ≡ suc n - length (x ∷ xs) = omega arith in
    ap (λ z. x ∷ z) (take_append n xs ys ∙ ap (λ m. take n xs ++ take m ys) less)

drop_append : (n : ℕ) (xs ys : List Element) → drop n (xs ++ ys) ≡ drop n xs ++ drop (n - length xs) ys
drop_append n [] ys = let same : n ≡ n - 0 = omega arith in ap (λ m. drop m ys) same ∙ sym (ap (λ z. z ++ drop (n - 0) ys) (drop_nil n))
drop_append zero (x ∷ xs) ys = let none : 0 - length (x ∷ xs) ≡ 0 = omega arith in sym (ap (λ m. (x ∷ xs) ++ drop m ys) none)
drop_append (suc n) (x ∷ xs) ys =
    let less : n - length xs ≡ suc n - length (x ∷ xs) = omega arith in
    drop_append n xs ys ∙ ap (λ m. drop n xs ++ drop m ys) less

pub range_append : (xs ys : List Element) (from to : ℕ) → from ≤ to → slice_range (xs ++ ys) from to ≡ slice_range xs from to ++ slice_range ys (from - length xs) (to - length xs)
range_append xs ys from to order =
    let size : length (drop from xs) ≡ length xs - from = grind (arith, common_steps) in
    let left : (to - from) - length (drop from xs) ≡ (to - length xs) - (from - length xs) = omega (arith, size) in
    ap (take (to - from)) (drop_append from xs ys)
    ∙ take_append (to - from) (drop from xs) (drop (from - length xs) ys)
    ∙ ap (λ n. take (to - from) (drop from xs) ++ take n (drop (from - length xs) ys)) left

-- a range as long as the list is the list
pub range_whole : (xs : List Element) (from to : ℕ) → length (slice_range xs from to) ≡ length xs → slice_range xs from to ≡ xs
range_whole [] from to size = ap (λ es. take (to - from) es) (drop_nil from) ∙ take_nil (to - from)
range_whole (x ∷ xs) from to size =
    let cut : length (drop from (x ∷ xs)) ≡ length (x ∷ xs) - from = grind (arith, common_steps) in
    let most : length (take (to - from) (drop from (x ∷ xs))) ≤ length (drop from (x ∷ xs)) = grind (arith, common_steps) in
    let first : from ≡ 0 = omega (arith, cut, most, size) in
    let start : slice_range (x ∷ xs) from to ≡ take (to - from) (x ∷ xs) = ap (λ n. take (to - from) (drop n (x ∷ xs))) first in
    let less : length (take (to - from) (x ∷ xs)) ≤ to - from = grind (arith, common_steps) in
    let same = ap length start in
    start ∙ take_all (to - from) (x ∷ xs) (omega (arith, less, same, size))

pub joined_more : (cs : List (List Element)) (i : ℕ) (c : List Element) → slice_get cs i ≡ Some c → joined (take (i + 1) cs) ≡ joined (take i cs) ++ c
joined_more [] i c here = absurd (none-some c here)
joined_more (x ∷ xs) zero c here = append-nil x ∙ same_Some x c here
joined_more (x ∷ xs) (suc i) c here =
    let next : suc i + 1 ≡ suc (i + 1) = omega arith in
    ap (λ n. joined (take n (x ∷ xs))) next ∙ ap (λ z. x ++ z) (joined_more xs i c here) ∙ sym (append_assoc x (joined (take i xs)) c)

-- one chunk more
range_next : (cs : List (List Element)) (i from to : ℕ) (c : List Element) → slice_get cs i ≡ Some c → from ≤ to → slice_range (joined (take (i + 1) cs)) from to ≡ slice_range (joined (take i cs)) from to ++ slice_range c (from - start_of cs i) (to - start_of cs i)
range_next cs i from to c here order =
    ap (λ es. slice_range es from to) (joined_more cs i c here)
    ∙ range_append (joined (take i cs)) c from to order

pub count_more : (cs : List (List Element)) (i from to : ℕ) (c : List Element) → slice_get cs i ≡ Some c → from ≤ to → visible_count (slice_range (joined (take (i + 1) cs)) from to) ≡ visible_count (slice_range (joined (take i cs)) from to) + visible_count (slice_range c (from - start_of cs i) (to - start_of cs i))
count_more cs i from to c here order =
    ap visible_count (range_next cs i from to c here order)
    ∙ sum_by-append (λ e. cond e.visible 1 0) (slice_range (joined (take i cs)) from to) (slice_range c (from - start_of cs i) (to - start_of cs i))

pub range_more : (cs : List (List Element)) (i from to : ℕ) (c : List Element) → slice_get cs i ≡ Some c → from ≤ to → visible_text (slice_range (joined (take (i + 1) cs)) from to) ≡ visible_text (slice_range (joined (take i cs)) from to) ++ visible_text (slice_range c (from - start_of cs i) (to - start_of cs i))
range_more cs i from to c here order =
    ap visible_text (range_next cs i from to c here order)
    ∙ visible_append (slice_range (joined (take i cs)) from to) (slice_range c (from - start_of cs i) (to - start_of cs i))

joined_cut : (cs : List (List Element)) (i : ℕ) → joined cs ≡ joined (take i cs) ++ joined (drop i cs)
joined_cut [] zero = refl
joined_cut [] (suc i) = refl
joined_cut (x ∷ xs) zero = refl
joined_cut (x ∷ xs) (suc i) = ap (λ z. x ++ z) (joined_cut xs i) ∙ sym (append_assoc x (joined (take i xs)) (joined (drop i xs)))

-- no front of the chunks has more
pub range_front : (cs : List (List Element)) (i from to : ℕ) → from ≤ to → length (visible_text (slice_range (joined (take i cs)) from to)) ≤ length (visible_text (slice_range (joined cs) from to))
range_front cs i from to order =
    let front = joined (take i cs) in
    let back = joined (drop i cs) in
    let whole = ap (λ es. length (visible_text (slice_range es from to))) (joined_cut cs i)
    ∙ ap (λ es. length (visible_text es)) (range_append front back from to order)
    ∙ ap length (visible_append (slice_range front from to) (slice_range back (from - length front) (to - length front)))
    ∙ length-append (visible_text (slice_range front from to)) (visible_text (slice_range back (from - length front) (to - length front)))
    in
    omega (arith, whole)

-- a range within the first chunks
pub range_within : (cs : List (List Element)) (q from to : ℕ) → from ≤ to → to ≤ start_of cs q → slice_range (joined (take q cs)) from to ≡ slice_range (joined cs) from to
range_within cs q from to order within =
    let front = joined (take q cs) in
    let back = joined (drop q cs) in
    let none : (to - length front) - (from - length front) ≡ 0 = omega arith in
    sym (ap (λ es. slice_range es from to) (joined_cut cs q)
    ∙ range_append front back from to order
    ∙ ap (λ n. slice_range front from to ++ take n (drop (from - length front) back)) none
    ∙ append-nil (slice_range front from to))

-- what stands behind a place, from the chunk that the place is in on
pub drop_within : (cs : List (List Element)) (p to : ℕ) → start_of cs p ≤ to → drop (to - start_of cs p) (joined (drop p cs)) ≡ drop to (joined cs)
drop_within cs p to reached =
    let front = joined (take p cs) in
    let back = joined (drop p cs) in
    sym (ap (drop to) (joined_cut cs p) ∙ drop_append to front back ∙ ap (λ z. z ++ drop (to - length front) back) (drop_all to front reached))

-- ---- read on from a place
pub next_range : (cs through : List (List Element)) (q read to count : ℕ) (view : List Element) → to ≡ read + count → to ≤ start_of cs q → through ≡ take q cs → drop read (joined cs) ≡ view → slice_range (joined through) read to ≡ take count view
next_range cs through q read to count view sum far front is =
    let left : to - read ≡ count = omega (arith, sum) in
    ap (λ z. slice_range (joined z) read to) front
    ∙ range_within cs q read to (omega (arith, sum)) far
    ∙ ap (λ n. take n (drop read (joined cs))) left
    ∙ ap (take count) is

pub next_left : (cs rest : List (List Element)) (p start read to count : ℕ) (view : List Element) → to ≡ read + count → start ≡ start_of cs p → start ≤ to → rest ≡ drop p cs → drop read (joined cs) ≡ view → drop (to - start) (joined rest) ≡ drop count view
next_left cs rest p start read to count view sum at reached back is =
    ap (λ z. drop (to - start) (joined z)) back
    ∙ ap (λ n. drop (to - n) (joined (drop p cs))) at
    ∙ drop_within cs p to (omega (arith, at, reached))
    ∙ ap (λ n. drop n (joined cs)) sum
    ∙ sym (drop-drop count read (joined cs))
    ∙ ap (drop count) is

-- what is left to read has no more elements than were there
pub rest_within : (cs rest : List (List Element)) (p start to : ℕ) → start ≡ start_of cs p → start ≤ to → to ≤ length (joined cs) → rest ≡ drop p cs → length (joined cs) ≤ 262144 → (to - start ≤ length (joined rest)) × (length (joined rest) ≤ 262144)
rest_within cs rest p start to at reached within back few =
    let whole = ap length (joined_cut cs p) ∙ length-append (joined (take p cs)) (joined (drop p cs)) in
    let same = ap (λ z. length (joined z)) back in
    (omega (arith, whole, same, at), omega (arith, whole, same))

-- what stands from a place on, by the chunks from the one that the place is in on
pub rest_from : (cs rest : List (List Element)) (p start place : ℕ) → start ≡ start_of cs p → start ≤ place → rest ≡ drop p cs → drop (place - start) (joined rest) ≡ drop place (joined cs)
rest_from cs rest p start place at reached back = next_left cs rest p start 0 place place (joined cs) (omega arith) at reached back refl

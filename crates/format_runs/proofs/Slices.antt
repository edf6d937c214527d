-- Parts of formats by places.
use Rattle.std.proofs.Common.{◌≡◌, ℕ, zero, suc, ◌+◌, ◌-◌, ◌<◌, ◌≤◌, inl, inr, List, [], ◌∷◌, ◌++◌, length, take, drop, replicate, get_or, min, max, sym, ap, subst, ◌∙◌, arith}
use Rattle.std.specs.List.{slice_range}
use Rattle.std.proofs.lemmas.Bool.{cases_lt}
use Rattle.std.proofs.lemmas.List.{append-nil, drop_all, drop-drop, drop-replicate, drop_more, length-drop, length-replicate, length-take, take_all, take_more, take-append-drop}
use Rattle.std.proofs.lemmas.List.Sums.{sum_by-cons, sum_by_push}
use Rattle.std.proofs.Math.Seq.{take-add}
use Rattle.mark_anchors.specs.Formatting.{Format}
use Rattle.format_runs.specs.Runs.{AreApart, AreMaximal, Run, character_count, formats_of}
use Rattle.format_runs.proofs.Formats.{count_append, formats_append, formats_push, length_formats}
use Rattle.format_runs.proofs.Apart.{apart_drop, apart_first, apart_from_none, apart_parts, maximal_back}

take_append : {X : Type 0} (n : ℕ) (xs ys : List X) → take n (xs ++ ys) ≡ take n xs ++ take (n - length xs) ys
take_append zero xs ys =
    let z : zero - length xs ≡ zero = omega arith in
    sym (ap (λ k. take zero xs ++ take k ys) z)
take_append (suc n) [] ys =
    let z : suc n - zero ≡ suc n = omega arith in
    sym (ap (λ k. take k ys) z)
take_append (suc n) (x ∷ xs) ys =
    let z : suc n - length (x ∷ xs) ≡ n - length xs = omega arith in
    ap (λ l. x ∷ l) (take_append n xs ys) ∙ ap (λ k. x ∷ (take n xs ++ take k ys)) (sym z)

pub drop_append : {X : Type 0} (n : ℕ) (xs ys : List X) → drop n (xs ++ ys) ≡ drop n xs ++ drop (n - length xs) ys
drop_append zero xs ys =
    let z : zero - length xs ≡ zero = omega arith in
    sym (ap (λ k. xs ++ drop k ys) z)
drop_append (suc n) [] ys =
    let z : suc n - zero ≡ suc n = omega arith in
    sym (ap (λ k. drop k ys) z)
drop_append (suc n) (x ∷ xs) ys =
    let z : suc n - length (x ∷ xs) ≡ n - length xs = omega arith in
    drop_append n xs ys ∙ ap (λ k. drop n xs ++ drop k ys) (sym z)

slice_append : {X : Type 0} (xs ys : List X) (a b : ℕ) → slice_range (xs ++ ys) a b ≡ slice_range xs a b ++ slice_range ys (a - length xs) (b - length xs)
slice_append xs ys a b =
    let size : (b - a) - length (drop a xs) ≡ (b - length xs) - (a - length xs) = omega (arith, length-drop a xs) in
    ap (λ l. take (b - a) l) (drop_append a xs ys) ∙ take_append (b - a) (drop a xs) (drop (a - length xs) ys)
    ∙ ap (λ k. take (b - a) (drop a xs) ++ take k (drop (a - length xs) ys)) size

pub slice_nothing : {X : Type 0} (xs : List X) (a b : ℕ) → b ≤ a → slice_range xs a b ≡ []
slice_nothing xs a b le =
    let none : b - a ≡ 0 = omega arith in
    ap (λ k. take k (drop a xs)) none

slice_past : {X : Type 0} (xs : List X) (a b : ℕ) → length xs ≤ a → slice_range xs a b ≡ []
slice_past xs a b le = ap (λ l. take (b - a) l) (drop_all a xs le) ∙ take_all (b - a) [] (omega arith)

pub slice_to_end : {X : Type 0} (xs : List X) (a b : ℕ) → length xs ≤ b → slice_range xs a b ≡ drop a xs
slice_to_end xs a b le = take_all (b - a) (drop a xs) (omega (arith, length-drop a xs))

pub slice_from_start : {X : Type 0} (xs : List X) (b : ℕ) → slice_range xs 0 b ≡ take b xs
slice_from_start xs b = let same : b - 0 ≡ b = omega arith in ap (λ n. take n xs) same

-- what is within the second of three lists
pub slice_within : {X : Type 0} (xs ys zs : List X) (a b : ℕ) → length xs ≤ a → b ≤ length xs + length ys
    → slice_range (xs ++ (ys ++ zs)) a b ≡ slice_range ys (a - length xs) (b - length xs)
slice_within {X} xs ys zs a b low high =
    let c : ℕ = a - length xs in
    let d : ℕ = b - length xs in
    slice_append xs (ys ++ zs) a b ∙ ap (λ l. l ++ slice_range (ys ++ zs) c d) (slice_past xs a b low)
    ∙ slice_append ys zs c d ∙ ap (λ l. slice_range ys c d ++ l) (slice_nothing zs (c - length ys) (d - length ys) (omega arith))
    ∙ append-nil (slice_range ys c d)

pub slice_more : {X : Type 0} (xs : List X) (a b n : ℕ) → a ≤ b → slice_range xs a (b + n) ≡ slice_range xs a b ++ slice_range xs b (b + n)
slice_more xs a b n le =
    let wide : (b + n) - a ≡ (b - a) + n = omega arith in
    let at : a + (b - a) ≡ b = omega arith in
    let rest : (b + n) - b ≡ n = omega arith in
    ap (λ k. take k (drop a xs)) wide ∙ take-add (b - a) n (drop a xs)
    ∙ ap (λ l. take (b - a) (drop a xs) ++ take n l) (drop-drop (b - a) a xs ∙ ap (λ k. drop k xs) at)
    ∙ ap (λ k. slice_range xs a b ++ take k (drop b xs)) (sym rest)

take_replicate : (m n : ℕ) (f : Format) → take m (replicate n f) ≡ replicate (min m n) f
take_replicate zero n f = let z : min zero n ≡ zero = omega arith in sym (ap (λ k. replicate k f) z)
take_replicate (suc m) zero f = let z : min (suc m) zero ≡ zero = omega arith in sym (ap (λ k. replicate k f) z)
take_replicate (suc m) (suc n) f =
    let s : min (suc m) (suc n) ≡ suc (min m n) = omega arith in
    ap (λ l. f ∷ l) (take_replicate m n f) ∙ sym (ap (λ k. replicate k f) s)

pub slice_replicate : (n a b k : ℕ) (f : Format) → k ≡ min (b - a) (n - a) → slice_range (replicate n f) a b ≡ replicate k f
slice_replicate n a b k f e =
    ap (λ l. take (b - a) l) (drop-replicate a n f) ∙ take_replicate (b - a) (n - a) f ∙ ap (λ m. replicate m f) (sym e)

-- ---- runs one after another
-- the first runs with the one behind them
pub runs_more : (runs : List Run) (i : ℕ) (r : Run) → i < length runs → r ≡ get_or runs i r → take (i + 1) runs ≡ take i runs ++ r ∷ []
runs_more runs i r lt is = take_more runs i r lt ∙ ap (λ s. take i runs ++ s ∷ []) (sym is)

pub count_more : (runs : List Run) (i : ℕ) (r : Run) → i < length runs → r ≡ get_or runs i r
    → character_count (take (i + 1) runs) ≡ character_count (take i runs) + r.characters
count_more runs i r lt is = ap character_count (runs_more runs i r lt is) ∙ sum_by_push (λ (run : Run). run.characters) (take i runs) r

-- the runs around one of them
pub runs_around : (runs : List Run) (i : ℕ) (r : Run) → i < length runs → r ≡ get_or runs i r → runs ≡ take i runs ++ (r ∷ drop (i + 1) runs)
runs_around runs i r lt is =
    sym (take-append-drop i runs) ∙ ap (λ l. take i runs ++ l) (drop_more runs i r lt ∙ ap (λ s. s ∷ drop (i + 1) runs) (sym is))

pub count_within : (runs : List Run) (i : ℕ) (r : Run) → i < length runs → r ≡ get_or runs i r
    → character_count (take i runs) + r.characters ≤ character_count runs
count_within runs i r lt is =
    let all : character_count runs ≡ character_count (take i runs) + character_count (r ∷ drop (i + 1) runs) =
    ap character_count (runs_around runs i r lt is) ∙ count_append (take i runs) (r ∷ drop (i + 1) runs) in
    omega (arith, all, sum_by-cons (λ (run : Run). run.characters) r (drop (i + 1) runs))

-- the part of the first runs, with that of the next one
pub part_more : (runs : List Run) (i : ℕ) (r : Run) (from to k : ℕ) → i < length runs → r ≡ get_or runs i r
    → k ≡ min to (character_count (take i runs) + r.characters) - max from (character_count (take i runs))
    → slice_range (formats_of (take (i + 1) runs)) from to ≡ slice_range (formats_of (take i runs)) from to ++ replicate k r.format
part_more runs i r from to k lt is e =
    let before : List Format = formats_of (take i runs) in
    let size : length before ≡ character_count (take i runs) = length_formats (take i runs) in
    ap (λ l. slice_range l from to) (ap formats_of (runs_more runs i r lt is) ∙ formats_push (take i runs) r)
    ∙ slice_append before (replicate r.characters r.format) from to
    ∙ ap (λ l. slice_range before from to ++ l)
    (slice_replicate r.characters (from - length before) (to - length before) k r.format (omega (arith, e, size)))

-- only the first run of a part can have the format that stands before the part
pub part_apart : (runs : List Run) (i : ℕ) (r : Run) (from to k : ℕ) → i < length runs → r ≡ get_or runs i r → AreMaximal runs
    → k ≡ min to (character_count (take i runs) + r.characters) - max from (character_count (take i runs))
    → 0 < k → AreApart (slice_range (formats_of (take i runs)) from to) (r.format ∷ [])
part_apart runs i r from to k lt is m e some = elim (cases_lt from (character_count (take i runs))) [
  | inr past ↦
      subst (λ (l : List Format). AreApart l (r.format ∷ [])) (sym (slice_past before from to (omega (arith, size)))) (apart_from_none (r.format ∷ []))
  | inl inside ↦
      subst (λ (l : List Format). AreApart l (r.format ∷ [])) (sym (slice_to_end before from to (omega (arith, e, some, size))))
      (apart_drop from before (r.format ∷ []) (omega (arith, size)) (apart_first before r (drop (i + 1) runs) whole.0 whole.1))
]
  where
    before : List Format
    before = formats_of (take i runs)

    size : length before ≡ character_count (take i runs)
    size = length_formats (take i runs)

    around : AreMaximal (take i runs ++ (r ∷ drop (i + 1) runs))
    around = subst AreMaximal (runs_around runs i r lt is) m

    behind : AreMaximal (r ∷ drop (i + 1) runs)
    behind = maximal_back (take i runs) (r ∷ drop (i + 1) runs) around

    whole : (0 < r.characters) × AreApart before (formats_of (r ∷ drop (i + 1) runs))
    whole = (behind.0, apart_parts (take i runs) (r ∷ drop (i + 1) runs) around)

-- characters within one run
pub over_run : (runs : List Run) (i : ℕ) (r : Run) (place count : ℕ) → i < length runs → r ≡ get_or runs i r
    → character_count (take i runs) ≤ place → place + count ≤ character_count (take i runs) + r.characters
    → slice_range (formats_of runs) place (place + count) ≡ replicate count r.format
over_run runs i r place count lt is low high =
    let before : List Format = formats_of (take i runs) in
    let own : List Format = replicate r.characters r.format in
    let behind : List Format = formats_of (drop (i + 1) runs) in
    let size : length before ≡ character_count (take i runs) = length_formats (take i runs) in
    let long : length own ≡ r.characters = length-replicate r.characters r.format in
    ap (λ l. slice_range l place (place + count)) (ap formats_of (runs_around runs i r lt is) ∙ formats_append (take i runs) (r ∷ drop (i + 1) runs))
    ∙ slice_within before own behind place (place + count) (omega arith) (omega arith)
    ∙ slice_replicate r.characters (place - length before) ((place + count) - length before) count r.format (omega arith)

-- a part has no more characters than the whole
pub short_part : (runs part : List Run) (a b : ℕ) → formats_of part ≡ slice_range (formats_of runs) a b → character_count part ≤ character_count runs
short_part runs part a b e =
    omega (
      arith,
      sym (length_formats part) ∙ ap length e,
      length-take (b - a) (drop a (formats_of runs)),
      length-drop a (formats_of runs),
      length_formats runs,
    )

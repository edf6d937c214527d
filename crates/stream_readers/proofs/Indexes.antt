-- What is said of each entry of a list, by the indexes.
use Rattle.std.proofs.Common.{◌≡◌, ℕ, ◌+◌, ◌-◌, ◌≤◌, zero, suc, List, [], ◌∷◌, Result, Ok, Err, IfOk, length, map, take, drop, arith, refl, sym, ap, ◌∙◌}
use Rattle.std.specs.Prelude.{MatchResult}
use Rattle.std.specs.List.{AllZip, range_with_len, enumerate_from, slice_get, slice_range}
use Rattle.std.proofs.lemmas.List.FromFn.{take-map-range_with_len}
use Rattle.std.proofs.lemmas.List.{take_all}
use Rattle.semantics.specs.Step.{Program}
use Rattle.span_flatten.specs.Version.{Version}
use Rattle.feeds.specs.Verdicts.{verdicts_of}
use Rattle.feeds.proofs.Hits.{verdict_count}
use Rattle.std.specs.Option.{option_map, option_map_or}

module _ {A B C : Type 0} (view : ℕ → A → B) (verdict : B → C) (none : C) where
  abbrev at : List A → ℕ → C
  at rows i = option_map_or verdict (option_map (view i) (slice_get rows i)) none

  from_index : (all rows : List A) (k : ℕ) → ((i : ℕ) → slice_get all (k + i) ≡ slice_get rows i)
      → map (at all) (range_with_len k (length rows)) ≡ map verdict (map (λ indexed. view indexed.0 indexed.1) (enumerate_from k rows))
  from_index all [] k rest = refl
  from_index all (row ∷ rows) k rest =
      let here : k ≡ k + 0 = omega arith in
      let first : at all k ≡ verdict (view k row) = ap (λ o. option_map_or verdict (option_map (view k) o) none) (ap (slice_get all) here ∙ rest 0) in
      let next : (i : ℕ) → (k + 1) + i ≡ k + suc i = λ i. omega arith in
      ap (λ c. c ∷ map (at all) (range_with_len (k + 1) (length rows))) first
      ∙ ap (λ l. verdict (view k row) ∷ l) (from_index all rows (k + 1) (λ i. ap (slice_get all) (next i) ∙ rest (suc i)))

  -- by the indexes of all rows it is what is said of all rows in order
  pub by_index : (rows : List A) → map (at rows) (range_with_len 0 (length rows)) ≡ map verdict (map (λ indexed. view indexed.0 indexed.1) (enumerate_from 0 rows))
  by_index rows =
      let same : (i : ℕ) → 0 + i ≡ i = λ i. omega arith in
      from_index rows rows 0 (λ i. ap (slice_get rows) (same i))

-- what is said of the indexes from one on is the rest of what is said of all
from_on : {C : Type 0} (f : ℕ → C) (a start n : ℕ) → a ≤ n → drop a (map f (range_with_len start n)) ≡ map f (range_with_len (start + a) (n - a))
from_on f zero start n le =
    let here : start ≡ start + 0 = omega arith in
    let all : n ≡ n - 0 = omega arith in
    ap (λ (x : ℕ × ℕ). map f (range_with_len x.0 x.1)) (λ i. (here i, all i))
from_on f (suc a) start zero le = absurd (omega arith)
from_on f (suc a) start (suc n) le =
    let here : (start + 1) + a ≡ start + suc a = omega arith in
    let left : n - a ≡ suc n - suc a = omega arith in
    from_on f a (start + 1) n (omega arith) ∙ ap (λ (x : ℕ × ℕ). map f (range_with_len x.0 x.1)) (λ i. (here i, left i))

-- of the indexes from one up to another
pub between : {C : Type 0} (f : ℕ → C) (a b n : ℕ) → a ≤ b → b ≤ n → map f (range_with_len a (b - a)) ≡ slice_range (map f (range_with_len 0 n)) a b
between f a b n order within =
    let here : 0 + a ≡ a = omega arith in
    sym (ap (take (b - a)) (from_on f a 0 n (omega arith) ∙ ap (λ s. map f (range_with_len s (n - a))) here)
    ∙ take-map-range_with_len f a (n - a) (b - a) (omega arith))

-- from the first to the last they are all
pub whole : (program : Program) (version : Version) (n : ℕ) → n ≡ length version.rows → slice_range (verdicts_of program version) 0 n ≡ verdicts_of program version
whole program version n is =
    let size : n - 0 ≡ n = omega arith in
    ap (λ k. take k (verdicts_of program version)) size
    ∙ take_all n (verdicts_of program version) (omega (arith, verdict_count program version))

-- ---- results of which each is `Ok`, or the whole is an `Err`
-- what is said of each `Ok`, said of what is in them
pub in_oks : {A B : Type 0} (E : Type 0) (R : A → B → Type 0) (xs : List A) (ys : List B) → AllZip (λ x (r : Result B E). IfOk r (λ y. R x y)) xs (map Ok ys) → AllZip R xs ys
in_oks E R [] [] all = all
in_oks E R [] (y ∷ ys) all = absurd all
in_oks E R (x ∷ xs) [] all = absurd all
in_oks E R (x ∷ xs) (y ∷ ys) all = (all.0, in_oks E R xs ys all.1)

pub if_ok : {T E : Type 0} (r : Result T E) (P Q : T → Type 0) (R : E → Type 0) → MatchResult r P R → ((v : T) → P v → Q v) → IfOk r Q
if_ok (Ok v) P Q R is so = so v is
if_ok (Err e) P Q R is so = tt

-- Lines of a list and those that another one doesn't have, from one place on.
use Rattle.std.proofs.Common.{◌≡◌, ◌⊎◌, ℕ, ◌+◌, ◌≤◌, min, Bool, true, false, List, [], ◌∷◌, ◌++◌, codes, map, drop, length, refl, ap, ◌∙◌, sym, append_assoc, inl, inr, arith}
use Rattle.std.proofs.Math.ListN.{drop_of_length-le}
use Rattle.std.proofs.lemmas.List.{length-map, map_push, append-nil}
use Rattle.std.proofs.lemmas.List.FromFn.{map-range_with_len_more}
use Rattle.std.specs.List.{flat_map, range_with_len}
use Rattle.known_lines.specs.KnownLines.{listed, lines_beside, in_line}

-- ---- lines that are added one by one
pub added : {X : Type 0} (f : X → List ℕ) (g : ℕ → List ℕ) (before : List (List ℕ)) (old new : List X) (x : X) (i : ℕ)
    → new ≡ old ++ x ∷ [] → f x ≡ g i → map f old ≡ before ++ map g (range_with_len 0 i) → map f new ≡ before ++ map g (range_with_len 0 (i + 1))
added f g before old new x i is at so =
    ap (map f) is
    ∙ map_push f old x
    ∙ ap (λ (line : List ℕ). map f old ++ line ∷ []) at
    ∙ ap (λ (lines : List (List ℕ)). lines ++ g i ∷ []) so
    ∙ append_assoc before (map g (range_with_len 0 i)) (g i ∷ [])
    ∙ ap (λ (lines : List (List ℕ)). before ++ lines) (sym (map-range_with_len_more g 0 i i (omega arith)))

-- ---- beside others
beside_nil : (lines : List (List ℕ)) → lines_beside lines [] ≡ []
beside_nil [] = refl
beside_nil (line ∷ lines) = refl

either_short : (m n i : ℕ) → min m n ≤ i → (m ≤ i) ⊎ (n ≤ i)
either_short m n i h = grind arith

beside_end : (a b : List (List ℕ)) (i : ℕ) → min (length a) (length b) ≤ i → lines_beside (drop i a) (drop i b) ≡ []
beside_end a b i h = go (either_short (length a) (length b) i h) where
  go : (length a ≤ i) ⊎ (length b ≤ i) → lines_beside (drop i a) (drop i b) ≡ []
  go (inl le) = ap (λ (xs : List (List ℕ)). lines_beside xs (drop i b)) (drop_of_length-le a le)
  go (inr le) = ap (lines_beside (drop i a)) (drop_of_length-le b le) ∙ beside_nil (drop i a)

beside_all : {X : Type 0} (f : X → List ℕ) (xs ys : List X) (i : ℕ) → min (length xs) (length ys) ≤ i → lines_beside (drop i (map f xs)) (drop i (map f ys)) ≡ []
beside_all f xs ys i h = beside_end (map f xs) (map f ys) i (omega (arith, length-map xs f, length-map ys f))

pub beside_done : {X : Type 0} (f : X → List ℕ) (xs ys : List X) (i : ℕ) (before old : List ℕ) → min (length xs) (length ys) ≤ i
    → old ++ listed (lines_beside (drop i (map f xs)) (drop i (map f ys))) ≡ before → old ≡ before
beside_done f xs ys i before old h so =
    sym (append-nil old) ∙ ap (λ (rest : List (List ℕ)). old ++ listed rest) (sym (beside_all f xs ys i h)) ∙ so

-- ---- all in one
-- what is still to be printed of lines, where there was one before them or not
abbrev pub lines_left : Bool → List (List ℕ) → List ℕ
lines_left true lines = flat_map (λ line. codes "; " ++ line) lines
lines_left false lines = in_line lines

pub in_line_done : {X : Type 0} (f : X → List ℕ) (xs ys : List X) (i : ℕ) (some : Bool) (before old : List ℕ) → min (length xs) (length ys) ≤ i
    → old ++ lines_left some (lines_beside (drop i (map f xs)) (drop i (map f ys))) ≡ before → old ++ lines_left some [] ≡ before
in_line_done f xs ys i some before old h so =
    ap (λ (lines : List (List ℕ)). old ++ lines_left some lines) (sym (beside_all f xs ys i h)) ∙ so

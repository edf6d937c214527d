-- The marks of blocks, one block after another.
use Rattle.std.proofs.Common.{◌≡◌, ℕ, zero, suc, ◌+◌, ◌-◌, ◌<◌, ◌++◌, List, [], ◌∷◌, Some, map, take, drop, set, append_assoc, length, refl, sym, ap, subst, ◌∙◌, arith, All}
use Rattle.std.specs.List.{slice_get, flat_map, insert}
use Rattle.std.specs.List.Sorted.{IsPermutation}
use Rattle.std.proofs.lemmas.Option.{same_Some, none-some, slice_get_within, get_or_from_slice_get}
use Rattle.std.proofs.lemmas.List.{append-nil, map-append, take_more, take_rest, take-append-drop}
use Rattle.std.proofs.lemmas.List.Concat.{flat_map-append}
use Rattle.std.proofs.lemmas.List.Elements.{All-nil, All-cons, All-head, All-tail}
use Rattle.std.proofs.lemmas.List.Sorted.{IsPermutation-append_left, IsPermutation-append_right, IsPermutation-middle, IsPermutation-sym, IsPermutation-trans}
use Rattle.mark_places.specs.declared.ranked.RankedMark.{RankedMark}

all_left : {X : Type 0} (P : X → Type 0) (xs ys : List X) → All P (xs ++ ys) → All P xs
all_left P [] ys all = All-nil P
all_left P (x ∷ xs) ys all = All-cons P x xs (All-head P x (xs ++ ys) all) (all_left P xs ys (All-tail P x (xs ++ ys) all))

all_right : {X : Type 0} (P : X → Type 0) (xs ys : List X) → All P (xs ++ ys) → All P ys
all_right P [] ys all = all
all_right P (x ∷ xs) ys all = all_right P xs ys (All-tail P x (xs ++ ys) all)

pub joined_map : (f : RankedMark → RankedMark) (blocks : List (List RankedMark)) → flat_map (λ b. b) (map (map f) blocks) ≡ map f (flat_map (λ b. b) blocks)
joined_map f [] = refl
joined_map f (b ∷ blocks) = ap (λ ms. map f b ++ ms) (joined_map f blocks) ∙ sym (map-append f b (flat_map (λ b. b) blocks))

pub all_of_block : (P : RankedMark → Type 0) (blocks : List (List RankedMark)) (i : ℕ) (b : List RankedMark) → All P (flat_map (λ b. b) blocks) → slice_get blocks i ≡ Some b → All P b
all_of_block P [] i b all at = absurd (none-some b at)
all_of_block P (x ∷ blocks) zero b all at = subst (All P) (same_Some x b at) (all_left P x (flat_map (λ b. b) blocks) all)
all_of_block P (x ∷ blocks) (suc i) b all at = all_of_block P blocks i b (all_right P x (flat_map (λ b. b) blocks) all) at

pub push_block : (blocks : List (List RankedMark)) (b : List RankedMark) → flat_map (λ b. b) (blocks ++ b ∷ []) ≡ flat_map (λ b. b) blocks ++ b
push_block blocks b = flat_map-append (λ b. b) blocks (b ∷ []) ∙ ap (λ ms. flat_map (λ b. b) blocks ++ ms) (append-nil b)

pub joined_more : (blocks : List (List RankedMark)) (i : ℕ) (b : List RankedMark) → slice_get blocks i ≡ Some b → flat_map (λ b. b) (take (i + 1) blocks) ≡ flat_map (λ b. b) (take i blocks) ++ b
joined_more blocks i b at =
    let within : i < length blocks = slice_get_within blocks i b at in
    ap (flat_map (λ b. b)) (take_more blocks i b within ∙ ap (λ x. take i blocks ++ x ∷ []) (get_or_from_slice_get blocks i b b at)) ∙ push_block (take i blocks) b

-- one mark more in one of them
pub set_more : (blocks : List (List RankedMark)) (i : ℕ) (b new : List RankedMark) (m : RankedMark) → slice_get blocks i ≡ Some b → IsPermutation (m ∷ b) new
    → IsPermutation (m ∷ flat_map (λ b. b) blocks) (flat_map (λ b. b) (set blocks i new))
set_more [] i b new m at more = absurd (none-some b at)
set_more (x ∷ blocks) zero b new m at more =
    let same : x ≡ b = same_Some x b at in
    IsPermutation-append_left (flat_map (λ b. b) blocks) (m ∷ x) new (subst (λ y. IsPermutation (m ∷ y) new) (sym same) more)
set_more (x ∷ blocks) (suc i) b new m at more =
    let rest = flat_map (λ b. b) blocks in
    IsPermutation-trans (m ∷ (x ++ rest)) (x ++ m ∷ rest) (x ++ flat_map (λ b. b) (set blocks i new))
    (IsPermutation-sym (x ++ m ∷ rest) (m ∷ (x ++ rest)) (IsPermutation-middle x m rest))
    (IsPermutation-append_right x (m ∷ rest) (flat_map (λ b. b) (set blocks i new)) (set_more blocks i b new m at more))

-- two in the place of one
pub split_same : (blocks : List (List RankedMark)) (i j : ℕ) (b front back : List RankedMark) → slice_get blocks i ≡ Some b → j ≡ i + 1 → front ++ back ≡ b
    → flat_map (λ b. b) (set (insert blocks j back) i front) ≡ flat_map (λ b. b) blocks
split_same [] i j b front back at next is = absurd (none-some b at)
split_same (x ∷ blocks) i zero b front back at next is = absurd (omega arith)
split_same (x ∷ blocks) zero (suc zero) b front back at next is =
    let rest = flat_map (λ b. b) blocks in
    sym (append_assoc front back rest) ∙ ap (λ y. y ++ rest) (is ∙ sym (same_Some x b at))
split_same (x ∷ blocks) zero (suc (suc j)) b front back at next is = absurd (omega arith)
split_same (x ∷ blocks) (suc i) (suc j) b front back at next is = ap (λ ms. x ++ ms) (split_same blocks i j b front back at (omega arith) is)

-- a list in two parts
pub halves : {X : Type 0} (b front back : List X) (n k : ℕ) → n ≡ length b → front ≡ take (k - 0) (drop 0 b) → back ≡ take (n - k) (drop k b) → front ++ back ≡ b
halves b front back n k size first second =
    let whole : k - 0 ≡ k = omega arith in
    ap (λ xs. xs ++ back) (first ∙ ap (λ j. take j b) whole) ∙ ap (λ xs. take k b ++ xs) (second ∙ ap (λ j. take (j - k) (drop k b)) size ∙ take_rest b k) ∙ take-append-drop k b

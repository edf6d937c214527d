-- How large pieces are.
use Rattle.std.proofs.Common.{◌≡◌, ℕ, zero, suc, ◌+◌, ◌*◌, ◌<◌, ◌≤◌, List, [], ◌∷◌, ◌++◌, Some, length, take, drop, get_or, sym, ap, subst, ◌∙◌, arith, length-append, encode_utf8_all}
use Rattle.std.specs.List.{slice_get}
use Rattle.std.proofs.lemmas.List.{append-nil, length-drop}
use Rattle.std.proofs.lemmas.Option.{get_or_from_slice_get}
use Rattle.std.proofs.lemmas.Str.{encodes-append}
use Rattle.piece_tree.specs.Nodes.{pieces_of}
use Rattle.text_pieces.specs.Texts.{AreAllLarge, AreLarge, IsLarge}

pub all_joined : (xs ys : List (List ℕ)) → AreAllLarge xs → AreAllLarge ys → AreAllLarge (xs ++ ys)
all_joined [] ys h k = k
all_joined (x ∷ xs) ys h k = (h.0, all_joined xs ys h.1 k)

pub large_joined : (xs ys : List (List ℕ)) → AreAllLarge xs → AreLarge ys → AreLarge (xs ++ ys)
large_joined [] ys h k = k
large_joined (x ∷ []) [] h k = tt
large_joined (x ∷ []) (y ∷ ys) h k = (h.0, k)
large_joined (x ∷ w ∷ xs) ys h k = (h.0, large_joined (w ∷ xs) ys h.1 k)

pub all_large : (xs : List (List ℕ)) → AreAllLarge xs → AreLarge xs
all_large [] h = tt
all_large (x ∷ []) h = tt
all_large (x ∷ w ∷ xs) h = (h.0, all_large (w ∷ xs) h.1)

large_front : (ps : List (List ℕ)) (k : ℕ) → AreLarge ps → (0 < k → k < length ps) → AreAllLarge (take k ps)
large_front ps zero f lt = tt
large_front [] (suc k) f lt = absurd (let h : suc k < 0 = lt (omega arith) in omega arith)
large_front (p ∷ []) (suc k) f lt = absurd (let h : suc k < 1 = lt (omega arith) in omega arith)
large_front (p ∷ q ∷ ps) (suc k) f lt =
    let h : suc k < length (p ∷ q ∷ ps) = lt (omega arith) in
    (f.0, large_front (q ∷ ps) k f.1 (λ _. omega arith))

large_back : (ps : List (List ℕ)) (k : ℕ) → AreLarge ps → AreLarge (drop k ps)
large_back ps zero f = f
large_back [] (suc k) f = tt
large_back (p ∷ []) (suc k) f = large_back [] k tt
large_back (p ∷ q ∷ ps) (suc k) f = large_back (q ∷ ps) k f.1

large_behind : (made rest : List (List ℕ)) → AreLarge made → AreLarge rest → (0 < length rest → AreAllLarge made) → AreLarge (made ++ rest)
large_behind made [] g f all = subst (λ (l : List (List ℕ)). AreLarge l) (sym (append-nil made)) g
large_behind made (r ∷ rest) g f all = large_joined made (r ∷ rest) (all (omega arith)) f

-- what stands before a window, what is made for it, and what stands behind it
pub large_around : (ps made : List (List ℕ)) (first end : ℕ) → AreLarge ps → (0 < first → first < length ps) → AreLarge made
    → (end < length ps → AreAllLarge made) → AreLarge (take first ps ++ (made ++ drop end ps))
large_around ps made first end f lt g all =
    large_joined (take first ps) (made ++ drop end ps) (large_front ps first f lt)
    (large_behind made (drop end ps) g (large_back ps end f) (λ some. all (omega (arith, length-drop end ps))))

large_nth : (ps : List (List ℕ)) (k : ℕ) → AreLarge ps → k + 1 < length ps → IsLarge (get_or ps k [])
large_nth [] k f lt = absurd (omega arith)
large_nth (p ∷ []) k f lt = absurd (omega arith)
large_nth (p ∷ q ∷ ps) zero f lt = f.0
large_nth (p ∷ q ∷ ps) (suc k) f lt = large_nth (q ∷ ps) k f.1 (omega arith)

-- a piece with another one behind it
pub large_at : (ps : List (List ℕ)) (k : ℕ) (p : List ℕ) → AreLarge ps → slice_get ps k ≡ Some p → k + 1 < length ps → IsLarge p
large_at ps k p f is lt = subst (λ (l : List ℕ). IsLarge l) (get_or_from_slice_get ps k p [] is) (large_nth ps k f lt)

-- pieces are few
pub large_few : (ps : List (List ℕ)) → AreLarge ps → 64 * length ps ≤ length (encode_utf8_all (pieces_of ps)) + 64
large_few [] f = omega arith
large_few (p ∷ []) f = omega arith
large_few (p ∷ q ∷ ps) f =
    let more : 64 * length (q ∷ ps) ≤ length (encode_utf8_all (pieces_of (q ∷ ps))) + 64 = large_few (q ∷ ps) f.1 in
    let size : length (encode_utf8_all (p ++ pieces_of (q ∷ ps))) ≡ length (encode_utf8_all p) + length (encode_utf8_all (pieces_of (q ∷ ps))) =
    ap length (encodes-append p (pieces_of (q ∷ ps))) ∙ length-append (encode_utf8_all p) (encode_utf8_all (pieces_of (q ∷ ps))) in
    omega (arith, f.0)

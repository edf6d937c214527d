-- How full nodes are.
use Rattle.std.proofs.Common.{◌≡◌, ℕ, zero, suc, ◌+◌, ◌*◌, ◌<◌, ◌≤◌, List, [], ◌∷◌, ◌++◌, length, take, drop, get_or, sym, ap, subst, arith}
use Rattle.std.proofs.lemmas.List.{append-nil, length-drop, length-take}
use Rattle.std.proofs.Common.{length-append}
use Rattle.piece_tree.specs.Nodes.{IsSized, IsHalfFull, AreHalfFull, AreFilled, pieces_of}

half_sized : {X : Type 0} (node : List X) → IsHalfFull node → IsSized node
half_sized node h = (omega (arith, h.0), h.1)

pub half_joined : {X : Type 0} (xs ys : List (List X)) → AreHalfFull xs → AreHalfFull ys → AreHalfFull (xs ++ ys)
half_joined [] ys h k = k
half_joined (x ∷ xs) ys h k = (h.0, half_joined xs ys h.1 k)

pub filled_joined : {X : Type 0} (xs ys : List (List X)) → AreHalfFull xs → AreFilled ys → AreFilled (xs ++ ys)
filled_joined [] ys h k = k
filled_joined (x ∷ []) [] h k = half_sized x h.0
filled_joined (x ∷ []) (y ∷ ys) h k = (h.0, k)
filled_joined (x ∷ w ∷ xs) ys h k = (h.0, filled_joined (w ∷ xs) ys h.1 k)

pub half_filled : {X : Type 0} (xs : List (List X)) → AreHalfFull xs → AreFilled xs
half_filled [] h = tt
half_filled (x ∷ []) h = half_sized x h.0
half_filled (x ∷ w ∷ xs) h = (h.0, half_filled (w ∷ xs) h.1)

pub half_front : {X : Type 0} (ns : List (List X)) (k : ℕ) → AreFilled ns → k < length ns → AreHalfFull (take k ns)
half_front ns zero f lt = tt
half_front [] (suc k) f lt = absurd (omega arith)
half_front (n ∷ []) (suc k) f lt = absurd (omega arith)
half_front (n ∷ m ∷ ns) (suc k) f lt = (f.0, half_front (m ∷ ns) k f.1 (omega arith))

pub filled_back : {X : Type 0} (ns : List (List X)) (k : ℕ) → AreFilled ns → AreFilled (drop k ns)
filled_back ns zero f = f
filled_back [] (suc k) f = tt
filled_back (n ∷ []) (suc k) f = filled_back [] k tt
filled_back (n ∷ m ∷ ns) (suc k) f = filled_back (m ∷ ns) k f.1

pub filled_at : {X : Type 0} (ns : List (List X)) (k : ℕ) → AreFilled ns → k < length ns → IsSized (get_or ns k [])
filled_at [] k f lt = absurd (omega arith)
filled_at (n ∷ []) zero f lt = f
filled_at (n ∷ []) (suc k) f lt = absurd (omega arith)
filled_at (n ∷ m ∷ ns) zero f lt = half_sized n f.0
filled_at (n ∷ m ∷ ns) (suc k) f lt = filled_at (m ∷ ns) k f.1 (omega arith)

pub half_at : {X : Type 0} (ns : List (List X)) (k : ℕ) → AreFilled ns → k + 1 < length ns → IsHalfFull (get_or ns k [])
half_at [] k f lt = absurd (omega arith)
half_at (n ∷ []) k f lt = absurd (omega arith)
half_at (n ∷ m ∷ ns) zero f lt = f.0
half_at (n ∷ m ∷ ns) (suc k) f lt = half_at (m ∷ ns) k f.1 (omega arith)

filled_behind : {X : Type 0} (made rest : List (List X)) → AreFilled made → AreFilled rest → (0 < length rest → AreHalfFull made) → AreFilled (made ++ rest)
filled_behind {X} made [] g f half = subst (λ (l : List (List X)). AreFilled l) (sym (append-nil made)) g
filled_behind made (r ∷ rest) g f half = filled_joined made (r ∷ rest) (half (omega arith)) f

-- what stands before a window, what is made for it, and what stands behind it
pub filled_around : {X : Type 0} (ns made : List (List X)) (first end : ℕ) → AreFilled ns → first < length ns → AreFilled made
    → (end < length ns → AreHalfFull made) → AreFilled (take first ns ++ (made ++ drop end ns))
filled_around {X} ns made first end f lt g half =
    filled_joined (take first ns) (made ++ drop end ns) (half_front ns first f lt)
    (filled_behind made (drop end ns) g (filled_back ns end f) (λ some. half (omega (arith, length-drop end ns))))

-- each node has a piece
pub filled_few : {X : Type 0} (ns : List (List X)) → AreFilled ns → length ns ≤ length (pieces_of ns)
filled_few [] f = omega arith
filled_few {X} (n ∷ []) f =
    let e : length (n ++ []) ≡ length n = ap length (append-nil n) in
    omega (arith, f.0, e)
filled_few {X} (n ∷ m ∷ ns) f =
    let more : length (m ∷ ns) ≤ length (pieces_of (m ∷ ns)) = filled_few (m ∷ ns) f.1 in
    omega (arith, f.0.0, length-append n (pieces_of (m ∷ ns)))

-- nodes that are half full are few
pub half_few : {X : Type 0} (ns : List (List X)) → AreHalfFull ns → 16 * length ns ≤ length (pieces_of ns)
half_few [] h = omega arith
half_few {X} (n ∷ ns) h = omega (arith, h.0.0, half_few ns h.1, length-append n (pieces_of ns))

-- and so are those of which all but the last are half full
pub filled_narrow : {X : Type 0} (ns : List (List X)) → AreFilled ns → 16 * length ns < length (pieces_of ns) + 16
filled_narrow [] f = omega arith
filled_narrow {X} (n ∷ []) f =
    let e : length (n ++ []) ≡ length n = ap length (append-nil n) in
    omega (arith, f.0, e)
filled_narrow {X} (n ∷ m ∷ ns) f =
    let more : 16 * length (m ∷ ns) < length (pieces_of (m ∷ ns)) + 16 = filled_narrow (m ∷ ns) f.1 in
    omega (arith, f.0.0, length-append n (pieces_of (m ∷ ns)))

-- a node has 32 pieces at most, and so have its parts
pub node_few : {X : Type 0} (ns : List (List X)) (k : ℕ) → AreFilled ns → length (get_or ns k []) ≤ 32
node_few [] zero f = omega arith
node_few [] (suc k) f = omega arith
node_few (n ∷ []) zero f = f.1
node_few (n ∷ []) (suc zero) f = omega arith
node_few (n ∷ []) (suc (suc k)) f = omega arith
node_few (n ∷ m ∷ ns) zero f = f.0.1
node_few (n ∷ m ∷ ns) (suc k) f = node_few (m ∷ ns) k f.1

pub front_few : {X : Type 0} (ns : List (List X)) (node : List X) (k o : ℕ) → AreFilled ns → node ≡ get_or ns k [] → length (take o node) ≤ 32
front_few ns node k o f e = omega (arith, node_few ns k f, ap length e, length-take o node)

pub back_few : {X : Type 0} (ns : List (List X)) (node : List X) (k o n : ℕ) → AreFilled ns → node ≡ get_or ns k [] → length (take n (drop o node)) ≤ 32
back_few ns node k o n f e = omega (arith, node_few ns k f, ap length e, length-take n (drop o node), length-drop o node)

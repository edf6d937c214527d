-- The pieces of nodes, by places.
use Rattle.std.proofs.Common.{◌≡◌, ℕ, zero, suc, ◌+◌, ◌<◌, ◌≤◌, List, [], ◌∷◌, ◌++◌, length, take, drop, get_or, sym, ap, ◌∙◌, arith, length-append}
use Rattle.std.proofs.Common.{Some}
use Rattle.std.specs.List.{slice_get}
use Rattle.std.proofs.lemmas.Grind.{flat_map-append}
use Rattle.std.proofs.lemmas.Option.{slice_get-get_or}
use Rattle.std.proofs.lemmas.List.Concat.{get_or-flat_map}
use Rattle.std.proofs.lemmas.List.{take-append-drop, take_more}
use Rattle.std.proofs.Math.Seq.{drop-cons, take-append-add, drop-append-add}
use Rattle.std.proofs.lemmas.List.{take-append-le, drop-append-le, append-nil}
use Rattle.piece_tree.specs.Nodes.{pieces_of}

pub pieces_append : {X : Type 0} (ns ms : List (List X)) → pieces_of (ns ++ ms) ≡ pieces_of ns ++ pieces_of ms
pieces_append {X} ns ms = flat_map-append (λ (n : List X). n) ns ms

-- the list of nodes around the one at k
pub around : {X : Type 0} (ns : List (List X)) (k : ℕ) → k < length ns → take k ns ++ (get_or ns k [] ∷ drop (k + 1) ns) ≡ ns
around {X} ns k lt =
    let on : suc k ≡ k + 1 = omega arith in
    ap (λ (l : List (List X)). take k ns ++ l) (ap (λ (j : ℕ). get_or ns k [] ∷ drop j ns) (sym on) ∙ sym (drop-cons ns k [] lt))
    ∙ take-append-drop k ns

pieces_around : {X : Type 0} (ns : List (List X)) (k : ℕ) → k < length ns
    → pieces_of ns ≡ pieces_of (take k ns) ++ (get_or ns k [] ++ pieces_of (drop (k + 1) ns))
pieces_around {X} ns k lt =
    ap (λ (l : List (List X)). pieces_of l) (sym (around ns k lt)) ∙ pieces_append (take k ns) (get_or ns k [] ∷ drop (k + 1) ns)

pub take_pieces : {X : Type 0} (ns : List (List X)) (k o p : ℕ) → k < length ns → o ≤ length (get_or ns k [])
    → p ≡ length (pieces_of (take k ns)) + o
    → take p (pieces_of ns) ≡ pieces_of (take k ns) ++ take o (get_or ns k [])
take_pieces {X} ns k o p lt le e =
    let before : List X = pieces_of (take k ns) in
    let rest : List X = get_or ns k [] ++ pieces_of (drop (k + 1) ns) in
    ap (λ (n : ℕ). take n (pieces_of ns)) e
    ∙ ap (λ (l : List X). take (length before + o) l) (pieces_around ns k lt)
    ∙ take-append-add before rest o
    ∙ ap (λ (l : List X). before ++ l) (take-append-le o (get_or ns k []) (pieces_of (drop (k + 1) ns)) le)

pub drop_pieces : {X : Type 0} (ns : List (List X)) (k o p : ℕ) → k < length ns → o ≤ length (get_or ns k [])
    → p ≡ length (pieces_of (take k ns)) + o
    → drop p (pieces_of ns) ≡ drop o (get_or ns k []) ++ pieces_of (drop (k + 1) ns)
drop_pieces {X} ns k o p lt le e =
    let before : List X = pieces_of (take k ns) in
    let rest : List X = get_or ns k [] ++ pieces_of (drop (k + 1) ns) in
    ap (λ (n : ℕ). drop n (pieces_of ns)) e
    ∙ ap (λ (l : List X). drop (length before + o) l) (pieces_around ns k lt)
    ∙ drop-append-add before rest o
    ∙ drop-append-le o (get_or ns k []) (pieces_of (drop (k + 1) ns)) le

pub pieces_more : {X : Type 0} (ns : List (List X)) (k : ℕ) → k < length ns
    → pieces_of (take (k + 1) ns) ≡ pieces_of (take k ns) ++ get_or ns k []
pieces_more {X} ns k lt =
    ap (λ (l : List (List X)). pieces_of l) (take_more ns k [] lt)
    ∙ pieces_append (take k ns) (get_or ns k [] ∷ [])
    ∙ ap (λ (l : List X). pieces_of (take k ns) ++ l) (append-nil (get_or ns k []))

pub length_more : {X : Type 0} (ns : List (List X)) (k : ℕ) → k < length ns
    → length (pieces_of (take (k + 1) ns)) ≡ length (pieces_of (take k ns)) + length (get_or ns k [])
length_more ns k lt = ap length (pieces_more ns k lt) ∙ length-append (pieces_of (take k ns)) (get_or ns k [])

pub length_within : {X : Type 0} (ns : List (List X)) (k : ℕ) → length (pieces_of (take k ns)) ≤ length (pieces_of ns)
length_within {X} ns k =
    let e : length (pieces_of ns) ≡ length (pieces_of (take k ns)) + length (pieces_of (drop k ns)) =
    ap (λ (l : List (List X)). length (pieces_of l)) (sym (take-append-drop k ns))
    ∙ ap length (pieces_append (take k ns) (drop k ns))
    ∙ length-append (pieces_of (take k ns)) (pieces_of (drop k ns)) in
    omega arith

-- a piece by its place in its node
pub piece_at : {X : Type 0} (ns : List (List X)) (k o p : ℕ) (x : X) → k < length ns → o < length (get_or ns k [])
    → p ≡ length (pieces_of (take k ns)) + o → x ≡ get_or (get_or ns k []) o x → slice_get (pieces_of ns) p ≡ Some x
piece_at {X} ns k o p x lt le e is =
    let within : length (pieces_of (take k ns)) + o < length (pieces_of ns) = omega (arith, length_more ns k lt, length_within ns (k + 1)) in
    ap (slice_get (pieces_of ns)) e
    ∙ slice_get-get_or (pieces_of ns) (length (pieces_of (take k ns)) + o) x within
    ∙ ap (λ (y : X). Some y) (get_or-flat_map (λ (n : List X). n) ns k o [] x lt le ∙ sym is)

-- what stands before a node that isn't behind a place
pub before_place : {X : Type 0} (ns : List (List X)) (k start place : ℕ) → start ≡ length (pieces_of (take k ns)) → (0 < k → start < place + 1) → start ≤ place
before_place ns zero start place is before = omega (arith, is)
before_place ns (suc k) start place is before = let h : start < place + 1 = before (omega arith) in omega arith

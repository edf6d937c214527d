-- How large pieces are together.
use Rattle.std.proofs.Common.{◌≡◌, ℕ, ◌+◌, ◌-◌, ◌<◌, ◌≤◌, List, [], ◌++◌, length, take, drop, get_or, sym, ap, subst, ◌∙◌, arith, sum_by}
use Rattle.std.proofs.lemmas.List.{take-append-drop, get_or_default}
use Rattle.std.proofs.lemmas.List.Sums.{sum_by-append}
use Rattle.piece_tree.specs.declared.piece.Measure.{Measure}
use Rattle.piece_tree.specs.declared.piece.Measure.TheVariants.{Parts, Characters}
use Rattle.piece_tree.specs.Nodes.{AreShort, pieces_of}
use Rattle.piece_tree.proofs.Lists.{pieces_append, pieces_more, drop_pieces, take_pieces}
use Rattle.piece_tree.proofs.Windows.{IsSpot, next_and_rest}

pub short_front : {X : Type 0} (size : Measure → X → ℕ) (xs ys : List X) → AreShort size (xs ++ ys) → AreShort size xs
short_front size xs ys s = record {
  parts = omega (arith, s.parts, sum_by-append (size Parts) xs ys);
  characters = omega (arith, s.characters, sum_by-append (size Characters) xs ys);
}

pub short_back : {X : Type 0} (size : Measure → X → ℕ) (xs ys : List X) → AreShort size (xs ++ ys) → AreShort size ys
short_back size xs ys s = record {
  parts = omega (arith, s.parts, sum_by-append (size Parts) xs ys);
  characters = omega (arith, s.characters, sum_by-append (size Characters) xs ys);
}

pub short_take : {X : Type 0} (size : Measure → X → ℕ) (k : ℕ) (xs : List X) → AreShort size xs → AreShort size (take k xs)
short_take {X} size k xs s = short_front size (take k xs) (drop k xs) (subst (λ (l : List X). AreShort size l) (sym (take-append-drop k xs)) s)

pub short_drop : {X : Type 0} (size : Measure → X → ℕ) (k : ℕ) (xs : List X) → AreShort size xs → AreShort size (drop k xs)
short_drop {X} size k xs s = short_back size (take k xs) (drop k xs) (subst (λ (l : List X). AreShort size l) (sym (take-append-drop k xs)) s)

pub sums_append : {X : Type 0} (f : X → ℕ) (ns ms : List (List X)) → sum_by f (pieces_of (ns ++ ms)) ≡ sum_by f (pieces_of ns) + sum_by f (pieces_of ms)
sums_append f ns ms = ap (sum_by f) (pieces_append ns ms) ∙ sum_by-append f (pieces_of ns) (pieces_of ms)

pub sums_more : {X : Type 0} (f : X → ℕ) (ns : List (List X)) (k : ℕ) → k < length ns
    → sum_by f (pieces_of (take (k + 1) ns)) ≡ sum_by f (pieces_of (take k ns)) + sum_by f (get_or ns k [])
sums_more f ns k lt = ap (sum_by f) (pieces_more ns k lt) ∙ sum_by-append f (pieces_of (take k ns)) (get_or ns k [])

pub sums_within : {X : Type 0} (f : X → ℕ) (ns : List (List X)) (k : ℕ) → sum_by f (pieces_of (take k ns)) ≤ sum_by f (pieces_of ns)
sums_within {X} f ns k =
    let e : sum_by f (pieces_of ns) ≡ sum_by f (pieces_of (take k ns)) + sum_by f (pieces_of (drop k ns)) =
    ap (λ (l : List (List X)). sum_by f (pieces_of l)) (sym (take-append-drop k ns)) ∙ sums_append f (take k ns) (drop k ns) in
    omega arith

-- the pieces of one node
pub node_short : {X : Type 0} (size : Measure → X → ℕ) (ns : List (List X)) (k : ℕ) → k < length ns → AreShort size (pieces_of ns) → AreShort size (get_or ns k [])
node_short size ns k lt s = record {
  parts = omega (arith, s.parts, sums_more (size Parts) ns k lt, sums_within (size Parts) ns (k + 1));
  characters = omega (arith, s.characters, sums_more (size Characters) ns k lt, sums_within (size Characters) ns (k + 1));
}

-- what stands around a window is a part of what stands before and behind it
around_short : {X : Type 0} (f : X → ℕ) (ns : List (List X)) (new : List X) (from to first start last until : ℕ)
    → IsSpot ns from first start → IsSpot ns to last until
    → sum_by f (take (from - start) (get_or ns first []) ++ (new ++ (drop (to - until) (get_or ns last []) ++ get_or ns (last + 1) [])))
    ≤ sum_by f (take from (pieces_of ns) ++ (new ++ drop to (pieces_of ns)))
around_short {X} f ns new from to first start last until a b =
    let front : List X = take (from - start) (get_or ns first []) in
    let back : List X = drop (to - until) (get_or ns last []) in
    let next : List X = get_or ns (last + 1) [] in
    let ahead : List X = pieces_of (take first ns) in
    let behind : List X = pieces_of (drop (last + 1 + 1) ns) in
    let taking : take from (pieces_of ns) ≡ ahead ++ front = take_pieces ns first (from - start) from a.within (omega (arith, a.reached)) (omega (arith, a.start_is, a.up_to)) in
    let dropping : drop to (pieces_of ns) ≡ back ++ pieces_of (drop (last + 1) ns) = drop_pieces ns last (to - until) to b.within (omega (arith, b.reached)) (omega (arith, b.start_is, b.up_to)) in
    let whole : sum_by f (drop to (pieces_of ns)) ≡ sum_by f back + (sum_by f next + sum_by f behind) =
    ap (sum_by f) dropping ∙ sum_by-append f back (pieces_of (drop (last + 1) ns))
    ∙ ap (λ (l : List X). sum_by f back + sum_by f l) (sym (next_and_rest ns (last + 1))) ∙ ap (λ (n : ℕ). sum_by f back + n) (sum_by-append f next behind) in
    let before : sum_by f (take from (pieces_of ns)) ≡ sum_by f ahead + sum_by f front = ap (sum_by f) taking ∙ sum_by-append f ahead front in
    omega (
      arith,
      sum_by-append f front (new ++ (back ++ next)),
      sum_by-append f new (back ++ next),
      sum_by-append f back next,
      sum_by-append f (take from (pieces_of ns)) (new ++ drop to (pieces_of ns)),
      sum_by-append f new (drop to (pieces_of ns)),
    )

pub window_short : {X : Type 0} (size : Measure → X → ℕ) (ns : List (List X)) (new : List X) (from to first start last until : ℕ)
    → IsSpot ns from first start → IsSpot ns to last until
    → AreShort size (take from (pieces_of ns) ++ (new ++ drop to (pieces_of ns)))
    → AreShort size (take (from - start) (get_or ns first []) ++ (new ++ (drop (to - until) (get_or ns last []) ++ get_or ns (last + 1) [])))
window_short size ns new from to first start last until a b s = record {
  parts = omega (arith, s.parts, around_short (size Parts) ns new from to first start last until a b);
  characters = omega (arith, s.characters, around_short (size Characters) ns new from to first start last until a b);
}

-- an element that was read, at the default that contracts write
pub read_at : {X : Type 0} (xs : List (List X)) (i : ℕ) (x y : List X) → i < length xs → y ≡ x → x ≡ get_or xs i x → y ≡ get_or xs i []
read_at xs i x y lt same e = same ∙ e ∙ get_or_default xs i x [] lt

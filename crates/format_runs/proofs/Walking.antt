-- Runs, one after another.
use Rattle.std.proofs.Common.{◌≡◌, ℕ, ◌+◌, ◌-◌, ◌<◌, ◌≤◌, zero, suc, List, [], ◌∷◌, ◌++◌, Bor, Option, Some, length, take, drop, get_or, sym, ap, ◌∙◌, arith}
use Rattle.std.specs.List.{slice_get}
use Rattle.std.specs.Option.{MatchOption}
use Rattle.std.proofs.lemmas.Option.{MatchOption-at_some, get_or_from_slice_get}
use Rattle.std.proofs.lemmas.List.{length-drop}
use Rattle.piece_tree.specs.Nodes.{pieces_of}
use Rattle.piece_tree.proofs.Lists.{drop_pieces, take_pieces}
use Rattle.format_runs.specs.Runs.{Run, character_count}
use Rattle.format_runs.proofs.Formats.{count_append}
use Rattle.format_runs.proofs.Pieces.{IsIn}

-- the first that is left, and what is left behind it
pub first_left : {X : Type 0} (xs rest : List X) (i : ℕ) (x : X) → drop i xs ≡ x ∷ rest → slice_get xs i ≡ Some x
first_left {X} xs rest zero x e = ap (λ (l : List X). slice_get l 0) e
first_left [] rest (suc i) x e = absurd cc
first_left (y ∷ xs) rest (suc i) x e = first_left xs rest i x e

behind_first : {X : Type 0} (xs rest : List X) (i : ℕ) (x : X) → drop i xs ≡ x ∷ rest → drop (suc i) xs ≡ rest
behind_first {X} xs rest zero x e = ap (λ (l : List X). drop 1 l) e
behind_first [] rest (suc i) x e = absurd cc
behind_first (y ∷ xs) rest (suc i) x e = behind_first xs rest i x e

pub rest_left : {X : Type 0} (xs rest : List X) (i : ℕ) (x : X) → drop i xs ≡ x ∷ rest → drop (i + 1) xs ≡ rest
rest_left {X} xs rest i x e =
    let on : i + 1 ≡ suc i = omega arith in
    ap (λ (n : ℕ). drop n xs) on ∙ behind_first xs rest i x e

pub none_left : {X : Type 0} (xs : List X) (i : ℕ) → drop i xs ≡ [] → length xs ≤ i
none_left xs i e = omega (arith, ap length e, length-drop i xs)

-- the next piece of a walk from an index on
pub next_piece : (ps all rest : List (List Run)) (k : ℕ) (next : Option (Bor (List Run))) (piece : Bor (List Run)) → all ≡ drop k ps
    → next ≡ Some piece → MatchOption next ((all ≡ []) × (rest ≡ [])) (λ x. all ≡ x.now ∷ rest) → drop k ps ≡ piece.now ∷ rest
next_piece ps all rest k next piece from some steps =
    sym from ∙ MatchOption-at_some ((all ≡ []) × (rest ≡ [])) (λ (x : Bor (List Run)). all ≡ x.now ∷ rest) piece some steps

-- what is left from an index in a piece on
pub left_from : (ps : List (List Run)) (piece before index : ℕ) (runs : List Run) → IsIn ps piece before index → slice_get ps piece ≡ Some runs
    → drop (index - before) runs ++ pieces_of (drop (piece + 1) ps) ≡ drop index (pieces_of ps)
left_from ps piece before index runs i is =
    let o : ℕ = index - before in
    let own : get_or ps piece [] ≡ runs = get_or_from_slice_get ps piece runs [] is in
    sym (drop_pieces ps piece o index i.inside (omega (arith, i.high, i.low)) (omega (arith, i.low, i.counted))
    ∙ ap (λ (l : List Run). drop o l ++ pieces_of (drop (piece + 1) ps)) own)

pub start_of : (ps : List (List Run)) (piece before index start more : ℕ) (runs : List Run) → IsIn ps piece before index → slice_get ps piece ≡ Some runs
    → start ≡ character_count (pieces_of (take piece ps)) → more ≡ character_count (take (index - before) runs) → start + more ≡ character_count (take index (pieces_of ps))
start_of ps piece before index start more runs i is started counted =
    let o : ℕ = index - before in
    let own : get_or ps piece [] ≡ runs = get_or_from_slice_get ps piece runs [] is in
    let sum : index ≡ length (pieces_of (take piece ps)) + o = omega (arith, i.low, i.counted) in
    let within : o < length (get_or ps piece []) = omega (arith, i.high, i.low) in
    let taken : take index (pieces_of ps) ≡ pieces_of (take piece ps) ++ take o runs =
    take_pieces ps piece o index i.inside (omega arith) sum ∙ ap (λ l. pieces_of (take piece ps) ++ take o l) own in
    omega (arith, ap character_count taken, count_append (pieces_of (take piece ps)) (take o runs), started, counted)

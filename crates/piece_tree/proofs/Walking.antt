-- Pieces, one after another.
use Rattle.std.proofs.Common.{◌≡◌, ℕ, ◌+◌, ◌-◌, ◌<◌, ◌≤◌, List, [], ◌∷◌, ◌++◌, length, take, drop, get_or, sym, ap, subst, ◌∙◌, arith}
use Rattle.std.specs.List.{All}
use Rattle.std.proofs.lemmas.List.Elements.{All-drop, All-from_get_or}
use Rattle.piece_tree.specs.Nodes.{AreFilled, pieces_of}
use Rattle.piece_tree.proofs.Filled.{filled_at}
use Rattle.piece_tree.proofs.Lists.{drop_pieces}
use Rattle.piece_tree.proofs.Windows.{to_end}

-- each node from one on has a piece
pub some_from : {X : Type 0} (ns : List (List X)) (k : ℕ) → AreFilled ns → All (λ node. 0 < length node) (drop k ns)
some_from {X} ns k f =
    All-drop (λ (node : List X). 0 < length node) k ns
    (All-from_get_or (λ (node : List X). 0 < length node) ns [] (λ i lt. (filled_at ns i f lt).0))

-- and so have those behind the first one
pub rest_some : {X : Type 0} (ns nodes : List (List X)) (node : List X) → ns ≡ node ∷ nodes → All (λ n. 0 < length n) ns
    → All (λ n. 0 < length n) nodes
rest_some {X} ns nodes node e some =
    subst (λ (l : List (List X)). All (λ (n : List X). 0 < length n) (drop 1 l)) e (All-drop (λ (n : List X). 0 < length n) 1 ns some)

-- where nothing is left of a node, the next one has the next piece
pub next_node : {X : Type 0} (none node rest left : List X) (ns nodes : List (List X)) (x : X) → none ≡ [] → none ++ pieces_of ns ≡ left
    → ns ≡ node ∷ nodes → node ≡ x ∷ rest → left ≡ x ∷ (rest ++ pieces_of nodes)
next_node {X} none node rest left ns nodes x empty view more cut =
    sym view ∙ ap (λ (l : List X). l ++ pieces_of ns) empty ∙ ap (λ (l : List (List X)). pieces_of l) more
    ∙ ap (λ (l : List X). l ++ pieces_of nodes) cut

-- what is left from an index in a node on
pub left_from : {X : Type 0} (ns : List (List X)) (own left : List X) (k start index : ℕ) → k < length ns → start ≡ length (pieces_of (take k ns))
    → start ≤ index → index < start + length (get_or ns k []) → own ≡ get_or ns k [] → pieces_of ns ≡ left
    → take (length own - (index - start)) (drop (index - start) own) ++ pieces_of (take (length ns - (k + 1)) (drop (k + 1) ns)) ≡ drop index left
left_from {X} ns own left k start index lt is low high e whole =
    let o : ℕ = index - start in
    ap (λ (l : List X). l ++ pieces_of (take (length ns - (k + 1)) (drop (k + 1) ns))) (to_end own o ∙ ap (drop o) e)
    ∙ ap (λ (l : List (List X)). drop o (get_or ns k []) ++ pieces_of l) (to_end ns (k + 1))
    ∙ sym (drop_pieces ns k o index lt (omega arith) (omega (arith, is)))
    ∙ ap (drop index) whole

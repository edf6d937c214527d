-- Children cut into nodes, one node after another.
use Rattle.std.proofs.Common.{◌≡◌, ℕ, ◌+◌, ◌-◌, ◌*◌, ◌<◌, ◌≤◌, ◌⊎◌, inl, inr, List, [], ◌∷◌, ◌++◌, length, take, drop, sym, ap, ◌∙◌, arith, length-append}
use Rattle.std.proofs.lemmas.List.{append-nil, length-drop, length-take-le, take-append-drop}
use Rattle.std.proofs.Math.Seq.{take-append-add}
use Rattle.piece_tree.specs.Budgets.{list_bytes, nodes_bytes}
use Rattle.piece_tree.specs.Nodes.{pieces_of, AreHalfFull, AreFilled}
use Rattle.piece_tree.proofs.Lists.{pieces_append}
use Rattle.piece_tree.proofs.Filled.{half_few, half_joined, filled_joined, filled_narrow}

-- what a step of the loop knows: how many nodes there are, how many pieces they have, of how many, and how many the
-- next node takes
pub record IsNextSize (rest size : ℕ) : Type 0 where
  pub some : 0 < size
  pub within : size ≤ rest
  pub at_most : size ≤ 32
  pub half : 16 ≤ rest → 16 ≤ size
  pub rest_half : (16 ≤ rest - size) ⊎ (size ≡ rest)

pub record AreCut {X : Type 0} (cs : List X) (nodes : List (List X)) (at : ℕ) : Type 0 where
  pub within : at ≤ length cs
  pub flat : pieces_of nodes ≡ take at cs
  pub filled : AreFilled nodes
  pub half : at < length cs → AreHalfFull nodes
  pub whole : 16 ≤ length cs → AreHalfFull nodes
  pub rest : (16 ≤ length cs - at) ⊎ ((at ≡ 0) ⊎ (at ≡ length cs))

take_on : {X : Type 0} (cs : List X) (at size : ℕ) → at ≤ length cs → take (at + size) cs ≡ take at cs ++ take size (drop at cs)
take_on {X} cs at size le =
    let l : length (take at cs) ≡ at = length-take-le at cs le in
    ap (λ (k : ℕ). take (k + size) cs) (sym l)
    ∙ ap (λ (xs : List X). take (length (take at cs) + size) xs) (sym (take-append-drop at cs))
    ∙ take-append-add (take at cs) (drop at cs) size

enough : (len at size : ℕ) → at < len → IsNextSize (len - at) size → (16 ≤ len - at) ⊎ ((at ≡ 0) ⊎ (at ≡ len)) → 16 ≤ len → 16 ≤ size
enough len at size lt n r le = elim r [ inl h ↦ n.half h | inr h ↦ elim h [ inl z ↦ n.half (omega arith) | inr z ↦ absurd (omega arith) ] ]

half_size : (len at size : ℕ) → IsNextSize (len - at) size → at + size < len → 16 ≤ size
half_size len at size n lt = n.half (elim n.rest_half [ inl h ↦ omega arith | inr e ↦ absurd (omega arith) ])

pub cut_next : {X : Type 0} (cs node : List X) (nodes : List (List X)) (at size : ℕ) → at < length cs → IsNextSize (length cs - at) size
    → node ≡ take size (drop at cs) → AreCut cs nodes at → AreCut cs (nodes ++ node ∷ []) (at + size)
cut_next {X} cs node nodes at size lt n e c =
    let l : length node ≡ size = ap length e ∙ length-take-le size (drop at cs) (omega (arith, length-drop at cs, n.within)) in
    record {
      within = omega (arith, n.within);
      flat = pieces_append nodes (node ∷ []) ∙ ap (λ (xs : List X). xs ++ (node ++ [])) c.flat
          ∙ ap (λ (xs : List X). take at cs ++ xs) (append-nil node ∙ e) ∙ sym (take_on cs at size c.within);
      filled = filled_joined nodes (node ∷ []) (c.half lt) (omega (arith, n.some), omega (arith, n.at_most));
      half = λ on. half_joined nodes (node ∷ []) (c.half lt) ((omega (arith, half_size (length cs) at size n on), omega (arith, n.at_most)), tt);
      whole = λ on. half_joined nodes (node ∷ []) (c.half lt) ((omega (arith, enough (length cs) at size lt n c.rest on), omega (arith, n.at_most)), tt);
      rest = elim n.rest_half [ inl h ↦ inl (omega arith) | inr h ↦ inr (inr (omega arith)) ];
    }

-- what the nodes that were cut so far were paid with
pub record ArePaid {X : Type 0} (nodes : List (List X)) (at old now : ℕ) : Type 0 where
  pub spent : old ≤ now + (96 * length nodes + 8 * at)
  pub less : now ≤ old

-- one node more was paid
pub paid_more : {X : Type 0} (nodes more : List (List X)) (node : List X) (part at size old now new : ℕ) → more ≡ nodes ++ node ∷ [] → part ≡ size
    → ArePaid nodes at old now → new ≡ now - list_bytes part → ArePaid more (at + size) old new
paid_more nodes more node part at size old now new e is p pay =
    let count : length more ≡ length nodes + 1 = ap length e ∙ length-append nodes (node ∷ []) in
    record { spent = omega (arith, p.spent); less = omega (arith, p.less) }

-- where no further node is made, or one more, there are few nodes
pub paid_on : {X : Type 0} (cs : List X) (nodes : List (List X)) (at size old now new : ℕ) → at < length cs → IsNextSize (length cs - at) size
    → AreCut cs nodes at → ArePaid nodes at old now → now ≤ new + list_bytes size → old ≤ new + nodes_bytes (length cs)
paid_on {X} cs nodes at size old now new lt n c p e =
    let l : length (pieces_of nodes) ≡ at = ap length c.flat ∙ length-take-le at cs c.within in
    let few : 16 * length nodes ≤ length (pieces_of nodes) = half_few nodes (c.half lt) in
    elim c.rest [
      | inl h ↦ omega (arith, n.half h, n.within, p.spent)
      | inr h ↦ elim h [ inl z ↦ omega (arith, n.some, n.within, p.spent) | inr z ↦ absurd (omega arith) ]
    ]

-- and where all are made
pub paid_all : {X : Type 0} (cs : List X) (nodes : List (List X)) (at old now : ℕ) → length cs ≤ at → AreCut cs nodes at → ArePaid nodes at old now
    → old ≤ now + nodes_bytes (length cs)
paid_all {X} cs nodes at old now le c p =
    let l : length (pieces_of nodes) ≡ at = ap length c.flat ∙ length-take-le at cs c.within in
    omega (arith, filled_narrow nodes c.filled, p.spent, c.within)

-- Sending a batch item by item.
use Rattle.std.proofs.Common.{◌≡◌, ℕ, ◌+◌, ◌-◌, ◌<◌, ◌≤◌, List, [], ◌∷◌, ◌++◌, length, take, drop, get_or, sym, ap, ◌∙◌, subst, arith, append_assoc, length-drop, take-append-drop}
use Rattle.std.proofs.lemmas.List.{take_more, get_or-drop}
use Rattle.feeds.specs.Batches.{Item}
use Rattle.feeds.specs.Orderly.{IsOrderly}
use Rattle.feeds.proofs.Orderly.{orderly_front}

-- one item more of those from an index on
pub part_more : {A : Type 0} (items : List A) (from at : ℕ) (x : A) → from ≤ at → at < length items → x ≡ get_or items at x
    → take (at + 1 - from) (drop from items) ≡ take (at - from) (drop from items) ++ x ∷ []
part_more items from at x low high is =
    let k = at - from in
    let there : from + k ≡ at = omega arith in
    let one : at + 1 - from ≡ k + 1 = omega arith in
    let within : k < length (drop from items) = omega (arith, length-drop from items) in
    let read : get_or (drop from items) k x ≡ x = get_or-drop from items k x ∙ ap (λ n. get_or items n x) there ∙ sym is in
    ap (λ n. take n (drop from items)) one ∙ take_more (drop from items) k x within ∙ ap (λ y. take k (drop from items) ++ y ∷ []) read

-- what is sent with the next item is a beginning of what may be sent
pub orderly_next : (old now items : List Item) (from at : ℕ) (x : Item) → IsOrderly (old ++ drop from items) → now ≡ old ++ take (at - from) (drop from items)
    → from ≤ at → at < length items → x ≡ get_or items at x → IsOrderly (now ++ x ∷ [])
orderly_next old now items from at x orderly is low high read =
    let rest = drop from items in
    let k = at + 1 - from in
    let e : now ++ x ∷ [] ≡ old ++ take k rest = ap (λ l. l ++ x ∷ []) is ∙ append_assoc old (take (at - from) rest) (x ∷ []) ∙ ap (λ l. old ++ l) (sym (part_more items from at x low high read)) in
    let whole : (old ++ take k rest) ++ drop k rest ≡ old ++ rest = append_assoc old (take k rest) (drop k rest) ∙ ap (λ l. old ++ l) (take-append-drop k rest) in
    subst IsOrderly (sym e) (orderly_front (old ++ take k rest) (drop k rest) (subst IsOrderly (sym whole) orderly))

-- a copy of what is there
pub read_again : {A : Type 0} (items : List A) (at : ℕ) (x y : A) → y ≡ x → x ≡ get_or items at x → y ≡ get_or items at y
read_again items at x y e is = e ∙ is ∙ ap (λ d. get_or items at d) (sym e)

pub sent_next : (old now next items : List Item) (from at : ℕ) (x : Item) → next ≡ now ++ x ∷ [] → now ≡ old ++ take (at - from) (drop from items)
    → from ≤ at → at < length items → x ≡ get_or items at x → next ≡ old ++ take (at + 1 - from) (drop from items)
sent_next old now next items from at x step is low high read =
    step ∙ ap (λ l. l ++ x ∷ []) is ∙ append_assoc old (take (at - from) (drop from items)) (x ∷ []) ∙ ap (λ l. old ++ l) (sym (part_more items from at x low high read))

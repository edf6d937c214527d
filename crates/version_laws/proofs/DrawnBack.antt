-- What is visible is what is drawn of the elements, and falls into parts as they do.
use Rattle.std.proofs.Common.{◌≡◌, ℕ, zero, suc, true, false, cond, List, [], ◌∷◌, Some, map, sym, ap, subst, ◌∙◌, ⊎_elim}
use Rattle.std.specs.List.{slice_get, filter}
use Rattle.std.proofs.lemmas.Bool.{cases_Bool}
use Rattle.std.proofs.lemmas.Option.{same_Some, none-some}
use Rattle.std.proofs.lemmas.List.Kept.{AllPairs-filter}
use Rattle.change_ops.specs.declared.operation.Op.{Op}
use Rattle.char_sequence.specs.declared.sequence.Element.{Element}
use Rattle.char_sequence.specs.Tree.{IsHidden}
use Rattle.char_sequence.specs.Order.{Before, Shows}
use Rattle.char_sequence.proofs.Lists.{InOrder, MembersOf, same_in_order}
use Rattle.char_sequence.proofs.TreeLaws.{before_asym}
use Rattle.span_flatten.specs.Spans.{Shown, AreVisible}
use Rattle.span_flatten.specs.Taken.{AreDrawn, element_of, is_visible}
use Rattle.span_flatten.proofs.Showing.{contains_at, at_contains, filter_from}
use Rattle.version_laws.proofs.Inserted.{in_order_from_pairs, pairs_from_in_order}
use Rattle.version_laws.proofs.Lists.{map_from, map_at}

passes_first : (y x : Element) (zs : List Element) → y.visible ≡ true → ((j : ℕ) → slice_get zs j ≡ Some x → x.visible ≡ true) → (j : ℕ) → slice_get (y ∷ zs) j ≡ Some x → x.visible ≡ true
passes_first y x zs here later zero g = ap (λ z. z.visible) (sym (same_Some y x g)) ∙ here
passes_first y x zs here later (suc j) g = later j g

passes_from_filter : (xs : List Element) (j : ℕ) (x : Element) → slice_get (filter is_visible xs) j ≡ Some x → x.visible ≡ true
passes_from_filter [] j x g = absurd (none-some x g)
passes_from_filter (y ∷ ys) j x g =
    ⊎_elim
    (λ (here : y.visible ≡ true). passes_first y x (filter is_visible ys) here (λ k h. passes_from_filter ys k x h) j (ap (λ b. slice_get (cond b (y ∷ filter is_visible ys) (filter is_visible ys)) j) (sym here) ∙ g))
    (λ (not : y.visible ≡ false). passes_from_filter ys j x (ap (λ b. slice_get (cond b (y ∷ filter is_visible ys) (filter is_visible ys)) j) (sym not) ∙ g))
    (cases_Bool y.visible)

filter_keeps : (xs : List Element) (i : ℕ) (x : Element) → slice_get xs i ≡ Some x → x.visible ≡ true → (j : ℕ) × (slice_get (filter is_visible xs) j ≡ Some x)
filter_keeps [] i x g passes = absurd (none-some x g)
filter_keeps (y ∷ ys) zero x g passes =
    let here : y.visible ≡ true = ap (λ z. z.visible) (same_Some y x g) ∙ passes in
    (zero, ap (λ b. slice_get (cond b (y ∷ filter is_visible ys) (filter is_visible ys)) zero) here ∙ g)
filter_keeps (y ∷ ys) (suc i) x g passes =
    let r = filter_keeps ys i x g passes in
    ⊎_elim
    (λ (here : y.visible ≡ true). (suc r.0, ap (λ b. slice_get (cond b (y ∷ filter is_visible ys) (filter is_visible ys)) (suc r.0)) here ∙ r.1))
    (λ (not : y.visible ≡ false). (r.0, ap (λ b. slice_get (cond b (y ∷ filter is_visible ys) (filter is_visible ys)) r.0) not ∙ r.1))
    (cases_Bool y.visible)

same_elements : (a b : Element) → a.id ≡ b.id → a.character ≡ b.character → a.visible ≡ b.visible → a ≡ b
same_elements a b id character visible = λ i. record { id = id i; character = character i; visible = visible i }

-- The visible characters of operations are drawn of the elements that show them.
pub visible_drawn : (ops : List Op) (es : List Element) (shown : List Shown) → Shows es ops → AreVisible ops shown → AreDrawn es shown
visible_drawn ops es shown shows v =
    same_in_order (λ (a b : Element). Before ops (Some a.id) b.id) (λ a b. before_asym ops shows.tree a.id b.id) (map element_of shown) (filter is_visible es) first second forth back
  where
    first : InOrder (λ (a b : Element). Before ops (Some a.id) b.id) (map element_of shown)
    first i j x y less g h =
        let one = map_from element_of shown i x g in
        let two = map_from element_of shown j y h in
        subst (λ z. Before ops (Some z) y.id) (ap (λ z. z.id) one.2) (subst (λ z. Before ops (Some one.0.id) z) (ap (λ z. z.id) two.2)
        (in_order_from_pairs (λ a b. Before ops (Some a.id) b.id) shown v.ordered i j one.0 two.0 less one.1 two.1))

    second : InOrder (λ (a b : Element). Before ops (Some a.id) b.id) (filter is_visible es)
    second =
        in_order_from_pairs (λ (a b : Element). Before ops (Some a.id) b.id) (filter is_visible es)
        (AllPairs-filter (λ (a b : Element). Before ops (Some a.id) b.id) is_visible es (pairs_from_in_order (λ (a b : Element). Before ops (Some a.id) b.id) es shows.text.ordered))

    forth : MembersOf (map element_of shown) (filter is_visible es)
    forth i x g =
        let one = map_from element_of shown i x g in
        let held = contains_at shown i one.0 one.1 in
        let inserted = v.inserted one.0 held in
        let r = shows.text.listed one.0.id inserted.0 one.0.character inserted.1 in
        let visible : r.1.0.visible ≡ true =
        ⊎_elim
        (λ (yes : r.1.0.visible ≡ true). yes)
        (λ (no : r.1.0.visible ≡ false). absurd (v.kept one.0 held (subst (λ z. IsHidden ops z) r.1.2 (shows.text.hidden r.0 r.1.0 r.1.1 no))))
        (cases_Bool r.1.0.visible) in
        let same : r.1.0 ≡ x = same_elements r.1.0 (element_of one.0) r.1.2 r.1.3 visible ∙ one.2 in
        filter_keeps es r.0 x (r.1.1 ∙ ap Some same) (ap (λ z. z.visible) (sym same) ∙ visible)

    back : MembersOf (filter is_visible es) (map element_of shown)
    back i x g =
        let visible = passes_from_filter es i x g in
        let at = filter_from is_visible es i x g in
        let inserted = shows.text.inserted at.0 x at.1 in
        let r = v.listed x.id inserted.0 x.character inserted.1 (shows.text.shown at.0 x at.1 visible) in
        let index = at_contains shown r.0 r.1 in
        let same : element_of r.0 ≡ x = same_elements (element_of r.0) x r.2 r.3 (sym visible) in
        (index.0, map_at element_of shown index.0 r.0 index.1 ∙ ap Some same)

-- The visible elements of a text, with their formats, are its visible characters.
use Rattle.std.proofs.Common.{◌≡◌, ℕ, zero, suc, ◌<◌, Bool, true, false, cond, List, [], ◌∷◌, Some, length, map, get_or, refl, sym, ap, subst, ◌∙◌, arith, ⊎_elim, All, Contains}
use Rattle.std.specs.List.{slice_get, filter, AllPairs}
use Rattle.std.proofs.lemmas.Bool.{cases_Bool}
use Rattle.std.proofs.lemmas.Option.{same_Some, none-some, slice_get-get_or, slice_get_within, get_or_from_slice_get}
use Rattle.std.proofs.lemmas.List.{length-map, get_or-map}
use Rattle.std.proofs.lemmas.List.Elements.{All-contains}
use Rattle.std.proofs.lemmas.List.Kept.{AllPairs-filter}
use Rattle.change_ops.specs.declared.operation.Op.{Op}
use Rattle.char_sequence.specs.declared.sequence.Element.{Element}
use Rattle.char_sequence.specs.Tree.{IsHidden}
use Rattle.char_sequence.specs.Order.{Before, IsText}
use Rattle.mark_anchors.specs.Format.{IsFormat}
use Rattle.span_flatten.specs.Spans.{Shown, AreVisible}
use Rattle.span_flatten.specs.Taken.{element_of, is_visible}

filter_keeps : {X : Type 0} (p : X → Bool) (xs : List X) (i : ℕ) (x : X) → slice_get xs i ≡ Some x → p x ≡ true → (j : ℕ) × (slice_get (filter p xs) j ≡ Some x)
filter_keeps p [] i x g passes = absurd (none-some x g)
filter_keeps p (y ∷ ys) zero x g passes =
    let here : p y ≡ true = ap p (same_Some y x g) ∙ passes in
    (zero, ap (λ b. slice_get (cond b (y ∷ filter p ys) (filter p ys)) zero) here ∙ g)
filter_keeps p (y ∷ ys) (suc i) x g passes =
    let r = filter_keeps p ys i x g passes in
    ⊎_elim
    (λ (here : p y ≡ true). (suc r.0, ap (λ b. slice_get (cond b (y ∷ filter p ys) (filter p ys)) (suc r.0)) here ∙ r.1))
    (λ (not : p y ≡ false). (r.0, ap (λ b. slice_get (cond b (y ∷ filter p ys) (filter p ys)) r.0) not ∙ r.1))
    (cases_Bool (p y))

first_from : {X : Type 0} (y : X) (ys zs : List X) (j : ℕ) (x : X) → ((k : ℕ) → slice_get zs k ≡ Some x → (i : ℕ) × (slice_get ys i ≡ Some x)) → slice_get (y ∷ zs) j ≡ Some x → (i : ℕ) × (slice_get (y ∷ ys) i ≡ Some x)
first_from y ys zs zero x later g = (zero, g)
first_from y ys zs (suc j) x later g = let r = later j g in (suc r.0, r.1)

pub filter_from : {X : Type 0} (p : X → Bool) (xs : List X) (j : ℕ) (x : X) → slice_get (filter p xs) j ≡ Some x → (i : ℕ) × (slice_get xs i ≡ Some x)
filter_from p [] j x g = absurd (none-some x g)
filter_from p (y ∷ ys) j x g =
    ⊎_elim
    (λ (here : p y ≡ true). first_from y ys (filter p ys) j x (λ k h. filter_from p ys k x h) (ap (λ b. slice_get (cond b (y ∷ filter p ys) (filter p ys)) j) (sym here) ∙ g))
    (λ (not : p y ≡ false).
    let r = filter_from p ys j x (ap (λ b. slice_get (cond b (y ∷ filter p ys) (filter p ys)) j) (sym not) ∙ g) in
    (suc r.0, r.1))
    (cases_Bool (p y))

map_from : {X Y : Type 0} (f : X → Y) (xs : List X) (j : ℕ) (y : Y) → slice_get (map f xs) j ≡ Some y → (x : X) × (slice_get xs j ≡ Some x) × (f x ≡ y)
map_from f [] j y g = absurd (none-some y g)
map_from f (x ∷ xs) zero y g = (x, refl, same_Some (f x) y g)
map_from f (x ∷ xs) (suc j) y g = map_from f xs j y g

map_at : {X Y : Type 0} (f : X → Y) (xs : List X) (j : ℕ) (x : X) → slice_get xs j ≡ Some x → slice_get (map f xs) j ≡ Some (f x)
map_at f [] j x g = absurd (none-some x g)
map_at f (y ∷ ys) zero x g = ap (λ z. Some (f z)) (same_Some y x g)
map_at f (y ∷ ys) (suc j) x g = map_at f ys j x g

pub contains_at : {X : Type 0} (xs : List X) (i : ℕ) (x : X) → slice_get xs i ≡ Some x → Contains xs x
contains_at xs i x g = (i, slice_get_within xs i x g, get_or_from_slice_get xs i x x g)

pub at_contains : {X : Type 0} (xs : List X) (x : X) → Contains xs x → (i : ℕ) × (slice_get xs i ≡ Some x)
at_contains xs x c = (c.0, slice_get-get_or xs c.0 x c.1 ∙ ap Some c.2)

-- the element of a shown character
pub stood : (es : List Element) (shown : List Shown) → map element_of shown ≡ filter is_visible es → (s : Shown) → Contains shown s → (i : ℕ) × (slice_get es i ≡ Some (element_of s))
stood es shown drawn s c =
    let at = at_contains shown s c in
    filter_from is_visible es at.0 (element_of s) (ap (λ l. slice_get l at.0) (sym drawn) ∙ map_at element_of shown at.0 s at.1)

in_order : (ops : List Op) (es : List Element) (shown : List Shown) → IsText ops es → map element_of shown ≡ filter is_visible es → AllPairs (λ a b. Before ops (Some a.id) b.id) shown
in_order ops es shown text drawn =
    let Earlier : Element → Element → Type 0 = λ a b. Before ops (Some a.id) b.id in
    let all : AllPairs Earlier es =
    λ i j d less within. text.ordered i j (get_or es i d) (get_or es j d) less (slice_get-get_or es i d (omega arith)) (slice_get-get_or es j d within) in
    let kept : AllPairs Earlier (map element_of shown) = subst (λ l. AllPairs Earlier l) (sym drawn) (AllPairs-filter Earlier is_visible es all) in
    λ i j d less within.
    let low : i < length shown = omega arith in
    let e : Element = element_of d in
    subst (λ z. Earlier (element_of (get_or shown i d)) z) (get_or-map element_of shown j d e within)
    (subst (λ z. Earlier z (get_or (map element_of shown) j e)) (get_or-map element_of shown i d e low)
    (kept i j e less (omega (arith, length-map shown element_of))))

pub shown_visible : (ops : List Op) (es : List Element) (shown : List Shown) → IsText ops es → map element_of shown ≡ filter is_visible es → All (λ s. IsFormat ops s.id s.format) shown → AreVisible ops shown
shown_visible ops es shown text drawn formats = record {
  ordered = in_order ops es shown text drawn;
  listed =
      λ x p c inserted kept.
      let r = text.listed x p c inserted in
      let e : Element = r.1.0 in
      let visible : e.visible ≡ true =
      ⊎_elim
      (λ (yes : e.visible ≡ true). yes)
      (λ (no : e.visible ≡ false). absurd (kept (subst (λ z. IsHidden ops z) r.1.2 (text.hidden r.0 e r.1.1 no))))
      (cases_Bool e.visible) in
      let k = filter_keeps is_visible es r.0 e r.1.1 visible in
      let s = map_from element_of shown k.0 e (ap (λ l. slice_get l k.0) drawn ∙ k.1) in
      (s.0, contains_at shown k.0 s.0 s.1, ap (λ z. z.id) s.2 ∙ r.1.2, ap (λ z. z.character) s.2 ∙ r.1.3);
  inserted = λ s c. let r = stood es shown drawn s c in text.inserted r.0 (element_of s) r.1;
  kept = λ s c. let r = stood es shown drawn s c in text.shown r.0 (element_of s) r.1 refl;
  formatted = λ s c. All-contains (λ z. IsFormat ops z.id z.format) shown s formats c;
}

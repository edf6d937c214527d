-- What operations leave of the elements outside the places that they touch.
use Rattle.std.proofs.Common.{◌≡◌, ℕ, ◌<◌, ◌≤◌, ◌⊎◌, Bool, true, false, List, ◌++◌, Option, Some, refl, sym, ap, subst, ◌∙◌, arith, ⊎_elim}
use Rattle.std.specs.List.{slice_get, Contains}
use Rattle.std.proofs.lemmas.Bool.{cases_Bool}
use Rattle.std.proofs.lemmas.List.Elements.{Contains-append_left, Contains-append_cases}
use Rattle.change_ops.specs.declared.id.OpId.{OpId}
use Rattle.change_ops.specs.declared.operation.Op.{Op}
use Rattle.change_ops.specs.declared.operation.Op.TheVariants.{Insert, Remove, Revive}
use Rattle.char_sequence.specs.declared.sequence.Element.{Element}
use Rattle.char_sequence.specs.Tree.{Inserts, IsTakenBack, IsHidden}
use Rattle.char_sequence.specs.Order.{Before, IsAt, Shows}
use Rattle.char_sequence.proofs.TreeLaws.{before_asym, before_kept}
use Rattle.mark_anchors.proofs.Places.{same_place}
use Rattle.version_laws.specs.Touched.{StandsWithin}
use Rattle.version_laws.proofs.Rising.{Has, Named, Rises}

same_element : (a b : Element) → a.id ≡ b.id → a.character ≡ b.character → a.visible ≡ b.visible → a ≡ b
same_element a b e f g =
    let mk : OpId → ℕ → Bool → Element = λ i c v. record { id = i; character = c; visible = v } in
    ap (λ i. mk i a.character a.visible) e ∙ ap (λ c. mk b.id c a.visible) f ∙ ap (λ v. mk b.id b.character v) g

-- one character stands before another
abbrev pub Precedes : List Op → OpId → OpId → Type 0
Precedes ops x y = Before ops (Some x) y

-- the operations that are added neither insert nor remove the character, nor take a removal of it back
pub record IsUnchanged (ops added : List Op) (x : OpId) : Type 0 where
  pub fresh : (p : Option OpId) (c : ℕ) → Contains added (Insert x p c) → ⊥
  pub spared : (r : OpId) → Contains added (Remove r x) → ⊥
  pub left : (r : OpId) → Contains ops (Remove r x) → IsTakenBack added r → ⊥

module _ (ops added : List Op) (es later : List Element) (shows : Shows es ops) (shown : Shows later (ops ++ added)) where
  grows : (x : OpId) (p : _) → Inserts ops x p → Inserts (ops ++ added) x p
  grows x p i = (i.0, Contains-append_left ops added (Insert x p i.0) i.1)

  -- a character whose removals are left as they were is hidden still
  hidden_later : (x : OpId) → IsUnchanged ops added x → IsHidden ops x → IsHidden (ops ++ added) x
  hidden_later x un h = (
    h.0,
    Contains-append_left ops added (Remove h.0 x) h.1,
    λ b.
        ⊎_elim
        (λ (old : Contains ops (Revive b.0 h.0)). h.2 (b.0, old))
        (λ (new : Contains added (Revive b.0 h.0)). un.left h.0 h.1 (b.0, new))
        (Contains-append_cases ops added (Revive b.0 h.0) b.1),
  )

  -- and was hidden, if it is now
  was_hidden : (x : OpId) → IsUnchanged ops added x → IsHidden (ops ++ added) x → IsHidden ops x
  was_hidden x un h =
      ⊎_elim
      (λ (old : Contains ops (Remove h.0 x)). (h.0, old, λ b. h.2 (b.0, Contains-append_left ops added (Revive b.0 h.0) b.1)))
      (λ (new : Contains added (Remove h.0 x)). absurd (un.spared h.0 new))
      (Contains-append_cases ops added (Remove h.0 x) h.1)

  -- what stands outside two places doesn't stand between them
  pub beside : (low high : ℕ) (x : OpId) (i : ℕ) → IsAt later x i → (i < low) ⊎ (high ≤ i) → StandsWithin later low high x → ⊥
  beside low high x i at out (k, there, from, to) =
      let same : k ≡ i = same_place (ops ++ added) later shown x x k i there at refl in
      ⊎_elim (λ (u : i < low). absurd (omega arith)) (λ (u : high ≤ i). absurd (omega arith)) out

  -- an element whose character is left alone was there
  pub was_there : (i : ℕ) (e : Element) → slice_get later i ≡ Some e → IsUnchanged ops added e.id → Has es e
  was_there i e g un =
      let r = shown.text.inserted i e g in
      ⊎_elim
      (λ (old : Contains ops (Insert e.id r.0 e.character)).
      let was = shows.text.listed e.id r.0 e.character old in
      (was.0, was.1.1 ∙ ap Some (same_element was.1.0 e was.1.2 was.1.3 (seen was.0 was.1.0 was.1.1 was.1.2))))
      (λ (new : Contains added (Insert e.id r.0 e.character)). absurd (un.fresh r.0 e.character new))
      (Contains-append_cases ops added (Insert e.id r.0 e.character) r.1)
    where
      seen : (j : ℕ) (d : Element) → slice_get es j ≡ Some d → d.id ≡ e.id → d.visible ≡ e.visible
      seen j d h same =
          ⊎_elim
          (λ (yes : e.visible ≡ true).
          ⊎_elim
          (λ (also : d.visible ≡ true). also ∙ sym yes)
          (λ (not : d.visible ≡ false). absurd (shown.text.shown i e g yes (hidden_later e.id un (subst (λ z. IsHidden ops z) same (shows.text.hidden j d h not)))))
          (cases_Bool d.visible))
          (λ (no : e.visible ≡ false).
          ⊎_elim
          (λ (yes : d.visible ≡ true). absurd (shows.text.shown j d h yes (subst (λ z. IsHidden ops z) (sym same) (was_hidden e.id un (shown.text.hidden i e g no)))))
          (λ (also : d.visible ≡ false). also ∙ sym no)
          (cases_Bool d.visible))
          (cases_Bool e.visible)

  -- what was there is there
  pub stays : (x : Element) → Has es x → Named later x
  stays x (i, g) =
      let r = shows.text.inserted i x g in
      let now = shown.text.listed x.id r.0 x.character (Contains-append_left ops added (Insert x.id r.0 x.character) r.1) in
      (now.1.0, (now.0, now.1.1), now.1.2)

  pub one_way : (a b : OpId) → Precedes (ops ++ added) a b → Precedes (ops ++ added) b a → ⊥
  one_way = before_asym (ops ++ added) shown.tree

  pub rises_now : Rises (Precedes (ops ++ added)) later
  rises_now i j x y = shown.text.ordered i j x y

  pub rises_before : Rises (Precedes (ops ++ added)) es
  rises_before i j x y less g h = before_kept ops (ops ++ added) grows (Some x.id) y.id (shows.text.ordered i j x y less g h)

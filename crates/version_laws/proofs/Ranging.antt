-- What operations leave of the elements, and of their formats, where they touch places of several ranges alone.
use Rattle.std.proofs.Common.{◌≡◌, ◌↔◌, ℕ, zero, suc, ◌+◌, ◌-◌, ◌<◌, ◌≤◌, ◌⊎◌, List, [], ◌∷◌, ◌++◌, Some, inl, inr, length, take, drop, refl, sym, ap, subst, ◌∙◌, arith, ⊎_elim, length-append, length-drop, drop-drop, append-nil}
use Rattle.std.specs.List.{slice_get, slice_range, Contains}
use Rattle.std.proofs.Math.Seq.{drop-append_seam, take-append_seam}
use Rattle.std.proofs.lemmas.Option.{none-some}
use Rattle.std.proofs.lemmas.List.Elements.{Contains-append_left}
use Rattle.std.proofs.lemmas.List.Folds.{drop_split}
use Rattle.change_ops.specs.declared.id.OpId.{OpId}
use Rattle.change_ops.specs.declared.operation.Op.{Op}
use Rattle.change_ops.specs.declared.operation.Op.TheVariants.{Insert, Remove, AddMark, RemoveMark, Revive}
use Rattle.change_ops.specs.declared.size.Size.{Size}
use Rattle.char_sequence.specs.declared.sequence.Element.{Element}
use Rattle.char_sequence.specs.Acceptance.{AcceptsAll}
use Rattle.char_sequence.specs.Order.{Shows}
use Rattle.mark_anchors.specs.Format.{IsFormat}
use Rattle.mark_anchors.specs.Formatting.{Format}
use Rattle.mark_places.specs.declared.range.PlaceRange.{PlaceRange}
use Rattle.mark_places.specs.PlaceRanges.{AreApart}
use Rattle.version_laws.specs.Ranges.{AreChangedWithin, LiesOutside, TouchesOneOf}
use Rattle.version_laws.specs.Touched.{TouchesWithin}
use Rattle.version_laws.specs.Windows.{IsWithinWindow}
use Rattle.version_laws.proofs.ChangeKept.{format_all}
use Rattle.version_laws.proofs.Outside.{Precedes, beside, one_way, rises_before, rises_now, stays, was_there}
use Rattle.version_laws.proofs.Rising.{Has, Named, Rises, IsDivided, clash, divided, get_drop, get_take, has_cases, has_right, prefix, rises_across, rises_drop, rises_right}
use Rattle.version_laws.proofs.WindowKept.{outside, there}

-- ---- places outside ranges
pub outside_one : (rs : List PlaceRange) (i : ℕ) → LiesOutside rs i → (r : PlaceRange) → Contains rs r → (i < r.low) ⊎ (r.high ≤ i)
outside_one [] i out r (k, lt, e) = absurd (omega arith)
outside_one (x ∷ rs) i out r (zero, lt, e) = subst (λ (z : PlaceRange). (i < z.low) ⊎ (z.high ≤ i)) e out.0
outside_one (x ∷ rs) i out r (suc k, lt, e) = outside_one rs i out.1 r (k, omega arith, e)

pub before_all : (rs : List PlaceRange) (at end i : ℕ) → AreApart rs at end → i < at → LiesOutside rs i
before_all [] at end i apart less = tt
before_all (r ∷ rs) at end i apart less =
    let low : at ≤ r.low = apart.0 in
    let order : r.low ≤ r.high = apart.1 in
    (inl (omega arith), before_all rs r.high end i apart.2 (omega arith))

-- ---- two lists of elements, of which the new one has each id that the old one has
pub at_drop : (n : ℕ) (xs : List Element) (i : ℕ) (e : Element) → slice_get xs i ≡ Some e → n ≤ i → Has (drop n xs) e
at_drop n xs i e g le =
    let same : n + (i - n) ≡ i = omega arith in
    (i - n, get_drop n xs (i - n) ∙ ap (slice_get xs) same ∙ g)

pub within_apart : (rs : List PlaceRange) (at end : ℕ) → AreApart rs at end → at ≤ end
within_apart [] at end apart = apart
within_apart (r ∷ rs) at end apart =
    let low : at ≤ r.low = apart.0 in
    let order : r.low ≤ r.high = apart.1 in
    let rest : r.high ≤ end = within_apart rs r.high end apart.2 in
    omega arith

module _ (R : OpId → OpId → Type 0) (asym : (a b : OpId) → R a b → R b a → ⊥) (old new : List Element) (was : Rises R old) (now : Rises R new) where
  -- an old element from a place on has an id of a new one from another place on
  abbrev AreNamed : ℕ → ℕ → Type 0
  AreNamed a b = (x : Element) → Has (drop a old) x → Named (drop b new) x

  -- a new element from a place on that lies outside the ranges is an old one from another place on
  abbrev AreHeld : List PlaceRange → ℕ → ℕ → Type 0
  AreHeld ns a b = (i : ℕ) (e : Element) → slice_get new i ≡ Some e → b ≤ i → LiesOutside ns i → Has (drop a old) e

  all_kept : (a b : ℕ) → AreNamed a b → AreHeld [] a b → drop a old ≡ drop b new
  all_kept a b named held = done (prefix R asym (drop b new) [] (drop a old) (subst (Rises R) (sym (append-nil (drop b new))) (rises_drop R asym b new now)) (rises_drop R asym a old was)
      (λ x h. subst (λ l. Named l x) (sym (append-nil (drop b new))) (named x h))
      (λ f h. held (b + h.0) f (sym (get_drop b new h.0) ∙ h.1) (omega arith) tt))
    where
      done : (tail : List Element) × ((drop a old ≡ drop b new ++ tail) × ((x : Element) → Has tail x → Named [] x)) → drop a old ≡ drop b new
      done ([], (e, none)) = e ∙ append-nil (drop b new)
      done (t ∷ tail, (e, none)) = let r = none t (zero, refl) in absurd (none-some r.0 r.1.1)

  -- the old elements up to those of a range, and those of the range
  record IsCut (n : PlaceRange) (ns : List PlaceRange) (a b : ℕ) : Type 0 where
    low : ℕ
    high : ℕ
    from : a ≤ low
    order : low ≤ high
    within : high ≤ length old
    kept : slice_range old a low ≡ slice_range new b n.low
    named : AreNamed high n.high
    held : AreHeld ns high n.high

  -- those before a range
  ahead : (n : PlaceRange) (ns : List PlaceRange) (a b : ℕ) → AreApart (n ∷ ns) b (length new) → AreHeld (n ∷ ns) a b → (f : Element) → Has (slice_range new b n.low) f → Has (drop a old) f
  ahead n ns a b apart held f (k, g) =
      let at = get_take (n.low - b) (drop b new) k f g in
      let less : k < n.low - b = at.0 in
      let order : n.low ≤ n.high = apart.1 in
      held (b + k) f (sym (get_drop b new k) ∙ at.1) (omega arith) (inl (omega arith), before_all ns n.high (length new) (b + k) apart.2 (omega arith))

  -- what stands behind a range is neither before it nor of it
  behind : (first changed last tail : List Element) → Rises R (first ++ (changed ++ last)) → (parts : IsDivided changed last tail) → (e : Element) → Has last e → Has (first ++ tail) e → Has parts.from e
  behind first changed last tail rising parts e at h =
      ⊎_elim
      (λ (u : Has first e). absurd (clash R asym e.id e.id refl (rises_across R asym first (changed ++ last) rising e e u (has_right changed last e at))))
      (λ (u : Has tail e).
      ⊎_elim
      (λ (v : Has parts.before e).
      let w = parts.named_before e v in
      absurd (clash R asym w.0.id e.id w.2 (rises_across R asym changed last (rises_right R asym first (changed ++ last) rising) w.0 e w.1 at)))
      (λ (v : Has parts.from e). v)
      (has_cases parts.before parts.from e (subst (λ l. Has l e) parts.whole u)))
      (has_cases first tail e h)

  cut : (n : PlaceRange) (ns : List PlaceRange) (a b : ℕ) → AreApart (n ∷ ns) b (length new) → a ≤ length old → AreNamed a b → AreHeld (n ∷ ns) a b → IsCut n ns a b
  cut n ns a b apart start named held =
      let first : List Element = slice_range new b n.low in
      let changed : List Element = slice_range new n.low n.high in
      let last : List Element = drop n.high new in
      let begins : b ≤ n.low = apart.0 in
      let order : n.low ≤ n.high = apart.1 in
      let split : drop b new ≡ first ++ (changed ++ last) = drop_split new b n.low begins ∙ ap (λ l. first ++ l) (drop_split new n.low n.high order) in
      let rising : Rises R (first ++ (changed ++ last)) = subst (Rises R) split (rises_drop R asym b new now) in
      let front = prefix R asym first (changed ++ last) (drop a old) rising (rises_drop R asym a old was) (λ x h. subst (λ l. Named l x) split (named x h)) (ahead n ns a b apart held) in
      let tail : List Element = front.0 in
      let left : drop a old ≡ first ++ tail = front.1.0 in
      let rising_tail : Rises R tail = rises_right R asym first tail (subst (Rises R) left (rises_drop R asym a old was)) in
      let parts = divided R asym changed last tail (rises_right R asym first (changed ++ last) rising) rising_tail front.1.1 in
      let low : ℕ = a + length first in
      let high : ℕ = low + length parts.before in
      let at_low : drop low old ≡ tail = sym (drop-drop (length first) a old) ∙ ap (drop (length first)) left ∙ drop-append_seam first tail in
      let at_high : drop high old ≡ parts.from =
      sym (drop-drop (length parts.before) low old) ∙ ap (drop (length parts.before)) (at_low ∙ parts.whole) ∙ drop-append_seam parts.before parts.from in
      let long : low - a ≡ length first = omega arith in
      record {
        low = low;
        high = high;
        from = omega arith;
        order = omega arith;
        within = omega (arith, length-drop a old, ap length left, length-append first tail, ap length parts.whole, length-append parts.before parts.from);
        kept = ap (λ k. take k (drop a old)) long ∙ ap (take (length first)) left ∙ take-append_seam first tail;
        named = λ x h. parts.named_from x (subst (λ l. Has l x) at_high h);
        held =
            λ i e g le out.
            subst (λ l. Has l e) (sym at_high)
            (behind first changed last tail rising parts e (at_drop n.high new i e g le) (subst (λ l. Has l e) left (held i e g (omega arith) (inr le, out))));
      }

  ranged : (ns : List PlaceRange) (a b : ℕ) → AreApart ns b (length new) → a ≤ length old → AreNamed a b → AreHeld ns a b → (olds : List PlaceRange) × AreChangedWithin old new olds ns a b
  ranged [] a b apart within named held = ([], (within, all_kept a b named held))
  ranged (n ∷ ns) a b apart within named held =
      let c = cut n ns a b apart within named held in
      let rest = ranged ns c.high n.high apart.2 c.within c.named c.held in
      let o : PlaceRange = record { low = c.low; high = c.high } in
      (o ∷ rest.0, (c.from, c.order, c.kept, rest.1))

-- ---- the elements
module _ (ops added : List Op) (old new : List Element) (ranges : List PlaceRange) (shows : Shows old ops) (shown : Shows new (ops ++ added))
    (touched : (o : Op) → Contains added o → TouchesOneOf (ops ++ added) new ranges o) where
  -- an element outside the ranges was there
  pub there_outside : (i : ℕ) (e : Element) → slice_get new i ≡ Some e → LiesOutside ranges i → Has old e
  there_outside i e g out =
      let none : (r : PlaceRange) → Contains ranges r → _ → ⊥ = λ r held. beside ops added old new shows shown r.low r.high e.id i (e, g, refl) (outside_one ranges i out r held) in
      was_there ops added old new shows shown i e g (record {
        fresh = λ p c held. let t = touched (Insert e.id p c) held in none t.0 t.1 t.2;
        spared = λ r held. let t = touched (Remove r e.id) held in none t.0 t.1 t.2;
        left = λ r held b. let t = touched (Revive b.0 r) b.1 in none t.0 t.1 (t.2 e.id (Contains-append_left ops added (Remove r e.id) held));
      })

  -- Before each range, and behind the last one, the elements are those that were there.
  pub kept_between : AreApart ranges 0 (length new) → (olds : List PlaceRange) × AreChangedWithin old new olds ranges 0 0
  kept_between apart =
      ranged (Precedes (ops ++ added)) (one_way ops added old new shows shown) old new (rises_before ops added old new shows shown) (rises_now ops added old new shows shown)
      ranges 0 0 apart (omega arith) (stays ops added old new shows shown) (λ i e g le out. there_outside i e g out)

-- ---- formats
-- what touches places between two alone is within that window
pub within_window : (ops : List Op) (es : List Element) (low high : ℕ) (o : Op) → TouchesWithin ops es low high o → IsWithinWindow es low high o
within_window ops es low high (Insert id parent character) t = inl refl
within_window ops es low high (Remove id target) t = inl refl
within_window ops es low high (AddMark id attribute start end) t = inr t
within_window ops es low high (RemoveMark id key start end) t = inr t
within_window ops es low high (Revive id removal) t = inl refl

-- An element outside the ranges has the format that it had.
pub format_between : {size : Size} (ops added : List Op) (old new : List Element) (ranges : List PlaceRange) → Shows old ops → AcceptsAll size ops added → Shows new (ops ++ added) → ((o : Op) → Contains added o → TouchesOneOf (ops ++ added) new ranges o)
    → (i : ℕ) (e : Element) → slice_get new i ≡ Some e → LiesOutside ranges i → (f : Format) → IsFormat ops e.id f ↔ IsFormat (ops ++ added) e.id f
format_between ops added old new ranges shows all shown touched i e g out f =
    let was = there_outside ops added old new ranges shows shown touched i e g out in
    format_all ops added old shows all e.id (there ops old shows e.id was.0 (e, was.1, refl))
    (λ key o held touches.
    let t = touched o held in
    let r : PlaceRange = t.0 in
    outside (ops ++ added) new shown r.low r.high o (within_window (ops ++ added) new r.low r.high o t.2) key e.id i (e, g, refl) (outside_one ranges i out r t.1) touches)
    f

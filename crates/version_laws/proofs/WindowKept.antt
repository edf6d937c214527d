-- Where shown characters stand among the elements, and what an operation within a window of places leaves.
use Rattle.std.proofs.Common.{ℕ, ◌<◌, ◌≤◌, ◌⊎◌, List, inl, inr, refl, sym, ap, subst, ◌∙◌, arith, ⊎_elim}
use Rattle.std.specs.List.{slice_get, Contains}
use Rattle.change_ops.specs.declared.id.OpId.{OpId}
use Rattle.change_ops.specs.declared.attribute.Key.{Key}
use Rattle.change_ops.specs.declared.operation.Op.{Op}
use Rattle.char_sequence.specs.declared.sequence.Element.{Element}
use Rattle.char_sequence.specs.Tree.{Present}
use Rattle.char_sequence.specs.Order.{IsAt, Shows}
use Rattle.char_sequence.proofs.Holding.{present_at}
use Rattle.mark_anchors.specs.Format.{Touches}
use Rattle.mark_anchors.proofs.Deciding.{place_from_touches}
use Rattle.span_flatten.specs.Spans.{Shown}
use Rattle.span_flatten.specs.Taken.{AreDrawn, element_of, is_visible}
use Rattle.span_flatten.proofs.Showing.{at_contains, filter_from}
use Rattle.version_laws.specs.Windows.{IsWithinWindow}
use Rattle.version_laws.proofs.FormatKept.{edit_touches}
use Rattle.version_laws.proofs.Lists.{map_at}

-- where a shown character stands among the elements
pub drawn_at : (es : List Element) (shown : List Shown) → AreDrawn es shown → (s : Shown) → Contains shown s → (i : ℕ) × IsAt es s.id i
drawn_at es shown drawn s held =
    let at = at_contains shown s held in
    let r = filter_from is_visible es at.0 (element_of s) (ap (λ l. slice_get l at.0) (sym drawn) ∙ map_at element_of shown at.0 s at.1) in
    (r.0, (element_of s, r.1, refl))

-- a character that stands among the elements was inserted
pub there : (ops : List Op) (es : List Element) → Shows es ops → (x : OpId) (i : ℕ) → IsAt es x i → Present ops x
there ops es shows x i at = subst (λ z. Present ops z) at.2 (present_at ops es shows.text i at.0 at.1)

-- an operation within the window touches no character outside it
pub outside : (ops : List Op) (es : List Element) → Shows es ops → (from to : ℕ) (o : Op) → IsWithinWindow es from to o → (key : Key) (e : OpId) (place : ℕ) → IsAt es e place → (place < from) ⊎ (to ≤ place) → Touches ops key e o → ⊥
outside ops es shows from to o (inl edit) key e place at out touches = edit_touches ops key e o edit touches
outside ops es shows from to o (inr (first, (last, lies, window))) key e place at out touches =
    let within = place_from_touches ops es shows key o first last place e lies at touches in
    let low : first ≤ place = within.0 in
    let high : place < last = within.1 in
    ⊎_elim
    (λ (none : last ≤ first). absurd (omega arith))
    (λ (w : (from ≤ first) × (last ≤ to)).
    let begins : from ≤ first = w.0 in
    let ends : last ≤ to = w.1 in
    ⊎_elim (λ (u : place < from). absurd (omega arith)) (λ (u : to ≤ place). absurd (omega arith)) out)
    window

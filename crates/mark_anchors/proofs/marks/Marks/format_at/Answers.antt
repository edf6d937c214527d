use Rattle.std.proofs.Common.{◌≡◌, List, Some, sym, subst}
use Rattle.std.specs.List.{slice_get}
use Rattle.change_ops.specs.declared.operation.Op.{Op}
use Rattle.char_sequence.specs.declared.sequence.Element.{Element}
use Rattle.char_sequence.specs.Order.{IsAt, Shows}
use Rattle.char_sequence.proofs.Chunking.{option_at}
use Rattle.mark_anchors.specs.Format.{IsFormat}
use Rattle.mark_anchors.specs.Marks.{AreMarks}
use Rattle.mark_anchors.specs.Ranges.{IsFormatAt}
use Rattle.mark_anchors.proofs.Alike.{ok_more}
use Rattle.mark_anchors.proofs.marks.Marks.format_at.Goals as goal

pub returns : goal.returns
returns c =
    λ ops shows are.
    let resolved = c.in_ok-resolved.resolved in
    let es : List Element = c.args.sequence.now.elements in
    let at = option_at _ (λ k. IsAt es c.args.id k) c.place_of.result c.unwrap-place.result c.unwrap-place.ensures c.place_of.ensures.found in
    let shows' : Shows resolved.elements ops = subst (λ (l : List Element). Shows l ops) (sym c.in_ok-resolved.ensures.elements) shows in
    let are' : AreMarks ops resolved.marks = subst (λ (ms : List Op). AreMarks ops ms) (sym c.in_ok-resolved.ensures.marks) are in
    ok_more (λ f. IsFormatAt resolved.elements resolved.marks c.unwrap-place.result f) (λ f. IsFormat ops c.args.id f) c.format_at_place.result
    (λ f is.
    subst (λ id. IsFormat ops id f) at.2
    (is ops at.0 shows' are' (subst (λ (l : List Element). slice_get l c.unwrap-place.result ≡ Some at.0) (sym c.in_ok-resolved.ensures.elements) at.1)))
    c.format_at_place.ensures

use Rattle.std.proofs.Common.{List, sym, subst}
use Rattle.mark_anchors.specs.KeyMarks.{AreEnds}
use Rattle.mark_anchors.specs.declared.placed.PlacedMark.{PlacedMark}
use Rattle.mark_anchors.proofs.key_marks.KeyMarks.places.Goals as goal

pub returns : goal.returns
returns c =
    let marks : List PlacedMark = c.self.inside.marks.items in
    subst (λ (ms : List PlacedMark). AreEnds ms c.deref.result.now) c.self.view_is
    (subst (AreEnds marks) (sym c.deref.ensures.value)
    (record { rising = c.self.invariant.rising; begins = c.self.invariant.begins; ends = c.self.invariant.ends }))

use Rattle.std.proofs.Common.{sym, subst}
use Rattle.mark_anchors.specs.Marks.{AreMarks}
use Rattle.mark_anchors.proofs.marks.Marks.resolve.Goals as goal

pub resolve_placed-requires : goal.resolve_placed-requires
resolve_placed-requires c = record {
  text = (c.requires.0, c.requires.1, subst (AreMarks c.requires.0) (sym c.operations-operations.ensures) c.requires.2);
  placed = c.in_ok-marks.ensures;
}

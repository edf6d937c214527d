use Rattle.std.proofs.Common.{List, sym, subst}
use Rattle.change_ops.specs.declared.operation.Op.{Op}
use Rattle.mark_places.specs.Places.{AreMarkPlaces}
use Rattle.change_history.proofs.parts.Parts.new.Goals as goal

pub returns : goal.returns
returns c = record {
  shows = c.new.ensures.shows;
  held = c.new.ensures;
  marks = c.new-2.ensures;
  places = subst (λ (xs : List Op). AreMarkPlaces c.new.result.elements xs c.new-3.result) (sym c.new-2.ensures) (c.new-3.ensures c.new.result.elements);
  newest = c.new-4.ensures;
}

use Rattle.mark_anchors.proofs.Painting.{found, gap}
use Rattle.mark_anchors.proofs.key_marks.count_below.Goals as goal

pub returns-in-Ok-clause-below : goal.returns-in-Ok-clause-below
returns-in-Ok-clause-below c = found c.args.places.now c.requires c.args.place c.in-Ok.count c.in-Ok.ensures.position

pub returns-in-Err-clause-below : goal.returns-in-Err-clause-below
returns-in-Err-clause-below c = gap c.args.places.now c.requires c.args.place c.in-Err.count c.in-Err.ensures.position

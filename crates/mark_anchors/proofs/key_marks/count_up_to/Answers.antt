use Rattle.mark_anchors.proofs.Painting.{found_up_to, gap_up_to}
use Rattle.mark_anchors.proofs.key_marks.count_up_to.Goals as goal

pub returns-in-Ok-clause-up_to : goal.returns-in-Ok-clause-up_to
returns-in-Ok-clause-up_to c = found_up_to c.args.places.now c.requires c.args.place c.in-Ok.last c.in-Ok.ensures.position

pub returns-in-Err-clause-up_to : goal.returns-in-Err-clause-up_to
returns-in-Err-clause-up_to c = gap_up_to c.args.places.now c.requires c.args.place c.in-Err.count c.in-Err.ensures.position

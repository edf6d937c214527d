use Rattle.std.proofs.Common.{◌≡◌, length, rules}
use Rattle.mark_anchors.proofs.Gathering.{no_marks}
use Rattle.mark_anchors.proofs.placed.marks_in.Goals as goal

pub returns-then-is_empty : goal.returns-then-is_empty
returns-then-is_empty c =
    let empty : length c.args.operations.now ≡ 0 = search rules in
    no_marks c.args.sequence.now.elements c.args.operations.now c.new.result.items empty c.new.ensures.items

use Rattle.mark_anchors.proofs.FormatLaws.{one_format_of_set}
use Rattle.mark_anchors.proofs.format.same_set_same_format.Goals as goal

pub returns : goal.returns
returns c = λ ops others e same first second. one_format_of_set ops others same e c.args.first.now c.args.second.now first second

use Rattle.span_flatten.proofs.OneVersion.{one_version}
use Rattle.span_flatten.proofs.flatten.same_set_same_version.Goals as goal

pub returns : goal.returns
returns c = λ ops others elements number shows same first second. one_version ops others elements number c.args.first.now c.args.second.now shows same first second

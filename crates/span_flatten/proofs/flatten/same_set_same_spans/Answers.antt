use Rattle.span_flatten.proofs.OneVersion.{one_spans}
use Rattle.span_flatten.proofs.flatten.same_set_same_spans.Goals as goal

pub returns : goal.returns
returns c = λ ops others spans more shows same first second. one_spans ops others c.args.sequence.now.elements shows same spans more first second

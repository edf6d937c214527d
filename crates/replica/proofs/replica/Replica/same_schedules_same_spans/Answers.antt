use Rattle.replica.proofs.Handing.{handed_alike}
use Rattle.replica.proofs.replica.Replica.same_schedules_same_spans.Goals as goal

pub returns : goal.returns
returns c = λ first second spans others one two apart same mine theirs.
    c.same_messages_same_spans.ensures spans others mine theirs (handed_alike first second c.args.self.now c.args.other.now apart same one two)

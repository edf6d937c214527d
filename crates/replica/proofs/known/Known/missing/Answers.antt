use Rattle.replica.proofs.Noting.{looked}
use Rattle.replica.proofs.known.Known.missing.Goals as goal

pub returns : goal.returns
returns c = λ ops knows. looked ops c.args.op.now c.args.self.now c.named-first.result.first c.named-first.result.second c.named_removal.result c.absent.result c.absent-2.result c.absent-3.result c.or.result c.or-2.result knows c.named-first.ensures.names c.named-first.ensures.first c.named-first.ensures.second c.named_removal.ensures
    (record { some = c.absent.ensures.some; none = c.absent.ensures.none }) (record { some = c.absent-2.ensures.some; none = c.absent-2.ensures.none }) (record { some = c.absent-3.ensures.some; none = c.absent-3.ensures.none })
    c.or.ensures c.or-2.ensures

use Rattle.std.specs.Prelude.{length}
use Rattle.loop_labels.proofs.Endless.{ends_once, ends_later}
use Rattle.loop_labels.proofs.runs_end_once.Goals as goal

pub returns-clause-once : goal.returns-clause-once
returns-clause-once c = ends_once

pub returns-clause-longer : goal.returns-clause-longer
returns-clause-longer c = ends_later

pub returns-clause-verdict : goal.returns-clause-verdict
returns-clause-verdict c = λ program bytes value verdict. (length program, verdict)

use Rattle.change_ops.specs.Reading.{line_in}
use Rattle.change_ops.proofs.ChangeLaws.{verdict_fits}
use Rattle.change_ops.proofs.change.next_line.Goals as goal

pub returns-in-Ok-clause-fits : goal.returns-in-Ok-clause-fits
returns-in-Ok-clause-fits c = verdict_fits c.args.peer c.args.room (line_in c.args.form c.in-Some.words.now) c.in-Ok.line c.in-Ok.ensures

use Rattle.std.proofs.Common.{Ok, Err, refl}
use Rattle.session_lines.proofs.request.change_of.Goals as goal

pub returns-in-Ok : goal.returns-in-Ok
returns-in-Ok c = (Ok c.in-Ok.change, (c.in-Ok.field-0-1.now, c.in-Ok.ensures.spelled), refl)

pub returns-in-Err : goal.returns-in-Err
returns-in-Err c = (Err c.in-Err.error, c.in-Err.ensures.refused, refl)

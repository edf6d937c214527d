use Rattle.std.proofs.Common.{sym}
use Rattle.session_lines.specs.Reading.{said}
use Rattle.session_lines.proofs.Forms.{asked_some, asked_none}
use Rattle.session_lines.proofs.commands.command_of.Goals as goal

pub returns-in-Some : goal.returns-in-Some
returns-in-Some c = asked_some _ (said c.in-Some.command) _ (sym c.in-Some.ensures) c.request_of.ensures

pub returns-in-None : goal.returns-in-None
returns-in-None c = asked_none _ (sym c.in-None.ensures)

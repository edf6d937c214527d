use Rattle.change_join.proofs.Headers.{behind_line, some_line}
use Rattle.change_join.proofs.joint.behind_first_line.Goals as goal

pub returns-in-Some : goal.returns-in-Some
returns-in-Some c = λ line rest first. behind_line c.args.text.now line rest _ c.in-Some.field-0-0 c.in-Some.rest c.split_once.ensures.cases c.in-Some.is first

pub returns-in-None : goal.returns-in-None
returns-in-None c = λ line rest first. absurd (some_line c.args.text.now line rest _ c.split_once.ensures.cases c.in-None.is first)

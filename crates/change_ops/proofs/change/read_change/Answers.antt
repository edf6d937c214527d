use Rattle.std.proofs.Common.{ℕ, List, Bor}
use Rattle.change_ops.specs.Changes.{Change}
use Rattle.change_ops.proofs.ChangeLaws.{gives_spells, gives_answers, gives_shorter}
use Rattle.change_ops.proofs.RefusalLaws.{gives_refused, gives_first}
use Rattle.change_ops.proofs.change.read_change.Goals as goal

pub returns-clause-spelled : goal.returns-clause-spelled
returns-clause-spelled c = gives_spells {X = Change × Bor (List ℕ)} (λ x. (x.0, x.1.now)) c.change_of.result c.args.text.now c.change_of.ensures.read

pub returns-clause-complete : goal.returns-clause-complete
returns-clause-complete c = gives_answers {X = Change × Bor (List ℕ)} (λ x. (x.0, x.1.now)) c.change_of.result c.args.text.now c.change_of.ensures.read

pub returns-clause-shorter : goal.returns-clause-shorter
returns-clause-shorter c = gives_shorter {X = Change × Bor (List ℕ)} (λ x. (x.0, x.1.now)) c.change_of.result c.args.text.now c.change_of.ensures.read

pub returns-clause-refused : goal.returns-clause-refused
returns-clause-refused c = gives_refused {X = Change × Bor (List ℕ)} (λ x. (x.0, x.1.now)) c.change_of.result c.args.text.now c.change_of.ensures.read

pub returns-clause-first : goal.returns-clause-first
returns-clause-first c = gives_first {X = Change × Bor (List ℕ)} (λ x. (x.0, x.1.now)) c.change_of.result c.args.text.now c.change_of.ensures.read

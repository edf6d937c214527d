use Rattle.std.proofs.Common.{◌∙◌}
use Rattle.change_history.proofs.Edits.{inserts_counted}
use Rattle.change_history.proofs.parts.Parts.inserted.Goals as goal

pub returns-clause-count : goal.returns-clause-count
returns-clause-count c = λ ops k. c.len.ensures.value ∙ k.held.size ∙ inserts_counted ops

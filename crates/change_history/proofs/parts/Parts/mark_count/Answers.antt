use Rattle.std.proofs.Common.{ap, length, ◌∙◌}
use Rattle.std.proofs.lemmas.List.Sums.{length-filter}
use Rattle.change_ops.specs.Operations.{is_mark}
use Rattle.change_history.proofs.parts.Parts.mark_count.Goals as goal

pub returns-clause-count : goal.returns-clause-count
returns-clause-count c = λ ops k. ap length (c.operations.ensures ∙ k.marks) ∙ length-filter is_mark ops

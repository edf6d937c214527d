use Rattle.std.proofs.Common.{length, sym, ap, ◌∙◌}
use Rattle.change_ops.specs.Lines.{ops_of}
use Rattle.change_ops.specs.declared.line.Line.{Line}
use Rattle.change_ops.specs.declared.line.Line.TheVariants.{Run, Removals, Revivals}
use Rattle.change_ops.proofs.SpelledLines.{ops_count}
use Rattle.change_ops.proofs.line.Line.meant.Goals as goal

pub returns-in-Run-clause-value : goal.returns-in-Run-clause-value
returns-in-Run-clause-value c = ap length c.characters.ensures.value ∙ sym (ops_count (Run c.in-Run.run')) ∙ ap (λ (l : Line). length (ops_of l)) (sym c.in-Run.is)

pub returns-in-Removals-clause-value : goal.returns-in-Removals-clause-value
returns-in-Removals-clause-value c = c.count.ensures.value ∙ sym (ops_count (Removals c.in-Removals.run')) ∙ ap (λ (l : Line). length (ops_of l)) (sym c.in-Removals.is)

pub returns-in-Revivals-clause-value : goal.returns-in-Revivals-clause-value
returns-in-Revivals-clause-value c = c.count-in-Revivals.ensures.value ∙ sym (ops_count (Revivals c.in-Revivals.run')) ∙ ap (λ (l : Line). length (ops_of l)) (sym c.in-Revivals.is)

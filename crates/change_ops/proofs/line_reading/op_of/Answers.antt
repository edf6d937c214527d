use Rattle.std.proofs.Common.{inr, sym, ◌∙◌}
use Rattle.change_ops.proofs.Judging.{insert_kept, remove_kept}
use Rattle.change_ops.proofs.line_reading.op_of.Goals as goal

pub returns-then-eq : goal.returns-then-eq
returns-then-eq c =
    inr (c.insert_of.ensures ∙ sym (insert_kept c.args.form c.args.peer c.args.line.now c.in_ok-kind.kind.now c.in_ok-kind.fields.now c.in_ok-kind.ensures (sym c.eq.ensures ∙ c.if-eq.true)))

pub returns-then-eq-2 : goal.returns-then-eq-2
returns-then-eq-2 c =
    inr (c.remove_of.ensures ∙ sym (remove_kept c.args.form c.args.peer c.args.line.now c.in_ok-kind.kind.now c.in_ok-kind.fields.now c.in_ok-kind.ensures (sym c.eq.ensures ∙ c.if-eq.false) (sym c.eq-else-eq.ensures ∙ c.if-eq-2.true)))

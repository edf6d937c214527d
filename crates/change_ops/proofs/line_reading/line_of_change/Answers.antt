use Rattle.std.proofs.Common.{◌≡◌, ◌∙◌, Result, Err, inr, sym, ap, subst, arith}
use Rattle.std.proofs.lemmas.Grind.{common_steps}
use Rattle.change_ops.specs.Reading.{Reads, line_in, line_verdict}
use Rattle.change_ops.specs.declared.line.Line.{Line}
use Rattle.change_ops.specs.declared.line.Line.TheVariants.{Removals, Revivals}
use Rattle.change_ops.specs.declared.refusal.LineFault.{LineFault}
use Rattle.change_ops.proofs.LineVerdicts.{as_line, op_line, reads_line, as_run, run_line, reads_run, as_counted, removals_line, revivals_line}
use Rattle.change_ops.proofs.line_reading.line_of_change.Goals as goal

pub returns-in_err-run : goal.returns-in_err-run
returns-in_err-run c =
    let given : c.from_residual-in_err-run.result ≡ Err c.in_err-run.field-0.0 = grind (arith, common_steps) in
    let verdict = run_line c.args.form c.args.peer c.args.room c.args.line.now c.in_ok-kind.kind.now c.in_ok-kind.fields.now c.in_ok-kind.ensures (sym c.eq.ensures ∙ c.if-eq.true) in
    let read = rw c.single.ensures.value at c.run_in.ensures in
    let told : Reads (as_run c.run_in.result) (line_verdict c.args.peer c.args.room (line_in c.args.form c.args.line.now)) = subst (Reads (as_run c.run_in.result)) (sym verdict) (reads_run c.run_in.result _ read) in
    subst (λ (r : Result Line LineFault). Reads r (line_verdict c.args.peer c.args.room (line_in c.args.form c.args.line.now))) (ap as_run c.in_err-run.was ∙ sym given) told

pub returns-then-eq : goal.returns-then-eq
returns-then-eq c =
    let verdict = run_line c.args.form c.args.peer c.args.room c.args.line.now c.in_ok-kind.kind.now c.in_ok-kind.fields.now c.in_ok-kind.ensures (sym c.eq.ensures ∙ c.if-eq.true) in
    let read = rw c.single.ensures.value at c.run_in.ensures in
    let told : Reads (as_run c.run_in.result) (line_verdict c.args.peer c.args.room (line_in c.args.form c.args.line.now)) = subst (Reads (as_run c.run_in.result)) (sym verdict) (reads_run c.run_in.result _ read) in
    subst (λ (r : Result Line LineFault). Reads r (line_verdict c.args.peer c.args.room (line_in c.args.form c.args.line.now))) (ap as_run c.in_ok-run.was) told

pub returns-in_err-removals : goal.returns-in_err-removals
returns-in_err-removals c =
    let given : c.from_residual-in_err-removals.result ≡ Err c.in_err-removals.field-0.0 = grind (arith, common_steps) in
    let verdict = removals_line c.args.form c.args.peer c.args.room c.args.line.now c.in_ok-kind.kind.now c.in_ok-kind.fields.now c.in_ok-kind.ensures (sym c.eq.ensures ∙ c.if-eq.false) (sym c.is_run.ensures ∙ c.if-is_run.true) in
    inr (given ∙ sym (verdict ∙ ap (as_counted Removals) (sym c.id_run_in.ensures ∙ c.in_err-removals.was)))

pub returns-then-is_run : goal.returns-then-is_run
returns-then-is_run c =
    let verdict = removals_line c.args.form c.args.peer c.args.room c.args.line.now c.in_ok-kind.kind.now c.in_ok-kind.fields.now c.in_ok-kind.ensures (sym c.eq.ensures ∙ c.if-eq.false) (sym c.is_run.ensures ∙ c.if-is_run.true) in
    inr (sym (verdict ∙ ap (as_counted Removals) (sym c.id_run_in.ensures ∙ c.in_ok-removals.was)))

pub returns-in_err-revivals : goal.returns-in_err-revivals
returns-in_err-revivals c =
    let given : c.from_residual-in_err-revivals.result ≡ Err c.in_err-revivals.field-0.0 = grind (arith, common_steps) in
    let verdict = revivals_line c.args.form c.args.peer c.args.room c.args.line.now c.in_ok-kind.kind.now c.in_ok-kind.fields.now c.in_ok-kind.ensures (sym c.eq.ensures ∙ c.if-eq.false) (sym c.is_run.ensures ∙ c.if-is_run.false) (sym c.is_run-2.ensures ∙ c.if-is_run-2.true) in
    inr (given ∙ sym (verdict ∙ ap (as_counted Revivals) (sym c.id_run_in-then-is_run-2.ensures ∙ c.in_err-revivals.was)))

pub returns-then-is_run-2 : goal.returns-then-is_run-2
returns-then-is_run-2 c =
    let verdict = revivals_line c.args.form c.args.peer c.args.room c.args.line.now c.in_ok-kind.kind.now c.in_ok-kind.fields.now c.in_ok-kind.ensures (sym c.eq.ensures ∙ c.if-eq.false) (sym c.is_run.ensures ∙ c.if-is_run.false) (sym c.is_run-2.ensures ∙ c.if-is_run-2.true) in
    inr (sym (verdict ∙ ap (as_counted Revivals) (sym c.id_run_in-then-is_run-2.ensures ∙ c.in_ok-revivals.was)))

pub returns-in_err-op : goal.returns-in_err-op
returns-in_err-op c =
    let given : c.from_residual-in_err-op.result ≡ Err c.in_err-op.field-0.0 = grind (arith, common_steps) in
    let verdict = op_line c.args.form c.args.peer c.args.room c.args.line.now c.in_ok-kind.kind.now c.in_ok-kind.fields.now c.in_ok-kind.ensures (sym c.eq.ensures ∙ c.if-eq.false) (sym c.is_run.ensures ∙ c.if-is_run.false) (sym c.is_run-2.ensures ∙ c.if-is_run-2.false) in
    let read = rw c.single-2.ensures.value at c.op_in.ensures in
    let told : Reads (as_line c.op_in.result) (line_verdict c.args.peer c.args.room (line_in c.args.form c.args.line.now)) = subst (Reads (as_line c.op_in.result)) (sym verdict) (reads_line c.op_in.result _ read) in
    subst (λ (r : Result Line LineFault). Reads r (line_verdict c.args.peer c.args.room (line_in c.args.form c.args.line.now))) (ap as_line c.in_err-op.was ∙ sym given) told

pub returns : goal.returns
returns c =
    let verdict = op_line c.args.form c.args.peer c.args.room c.args.line.now c.in_ok-kind.kind.now c.in_ok-kind.fields.now c.in_ok-kind.ensures (sym c.eq.ensures ∙ c.if-eq.false) (sym c.is_run.ensures ∙ c.if-is_run.false) (sym c.is_run-2.ensures ∙ c.if-is_run-2.false) in
    let read = rw c.single-2.ensures.value at c.op_in.ensures in
    let told : Reads (as_line c.op_in.result) (line_verdict c.args.peer c.args.room (line_in c.args.form c.args.line.now)) = subst (Reads (as_line c.op_in.result)) (sym verdict) (reads_line c.op_in.result _ read) in
    subst (λ (r : Result Line LineFault). Reads r (line_verdict c.args.peer c.args.room (line_in c.args.form c.args.line.now))) (ap as_line c.in_ok-op.was) told

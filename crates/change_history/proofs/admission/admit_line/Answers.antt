use Rattle.std.proofs.Common.{sym, subst}
use Rattle.change_ops.specs.Lines.{ops_of}
use Rattle.change_ops.specs.declared.line.Line.{Line}
use Rattle.change_history.specs.Tally.{AreNext, Admits}
use Rattle.change_history.proofs.admission.admit_line.Goals as goal

pub admit-requires : goal.admit-requires
admit-requires c = subst (λ (l : Line). AreNext c.args.size (ops_of l) c.args.parts.now c.args.tally.now) c.in-Operation.is c.requires

pub admit_run-requires : goal.admit_run-requires
admit_run-requires c = subst (λ (l : Line). AreNext c.args.size (ops_of l) c.args.parts.now c.args.tally.now) c.in-Run.is c.requires

pub returns-in-Operation : goal.returns-in-Operation
returns-in-Operation c = subst (λ (l : Line). Admits c.args.size (ops_of l) c.args.parts.now c.args.tally.now c.admit.new.tally c.admit.result) (sym c.in-Operation.is) c.admit.ensures

pub returns-in-Run : goal.returns-in-Run
returns-in-Run c = subst (λ (l : Line). Admits c.args.size (ops_of l) c.args.parts.now c.args.tally.now c.admit_run.new.tally c.admit_run.result) (sym c.in-Run.is) c.admit_run.ensures

pub admit_removals-requires : goal.admit_removals-requires
admit_removals-requires c = subst (λ (l : Line). AreNext c.args.size (ops_of l) c.args.parts.now c.args.tally.now) c.in-Removals.is c.requires

pub returns-in-Removals : goal.returns-in-Removals
returns-in-Removals c = subst (λ (l : Line). Admits c.args.size (ops_of l) c.args.parts.now c.args.tally.now c.admit_removals.new.tally c.admit_removals.result) (sym c.in-Removals.is) c.admit_removals.ensures

pub admit_revivals-requires : goal.admit_revivals-requires
admit_revivals-requires c = subst (λ (l : Line). AreNext c.args.size (ops_of l) c.args.parts.now c.args.tally.now) c.in-Revivals.is c.requires

pub returns-in-Revivals : goal.returns-in-Revivals
returns-in-Revivals c = subst (λ (l : Line). Admits c.args.size (ops_of l) c.args.parts.now c.args.tally.now c.admit_revivals.new.tally c.admit_revivals.result) (sym c.in-Revivals.is) c.admit_revivals.ensures

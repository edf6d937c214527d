use Rattle.std.proofs.Common.{sym, subst}
use Rattle.change_ops.specs.Lines.{ops_of}
use Rattle.change_ops.specs.declared.line.Line.{Line}
use Rattle.change_history.specs.Trial.{CanTry, Tries}
use Rattle.change_history.proofs.trial.try_line.Goals as goal

pub try_one-requires : goal.try_one-requires
try_one-requires c = subst (λ (l : Line). CanTry c.args.size (ops_of l) c.args.parts.now c.args.trial.now) c.in-Operation.is c.requires

pub try_run-requires : goal.try_run-requires
try_run-requires c = subst (λ (l : Line). CanTry c.args.size (ops_of l) c.args.parts.now c.args.trial.now) c.in-Run.is c.requires

pub returns-in-Operation : goal.returns-in-Operation
returns-in-Operation c = subst (λ (l : Line). Tries c.args.size (ops_of l) c.args.parts.now c.args.trial.now c.try_one.new.trial c.try_one.result) (sym c.in-Operation.is) c.try_one.ensures

pub returns-in-Run : goal.returns-in-Run
returns-in-Run c = subst (λ (l : Line). Tries c.args.size (ops_of l) c.args.parts.now c.args.trial.now c.try_run.new.trial c.try_run.result) (sym c.in-Run.is) c.try_run.ensures

pub try_removals-requires : goal.try_removals-requires
try_removals-requires c = subst (λ (l : Line). CanTry c.args.size (ops_of l) c.args.parts.now c.args.trial.now) c.in-Removals.is c.requires

pub returns-in-Removals : goal.returns-in-Removals
returns-in-Removals c = subst (λ (l : Line). Tries c.args.size (ops_of l) c.args.parts.now c.args.trial.now c.try_removals.new.trial c.try_removals.result) (sym c.in-Removals.is) c.try_removals.ensures

pub try_revivals-requires : goal.try_revivals-requires
try_revivals-requires c = subst (λ (l : Line). CanTry c.args.size (ops_of l) c.args.parts.now c.args.trial.now) c.in-Revivals.is c.requires

pub returns-in-Revivals : goal.returns-in-Revivals
returns-in-Revivals c = subst (λ (l : Line). Tries c.args.size (ops_of l) c.args.parts.now c.args.trial.now c.try_revivals.new.trial c.try_revivals.result) (sym c.in-Revivals.is) c.try_revivals.ensures

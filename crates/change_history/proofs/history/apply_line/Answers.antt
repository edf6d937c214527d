use Rattle.std.proofs.Common.{◌++◌, take, sym, subst}
use Rattle.change_ops.specs.Lines.{ops_of}
use Rattle.change_ops.specs.declared.line.Line.{Line}
use Rattle.change_history.specs.Kept.{AreAcceptedNext, Applies}
use Rattle.change_history.proofs.Chronicle.{stand_first, follows_at, applied_one}
use Rattle.change_history.proofs.history.apply_line.Goals as goal

pub add-requires : goal.add-requires
add-requires c =
    let next = subst (λ (l : Line). AreAcceptedNext (ops_of l) c.args.parts.now) c.in-Operation.is c.requires in
    let ops = next.0 in
    let added = next.1.0 in
    let from = next.1.1.0 in
    let a = next.1.1.1 in
    (ops ++ take from added, a.kept, follows_at ops added from c.args.parts.now c.in-Operation.op a (stand_first added from c.in-Operation.op next.1.1.2))

pub apply_run-requires : goal.apply_run-requires
apply_run-requires c = subst (λ (l : Line). AreAcceptedNext (ops_of l) c.args.parts.now) c.in-Run.is c.requires

pub returns-in-Operation : goal.returns-in-Operation
returns-in-Operation c =
    let op = c.in-Operation.op in
    subst (λ (l : Line). Applies (ops_of l) c.args.parts.now c.add.new.self c.add.result) (sym c.in-Operation.is) (λ ops added from a stand.
    let here = stand_first added from op stand in
    applied_one ops added from c.args.parts.now c.add.new.self op c.add.result a here (c.add.ensures (ops ++ take from added) a.kept (follows_at ops added from c.args.parts.now op a here)))

pub returns-in-Run : goal.returns-in-Run
returns-in-Run c = subst (λ (l : Line). Applies (ops_of l) c.args.parts.now c.apply_run.new.parts c.apply_run.result) (sym c.in-Run.is) c.apply_run.ensures

pub apply_removals-requires : goal.apply_removals-requires
apply_removals-requires c = subst (λ (l : Line). AreAcceptedNext (ops_of l) c.args.parts.now) c.in-Removals.is c.requires

pub returns-in-Removals : goal.returns-in-Removals
returns-in-Removals c = subst (λ (l : Line). Applies (ops_of l) c.args.parts.now c.apply_removals.new.parts c.apply_removals.result) (sym c.in-Removals.is) c.apply_removals.ensures

pub apply_revivals-requires : goal.apply_revivals-requires
apply_revivals-requires c = subst (λ (l : Line). AreAcceptedNext (ops_of l) c.args.parts.now) c.in-Revivals.is c.requires

pub returns-in-Revivals : goal.returns-in-Revivals
returns-in-Revivals c = subst (λ (l : Line). Applies (ops_of l) c.args.parts.now c.apply_revivals.new.parts c.apply_revivals.result) (sym c.in-Revivals.is) c.apply_revivals.ensures

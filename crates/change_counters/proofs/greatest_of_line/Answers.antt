use Rattle.std.proofs.Common.{◌≡◌, ◌+◌, ◌-◌, ◌≤◌, length, arith, rules, sym, ap, ◌∙◌}
use Rattle.change_ops.specs.Lines.{ops_of}
use Rattle.change_ops.specs.declared.id.OpId.{OpId}
use Rattle.change_ops.specs.declared.line.Line.{Line}
use Rattle.change_counters.specs.Counters.{greatest_counter}
use Rattle.change_counters.proofs.Greatest.{greatest_of_one, greatest_of_run, greatest_of_removals, greatest_of_revivals}
use Rattle.change_counters.proofs.greatest_of_line.Goals as goal

pub returns-in-Operation : goal.returns-in-Operation
returns-in-Operation c =
    c.counter.ensures.value
    ∙ ap (λ (i : OpId). i.counter) c.id.ensures
    ∙ sym (greatest_of_one c.in-Operation.op)
    ∙ ap (λ (l : Line). greatest_counter (ops_of l)) (sym c.in-Operation.is)

pub returns-in-Run : goal.returns-in-Run
returns-in-Run c =
    let run = c.in-Run.run' in
    let some : 2 ≤ length run.characters = search rules in
    let counter : c.counter-in-Run.result ≡ run.id.counter = c.counter-in-Run.ensures.value ∙ ap (λ (i : OpId). i.counter) c.id-in-Run.ensures in
    greatest_of_run run.characters run.id run.parent _ (omega (arith, some)) (omega (arith, counter, ap (λ l. length l) c.characters.ensures.value))
    ∙ ap (λ (l : Line). greatest_counter (ops_of l)) (sym c.in-Run.is)

pub returns-in-Removals : goal.returns-in-Removals
returns-in-Removals c =
    let run = c.in-Removals.run' in
    greatest_of_removals run.count run.id run.first _ c.last_counter.ensures.some c.last_counter.ensures.value
    ∙ ap (λ (l : Line). greatest_counter (ops_of l)) (sym c.in-Removals.is)

pub returns-in-Revivals : goal.returns-in-Revivals
returns-in-Revivals c =
    let run = c.in-Revivals.run' in
    greatest_of_revivals run.count run.id run.first _ c.last_counter-in-Revivals.ensures.some c.last_counter-in-Revivals.ensures.value
    ∙ ap (λ (l : Line). greatest_counter (ops_of l)) (sym c.in-Revivals.is)

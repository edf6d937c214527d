use Rattle.std.proofs.Common.{◌≡◌, ◌<◌, ◌≤◌, None, Option, length, ◌∙◌, rules, arith}
use Rattle.abstract_state.proofs.Lists.{written_at, beyond}
use Rattle.value_marks.specs.declared.mark.Mark.{Mark}
use Rattle.value_marks.specs.Mark.{mark_at}
use Rattle.value_marks.specs.Marking.{mark_of_both}
use Rattle.value_marks.proofs.Both.{joined_here}
use Rattle.value_marks.proofs.join.join_slots.Goals as goal

pub loop-i-preserved : goal.loop-i-preserved
loop-i-preserved c =
    let i = c.loop-i.i in
    let within : i < length c.loop-i.a = omega arith in
    let second : i < length c.args.b.now = omega (arith, c.told-b) in
    record {
      long = search rules;
      done = λ k h.
          written_at c.loop-i.a i k c.mark_of_both.result None (λ (v : Option Mark). v ≡ mark_of_both (mark_at c.args.a.now k) (mark_at c.args.b.now k)) within h
          (λ e. joined_here c.loop-i.a c.args.b.now c.args.a.now i k _ _ c.mark_of_both.result c.mark_of_both.ensures within second e (let from : i ≤ k = omega arith in c.loop-i.invariant.rest k from))
          (λ less. c.loop-i.invariant.done k less);
      rest = λ k h. beyond c.loop-i.a i k c.mark_of_both.result None h ∙ c.loop-i.invariant.rest k (omega arith);
    }

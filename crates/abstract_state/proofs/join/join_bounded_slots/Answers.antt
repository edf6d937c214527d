use Rattle.std.proofs.Common.{◌≡◌, ◌<◌, ◌≤◌, ℕ, length, get_or, [], subst, sym, ◌∙◌, rules, arith}
use Rattle.abstract_state.specs.declared.slot.Slot.{Slot}
use Rattle.abstract_state.specs.declared.slot.Slot.TheVariants.{Marks}
use Rattle.abstract_state.specs.Kinds.{JoinsSlot}
use Rattle.abstract_state.specs.State.{ContainsSlot, slot_at}
use Rattle.abstract_state.specs.Stacks.{eight_of, slots_of, either_eight}
use Rattle.abstract_state.specs.Situation.{bounded_eight, least_of}
use Rattle.abstract_state.proofs.Lists.{written_at, read_again, beyond}
use Rattle.abstract_state.proofs.join.join_bounded_slots.Goals as goal

pub loop-i-preserved : goal.loop-i-preserved
loop-i-preserved c =
    let within : c.loop-i.i < length c.loop-i.a = omega arith in
    let second : c.loop-i.i < length c.args.b.now = omega (arith, c.told-b) in
    let before = λ (k : ℕ) (e : k ≡ c.loop-i.i).
    let from : c.loop-i.i ≤ k = omega arith in
    sym (c.loop-i.invariant.rest k from) ∙ read_again c.loop-i.a c.loop-i.i k (Marks []) c.index-a-i.result within e in
    record {
      long = search rules;
      left = λ k lengths bytes is h s.
          written_at c.loop-i.a c.loop-i.i k c.join_bounded_slot.result (Marks []) (λ (v : Slot). ContainsSlot v lengths bytes k) within h
          (λ e. c.join_bounded_slot.ensures.left lengths bytes k is (subst (λ (v : Slot). ContainsSlot v lengths bytes k) (before k e) s))
          (λ less. c.loop-i.invariant.left k lengths bytes is less s);
      right = λ k lengths bytes is h s.
          written_at c.loop-i.a c.loop-i.i k c.join_bounded_slot.result (Marks []) (λ (v : Slot). ContainsSlot v lengths bytes k) within h
          (λ e. c.join_bounded_slot.ensures.right lengths bytes k is (subst (λ (v : Slot). ContainsSlot v lengths bytes k) (read_again c.args.b.now c.loop-i.i k (Marks []) _ second e) s))
          (λ less. c.loop-i.invariant.right k lengths bytes is less s);
      joins = λ k h.
          written_at c.loop-i.a c.loop-i.i k c.join_bounded_slot.result (Marks []) (λ (v : Slot). JoinsSlot (slot_at c.args.a.now k) (slot_at c.args.b.now k) v) within h
          (λ e. subst (λ (v : Slot). JoinsSlot v (slot_at c.args.b.now k) c.join_bounded_slot.result) (sym (before k e))
          (subst (λ (v : Slot). JoinsSlot (get_or c.loop-i.a c.loop-i.i c.index-a-i.result) v c.join_bounded_slot.result) (sym (read_again c.args.b.now c.loop-i.i k (Marks []) c.index-b-i.result second e)) c.join_bounded_slot.ensures.joins))
          (λ less. c.loop-i.invariant.joins k less);
      rule = λ k h.
          written_at c.loop-i.a c.loop-i.i k c.join_bounded_slot.result (Marks []) (λ (v : Slot). eight_of v ≡ either_eight (bounded_eight (least_of c.args.ours) (slots_of c.args.a.now k)) (bounded_eight (least_of c.args.theirs) (slots_of c.args.b.now k))) within h
          (λ e. subst (λ (v : Slot). eight_of c.join_bounded_slot.result ≡ either_eight (bounded_eight (least_of c.args.ours) (eight_of v)) (bounded_eight (least_of c.args.theirs) (slots_of c.args.b.now k))) (sym (before k e))
          (subst (λ (v : Slot). eight_of c.join_bounded_slot.result ≡ either_eight (bounded_eight (least_of c.args.ours) (eight_of (get_or c.loop-i.a c.loop-i.i c.index-a-i.result))) (bounded_eight (least_of c.args.theirs) (eight_of v))) (sym (read_again c.args.b.now c.loop-i.i k (Marks []) c.index-b-i.result second e)) c.join_bounded_slot.ensures.rule))
          (λ less. c.loop-i.invariant.rule k less);
      rest = λ k h. beyond c.loop-i.a c.loop-i.i k c.join_bounded_slot.result (Marks []) h ∙ c.loop-i.invariant.rest k (omega arith);
    }

pub returns-clause-rule : goal.returns-clause-rule
returns-clause-rule c = λ i h. c.loop-i.invariant.rule i (omega (arith, c.loop-i-test.false))

use Rattle.std.proofs.Common.{◌≡◌, ◌*◌, ◌<◌, ◌≤◌, ℕ, length, get_or, [], subst, sym, ap, ◌∙◌, rules, arith}
use Rattle.abstract_state.specs.declared.slot.Slot.{Slot}
use Rattle.abstract_state.specs.declared.slot.Slot.TheVariants.{Marks}
use Rattle.abstract_state.specs.Frame.{StoresSlot}
use Rattle.abstract_state.specs.State.{ContainsSlot, slot_at}
use Rattle.abstract_state.specs.Stacks.{eight_of, slots_of, stored, stored_eight}
use Rattle.abstract_state.proofs.Lists.{written_at, read_again, beyond}
use Rattle.abstract_state.proofs.stack.overwrite.Goals as goal

pub returns-clause-contains : goal.returns-clause-contains
returns-clause-contains c = λ lengths old new s spares fills i h. c.loop-i.invariant.done i lengths old new (omega (arith, c.loop-i-test.false)) (s i h) spares fills

pub returns-clause-stores : goal.returns-clause-stores
returns-clause-stores c = λ i h. c.loop-i.invariant.stores i (omega (arith, c.loop-i-test.false))

pub returns-clause-rule : goal.returns-clause-rule
returns-clause-rule c = λ i h. c.loop-i.invariant.rule i (omega (arith, c.loop-i-test.false))

pub loop-i-preserved : goal.loop-i-preserved
loop-i-preserved c =
    let within : c.loop-i.i < length c.loop-i.slots = omega arith in
    let before = λ (k : ℕ) (e : k ≡ c.loop-i.i).
    let from : c.loop-i.i ≤ k = omega arith in
    sym (c.loop-i.invariant.rest k from) ∙ read_again c.loop-i.slots c.loop-i.i k (Marks []) c.index-slots-i.result within e in
    record {
      long = search rules;
      done = λ k lengths old new h s spares fills.
          written_at c.loop-i.slots c.loop-i.i k c.rewritten.result (Marks []) (λ (v : Slot). ContainsSlot v lengths new k) within h
          (λ e. c.rewritten.ensures.contains lengths old new k (sym (ap (λ (n : ℕ). 8 * n) e)) (subst (λ (v : Slot). ContainsSlot v lengths old k) (before k e) s) spares fills)
          (λ less. c.loop-i.invariant.done k lengths old new less s spares fills);
      stores = λ k h.
          written_at c.loop-i.slots c.loop-i.i k c.rewritten.result (Marks []) (λ (v : Slot). StoresSlot c.args.offset c.args.count k (slot_at c.args.slots.now k) v) within h
          (λ e. subst (λ (v : Slot). StoresSlot c.args.offset c.args.count k v c.rewritten.result) (sym (before k e)) (c.rewritten.ensures.stores k (sym (ap (λ (n : ℕ). 8 * n) e))))
          (λ less. c.loop-i.invariant.stores k less);
      rule = λ k h.
          written_at c.loop-i.slots c.loop-i.i k c.rewritten.result (Marks []) (λ (v : Slot). eight_of v ≡ stored c.args.offset c.args.count (slots_of c.args.slots.now) k) within h
          (λ e. subst (λ (v : Slot). eight_of c.rewritten.result ≡ stored_eight (8 * k) c.args.offset c.args.count (eight_of v)) (sym (before k e))
          (subst (λ (n : ℕ). eight_of c.rewritten.result ≡ stored_eight (8 * n) c.args.offset c.args.count (eight_of (get_or c.loop-i.slots c.loop-i.i c.index-slots-i.result))) (sym e) c.rewritten.ensures.rule))
          (λ less. c.loop-i.invariant.rule k less);
      rest = λ k h. beyond c.loop-i.slots c.loop-i.i k c.rewritten.result (Marks []) h ∙ c.loop-i.invariant.rest k (omega arith);
    }

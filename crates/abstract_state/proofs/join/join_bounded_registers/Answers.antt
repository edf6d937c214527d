use Rattle.std.proofs.Common.{◌≡◌, ◌<◌, ◌≤◌, ℕ, length, get_or, option_map, subst, sym, ◌∙◌, rules, arith}
use Rattle.abstract_state.specs.declared.state.AbsReg.{AbsReg}
use Rattle.abstract_state.specs.declared.state.AbsReg.TheVariants.{Unset}
use Rattle.abstract_state.specs.Kinds.{JoinsReg}
use Rattle.abstract_state.specs.State.{ContainsRegister, register_at}
use Rattle.abstract_state.specs.Situation.{registers_of, register_of, either_register, bounded, least_of}
use Rattle.abstract_state.proofs.Lists.{written_at, read_again, beyond}
use Rattle.abstract_state.proofs.join.join_bounded_registers.Goals as goal

pub loop-i-preserved : goal.loop-i-preserved
loop-i-preserved c =
    let within : c.loop-i.i < length c.loop-i.a = omega arith in
    let second : c.loop-i.i < length c.args.b.now = omega (arith, c.told-b) in
    let before = λ (k : ℕ) (e : k ≡ c.loop-i.i).
    let from : c.loop-i.i ≤ k = omega arith in
    sym (c.loop-i.invariant.rest k from) ∙ read_again c.loop-i.a c.loop-i.i k Unset c.index-a-i.result within e in
    record {
      long = search rules;
      kinds = λ k h.
          written_at c.loop-i.a c.loop-i.i k c.join_bounded_register.result Unset (λ (v : AbsReg). JoinsReg (register_at c.args.a.now k) (register_at c.args.b.now k) v) within h
          (λ e. subst (λ (v : AbsReg). JoinsReg v (register_at c.args.b.now k) c.join_bounded_register.result) (sym (before k e))
          (subst (λ (v : AbsReg). JoinsReg (get_or c.loop-i.a c.loop-i.i c.index-a-i.result) v c.join_bounded_register.result) (sym (read_again c.args.b.now c.loop-i.i k Unset c.index-b-i.result second e)) c.join_bounded_register.ensures.kinds))
          (λ less. c.loop-i.invariant.kinds k less);
      rule = λ k h.
          written_at c.loop-i.a c.loop-i.i k c.join_bounded_register.result Unset (λ (v : AbsReg). register_of v ≡ either_register (option_map (bounded (least_of c.args.ours)) (registers_of c.args.a.now k)) (option_map (bounded (least_of c.args.theirs)) (registers_of c.args.b.now k))) within h
          (λ e. subst (λ (v : AbsReg). register_of c.join_bounded_register.result ≡ either_register (option_map (bounded (least_of c.args.ours)) (register_of v)) (option_map (bounded (least_of c.args.theirs)) (registers_of c.args.b.now k))) (sym (before k e))
          (subst (λ (v : AbsReg). register_of c.join_bounded_register.result ≡ either_register (option_map (bounded (least_of c.args.ours)) (register_of (get_or c.loop-i.a c.loop-i.i c.index-a-i.result))) (option_map (bounded (least_of c.args.theirs)) (register_of v))) (sym (read_again c.args.b.now c.loop-i.i k Unset c.index-b-i.result second e)) c.join_bounded_register.ensures.rule))
          (λ less. c.loop-i.invariant.rule k less);
      left = λ k lengths o is h s.
          written_at c.loop-i.a c.loop-i.i k c.join_bounded_register.result Unset (λ (v : AbsReg). ContainsRegister v lengths o) within h
          (λ e. c.join_bounded_register.ensures.left lengths o is (subst (λ (v : AbsReg). ContainsRegister v lengths o) (before k e) s))
          (λ less. c.loop-i.invariant.left k lengths o is less s);
      right = λ k lengths o is h s.
          written_at c.loop-i.a c.loop-i.i k c.join_bounded_register.result Unset (λ (v : AbsReg). ContainsRegister v lengths o) within h
          (λ e. c.join_bounded_register.ensures.right lengths o is (subst (λ (v : AbsReg). ContainsRegister v lengths o) (read_again c.args.b.now c.loop-i.i k Unset _ second e) s))
          (λ less. c.loop-i.invariant.right k lengths o is less s);
      rest = λ k h. beyond c.loop-i.a c.loop-i.i k c.join_bounded_register.result Unset h ∙ c.loop-i.invariant.rest k (omega arith);
    }

pub returns-clause-rule : goal.returns-clause-rule
returns-clause-rule c = λ i h. c.loop-i.invariant.rule i (omega (arith, c.loop-i-test.false))

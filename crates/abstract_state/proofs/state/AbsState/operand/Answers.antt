use Rattle.std.proofs.Common.{◌≡◌, None, Ok, ℕ, ℤ, pos, refl, subst, sym, ap, ◌∙◌, rules, arith}
use Rattle.std.proofs.lemmas.Int.{to_z-of_z}
use Rattle.std.specs.Int.{w32, w64, cast_unsigned}
use mir.Val.{SFits}
use Rattle.std.proofs.lemmas.Result.{IfOk-weaker}
use Rattle.semantics.specs.State.{operand_in}
use Rattle.abstract_state.specs.Exact.{Holds, IsIn, NumberIn}
use Rattle.bpf_words.specs.declared.instruction.Operand.{Operand}
use Rattle.abstract_state.specs.Guard.{IsOperand}
use Rattle.abstract_state.specs.State.{register_at}
use Rattle.std.specs.Result.{IfOk, IfErr}
use Rattle.abstract_state.specs.Unset.{HasUnset}
use Rattle.abstract_state.specs.declared.refusal.Refusal.TheVariants.{UnsetRegister}
use Rattle.bpf_words.specs.Flow.{read_operand}
use Rattle.abstract_state.proofs.state.AbsState.operand.Goals as goal

pub returns-in-Immediate-clause-sound : goal.returns-in-Immediate-clause-sound
returns-in-Immediate-clause-sound c = λ lengths s a.
    let fits : SFits w32 c.in-Immediate.value = search rules in
    let same = to_z-of_z w32 c.in-Immediate.value fits in
    (c.extended.result, ap (operand_in s) c.in-Immediate.is ∙ ap (λ (z : ℤ). Ok (cast_unsigned w64 z)) (sym same) ∙ ap (λ (n : ℕ). Ok n) (sym c.extended.ensures), c.constant.ensures.contains lengths)

pub returns-in-Source-clause-sound : goal.returns-in-Source-clause-sound
returns-in-Source-clause-sound c = IfOk-weaker c.read.result _ _ (λ k h lengths s a. let there = h lengths s a in (there.0, ap (operand_in s) c.in-Source.is ∙ there.1, there.2)) c.read.ensures.sound

pub returns-in-Source-clause-holds : goal.returns-in-Source-clause-holds
returns-in-Source-clause-holds c = λ r fact e h.
    let same : r ≡ c.in-Source.register = cc in
    c.read.ensures.holds fact (subst (λ (k : ℕ). Holds fact (register_at c.args.self.now.registers k)) same h)

pub returns-in-Immediate-clause-constant : goal.returns-in-Immediate-clause-constant
returns-in-Immediate-clause-constant c = λ region k e small.
    let fits : SFits w32 c.in-Immediate.value = search rules in
    let value : c.in-Immediate.value ≡ pos k = cc in
    let is : c.extended.result ≡ k = c.extended.ensures ∙ ap (cast_unsigned w64) (to_z-of_z w32 c.in-Immediate.value fits ∙ value) ∙ omega arith in
    (refl, subst (λ (v : ℕ). IsIn region c.constant.result v v None) is (c.constant.ensures.is region))

pub returns-in-Immediate-clause-one : goal.returns-in-Immediate-clause-one
returns-in-Immediate-clause-one c = λ region n e.
    let fits : SFits w32 c.in-Immediate.value = search rules in
    let same = to_z-of_z w32 c.in-Immediate.value fits in
    let given = subst (λ (o : Operand). IsOperand region c.args.self.now o n) c.in-Immediate.is e in
    (refl, subst (λ (v : ℕ). IsIn region c.constant.result v v None) (c.extended.ensures ∙ ap (cast_unsigned w64) same ∙ sym given) (c.constant.ensures.is region))

pub returns-in-Source-clause-one : goal.returns-in-Source-clause-one
returns-in-Source-clause-one c = λ region n h. c.read.ensures.holds (NumberIn region n n None) (subst (λ (o : Operand). IsOperand region c.args.self.now o n) c.in-Source.is h)

pub returns-in-Immediate-clause-set : goal.returns-in-Immediate-clause-set
returns-in-Immediate-clause-set c = λ unset. subst (λ (o : Operand). HasUnset c.args.self.now (read_operand o)) c.in-Immediate.is unset

pub returns-in-Source-clause-unset : goal.returns-in-Source-clause-unset
returns-in-Source-clause-unset c = subst (λ (o : Operand). IfErr c.read.result (λ e. (e ≡ UnsetRegister) × HasUnset c.args.self.now (read_operand o))) (sym c.in-Source.is) c.read.ensures.unset

pub returns-in-Source-clause-set : goal.returns-in-Source-clause-set
returns-in-Source-clause-set c = subst (λ (o : Operand). IfOk c.read.result (λ _. HasUnset c.args.self.now (read_operand o) → ⊥)) (sym c.in-Source.is) c.read.ensures.set

use Rattle.std.proofs.Common.{rules, ◌≡◌, ℕ, ℤ, refl, sym, ap, ◌∙◌, subst}
use Rattle.std.proofs.lemmas.Result.{IfOk-weaker}
use Rattle.std.proofs.lemmas.Int.{to_z-of_z}
use Rattle.bpf_words.specs.declared.instruction.Operand.{Operand}
use Rattle.semantics.specs.State.{operand_in}
use Rattle.semantics.specs.Value.{cut}
use Rattle.std.specs.Int.{w32, w64, cast_unsigned}
use mir.Val.{SFits}
use Rattle.abstract_state.specs.Branch.{ReadsAs}
use Rattle.abstract_state.specs.Exact.{Holds}
use Rattle.abstract_state.specs.State.{register_at}
use Rattle.std.specs.Result.{IfOk, IfErr}
use Rattle.abstract_state.specs.Unset.{HasUnset}
use Rattle.abstract_state.specs.declared.refusal.Refusal.TheVariants.{UnsetRegister}
use Rattle.bpf_words.specs.Flow.{read_operand}
use Rattle.abstract_state.proofs.state.AbsState.right_side.Goals as goal

pub returns-in-Immediate-clause-sound : goal.returns-in-Immediate-clause-sound
returns-in-Immediate-clause-sound c = λ lengths s held.
    let there = c.compared.ensures.contains lengths in
    let fits : SFits w32 c.in-Immediate.value = search rules in
    let same = to_z-of_z w32 c.in-Immediate.value fits in (
      cast_unsigned w64 c.in-Immediate.value,
      (
        there.0,
        ap (operand_in s) c.in-Immediate.is,
        there.1 ∙ ap (λ (z : ℤ). cut c.args.width (cast_unsigned w64 z)) same,
        subst (λ (o : Operand). ReadsAs s o there.0) (sym c.in-Immediate.is) tt,
        there.2,
      ),
    )

pub returns-in-Source-clause-sound : goal.returns-in-Source-clause-sound
returns-in-Source-clause-sound c = IfOk-weaker c.read.result _ _
    (λ k h lengths s held.
    let there = h lengths s held in
    (there.0, (there.0, ap (operand_in s) c.in-Source.is ∙ there.1, refl, subst (λ (o : Operand). ReadsAs s o there.0) (sym c.in-Source.is) there.1, there.2)))
    c.read.ensures.sound

pub returns-in-Source-clause-holds : goal.returns-in-Source-clause-holds
returns-in-Source-clause-holds c = λ r fact e h.
    let same : r ≡ c.in-Source.register = cc in
    c.read.ensures.holds fact (subst (λ (k : ℕ). Holds fact (register_at c.args.self.now.registers k)) same h)

pub returns-in-Immediate-clause-set : goal.returns-in-Immediate-clause-set
returns-in-Immediate-clause-set c = λ unset. subst (λ (o : Operand). HasUnset c.args.self.now (read_operand o)) c.in-Immediate.is unset

pub returns-in-Source-clause-unset : goal.returns-in-Source-clause-unset
returns-in-Source-clause-unset c = subst (λ (o : Operand). IfErr c.read.result (λ e. (e ≡ UnsetRegister) × HasUnset c.args.self.now (read_operand o))) (sym c.in-Source.is) c.read.ensures.unset

pub returns-in-Source-clause-set : goal.returns-in-Source-clause-set
returns-in-Source-clause-set c = subst (λ (o : Operand). IfOk c.read.result (λ _. HasUnset c.args.self.now (read_operand o) → ⊥)) (sym c.in-Source.is) c.read.ensures.set

use Rattle.std.proofs.Common.{refl, ◌∙◌, subst, sym}
use Rattle.abstract_state.proofs.Guards.{compute_rows}
use Rattle.bpf_words.specs.declared.instruction.Arithmetic.{Arithmetic}
use Rattle.bpf_words.specs.declared.instruction.Insn.TheVariants.{Compute}
use Rattle.abstract_state.specs.State.{StepsBy}
use Rattle.abstract_state.specs.Exact.{Folds}
use Rattle.abstract_state.specs.Performs.{Performs}
use Rattle.abstract_state.specs.Situation.{situation_of, AnswersStep}
use Rattle.abstract_state.specs.Stepping as rules
use Rattle.abstract_state.proofs.Stepping.{no_move}
use Rattle.abstract_state.proofs.state.AbsState.arithmetic.Goals as goal

pub returns-in-Mov-clause-performs : goal.returns-in-Mov-clause-performs
returns-in-Mov-clause-performs c =
    subst (λ (operation : Arithmetic). Performs StepsBy c.args.self.now (Compute c.args.width operation c.args.destination c.args.operand) c.move_to.result c.move_to.new.self) (sym c.in-Mov.is) c.move_to.ensures.performs

pub returns-in_default-clause-performs : goal.returns-in_default-clause-performs
returns-in_default-clause-performs c = c.compute.ensures.performs

pub returns-in-Mov-clause-yields : goal.returns-in-Mov-clause-yields
returns-in-Mov-clause-yields c = λ d fact y.
    compute_rows c.args.profile c.args.self.now _ d fact c.args.width c.args.operation c.args.destination c.args.operand c.move_to.result c.move_to.new.self y refl
    (λ region r n t w o e h. c.move_to.ensures.lent region r n t w e h)
    (λ region k n t w o e h near. let bad = sym o ∙ c.in-Mov.is in absurd (cc))
    (λ r known w o e h. c.move_to.ensures.moves r known w e h)
    (λ region n w o h. c.move_to.ensures.copies region n w h)
    (λ region m n w f h o. absurd (subst (λ (op : Arithmetic). Folds op m n) c.in-Mov.is f))

pub returns-in_default-clause-yields : goal.returns-in_default-clause-yields
returns-in_default-clause-yields c = λ d fact y.
    compute_rows c.args.profile c.args.self.now _ d fact c.args.width c.args.operation c.args.destination c.args.operand c.compute.result c.compute.new.self y refl
    (λ region r n t w o e h. absurd (c.in_default.not-Mov o))
    (λ region k n t w o e h near. c.compute.ensures.adds region k n t w o e h near)
    (λ r known w o e h. absurd (c.in_default.not-Mov o))
    (λ region n w o h. absurd (c.in_default.not-Mov o))
    (λ region m n w f h o. c.compute.ensures.folds region m n w f h o)

pub returns-in-Mov-clause-rule : goal.returns-in-Mov-clause-rule
unfolding rules.arithmetic
returns-in-Mov-clause-rule c =
    subst (λ (operation : Arithmetic). AnswersStep (rules.arithmetic c.args.profile c.args.width operation c.args.destination c.args.operand (situation_of c.args.self.now)) c.move_to.result c.move_to.new.self) (sym c.in-Mov.is) c.move_to.ensures.rule

pub returns-in_default-clause-rule : goal.returns-in_default-clause-rule
returns-in_default-clause-rule c =
    subst (λ (r : rules.Outcome). AnswersStep r c.compute.result c.compute.new.self) (no_move c.args.profile c.args.width c.args.operation c.args.destination c.args.operand (situation_of c.args.self.now) c.in_default.not-Mov) c.compute.ensures.rule

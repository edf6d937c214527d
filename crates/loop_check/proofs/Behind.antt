-- What is known behind a step from a copy of what is known before it.
use Rattle.std.proofs.Common.{◌≡◌, Option, Some, None, Result, Ok, Err, option_map, refl, sym, ap, subst, ◌∙◌}
use Rattle.bpf_words.specs.declared.instruction.Insn.{Insn}
use Rattle.semantics.specs.State.{State}
use Rattle.abstract_state.specs.declared.refusal.Refusal.{Refusal}
use Rattle.abstract_state.specs.declared.state.AbsState.{AbsState}
use Rattle.abstract_state.specs.declared.step.Flow.{Flow}
use Rattle.abstract_state.specs.declared.step.Flow.TheVariants.{Live, Dead}
use Rattle.abstract_state.specs.Lent.{Lengths}
use Rattle.abstract_state.specs.State.{lengths_of, Contains}
use Rattle.abstract_state.specs.Situation.{situation_of}
use Rattle.value_marks.specs.declared.marks.Marks.{Marks}
use Rattle.value_marks.specs.Marking.{marking_of}
use Rattle.value_marks.specs.Copies.{kept}
use Rattle.tracked_state.specs.declared.state.TrackedState.{TrackedState}
use Rattle.tracked_state.specs.declared.stop.Stop.TheVariants.{Refused}
use Rattle.tracked_state.specs.Tracked.{TrackedSituation, tracked, marking_in, tracked_of}
use Rattle.tracked_state.specs.Tracking.{after_tracked, AnswersTrackedStep}
use Rattle.loop_states.specs.Contained.{BearIn, ContainsInLoop, StepsInLoop}
use Rattle.loop_check.specs.Leads.{AnswersBehind}

-- ---- a copy
same_tracked : (a b : TrackedState) → a.state ≡ b.state → kept a.copies ≡ kept b.copies → tracked_of a ≡ tracked_of b
same_tracked a b one other =
    ap (λ (x : AbsState). tracked (marking_in a) (situation_of x)) one
    ∙ ap (λ (o : Option Marks). tracked (option_map marking_of o) (situation_of b.state)) other

same_held : (a b : TrackedState) → a.state ≡ b.state → kept a.copies ≡ kept b.copies → (lengths : Lengths) (s : State)
    → ContainsInLoop b lengths s → ContainsInLoop a lengths s
same_held a b one other lengths s held = record {
  state = subst (λ (x : AbsState). Contains x lengths s) (sym one) held.state;
  marks = subst (λ (o : Option Marks). BearIn lengths o s) (sym other) held.marks;
}

pub steps_from : (a b : TrackedState) (insn : Insn) (behind : Option TrackedState) → a.state ≡ b.state
    → kept a.copies ≡ kept b.copies → StepsInLoop a insn behind → StepsInLoop b insn behind
steps_from a b insn behind one other steps = λ span s third held.
    steps span s third (same_held a b one other (lengths_of span) s held)

-- ---- the answer
live_answers : (answer : Result Flow Refusal) (flow f : Flow) (a : TrackedState) → answer ≡ Ok flow → answer ≡ Ok f
    → f ≡ Live → after_tracked flow a ≡ Some a
live_answers answer Live f a one other live = refl
live_answers answer Dead f a one other live = absurd (cc)

dead_answers : (answer : Result Flow Refusal) (flow f : Flow) (a : TrackedState) → answer ≡ Ok flow → answer ≡ Ok f
    → f ≡ Dead → after_tracked flow a ≡ None
dead_answers answer Live f a one other dead = absurd (cc)
dead_answers answer Dead f a one other dead = refl

same_refusal : (answer : Result Flow Refusal) (one other : Refusal) → answer ≡ Err one → answer ≡ Err other → one ≡ other
same_refusal answer one other e f = cc

answers_ok : (rule : Result (Option TrackedSituation) Refusal) (flow : Flow) (a : TrackedState)
    → AnswersTrackedStep rule (Ok flow) a → AnswersBehind rule (Ok (after_tracked flow a))
answers_ok (Ok None) flow a (f, same, dead) = (None, refl, dead_answers (Ok flow) flow f a refl same dead)
answers_ok (Ok (Some t)) flow a (f, same, (live, is)) =
    (Some t, refl, (a, live_answers (Ok flow) flow f a refl same live, is))
answers_ok (Err refusal) flow a answer = absurd (cc)

answers_err : (rule : Result (Option TrackedSituation) Refusal) (refusal : Refusal) (a : TrackedState)
    → AnswersTrackedStep rule (Err refusal) a → AnswersBehind rule (Err (Refused refusal))
answers_err (Ok None) refusal a (f, same, dead) = absurd (cc)
answers_err (Ok (Some t)) refusal a (f, same, rest) = absurd (cc)
answers_err (Err other) refusal a answer =
    ap (λ (r : Refusal). Err r) (same_refusal (Err refusal) other refusal answer refl)

pub answers_from : (a b : TrackedState) (rules : TrackedSituation → Result (Option TrackedSituation) Refusal)
    (flow : Flow) (next : TrackedState) → a.state ≡ b.state → kept a.copies ≡ kept b.copies
    → AnswersTrackedStep (rules (tracked_of a)) (Ok flow) next
    → AnswersBehind (rules (tracked_of b)) (Ok (after_tracked flow next))
answers_from a b rules flow next one other answers =
    subst (λ (t : TrackedSituation). AnswersBehind (rules t) (Ok (after_tracked flow next)))
    (same_tracked a b one other) (answers_ok (rules (tracked_of a)) flow next answers)

pub refuses_from : (a b : TrackedState) (rules : TrackedSituation → Result (Option TrackedSituation) Refusal)
    (refusal : Refusal) (next : TrackedState) → a.state ≡ b.state → kept a.copies ≡ kept b.copies
    → AnswersTrackedStep (rules (tracked_of a)) (Err refusal) next
    → AnswersBehind (rules (tracked_of b)) (Err (Refused refusal))
refuses_from a b rules refusal next one other answers =
    subst (λ (t : TrackedSituation). AnswersBehind (rules t) (Err (Refused refusal))) (same_tracked a b one other)
    (answers_err (rules (tracked_of a)) refusal next answers)

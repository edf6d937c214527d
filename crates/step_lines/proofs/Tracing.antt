-- How the text of a run's steps follows from what its first step gave.
use Rattle.std.proofs.Common.{◌≡◌, ℕ, zero, suc, ◌+◌, ◌-◌, ◌<◌, List, [], ◌++◌, Option, Some, Ok, Err, refl, sym, ap, ◌∙◌, sub-one, arith}
use Rattle.std.specs.Prelude.{slice_get}
use Rattle.std.proofs.lemmas.List.{append_assoc, append-nil}
use Rattle.span_context.specs.Context.{SpanBytes}
use Rattle.bpf_words.specs.declared.instruction.Insn.{Insn}
use Rattle.semantics.specs.declared.FaultKind.{FaultKind}
use Rattle.semantics.specs.State.{State}
use Rattle.semantics.specs.Step.{Program, Stepped, Next, Ends, step}
use Rattle.interpreter.proofs.Running.{goes-on, ends-here, faults-here, no-steps}
use Rattle.step_lines.specs.Steps.{slot_line, passed_line, text_after, steps_text}

first-step : (program : Program) (bytes : SpanBytes) (steps : ℕ) (state : State) → 0 < steps
    → steps_text program bytes steps state ≡ slot_line state.slot (slice_get program state.slot) ++ text_after bytes (slice_get program state.slot) (step program bytes state) (λ next. steps_text program bytes (steps - 1) next)
unfolding steps_text
first-step program bytes zero state h = absurd (omega arith)
first-step program bytes (suc steps) state h = rw sub-one refl

-- the same of what the step gave, behind an earlier text
told : (program : Program) (bytes : SpanBytes) (steps : ℕ) (state : State) (before : List ℕ) (entry : Option (Option Insn)) (given : Stepped) → 0 < steps → slice_get program state.slot ≡ entry → given ≡ step program bytes state
    → before ++ steps_text program bytes steps state ≡ (before ++ slot_line state.slot entry) ++ text_after bytes entry given (λ next. steps_text program bytes (steps - 1) next)
told program bytes steps state before entry given h stands gave =
    let rest = λ (next : State). steps_text program bytes (steps - 1) next in
    ap (λ (t : List ℕ). before ++ t) (first-step program bytes steps state h)
    ∙ ap (λ (e : Option (Option Insn)). before ++ (slot_line state.slot e ++ text_after bytes e (step program bytes state) rest)) stands
    ∙ ap (λ (g : Stepped). before ++ (slot_line state.slot entry ++ text_after bytes entry g rest)) (sym gave)
    ∙ sym (append_assoc before (slot_line state.slot entry) (text_after bytes entry given rest))

-- the text so far and what is still to be told of a run, of which a step from a slot is next
module _ (program : Program) (bytes lent : SpanBytes) (limit taken slot : ℕ) (state : State) (all before with_slot : List ℕ) (entry : Option Insn)
    (less : taken < limit) (lends : bytes ≡ lent) (here : slot ≡ state.slot) (stands : slice_get program slot ≡ Some entry)
    (so_far : all ≡ before ++ steps_text program lent (limit - taken) state) (slot_told : with_slot ≡ before ++ slot_line slot (Some entry)) where
  by-step : (given : Stepped) → given ≡ step program bytes state → all ≡ with_slot ++ text_after lent (Some entry) given (λ next. steps_text program lent (limit - taken - 1) next)
  by-step given gave =
      let some : 0 < limit - taken = omega arith in
      let rest = text_after lent (Some entry) given (λ next. steps_text program lent (limit - taken - 1) next) in
      so_far
      ∙ told program lent (limit - taken) state before (Some entry) given some (sym (ap (slice_get program) here) ∙ stands) (gave ∙ ap (λ (b : SpanBytes). step program b state) lends)
      ∙ ap (λ (n : ℕ). (before ++ slot_line n (Some entry)) ++ rest) (sym here)
      ∙ ap (λ (t : List ℕ). t ++ rest) (sym slot_told)

  pub told-on : (later : SpanBytes) (next : State) (with_line : List ℕ) → later ≡ bytes → Ok (Next next) ≡ step program bytes state → with_line ≡ with_slot ++ passed_line later next (Some entry)
      → all ≡ with_line ++ steps_text program lent (limit - (taken + 1)) next
  told-on later next with_line stays gave line_told =
      let fewer : limit - taken - 1 ≡ limit - (taken + 1) = omega arith in
      by-step (Ok (Next next)) gave
      ∙ sym (append_assoc with_slot (passed_line lent next (Some entry)) (steps_text program lent (limit - taken - 1) next))
      ∙ ap (λ (b : SpanBytes). (with_slot ++ passed_line b next (Some entry)) ++ steps_text program lent (limit - taken - 1) next) (sym (stays ∙ lends))
      ∙ ap (λ (t : List ℕ). t ++ steps_text program lent (limit - taken - 1) next) (sym line_told)
      ∙ ap (λ (n : ℕ). with_line ++ steps_text program lent n next) fewer

  pub told-end : (value : ℕ) → Ok (Ends value) ≡ step program bytes state → with_slot ≡ all
  told-end value gave = sym (by-step (Ok (Ends value)) gave ∙ append-nil with_slot)

  pub told-fault : (kind : FaultKind) → Err kind ≡ step program bytes state → with_slot ≡ all
  told-fault kind gave = sym (by-step (Err kind) gave ∙ append-nil with_slot)

-- where no step is left, all is told
pub told-all : (program : Program) (bytes : SpanBytes) (steps : ℕ) (state : State) (all before : List ℕ) → steps ≡ 0 → all ≡ before ++ steps_text program bytes steps state → before ≡ all
unfolding steps_text
told-all program bytes steps state all before none so_far =
    sym (so_far ∙ ap (λ (n : ℕ). before ++ steps_text program bytes n state) none ∙ append-nil before)

pub ruleset tracing = (told-all, goes-on, ends-here, faults-here, no-steps)

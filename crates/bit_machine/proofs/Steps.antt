-- Each step, and each run, is that of `semantics`.
use Rattle.std.proofs.Common.{◌≡◌, ℕ, zero, suc, pos, ◌^◌, ◌<◌, if◌then◌else◌, length, Option, Some, None, Result, Ok, Err, refl, ◌∙◌, ap}
use Rattle.std.specs.Prelude.{slice_get}
use Rattle.std.proofs.lemmas.List.Elements.{All-replicate}
use Rattle.span_context.specs.Context.{SpanBytes}
use Rattle.span_context.specs.declared.profile.Profile.{Profile}
use Rattle.bpf_words.specs.declared.instruction.Insn.{Insn}
use Rattle.bpf_words.specs.declared.instruction.Insn.TheVariants.{Compute, Negate, Extend, Convert, Jump, JumpLong, Branch, Load, LoadSigned, Store, LoadWide, Exit}
use Rattle.semantics.specs.declared.FaultKind.{FaultKind}
use Rattle.semantics.specs.declared.Outcome.{Outcome}
use Rattle.semantics.specs.State.{State, start, register_of, operand_in}
use Rattle.semantics.specs.Memory.{load, address_of, bytes_in_signed}
use Rattle.semantics.specs.Step.{Program, On, Next, Ends, Moved, Stepped, then_with, write_and_go, first_of, perform, land, step_at, step}
use Rattle.semantics.specs.Outcomes.{after, outcome_from, outcome}
use Rattle.semantics.specs.Safe.{IsSpanIn}
use Rattle.bit_machine.specs.Machine.{performs, steps_at, steps, run_from, run, LendsBytes, IsByte, HoldsBytes, LeadsToBytes, IsSignedLoad}
use Rattle.bit_machine.proofs.Operations.{arithmetic_agrees, negation_agrees, extension_agrees, signed_word_agrees, conversion_agrees, comparison_agrees}
use Rattle.bit_machine.proofs.Memory.{Reads, load_reads, step_bytes}

-- ---- an instruction
then_same : {A : Type 0} (first : Result A FaultKind) (f g : A → Moved) → ((a : A) → f a ≡ g a) → then_with first f ≡ then_with first g
then_same (Ok a) f g each = each a
then_same (Err kind) f g each = refl

then_below : (bound : ℕ) (first : Result ℕ FaultKind) (f g : ℕ → Moved) → Reads bound first → ((n : ℕ) → n < bound → f n ≡ g n) → then_with first f ≡ then_with first g
then_below bound (Ok n) f g below each = each n below
then_below bound (Err kind) f g below each = refl

pub record HoldBytes (bytes : SpanBytes) (state : State) : Type 0 where
  pub lends : LendsBytes bytes
  pub holds : HoldsBytes state

performs_is : (bytes : SpanBytes) (state : State) (insn : Insn) → (IsSignedLoad insn → HoldBytes bytes state) → performs bytes state insn ≡ perform bytes state insn
performs_is bytes state (Compute width operation destination operand) memory =
    then_same (first_of state operation destination) _ _ (λ a.
    then_same (operand_in state operand) _ _ (λ b.
    ap (λ n. write_and_go state destination n (pos 0)) (arithmetic_agrees operation width a b)))
performs_is bytes state (Negate width destination) memory =
    then_same (register_of state destination) _ _ (λ a.
    ap (λ n. write_and_go state destination n (pos 0)) (negation_agrees width a))
performs_is bytes state (Extend extension destination source) memory =
    then_same (register_of state source) _ _ (λ a.
    ap (λ n. write_and_go state destination n (pos 0)) (extension_agrees extension a))
performs_is bytes state (Convert conversion kept destination) memory =
    then_same (register_of state destination) _ _ (λ a.
    ap (λ n. write_and_go state destination n (pos 0)) (conversion_agrees conversion kept a))
performs_is bytes state (Jump distance) memory = refl
performs_is bytes state (JumpLong distance) memory = refl
performs_is bytes state (Branch width comparison left right distance) memory =
    then_same (register_of state left) _ _ (λ a.
    then_same (operand_in state right) _ _ (λ b.
    ap (λ holds. Ok (On state (if holds then distance else pos 0))) (comparison_agrees comparison width a b)))
performs_is bytes state (Load size destination base offset) memory = refl
performs_is bytes state (LoadSigned size destination base offset) memory =
    let known = memory tt in
    then_same (register_of state base) _ _ (λ address.
    then_below (256 ^ bytes_in_signed size) (load bytes state.stack (address_of address offset) (bytes_in_signed size)) _ _
    (load_reads bytes state.stack (address_of address offset) (bytes_in_signed size) known.lends known.holds) (λ number below.
    ap (λ n. write_and_go state destination n (pos 0)) (signed_word_agrees size number below)))
performs_is bytes state (Store size base offset operand) memory = refl
performs_is bytes state (LoadWide destination number) memory = refl
performs_is bytes state Exit memory = refl

pub unsigned_agrees : (bytes : SpanBytes) (state : State) (insn : Insn) → (IsSignedLoad insn → ⊥) → performs bytes state insn ≡ perform bytes state insn
unsigned_agrees bytes state insn other = performs_is bytes state insn (λ is. absurd (other is))

-- ---- a step
steps_at_is : (program : Program) (bytes : SpanBytes) (state : State) (slot : Option (Option Insn)) → LendsBytes bytes → HoldsBytes state → steps_at program bytes state slot ≡ step_at program bytes state slot
steps_at_is program bytes state (Some (Some insn)) lends holds =
    ap (λ moved. then_with moved (land program)) (performs_is bytes state insn (λ is. record { lends = lends; holds = holds }))
steps_at_is program bytes state (Some None) lends holds = refl
steps_at_is program bytes state None lends holds = refl

pub step_agrees : (program : Program) (bytes : SpanBytes) (state : State) → LendsBytes bytes → HoldsBytes state → steps program bytes state ≡ step program bytes state
step_agrees program bytes state lends holds = steps_at_is program bytes state (slice_get program state.slot) lends holds

-- ---- a run
after_same : (stepped : Stepped) (slot : ℕ) (f g : State → Outcome) → LeadsToBytes stepped → ((next : State) → HoldsBytes next → f next ≡ g next) → after stepped slot f ≡ after stepped slot g
after_same (Ok (Next next)) slot f g holds each = each next holds
after_same (Ok (Ends number)) slot f g holds each = refl
after_same (Err kind) slot f g holds each = refl

pub run_agrees : (program : Program) (bytes : SpanBytes) (count : ℕ) (state : State) → LendsBytes bytes → HoldsBytes state → run_from program bytes count state ≡ outcome_from program bytes count state
unfolding run_from outcome_from
run_agrees program bytes zero state lends holds = refl
run_agrees program bytes (suc count) state lends holds =
    ap (λ stepped. after stepped state.slot (λ next. run_from program bytes count next)) (step_agrees program bytes state lends holds)
    ∙ after_same (step program bytes state) state.slot (λ next. run_from program bytes count next) (λ next. outcome_from program bytes count next)
    (step_bytes program bytes state holds) (λ next also. run_agrees program bytes count next lends also)

pub start_bytes : HoldsBytes start
start_bytes = All-replicate IsByte 512 None tt

pub span_bytes : (profile : Profile) (bytes : SpanBytes) → IsSpanIn profile bytes → LendsBytes bytes
span_bytes profile bytes span =
    record { context = span.context_bytes; text = span.text_bytes; link = span.link_bytes }

pub outcome_agrees : (profile : Profile) (program : Program) (bytes : SpanBytes) → IsSpanIn profile bytes → run program bytes ≡ outcome program bytes
outcome_agrees profile program bytes span =
    run_agrees program bytes (length program) start (span_bytes profile bytes span) start_bytes

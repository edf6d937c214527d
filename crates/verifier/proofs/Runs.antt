-- One step of a run, from what its instruction does.
use Rattle.std.proofs.Common.{◌≡◌, ℕ, ◌+◌, ◌-◌, ◌<◌, ◌⊎◌, inl, inr, Bool, true, false, cond, if◌then◌else◌, List, length, Option, Some, None, Result, Ok, Err, refl, ap, ◌∙◌, subst, arith, eqb, set}
use Rattle.std.specs.Prelude.{ℤ, pos}
use Rattle.std.proofs.lemmas.Bool.{lt-ltb}
use Rattle.std.proofs.lemmas.Option.{slice_get_within}
use Rattle.span_context.specs.Context.{SpanBytes}
use Rattle.bpf_words.specs.declared.instruction.Insn.{Insn}
use Rattle.bpf_words.specs.declared.instruction.Insn.TheVariants.{Compute, Negate, Extend, Convert, Jump, JumpLong, Branch, Load, LoadSigned, Store, LoadWide, Exit}
use Rattle.bpf_words.specs.Flow.{StartsAt, jump_of}
use Rattle.semantics.specs.declared.FaultKind.{FaultKind}
use Rattle.semantics.specs.declared.FaultKind.TheVariants.{WriteR10}
use Rattle.semantics.specs.State.{State, register_of, operand_in}
use Rattle.semantics.specs.Value.{cut, value_of, negated, extended, converted, holds_of, with_sign}
use Rattle.semantics.specs.Memory.{address_of, load, store, bytes_in, bytes_in_signed}
use Rattle.semantics.specs.Step.{Program, Moved, On, Returns, Next, then_with, write_and_go, first_of, perform, land, step}
use Rattle.semantics.specs.Outcomes.{after, outcome_from}
use Rattle.semantics.proofs.Runs.{outcome_from-step}
use Rattle.tracked_state.specs.declared.state.TrackedState.{TrackedState}
use Rattle.abstract_state.specs.Lent.{Lengths}
use Rattle.abstract_state.specs.State.{Span, does}
use Rattle.value_marks.specs.declared.marks.Marks.{Marks}
use Rattle.value_marks.specs.Copies.{Bear, kept}
use Rattle.tracked_state.specs.Tracked.{WithinTracked}
use Rattle.verifier.specs.Walk.{ComesTo, Ends}

-- ---- an instruction leaves the slot to the program, and goes on forward or as its jump says
abbrev pub StaysAt : ℕ → Option ℤ → Moved → Type 0
StaysAt slot jump (Ok (On next distance)) = (next.slot ≡ slot) × (((n : ℕ) × (distance ≡ pos n)) ⊎ (jump ≡ Some distance))
StaysAt slot jump (Ok (Returns value)) = Unit {0}
StaysAt slot jump (Err kind) = Unit {0}

stays_then : {A : Type 0} (slot : ℕ) (jump : Option ℤ) (part : Result A FaultKind) (rest : A → Moved) → ((a : A) → StaysAt slot jump (rest a)) → StaysAt slot jump (then_with part rest)
stays_then slot jump (Ok a) rest h = h a
stays_then slot jump (Err kind) rest h = tt

stays_write : (s : State) (jump : Option ℤ) (register value n : ℕ) → StaysAt s.slot jump (write_and_go s register value (pos n))
stays_write s jump register value n =
    elim (eqb register 10) as (λ b. StaysAt s.slot jump (then_with (cond b (Err WriteR10) (Ok (record s { registers = set s.registers register (Some value) }))) (λ new. Ok (On new (pos n))))) [ true ↦ tt | false ↦ (refl, inl (n, refl)) ]

-- what is written and gone on with after one part, and after two
stays_one : {A : Type 0} (s : State) (jump : Option ℤ) (register : ℕ) (part : Result A FaultKind) (value : A → ℕ) → StaysAt s.slot jump (then_with part (λ a. write_and_go s register (value a) (pos 0)))
stays_one s jump register part value = stays_then s.slot jump part (λ a. write_and_go s register (value a) (pos 0)) (λ a. stays_write s jump register (value a) 0)

stays_two : {A B : Type 0} (s : State) (jump : Option ℤ) (register : ℕ) (first : Result A FaultKind) (second : A → Result B FaultKind) (value : A → B → ℕ) → StaysAt s.slot jump (then_with first (λ a. then_with (second a) (λ b. write_and_go s register (value a b) (pos 0))))
stays_two s jump register first second value =
    stays_then s.slot jump first (λ a. then_with (second a) (λ b. write_and_go s register (value a b) (pos 0))) (λ a. stays_one s jump register (second a) (value a))

-- a comparison goes on to the next instruction, or as its jump says
either_way : (holds : Bool) (distance : ℤ) → ((n : ℕ) × ((if holds then distance else pos 0) ≡ pos n)) ⊎ (Some distance ≡ Some (if holds then distance else pos 0))
either_way true distance = inr refl
either_way false distance = inl (0, refl)

pub stays : (bytes : SpanBytes) (s : State) (insn : Insn) → StaysAt s.slot (jump_of insn) (perform bytes s insn)
stays bytes s (Compute width operation destination operand) =
    stays_two s None destination (first_of s operation destination) (λ a. operand_in s operand) (λ a b. value_of operation width (cut width a) (cut width b))
stays bytes s (Negate width destination) = stays_one s None destination (register_of s destination) (λ a. negated width (cut width a))
stays bytes s (Extend extension destination source) = stays_one s None destination (register_of s source) (λ a. extended extension a)
stays bytes s (Convert conversion bits destination) = stays_one s None destination (register_of s destination) (λ a. converted conversion bits a)
stays bytes s (Jump distance) = (refl, inr refl)
stays bytes s (JumpLong distance) = (refl, inr refl)
stays bytes s (Branch width comparison left right distance) =
    let goes : ℕ → ℕ → Moved = λ a b. Ok (On s (if holds_of comparison width (cut width a) (cut width b) then distance else pos 0)) in
    stays_then s.slot (Some distance) (register_of s left) (λ a. then_with (operand_in s right) (goes a))
    (λ a. stays_then s.slot (Some distance) (operand_in s right) (goes a) (λ b. (refl, either_way (holds_of comparison width (cut width a) (cut width b)) distance)))
stays bytes s (Load size destination base offset) =
    stays_two s None destination (register_of s base) (λ address. load bytes s.stack (address_of address offset) (bytes_in size)) (λ address value. value)
stays bytes s (LoadSigned size destination base offset) =
    stays_two s None destination (register_of s base) (λ address. load bytes s.stack (address_of address offset) (bytes_in_signed size)) (λ address value. with_sign size value)
stays bytes s (Store size base offset operand) =
    let goes : List (Option ℕ) → Moved = λ stack. Ok (On (record s { stack = stack }) (pos 0)) in
    let stores : ℕ → ℕ → Result (List (Option ℕ)) FaultKind = λ address value. store bytes s.stack (address_of address offset) (bytes_in size) value in
    stays_then s.slot None (register_of s base) (λ address. then_with (operand_in s operand) (λ value. then_with (stores address value) goes))
    (λ address. stays_then s.slot None (operand_in s operand) (λ value. then_with (stores address value) goes) (λ value. stays_then s.slot None (stores address value) goes (λ stack. (refl, inl (0, refl)))))
stays bytes s (LoadWide destination value) = stays_write s None destination value 1
stays bytes s Exit = stays_then s.slot None (register_of s 0) (λ value. Ok (Returns value)) (λ value. tt)

pub stays_on : (span : Span) (s next : State) (insn : Insn) (distance : ℤ) → does span s insn ≡ Ok (On next distance) → next.slot ≡ s.slot
stays_on span s next insn distance e = (subst (StaysAt s.slot (jump_of insn)) e (stays span.bytes s insn)).0

-- ---- a state at another slot
bear_at : (o : Option Marks) (s : State) (slot : ℕ) → Bear o s → Bear o (record s { slot = slot })
bear_at None s slot bear = tt
bear_at (Some marks) s slot (origins, bear) = (origins, record { registers = bear.registers; slots = bear.slots })

pub contains_at : (o : Option TrackedState) (lengths : Lengths) (s : State) (slot : ℕ) → WithinTracked o lengths s → WithinTracked o lengths (record s { slot = slot })
contains_at o lengths s slot (a, is, c) =
    let was = c.state in (
      a,
      is,
      record {
        state = record {
          eleven = was.eleven;
          long = was.long;
          bounds = was.bounds;
          registers = was.registers;
          stack = was.stack;
        };
        copies = bear_at (kept a.copies) s slot c.copies;
      },
    )

-- ---- one step
-- there is a step left
some_left : (program : Program) (span : Span) (s : State) (c : ComesTo program span s) → 0 < c.steps
some_left program span s c =
    let within = slice_get_within program s.slot (Some c.insn) c.starts in
    let enough = c.enough in
    omega arith

pub stepped : (program : Program) (span : Span) (s : State) (insn : Insn) (moved : Moved) → StartsAt program s.slot insn → does span s insn ≡ moved → step program span.bytes s ≡ then_with moved (land program)
stepped program span s insn moved starts e = rw (starts, e) refl

pub ends_here : (program : Program) (span : Span) (s : State) (insn : Insn) (value : ℕ) → ComesTo program span s → StartsAt program s.slot insn → does span s insn ≡ Ok (Returns value) → Ends program span
ends_here program span s insn value c starts e = (
  value,
  c.same ∙ outcome_from-step program span.bytes c.steps s (some_left program span s c)
      ∙ ap (λ g. after g s.slot (λ next. outcome_from program span.bytes (c.steps - 1) next)) (stepped program span s insn (Ok (Returns value)) starts e),
)

lands : (program : Program) (next : State) (to n : ℕ) → to ≡ next.slot + 1 + n → to < length program → land program (On next (pos n)) ≡ Ok (Next (record next { slot = to }))
lands program next to n is within =
    let test = lt-ltb (next.slot + 1 + n) (length program) (omega arith) in
    rw (is, test) refl

pub goes_on : (program : Program) (span : Span) (s next : State) (insn after_it : Insn) (to n : ℕ) → ComesTo program span s → StartsAt program s.slot insn → does span s insn ≡ Ok (On next (pos n)) → to ≡ s.slot + 1 + n → StartsAt program to after_it → ComesTo program span (record next { slot = to })
goes_on program span s next insn after_it to n c starts e is there =
    let some = some_left program span s c in
    let enough = c.enough in
    let stay : next.slot ≡ s.slot = stays_on span s next insn (pos n) e in
    let within = slice_get_within program to (Some after_it) there in
    let landed = lands program next to n (omega arith) within in
    record {
      steps = c.steps - 1;
      same =
          c.same ∙ outcome_from-step program span.bytes c.steps s some
          ∙ ap (λ g. after g s.slot (λ next. outcome_from program span.bytes (c.steps - 1) next)) (stepped program span s insn (Ok (On next (pos n))) starts e ∙ landed);
      enough = omega arith;
      insn = after_it;
      starts = there;
    }

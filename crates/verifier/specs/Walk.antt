-- How the runs of a program follow the walk over its slots.
use Rattle.std.specs.Prelude.{◌≡◌, ℕ, ℤ, pos, ◌+◌, ◌<◌, ◌≤◌, ◌⊎◌, length, Option, Some, None, Ok, Err, true, slice_get}
use Rattle.span_context.specs.declared.profile.Profile.{Profile}
use Rattle.bpf_words.specs.declared.instruction.Insn.{Insn}
use Rattle.bpf_words.specs.declared.instruction.Insn.TheVariants.{Compute, Negate, Extend, Convert, Jump, JumpLong}
use Rattle.bpf_words.specs.declared.instruction.Insn.TheVariants.{Branch, Load, LoadSigned, Store, LoadWide, Exit}
use Rattle.bpf_words.specs.Flow.{StartsAt, jump_of, slots_of, falls_through}
use Rattle.semantics.specs.State.{State}
use Rattle.semantics.specs.Step.{Program, Moved, On, Returns}
use Rattle.semantics.specs.Outcomes.{outcome, outcome_from}
use Rattle.semantics.specs.Safe.{Verdict}
use Rattle.abstract_state.specs.Lent.{Lengths}
use Rattle.abstract_state.specs.State.{Span, lengths_of}
use Rattle.tracked_state.specs.declared.state.TrackedState.{TrackedState}
use Rattle.tracked_state.specs.Tracked.{WithinTracked}
use Rattle.verifier.specs.Waiting.{Waiting, waiting_at}

-- the run on a span comes to a state, at an instruction, with enough steps left for all slots from there on
pub record ComesTo (program : Program) (span : Span) (s : State) : Type 0 where
  pub steps : ℕ
  pub same : outcome program span.bytes ≡ outcome_from program span.bytes steps s
  pub enough : length program ≤ steps + s.slot
  pub insn : Insn
  pub starts : StartsAt program s.slot insn

-- no instruction stands from one slot up to another
abbrev pub Between : Program → ℕ → ℕ → Type 0
Between program from to = (slot : ℕ) → from ≤ slot → slot < to → slice_get program slot ≡ Some None

-- a state before a slot or after it is contained in what is known: of the fall into the next instruction, or of the
-- jumps to its slot
abbrev pub IsAwaited : Program → ℕ → Option TrackedState → Waiting → Lengths → State → Type 0
IsAwaited program slot falling waiting lengths s =
    (slot ≤ s.slot) × ((Between program slot s.slot × WithinTracked falling lengths s)
    ⊎ WithinTracked (waiting_at waiting s.slot) lengths s)

abbrev pub Ends : Program → Span → Type 0
Ends program span = (value : ℕ) × Verdict program span.bytes value

-- every run of the profile ends with a number, or comes to a state that is awaited
abbrev pub Follows : Profile → Program → ℕ → Option TrackedState → Waiting → Type 0
Follows profile program slot falling waiting =
    (span : Span) → span.profile ≡ profile
    → Ends program span
    ⊎ ((s : State) × ComesTo program span s × IsAwaited program slot falling waiting (lengths_of span) s)

-- where what an instruction did leads: to the end, to the next instruction, or to the target of its jump, and what is
-- known there contains it
abbrev pub Advances : Lengths → ℕ → Insn → Option TrackedState → Waiting → Moved → Type 0
Advances lengths slot insn falling waiting (Ok (Returns value)) = Unit {0}
Advances lengths slot insn falling waiting (Ok (On next distance)) =
    ((n : ℕ) × (distance ≡ pos n) × (n + 1 ≡ slots_of insn) × (falls_through insn ≡ true)
    × WithinTracked falling lengths next)
    ⊎ ((n : ℕ) × (distance ≡ pos n) × (jump_of insn ≡ Some (pos n))
    × WithinTracked (waiting_at waiting (slot + 1 + n)) lengths next)
Advances lengths slot insn falling waiting (Err kind) = ⊥

-- what waits contains still what it contained
abbrev pub Keeps : Waiting → Waiting → Type 0
Keeps old new =
    (slot : ℕ) (lengths : Lengths) (s : State) → WithinTracked (waiting_at old slot) lengths s
    → WithinTracked (waiting_at new slot) lengths s

-- a jump of an instruction leads forward, to a slot below the count
abbrev pub JumpsWithin : ℕ → ℕ → Insn → Type 0
JumpsWithin count slot insn =
    (distance : ℤ) → jump_of insn ≡ Some distance → (n : ℕ) × (distance ≡ pos n) × (slot + 1 + n < count)

-- an instruction with edges of its own
abbrev pub IsComparison : Insn → Type 0
IsComparison (Compute width operation destination operand) = ⊥
IsComparison (Negate width destination) = ⊥
IsComparison (Extend extension destination source) = ⊥
IsComparison (Convert conversion bits destination) = ⊥
IsComparison (Jump distance) = ⊥
IsComparison (JumpLong distance) = ⊥
IsComparison (Branch width comparison left right distance) = Unit {0}
IsComparison (Load size destination base offset) = ⊥
IsComparison (LoadSigned size destination base offset) = ⊥
IsComparison (Store size base offset value) = ⊥
IsComparison (LoadWide destination value) = ⊥
IsComparison Exit = ⊥

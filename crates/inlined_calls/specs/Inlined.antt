-- What it is for a program without calls to be functions with their calls inlined, slot by slot, by a list of places
-- for which its slots stand; and that both mean the same.
use Rattle.std.specs.Prelude.{◌≡◌, ◌⊎◌, ℕ, ℤ, pos, ◌+◌, ◌<◌, ◌+ℤ◌, true, List, [], ◌∷◌, length, slice_get}
use Rattle.std.specs.Prelude.{Some}
use Rattle.span_context.specs.Context.{SpanBytes}
use Rattle.bpf_words.specs.declared.instruction.Insn.{Insn}
use Rattle.bpf_words.specs.declared.instruction.Insn.TheVariants.{Compute, Negate, Extend, Convert, Jump, JumpLong}
use Rattle.bpf_words.specs.declared.instruction.Insn.TheVariants.{Branch, Load, LoadSigned, Store, LoadWide, Exit}
use Rattle.bpf_words.specs.Flow.{StartsAt, falls_through, jump_of, slots_of}
use Rattle.semantics.specs.declared.Outcome.TheVariants.{Done, Fault}
use Rattle.semantics.specs.State.{State, start}
use Rattle.semantics.specs.Step.{Program}
use Rattle.semantics.specs.Outcomes.{outcome_from}
use Rattle.inlined_calls.specs.Calls.{Body, Place, first, at_slot, Work, Performs, Passes, Lacks, Stuck, work_at}
use Rattle.inlined_calls.specs.Calls.{Ended, Number, Faults, Meaningless, OutOfSteps, ended_from}

-- a slot of the program, and a place for which it stands
pub record Placed : Type 0 where
  pub slot : ℕ
  pub place : Place

abbrev pub placed : ℕ → Place → Placed
placed slot place = record { slot = slot; place = place }

abbrev pub IsListed : List Placed → Placed → Type 0
IsListed places here = (index : ℕ) × (slice_get places index ≡ Some here)

-- a slot stands for each place that is listed with it
abbrev pub StandsFor : List Placed → ℕ → Place → Type 0
StandsFor places slot place = IsListed places (placed slot place)

-- a distance counts from the slot after the jump
abbrev pub IsAway : ℕ → ℤ → ℕ → Type 0
IsAway slot distance to = pos to ≡ pos (slot + 1) +ℤ distance

-- an instruction with another distance, if it jumps
abbrev pub aimed : Insn → ℤ → Insn
aimed (Compute width operation destination operand) onward = Compute width operation destination operand
aimed (Negate width destination) onward = Negate width destination
aimed (Extend extension destination source) onward = Extend extension destination source
aimed (Convert conversion bits destination) onward = Convert conversion bits destination
aimed (Jump distance) onward = Jump onward
aimed (JumpLong distance) onward = JumpLong onward
aimed (Branch width comparison left right distance) onward = Branch width comparison left right onward
aimed (Load size destination base offset) onward = Load size destination base offset
aimed (LoadSigned size destination base offset) onward = LoadSigned size destination base offset
aimed (Store size base offset value) onward = Store size base offset value
aimed (LoadWide destination value) onward = LoadWide destination value
aimed Exit onward = Exit

-- instructions stand from a slot on, one after the other
unfoldable pub AllStand : Program → ℕ → List Insn → Type 0
AllStand program slot [] = Unit {0}
AllStand program slot (insn ∷ rest) = StartsAt program slot insn × AllStand program (slot + 1) rest

-- the slot behind them
unfoldable pub behind : ℕ → List Insn → ℕ
behind slot [] = slot
behind slot (insn ∷ rest) = behind (slot + 1) rest

-- a jump leads to a slot that stands for the place to which it led
pub record JumpsOn (places : List Placed) (slot : ℕ) (place : Place) (distance onward : ℤ) : Type 0 where
  pub to : ℕ
  pub next : ℕ
  pub was : IsAway place.slot distance to
  pub is : IsAway slot onward next
  pub stands : StandsFor places next (at_slot place to)

-- an instruction stands at the slot, and goes on there as it did
pub record GoesOn (program : Program) (places : List Placed) (slot : ℕ) (place : Place) (insn : Insn) : Type 0 where
  pub onward : ℤ
  pub starts : StartsAt program slot (aimed insn onward)
  pub falls : falls_through insn ≡ true
      → StandsFor places (slot + slots_of insn) (at_slot place (place.slot + slots_of insn))
  pub jumps : (distance : ℤ) → jump_of insn ≡ Some distance → JumpsOn places slot place distance onward

-- instructions stand from a slot on, and behind them a place
pub record LeadsTo (program : Program) (places : List Placed) (slot : ℕ) (insns : List Insn) (place : Place) : Type 0
  where
    pub all : AllStand program slot insns
    pub stands : StandsFor places (behind slot insns) place

-- or so they do where a jump leads
pub record JumpsFrom (program : Program) (slot to : ℕ) : Type 0 where
  pub distance : ℤ
  pub starts : StartsAt program slot (Jump distance)
  pub away : IsAway slot distance to

abbrev pub JumpsTo : Program → List Placed → ℕ → List Insn → Place → Type 0
JumpsTo program places slot insns place = (to : ℕ) × JumpsFrom program slot to × LeadsTo program places to insns place

-- the program does at a slot what there is to do at a place
abbrev pub Does : Program → List Placed → ℕ → Place → Work → Type 0
Does program places slot place (Performs before last) =
    AllStand program slot before × GoesOn program places (behind slot before) place last
Does program places slot place (Passes insns next) =
    LeadsTo program places slot insns next ⊎ JumpsTo program places slot insns next
Does program places slot place (Lacks kind) = ⊥
Does program places slot place Stuck = ⊥

pub record IsInlined (functions : List Body) (program : Program) (places : List Placed) : Type 0 where
  pub begins : StandsFor places 0 first
  pub within : (slot : ℕ) (place : Place) → StandsFor places slot place → slot < length program
  pub does : (slot : ℕ) (place : Place) → StandsFor places slot place
      → Does program places slot place (work_at functions place)

-- a run of the program from a state ends as a run with calls did: with the same number, or by a fault of the same kind;
-- and that run had a meaning
abbrev pub EndsAs : Program → SpanBytes → State → Ended → Type 0
EndsAs program bytes state (Number value) = (steps : ℕ) × (outcome_from program bytes steps state ≡ Done value)
EndsAs program bytes state (Faults kind) =
    (steps slot : ℕ) × (outcome_from program bytes steps state ≡ Fault slot kind)
EndsAs program bytes state Meaningless = ⊥
EndsAs program bytes state OutOfSteps = Unit {0}

-- whatever a run lends, what ends with calls ends without them, and with the same outcome
abbrev pub MeansTheSame : List Body → Program → Type 0
MeansTheSame functions program =
    (bytes : SpanBytes) (steps : ℕ) → EndsAs program bytes start (ended_from functions bytes steps first start)

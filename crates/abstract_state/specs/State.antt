-- Which machine states an abstract state contains.
use Rattle.std.specs.Prelude.{◌≡◌, ℕ, ℤ, ◌+◌, ◌*◌, ◌/◌, ◌%◌, ◌^◌, ◌<◌, ◌≤◌, true, false, Option, Some, None, Ok, List}
use Rattle.std.specs.Prelude.{[], length, slice_index_or, slice_set}
use Rattle.span_context.specs.Context.{SpanBytes}
use Rattle.bpf_words.specs.declared.instruction.Insn.{Insn}
use Rattle.span_context.specs.declared.profile.Profile.{Profile}
use Rattle.semantics.specs.State.{State}
use Rattle.semantics.specs.Safe.{IsSpanIn}
use Rattle.semantics.specs.Memory.{load, store}
use Rattle.semantics.specs.Step.{Moved, On, perform}
use Rattle.abstract_state.specs.declared.bounds.Bounds.{Bounds}
use Rattle.abstract_state.specs.declared.slot.Slot.{Slot}
use Rattle.abstract_state.specs.declared.slot.Slot.TheVariants.{Marks, Spilled}
use Rattle.abstract_state.specs.declared.known.Known.{Known}
use Rattle.abstract_state.specs.declared.state.AbsReg.{AbsReg}
use Rattle.abstract_state.specs.declared.state.AbsReg.TheVariants.{Unset, Set}
use Rattle.abstract_state.specs.declared.state.AbsState.{AbsState}
use Rattle.abstract_state.specs.Lent.{Lengths}
use Rattle.abstract_state.specs.Known.{ContainsKnown}

-- what a run of a program of a profile is lent: a text, a link's text, and a context that fits them
pub record Span : Type 0 where
  pub profile : Profile
  pub bytes : SpanBytes
  pub whole : IsSpanIn profile bytes

abbrev pub lengths_of : Span → Lengths
lengths_of span = record {
  text = length span.bytes.text;
  short = span.whole.fits.short;
  link = length span.bytes.link;
  link_short = span.whole.fits.link_short;
}

-- each region is at least as long as the bounds say
pub record IsLong (bounds : Bounds) (lengths : Lengths) : Type 0 where
  pub text : bounds.text ≤ lengths.text
  pub link : bounds.link ≤ lengths.link

abbrev pub WithinLong : Option Bounds → Lengths → Type 0
WithinLong o lengths = (b : Bounds) × (o ≡ Some b) × IsLong b lengths

-- ---- registers
abbrev pub ContainsRegister : AbsReg → Lengths → Option ℕ → Type 0
ContainsRegister Unset lengths o = Unit {0}
ContainsRegister (Set k) lengths o = (n : ℕ) × (o ≡ Some n) × ContainsKnown k lengths n

abbrev pub register_at : List AbsReg → ℕ → AbsReg
register_at registers i = slice_index_or registers i Unset

-- ---- the stack
abbrev pub Bytes : Type 0
Bytes = ℕ → Option ℕ

-- each byte of a stack by its offset, if it is set
abbrev pub bytes_of : List (Option ℕ) → Bytes
bytes_of stack offset = slice_index_or stack offset None

abbrev pub HasByte : Bytes → ℕ → Type 0
HasByte bytes offset = (v : ℕ) × (bytes offset ≡ Some v) × (v < 256)

-- the eight bytes from an offset on are those of a number, the lowest first
abbrev pub HasNumber : Bytes → ℕ → ℕ → Type 0
HasNumber bytes offset n = (j : ℕ) → j < 8 → bytes (offset + j) ≡ Some (n / 256 ^ j % 256)

-- a store of count bytes at an offset changes no byte outside, and leaves all inside set
abbrev pub Spares : ℕ → ℕ → Bytes → Bytes → Type 0
Spares offset count old new = (k : ℕ) → (offset ≤ k → k < offset + count → ⊥) → new k ≡ old k

abbrev pub Fills : ℕ → ℕ → Bytes → Type 0
Fills offset count new = (k : ℕ) → offset ≤ k → k < offset + count → HasByte new k

abbrev pub ContainsSlot : Slot → Lengths → Bytes → ℕ → Type 0
ContainsSlot (Marks marks) lengths bytes i =
    (j : ℕ) → j < 8 → slice_index_or marks j false ≡ true → HasByte bytes (8 * i + j)
ContainsSlot (Spilled k) lengths bytes i = (n : ℕ) × ContainsKnown k lengths n × HasNumber bytes (8 * i) n

abbrev pub slot_at : List Slot → ℕ → Slot
slot_at slots i = slice_index_or slots i (Marks [])

abbrev pub ContainsStack : List Slot → Lengths → Bytes → Type 0
ContainsStack slots lengths bytes = (i : ℕ) → i < 64 → ContainsSlot (slot_at slots i) lengths bytes i

-- ---- states
pub record Contains (a : AbsState) (lengths : Lengths) (s : State) : Type 0 where
  pub eleven : length s.registers ≡ 11
  pub long : length s.stack ≡ 512
  pub bounds : IsLong a.bounds lengths
  pub registers : (i : ℕ) → i < 11
      → ContainsRegister (register_at a.registers i) lengths (slice_index_or s.registers i None)
  pub stack : ContainsStack a.stack lengths (bytes_of s.stack)

-- the abstract state is there and contains the machine's
abbrev pub WithinState : Option AbsState → Lengths → State → Type 0
WithinState o lengths s = (a : AbsState) × (o ≡ Some a) × Contains a lengths s

abbrev pub with_register : State → ℕ → ℕ → State
with_register s register n = record s { registers = slice_set s.registers register (Some n) }

-- ---- what an instruction does
abbrev pub does : Span → State → Insn → Moved
does span s insn = perform span.bytes s insn

-- from each contained state of a run of the profile the instruction goes on by the distance, without a fault, to a
-- contained one; where there is none, no state was contained
abbrev pub StepsIn : Profile → AbsState → Insn → ℤ → Option AbsState → Type 0
StepsIn profile a insn distance o =
    (span : Span) (s : State) → span.profile ≡ profile → Contains a (lengths_of span) s
    → (next : State) × (does span s insn ≡ Ok (On next distance)) × WithinState o (lengths_of span) next

-- the same of a run of any profile
abbrev pub StepsBy : AbsState → Insn → ℤ → Option AbsState → Type 0
StepsBy a insn distance o =
    (span : Span) (s : State) → Contains a (lengths_of span) s
    → (next : State) × (does span s insn ≡ Ok (On next distance)) × WithinState o (lengths_of span) next

-- from each contained state of a run of the profile, a load of count bytes at an offset from an address of the base
-- gives a number of which P holds
abbrev pub LoadsIn : Profile → AbsState → Known → ℕ → ℕ → (Lengths → ℕ → Type 0) → Type 0
LoadsIn profile a base offset count P =
    (span : Span) (s : State) (n : ℕ) → span.profile ≡ profile → Contains a (lengths_of span) s
    → ContainsKnown base (lengths_of span) n
    → (v : ℕ) × (load span.bytes s.stack ((n + offset) % 2 ^ 64) count ≡ Ok v) × P (lengths_of span) v

-- the same of a run of any profile
abbrev pub LoadsAs : AbsState → Known → ℕ → ℕ → (Lengths → ℕ → Type 0) → Type 0
LoadsAs a base offset count P =
    (span : Span) (s : State) (n : ℕ) → Contains a (lengths_of span) s → ContainsKnown base (lengths_of span) n
    → (v : ℕ) × (load span.bytes s.stack ((n + offset) % 2 ^ 64) count ≡ Ok v) × P (lengths_of span) v

abbrev pub with_stack : State → List (Option ℕ) → State
with_stack s stack = record s { stack = stack }

-- from each contained state, a store of count bytes of a number of the value, at an address of the base, leads to one
-- that b contains
abbrev pub StoresAs : AbsState → Known → ℕ → ℕ → Known → AbsState → Type 0
StoresAs a base offset count value b =
    (span : Span) (s : State) (n v : ℕ) → Contains a (lengths_of span) s → ContainsKnown base (lengths_of span) n
    → ContainsKnown value (lengths_of span) v
    → (stack : List (Option ℕ)) × (store span.bytes s.stack ((n + offset) % 2 ^ 64) count v ≡ Ok stack)
    × Contains b (lengths_of span) (with_stack s stack)

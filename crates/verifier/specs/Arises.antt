-- How what is known before a slot came to be, and which instructions may be refused then.
use Rattle.std.specs.Prelude.{◌≡◌, ◌≢◌, ℕ, ℤ, pos, ◌+◌, ◌<◌, ◌≤◌, ◌⊎◌, ◌↔◌, min, Option, Some, true, false}
use Rattle.span_context.specs.declared.profile.Profile.{Profile}
use Rattle.span_context.specs.Profile.{has_more_rules}
use Rattle.bpf_words.specs.declared.instruction.Width.TheVariants.{Full}
use Rattle.bpf_words.specs.declared.instruction.Comparison.TheVariants.{Greater}
use Rattle.bpf_words.specs.declared.instruction.Operand.TheVariants.{Source}
use Rattle.bpf_words.specs.declared.instruction.Insn.{Insn}
use Rattle.bpf_words.specs.declared.instruction.Insn.TheVariants.{Branch}
use Rattle.bpf_words.specs.Flow.{StartsAt, jump_of, read_by, written_by, falls_through, slots_of}
use Rattle.semantics.specs.Step.{Program}
use Rattle.abstract_state.specs.declared.region.Region.{Region}
use Rattle.abstract_state.specs.Lent.{bound_of, tail_of}
use Rattle.abstract_state.specs.declared.address.LentAddress.{LentAddress}
use Rattle.abstract_state.specs.declared.state.AbsReg.TheVariants.{Unset, Set}
use Rattle.abstract_state.specs.declared.state.AbsState.{AbsState}
use Rattle.abstract_state.specs.State.{register_at, slot_at}
use Rattle.abstract_state.specs.Kinds.{HasNumberAt, IsContextAt, IsStackAt, JoinsReg, JoinsSlot, ReadsNumbers}
use Rattle.abstract_state.specs.Exact.{Fact, Holds}
use Rattle.abstract_state.specs.Branch.{LeavesSides}
use Rattle.abstract_state.specs.Guard.{Yields, Stores, Spills, LeavesOthers, LeavesMemory, LengthensMemory}
use Rattle.abstract_state.specs.Frame.{StoresSlots, SpillsSlot}
use Rattle.abstract_state.specs.declared.known.Known.{Known}
use Rattle.abstract_state.specs.declared.known.Known.TheVariants.{Lent}
use Rattle.abstract_state.specs.Unset.{HasUnset}
use Rattle.abstract_state.specs.declared.refusal.Refusal.{Refusal}
use Rattle.abstract_state.specs.declared.refusal.Refusal.TheVariants.{UnsetRegister}
use Rattle.verifier.specs.declared.refusal.VerifyError.{VerifyError}
use Rattle.verifier.specs.declared.refusal.VerifyError.TheVariants.{State as StateRefused, OutOfMemory}
use Rattle.program_reads.specs.Runs.{ContainsRuns}
use Rattle.tracked_state.specs.declared.state.TrackedState.{TrackedState}
use Rattle.tracked_state.specs.Learning.{LearnsSides}
use Rattle.verifier.specs.Waiting.{Waiting, waiting_at}
use Rattle.verifier.specs.Walk.{Between}

-- a comparison with an address in a lent region up to its end: where it doesn't hold, the region has at least
-- p.offset.range.low bytes
pub data Guards (a : AbsState) : Insn → Region → ℕ → Type 0 where
  behind : (left right t : ℕ) (p q : LentAddress) (distance : ℤ) → left ≢ right
      → register_at a.registers left ≡ Set (Lent p) → register_at a.registers right ≡ Set (Lent q)
      → p.region ≡ q.region → tail_of q.offset.tails p.region ≡ Some t
      → Guards a (Branch Full Greater left (Source right) distance) p.region p.offset.range.low

-- what is never refused: what reads numbers alone, the steps of a guarded read of a region that the profile lends, and
-- loads and stores in the stack
pub data IsGranted (profile : Profile) (a : AbsState) (insn : Insn) : Type 0 where
  of_numbers : ReadsNumbers a insn → IsGranted profile a insn
  of_row : (register : ℕ) (fact : Fact) → Yields profile a insn register fact → IsGranted profile a insn
  of_guard : (region : Region) (n : ℕ) → Guards a insn region n → IsGranted profile a insn
  of_store : (p count : ℕ) → Stores a insn p count → IsGranted profile a insn
  of_spill : (i : ℕ) (known : Known) → Spills a insn i known → IsGranted profile a insn

-- what an instruction writes is a number, and a number stays one
pub record TakesNumbers (a : AbsState) (insn : Insn) (b : AbsState) : Type 0 where
  pub written : (i : ℕ) → written_by insn ≡ Some i → HasNumberAt b i
  pub kept : (i : ℕ) → HasNumberAt a i → HasNumberAt b i

-- what an instruction leaves as it was; by the rules that the first two profiles leave out a comparison's sides tell
-- their copies, so past it that may be better known
abbrev pub Leaves : Profile → AbsState → Insn → AbsState → Type 0
Leaves profile a (Branch width comparison left right distance) b =
    LearnsSides left right a b
    × (has_more_rules profile ≡ false → LeavesSides left right a b × LengthensMemory a b)
Leaves profile a insn b = LeavesOthers a insn b × LeavesMemory a insn b

-- what is known past an instruction, on each of its edges: it reads no unset register, and what it writes is set
pub record Takes (profile : Profile) (a : AbsState) (insn : Insn) (b : AbsState) : Type 0 where
  pub read : HasUnset a (read_by insn) → ⊥
  pub numbers : ReadsNumbers a insn → TakesNumbers a insn b
  pub leaves : Leaves profile a insn b
  pub stores : (p count : ℕ) → Stores a insn p count → StoresSlots p count a.stack b.stack
  pub spills : (i : ℕ) (known : Known) → Spills a insn i known → SpillsSlot i known a.stack b.stack
  pub yields : (register : ℕ) (fact : Fact) → Yields profile a insn register fact
      → Holds fact (register_at b.registers register)

-- how long a lent region is where a comparison doesn't hold
abbrev pub IsLongBehind : AbsState → Insn → AbsState → Type 0
IsLongBehind a insn b = (region : Region) (n : ℕ) → Guards a insn region n → n ≤ bound_of b.bounds region

-- c has nothing less than what a and b both have
pub record JoinsAll (a b c : AbsState) : Type 0 where
  pub registers : (i : ℕ) → i < 11
      → JoinsReg (register_at a.registers i) (register_at b.registers i) (register_at c.registers i)
  pub slots : (i : ℕ) → i < 64 → JoinsSlot (slot_at a.stack i) (slot_at b.stack i) (slot_at c.stack i)
  pub bounds : (region : Region) → bound_of c.bounds region ≡ min (bound_of a.bounds region) (bound_of b.bounds region)

-- a jump leads to a slot
pub record IsTarget (program : Program) (slot : ℕ) : Type 0 where
  pub from : ℕ
  pub insn : Insn
  pub distance : ℕ
  pub starts : StartsAt program from insn
  pub jumps : jump_of insn ≡ Some (pos distance)
  pub there : slot ≡ from + 1 + distance

-- in a run of the profile: known before the first slot; past an instruction, by its fall into the next one or by its
-- jump; or joined, where a jump leads
pub data Arises (profile : Profile) (program : Program) : ℕ → AbsState → Type 0 where
  first : {a : AbsState} → IsContextAt 0 (register_at a.registers 1) → IsStackAt 512 (register_at a.registers 10)
      → ((i : ℕ) → i ≢ 1 → i ≢ 10 → register_at a.registers i ≡ Unset) → Arises profile program 0 a
  fell : {slot : ℕ} {a b : AbsState} {insn : Insn} → Arises profile program slot a → StartsAt program slot insn
      → falls_through insn ≡ true → Takes profile a insn b → IsLongBehind a insn b
      → Arises profile program (slot + slots_of insn) b
  jumped : {slot n : ℕ} {a b : AbsState} {insn : Insn} → Arises profile program slot a → StartsAt program slot insn
      → jump_of insn ≡ Some (pos n) → Takes profile a insn b → Arises profile program (slot + 1 + n) b
  joined : {slot : ℕ} {a b c : AbsState} → IsTarget program slot → Arises profile program slot a
      → Arises profile program slot b → JoinsAll a b c → Arises profile program slot c

abbrev pub ArisesAt : Profile → Program → ℕ → Option TrackedState → Type 0
ArisesAt profile program slot o = (a : TrackedState) → o ≡ Some a → Arises profile program slot a.state

-- something waits only where a jump leads, and arises there
abbrev pub AllArise : Profile → Program → Waiting → Type 0
AllArise profile program waiting =
    (slot : ℕ) (a : TrackedState) → waiting_at waiting slot ≡ Some a
    → IsTarget program slot × Arises profile program slot a.state

-- what an instruction leaves for the next one
abbrev pub FallsFrom : Profile → Program → ℕ → Insn → Option TrackedState → Type 0
FallsFrom profile program slot insn falling =
    (a : TrackedState) → falling ≡ Some a
    → (falls_through insn ≡ true) × Arises profile program (slot + slots_of insn) a.state

-- what falls into the next instruction arises there
abbrev pub FallsAs : Profile → Program → ℕ → Option TrackedState → Type 0
FallsAs profile program slot falling =
    (a : TrackedState) → falling ≡ Some a
    → (to : ℕ) × ((next : Insn) × (slot ≤ to) × Between program slot to × StartsAt program to next
    × Arises profile program to a.state)

-- what arises before some instruction, and contains each state that a run of the profile comes to there, doesn't grant
-- it; the fault is an unset register exactly where the instruction reads one
pub record MayRefuse (profile : Profile) (program : Program) : Type 0 where
  pub slot : ℕ
  pub state : AbsState
  pub insn : Insn
  pub arises : Arises profile program slot state
  pub contains : ContainsRuns profile program slot (Some state)
  pub starts : StartsAt program slot insn
  pub refused : IsGranted profile state insn → ⊥
  pub fault : Refusal
  pub unset : (fault ≡ UnsetRegister) ↔ HasUnset state (read_by insn)

-- the causes of a refusal of a structured program
abbrev pub IsCause : Profile → Program → VerifyError → Type 0
IsCause profile program e =
    (e ≡ OutOfMemory) ⊎ ((may : MayRefuse profile program) × (e ≡ StateRefused may.slot may.fault))

-- why an instruction is refused at a slot
abbrev pub RefusesAt : Profile → Program → ℕ → Refusal → Type 0
RefusesAt profile program slot fault = (may : MayRefuse profile program) × (may.slot ≡ slot) × (may.fault ≡ fault)

-- A layout by ranks, the highest first: a jump to the first instruction, then each instruction with a jump behind it.
use Rattle.std.specs.Prelude.{◌≡◌, ◌⊎◌, ℕ, ℤ, ◌+◌, ◌*◌, ◌<◌, ◌≤◌, true, List, ◌++◌, length, slice_index, Some, Ok}
use Rattle.bpf_words.specs.declared.instruction.Insn.{Insn}
use Rattle.bpf_words.specs.declared.instruction.Insn.TheVariants.{Compute, Negate, Extend, Convert, Jump, JumpLong}
use Rattle.bpf_words.specs.declared.instruction.Insn.TheVariants.{Branch, Load, LoadSigned, Store, LoadWide, Exit}
use Rattle.bpf_words.specs.Flow.{StartsAt, falls_through, jump_of, slots_of}
use Rattle.bpf_words.specs.Words.{read_at}
use Rattle.semantics.specs.Step.{Program}
use Rattle.block_layout.specs.Loops.{IsAway, JumpsTo}
use Rattle.block_layout.specs.Meaning.{IsOn}
use Rattle.block_layout.specs.Rooms.{above}

-- a room for each rank, none of more than three slots
pub record AreRooms (ranks rooms : List ℕ) : Type 0 where
  pub same : length ranks ≡ length rooms
  pub few : length ranks ≤ 4096
  pub low : (slot : ℕ) → slice_index rooms slot ≤ 3

-- where the room of a slot begins
abbrev pub spot : List ℕ → List ℕ → ℕ → ℕ
spot ranks rooms slot = 1 + above ranks rooms (slice_index ranks slot)

-- the same instruction with another distance, if it jumps
abbrev pub led : Insn → ℤ → Insn
led (Compute width operation destination operand) onward = Compute width operation destination operand
led (Negate width destination) onward = Negate width destination
led (Extend extension destination source) onward = Extend extension destination source
led (Convert conversion bits destination) onward = Convert conversion bits destination
led (Jump distance) onward = Jump onward
led (JumpLong distance) onward = Jump onward
led (Branch width comparison left right distance) onward = Branch width comparison left right onward
led (Load size destination base offset) onward = Load size destination base offset
led (LoadSigned size destination base offset) onward = LoadSigned size destination base offset
led (Store size base offset operand) onward = Store size base offset operand
led (LoadWide destination value) onward = LoadWide destination value
led Exit onward = Exit

-- if it jumps, it jumps forward
abbrev pub LeadsForward : Insn → Type 0
LeadsForward insn = (distance : ℤ) → jump_of insn ≡ Some distance → IsOn distance

-- the room of a slot begins so many slots or more behind where another begins
abbrev pub IsLater : List ℕ → List ℕ → ℕ → ℕ → ℕ → Type 0
IsLater ranks rooms from slots to =
    (to < length ranks) × (spot ranks rooms from + slots < spot ranks rooms to) × (spot ranks rooms to ≤ 4096)

-- what stands for an instruction and behind it leads to where the instruction leads
pub record IsBlock (ranks rooms : List ℕ) (slot : ℕ) (insn first behind : Insn) : Type 0 where
  pub onward : ℤ
  pub is : first ≡ led insn onward
  pub aims : (to : ℕ) → JumpsTo slot insn to → IsAway (spot ranks rooms slot) onward (spot ranks rooms to)
  pub goes : falls_through insn ≡ true
      → (distance : ℤ) × (behind ≡ Jump distance)
      × IsAway (spot ranks rooms slot + slots_of insn) distance (spot ranks rooms (slot + slots_of insn))

-- an instruction stands at a slot, whatever comes behind the bytes
abbrev pub Holds : List ℕ → ℕ → Insn → Type 0
Holds bytes slot insn = (after : List ℕ) → read_at (bytes ++ after) slot ≡ Ok insn

pub record HoldsOne (bytes : List ℕ) (slot : ℕ) : Type 0 where
  pub insn : Insn
  pub holds : Holds bytes slot insn
  pub forward : LeadsForward insn

pub record HoldsSecond (bytes : List ℕ) (slot : ℕ) : Type 0 where
  pub before : ℕ
  pub insn : Insn
  pub is : slot ≡ before + 1
  pub holds : Holds bytes before insn
  pub wide : slots_of insn ≡ 2

-- bytes of so many slots, with instructions that lead forward
pub record Filled (bytes : List ℕ) (count : ℕ) : Type 0 where
  pub long : length bytes ≡ 8 * count
  pub each : (slot : ℕ) → slot < count → HoldsOne bytes slot ⊎ HoldsSecond bytes slot

-- all that stands in the one stands in the other
abbrev pub Grows : List ℕ → List ℕ → Type 0
Grows old new = (slot : ℕ) (insn : Insn) → Holds old slot insn → Holds new slot insn

-- an instruction more
pub record Added (old new : List ℕ) (count : ℕ) (insn : Insn) : Type 0 where
  pub filled : Filled new (count + slots_of insn)
  pub holds : Holds new count insn
  pub grows : Grows old new

-- an instruction more, and what stands behind it
pub record Blocked (old new : List ℕ) (count : ℕ) (first behind : Insn) : Type 0 where
  pub filled : Filled new (count + slots_of first + 1)
  pub holds : Holds new count first
  pub next : Holds new (count + slots_of first) behind
  pub grows : Grows old new

-- an instruction stands at its spot, and leads from there to where it led
pub record IsPlaced (ranks rooms bytes : List ℕ) (slot : ℕ) (insn : Insn) : Type 0 where
  pub first : Insn
  pub behind : Insn
  pub block : IsBlock ranks rooms slot insn first behind
  pub holds : Holds bytes (spot ranks rooms slot) first
  pub next : Holds bytes (spot ranks rooms slot + slots_of insn) behind

-- the room of a rank more
pub record RankAdded (program : Program) (ranks rooms old new : List ℕ) (rank next : ℕ) : Type 0 where
  pub filled : Filled new (1 + above ranks rooms next)
  pub grows : Grows old new
  pub each : (slot : ℕ) (insn : Insn) → slice_index ranks slot ≡ rank → StartsAt program slot insn
      → IsPlaced ranks rooms new slot insn

-- those of all ranks above one
pub record AreSpread (program : Program) (ranks rooms bytes : List ℕ) (rank : ℕ) : Type 0 where
  pub filled : Filled bytes (1 + above ranks rooms rank)
  pub begins : (distance : ℤ) × Holds bytes 0 (Jump distance) × IsAway 0 distance (spot ranks rooms 0)
  pub each : (slot : ℕ) (insn : Insn) → rank < slice_index ranks slot → StartsAt program slot insn
      → IsPlaced ranks rooms bytes slot insn

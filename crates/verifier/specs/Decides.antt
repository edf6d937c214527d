-- What is known before each slot by the rules, and which programs are accepted: those with no fault in their structure
-- of which the rules refuse no instruction.
use Rattle.std.specs.Prelude.{◌≡◌, ℕ, zero, suc, ℤ, pos, negsuc, ◌+◌, ◌<◌, nat_lt, nat_eq, if◌then◌else◌}
use Rattle.std.specs.Prelude.{List, [], length, slice_get, slice_index_or, option_map}
use Rattle.std.specs.Prelude.{Option, Some, None, Result, Ok, Err}
use Rattle.span_context.specs.declared.profile.Profile.{Profile}
use Rattle.bpf_words.specs.declared.instruction.Insn.{Insn}
use Rattle.bpf_words.specs.declared.instruction.Insn.TheVariants.{Jump, JumpLong, Branch, Exit}
use Rattle.bpf_words.specs.Flow.{StartsAt, jump_of}
use Rattle.semantics.specs.Step.{Program}
use Rattle.abstract_state.specs.declared.refusal.Refusal.{Refusal}
use Rattle.abstract_state.specs.Addresses.{answer_of}
use Rattle.abstract_state.specs.Stacks.{Marked}
use Rattle.abstract_state.specs.Situation.{Situation}
use Rattle.value_marks.specs.Marking.{Marking}
use Rattle.tracked_state.specs.declared.state.TrackedState.{TrackedState}
use Rattle.tracked_state.specs.Tracked.{TrackedSituation, tracked, IsTrackedIn}
use Rattle.tracked_state.specs.Rules.{TrackedWays, entry, stepped, branched, joined, exit}
use Rattle.verifier.specs.Structure.{IsStructured}

-- ---- where an instruction at a slot leads: by its jump, and to the next instruction
abbrev pub ways : Option TrackedSituation → Option TrackedSituation → TrackedWays
ways taken untaken = record { taken = taken; untaken = untaken }

unfoldable pub led : Profile → ℕ → Insn → TrackedSituation → Result TrackedWays Refusal
led profile slot (Branch width comparison left right distance) t = branched width comparison left right t
led profile slot (Jump distance) t = Ok (ways (Some t) None)
led profile slot (JumpLong distance) t = Ok (ways (Some t) None)
led profile slot Exit t = answer_of (λ done. ways None None) (exit t)
led profile slot insn t = answer_of (ways None) (stepped profile slot insn t)

-- the slot to which a jump leads; a structured program has none that leads back
abbrev pub jump_target : ℕ → Option ℤ → ℕ
jump_target slot (Some (pos n)) = slot + 1 + n
jump_target slot (Some (negsuc n)) = slot
jump_target slot None = slot

-- ---- what is known before a slot, from all edges into it
-- nothing where no run comes
abbrev pub either_way : Profile → Option TrackedSituation → Option TrackedSituation → Option TrackedSituation
either_way profile None b = b
either_way profile (Some a) None = Some a
either_way profile (Some a) (Some b) = Some (joined profile a b)

-- of the eleven registers and the 64 slots of the stack alone, since the machine has no others
abbrev pub trimmed_situation : Situation → Situation
trimmed_situation s = record {
  registers = λ i. if nat_lt i 11 then s.registers i else None;
  slots = λ i. if nat_lt i 64 then s.slots i else Marked [];
  least = s.least;
}

abbrev pub trimmed_marking : Marking → Marking
trimmed_marking w = record {
  registers = λ i. if nat_lt i 11 then w.registers i else None;
  slots = λ i. if nat_lt i 64 then w.slots i else None;
}

abbrev pub trimmed : TrackedSituation → TrackedSituation
trimmed t = tracked (option_map trimmed_marking t.marking) (trimmed_situation t.situation)

abbrev pub arrived : Profile → Option TrackedSituation → Option TrackedSituation → Option TrackedSituation
arrived profile falling waiting = option_map trimmed (either_way profile falling waiting)

-- what is known before slots, as far as it is known
abbrev pub Before : Type 0
Before = ℕ → Option TrackedSituation

-- where an instruction leads, by what is known before it; nowhere if no run comes there, or if it is refused
abbrev pub granted : Result TrackedWays Refusal → TrackedWays
granted (Ok w) = w
granted (Err fault) = ways None None

unfoldable pub ways_from : Profile → ℕ → Insn → Option TrackedSituation → TrackedWays
ways_from profile slot insn None = ways None None
ways_from profile slot insn (Some t) = granted (led profile slot insn t)

-- the edge on to the next instruction; the second slot of a wide load is gone past
abbrev pub fall_past : Profile → ℕ → Option (Option Insn) → Option TrackedSituation → Option TrackedSituation
    → Option TrackedSituation
fall_past profile slot (Some (Some insn)) known above = (ways_from profile slot insn known).untaken
fall_past profile slot place known above = above

-- what falls into a slot; into the first one, what each run begins with
unfoldable pub falls_into : Profile → Program → Before → ℕ → Option TrackedSituation
falls_into profile program before zero = Some (entry profile)
falls_into profile program before (suc slot) =
    fall_past profile slot (slice_get program slot) (before slot) (falls_into profile program before slot)

-- the edge of a jump from a slot, where it leads to this one
abbrev pub jump_to : Profile → ℕ → ℕ → Option (Option Insn) → Option TrackedSituation → Option TrackedSituation
jump_to profile to slot (Some (Some insn)) known =
    if nat_eq to (jump_target slot (jump_of insn)) then (ways_from profile slot insn known).taken else None
jump_to profile to slot place known = None

-- what the jumps from the slots below one lead to a slot, joined by rising slots
unfoldable pub jumps_to : Profile → Program → Before → ℕ → ℕ → Option TrackedSituation
jumps_to profile program before to zero = None
jumps_to profile program before to (suc slot) =
    either_way profile (jumps_to profile program before to slot)
    (jump_to profile to slot (slice_get program slot) (before slot))

-- what all edges into a slot lead there
abbrev pub known_from : Profile → Program → Before → ℕ → Option TrackedSituation
known_from profile program before slot =
    arrived profile (falls_into profile program before slot) (jumps_to profile program before slot slot)

-- what is known before the slots below one, from the first on
unfoldable pub known_below : Profile → Program → ℕ → Before
known_below profile program zero slot = None
known_below profile program (suc last) slot =
    if nat_eq slot last
    then known_from profile program (known_below profile program last) last
    else known_below profile program last slot

unfoldable pub known_before : Profile → Program → ℕ → Option TrackedSituation
known_before profile program slot = known_from profile program (known_below profile program slot) slot

-- ---- the verifier's decision
-- the rules refuse an instruction at a slot, where a run may come
abbrev pub Refuses : Profile → ℕ → Insn → Option TrackedSituation → Refusal → Type 0
Refuses profile slot insn None fault = ⊥
Refuses profile slot insn (Some t) fault = led profile slot insn t ≡ Err fault

pub record IsRefusedAt (profile : Profile) (program : Program) (slot : ℕ) (fault : Refusal) : Type 0 where
  pub insn : Insn
  pub starts : StartsAt program slot insn
  pub refused : Refuses profile slot insn (known_before profile program slot) fault

-- the structure has no fault, and no slot below is refused
pub record IsAllowedBelow (profile : Profile) (program : Program) (end : ℕ) : Type 0 where
  pub structured : IsStructured program
  pub below : (slot : ℕ) (fault : Refusal) → slot < end → IsRefusedAt profile program slot fault → ⊥

abbrev pub IsAllowed : Profile → Program → Type 0
IsAllowed profile program = IsAllowedBelow profile program (length program)

-- the structure has no fault, and this is the first slot that is refused, for this fault
pub record FirstRefusal (profile : Profile) (program : Program) (slot : ℕ) (fault : Refusal) : Type 0 where
  pub before : IsAllowedBelow profile program slot
  pub here : IsRefusedAt profile program slot fault

-- the code's states are what is known before each slot
abbrev pub KnownEach : Profile → Program → List (Option TrackedState) → Type 0
KnownEach profile program states =
    (slot : ℕ) → slot < length program
    → IsTrackedIn (slice_index_or states slot None) (known_before profile program slot)

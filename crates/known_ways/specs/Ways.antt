-- The ways on which a run may come to a slot, with what is known on each by the rules.
use Rattle.std.specs.Prelude.{ℕ, zero, suc, ℤ, pos, negsuc, ◌+◌, ◌<◌, nat_eq, if◌then◌else◌}
use Rattle.std.specs.Prelude.{Bool, false, ◌||◌, List, [], ◌∷◌, ◌++◌, length, slice_get, slice_index_or}
use Rattle.std.specs.Prelude.{Option, Some, None, option_map}
use Rattle.span_context.specs.declared.profile.Profile.{Profile}
use Rattle.bpf_words.specs.declared.instruction.Insn.{Insn}
use Rattle.bpf_words.specs.Flow.{jump_of, slots_of}
use Rattle.semantics.specs.Step.{Program}
use Rattle.abstract_state.specs.Situation.{Situation}
use Rattle.tracked_state.specs.declared.state.TrackedState.{TrackedState}
use Rattle.tracked_state.specs.Tracked.{TrackedSituation, IsTrackedIn}
use Rattle.tracked_state.specs.Rules.{TrackedWays}
use Rattle.verifier.specs.Decides.{trimmed_situation, jump_target, ways_from, known_before}

-- a way to a slot: the slot of the instruction from which it leads there, and what is known on it
pub record Way : Type 0 where
  pub from : ℕ
  pub known : Situation

-- what is known on an edge, where a run may come along it: of the eleven registers and the 64 slots of the stack alone,
-- since the machine has no others
abbrev pub known_on : Option TrackedSituation → Option Situation
known_on edge = option_map (λ t. trimmed_situation t.situation) edge

-- the way that leads from a slot along an edge, where a run may come along that
abbrev pub along : ℕ → Option Situation → List Way
along from None = []
along from (Some s) = record { from = from; known = s } ∷ []

-- the edges of an instruction that lead to a slot: on to the next instruction, then by its jump
abbrev pub ways_by : ℕ → ℕ → Insn → TrackedWays → List Way
ways_by to from insn w =
    (if nat_eq to (from + slots_of insn) then along from (known_on w.untaken) else [])
    ++ (if nat_eq to (jump_target from (jump_of insn)) then along from (known_on w.taken) else [])

-- the ways from one slot to another, if an instruction stands there, by what is known before it
abbrev pub ways_at : Profile → ℕ → ℕ → Option (Option Insn) → Option TrackedSituation → List Way
ways_at profile to from (Some (Some insn)) known = ways_by to from insn (ways_from profile from insn known)
ways_at profile to from place known = []

-- the ways to a slot from all slots below another one, by rising slots
unfoldable pub ways_below : Profile → Program → ℕ → ℕ → List Way
ways_below profile program to zero = []
ways_below profile program to (suc from) =
    ways_below profile program to from
    ++ ways_at profile to from (slice_get program from) (known_before profile program from)

-- all ways to a slot
abbrev pub ways_into : Profile → Program → ℕ → List Way
ways_into profile program slot = ways_below profile program slot slot

-- from where the way leads, where there is one alone
abbrev pub only_from : List Way → Option ℕ
only_from (way ∷ []) = Some way.from
only_from ways = None

-- what is known before a slot of the values alone
abbrev pub situation_before : Profile → Program → ℕ → Option Situation
situation_before profile program slot = option_map (λ t. t.situation) (known_before profile program slot)

-- ---- to which slots a jump leads forward
abbrev pub forward_target : ℕ → Option ℤ → Option ℕ
forward_target slot (Some (pos n)) = Some (slot + 1 + n)
forward_target slot (Some (negsuc n)) = None
forward_target slot None = None

abbrev pub target_at : ℕ → Option (Option Insn) → Option ℕ
target_at slot (Some (Some insn)) = forward_target slot (jump_of insn)
target_at slot place = None

abbrev pub leads_to : ℕ → Option ℕ → Bool
leads_to to None = false
leads_to to (Some at) = nat_eq to at

-- whether a jump leads to a slot from one of the slots below another one
unfoldable pub is_jumped_below : Program → ℕ → ℕ → Bool
is_jumped_below program to zero = false
is_jumped_below program to (suc from) =
    is_jumped_below program to from || leads_to to (target_at from (slice_get program from))

-- whether an instruction of the program jumps forward to a slot
abbrev pub is_jumped_to : Program → ℕ → Bool
is_jumped_to program to = is_jumped_below program to (length program)

-- ---- the code's states are what is known before the slots, as far as there are states
abbrev pub KnownBelow : Profile → Program → List (Option TrackedState) → Type 0
KnownBelow profile program states =
    (slot : ℕ) → slot < length states
    → IsTrackedIn (slice_index_or states slot None) (known_before profile program slot)

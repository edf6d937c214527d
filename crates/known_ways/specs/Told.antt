-- What the code keeps of a program's ways.
use Rattle.std.specs.Prelude.{◌≡◌, ℕ, ◌*◌, ◌<◌, ◌≤◌, Bool, List, length, map, take, slice_get, slice_index_or}
use Rattle.std.specs.Prelude.{Option, None, Result, Ok, Err, option_map, false}
use Rattle.std.specs.Borrow.{Bor}
use Rattle.semantics.specs.Step.{Program}
use Rattle.abstract_state.specs.declared.state.AbsState.{AbsState}
use Rattle.abstract_state.specs.declared.refusal.Refusal.{Refusal}
use Rattle.abstract_state.specs.Situation.{Situation, situation_of}
use Rattle.tracked_state.specs.Rules.{TrackedWays}
use Rattle.verifier.specs.Decides.{trimmed_situation}
use Rattle.known_ways.specs.declared.way.KnownWay.{KnownWay}
use Rattle.known_ways.specs.declared.behind.Behind.{Behind}
use Rattle.known_ways.specs.Ways.{Way, along, known_on, target_at, is_jumped_to}

-- a way of the code, and several
abbrev pub way_seen : KnownWay → Way
way_seen way = record { from = way.from; known = situation_of way.known }

abbrev pub ways_seen : List KnownWay → List Way
ways_seen ways = map way_seen ways

abbrev pub way_from : ℕ → Option AbsState → List Way
way_from from known = along from (option_map situation_of known)

-- a state of the code that is lent, as the rules take it
abbrev pub situation_seen : Option (Bor AbsState) → Option Situation
situation_seen o = option_map (λ (a : Bor AbsState). situation_of a.now) o

-- what a step leaves of the eleven registers and the 64 slots of the stack, where it isn't refused
abbrev pub left_by : Result (Option Situation) Refusal → Option Situation
left_by (Ok o) = option_map trimmed_situation o
left_by (Err refusal) = None

-- what is known behind an instruction is what the rules lead on and what they lead along its jump
abbrev pub IsBehind : Behind → TrackedWays → Type 0
IsBehind behind w =
    (option_map situation_of behind.next ≡ known_on w.untaken)
    × (option_map situation_of behind.jumped ≡ known_on w.taken)

-- where each slot's jump leads forward
abbrev pub AreTargets : Program → List (Option ℕ) → Type 0
AreTargets program targets =
    (length targets ≡ length program)
    × ((slot : ℕ) → slot < length program → slice_index_or targets slot None ≡ target_at slot (slice_get program slot))

-- to which slots one does
abbrev pub AreJumpedTo : Program → List Bool → Type 0
AreJumpedTo program are =
    (length are ≡ length program)
    × ((slot : ℕ) → slot < length program → slice_index_or are slot false ≡ is_jumped_to program slot)

-- bytes that begin with the first slots of others
pub record BeginsWith (count : ℕ) (others : List ℕ) (bytes : List ℕ) : Type 0 where
  pub long : 8 * count ≤ length bytes
  pub same : take (8 * count) bytes ≡ take (8 * count) others

use Rattle.std.proofs.Common.{◌≡◌, ℕ, Some}
use Rattle.semantics.specs.State.{State}
use Rattle.abstract_state.specs.Lent.{Lengths}
use Rattle.abstract_state.specs.State.{Contains}
use Rattle.abstract_state.specs.Situation.{Situation, IsSituation}
use Rattle.value_marks.specs.Marking.{marking_of}
use Rattle.value_marks.specs.Bearing.{BearsBy}
use Rattle.value_marks.specs.Telling.{Tells, teller_of, each, register_hears}
use Rattle.value_marks.proofs.telling.Teller.tell_registers.Given as goal

abbrev pub invariant-loop-register : goal.invariant-loop-register
invariant-loop-register l = record {
  sound : (lengths : Lengths) (origins : ℕ → ℕ) (s : State) → Tells l.self lengths origins → BearsBy origins (marking_of l.marks) s → Contains l.initial.state lengths s → Contains l.state lengths s;
  rule : (was : Situation) → IsSituation l.initial.state was → (now : Situation) × (each (register_hears (teller_of l.self) (marking_of l.marks)) l.register was ≡ Some now) × IsSituation l.state now;
}

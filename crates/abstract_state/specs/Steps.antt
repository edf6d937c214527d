-- What a step of the machine leads to, at an instruction that is no comparison.
use Rattle.std.specs.Prelude.{◌≡◌, ◌≢◌, ℤ, pos, Option, Some, None, Ok, Err}
use Rattle.span_context.specs.declared.profile.Profile.{Profile}
use Rattle.bpf_words.specs.declared.instruction.Insn.{Insn}
use Rattle.bpf_words.specs.declared.instruction.Insn.TheVariants.{Compute, Negate, Extend, Convert, Jump, JumpLong}
use Rattle.bpf_words.specs.declared.instruction.Insn.TheVariants.{Branch, Load, LoadSigned, Store, LoadWide, Exit}
use Rattle.semantics.specs.State.{State}
use Rattle.semantics.specs.Step.{Moved, On, Returns}
use Rattle.abstract_state.specs.declared.state.AbsState.{AbsState}
use Rattle.abstract_state.specs.declared.step.Flow.{Flow}
use Rattle.abstract_state.specs.declared.step.Flow.TheVariants.{Live, Dead}
use Rattle.abstract_state.specs.Lent.{Lengths}
use Rattle.abstract_state.specs.State.{Span, lengths_of, Contains, WithinState, does}

-- by how many slots, counted from the slot after it, an instruction goes on
abbrev pub distance_of : Insn → ℤ
distance_of (Compute w op d o) = pos 0
distance_of (Negate w d) = pos 0
distance_of (Extend e d r) = pos 0
distance_of (Convert c b d) = pos 0
distance_of (Jump distance) = distance
distance_of (JumpLong distance) = distance
distance_of (Branch w c l r distance) = pos 0
distance_of (Load z d b o) = pos 0
distance_of (LoadSigned z d b o) = pos 0
distance_of (Store z b o v) = pos 0
distance_of (LoadWide d v) = pos 1
distance_of Exit = pos 0

-- no instruction of a structured program writes r10; a comparison has edges of its own
abbrev pub MayStep : Insn → Type 0
MayStep (Compute w op d o) = d ≢ 10
MayStep (Negate w d) = d ≢ 10
MayStep (Extend e d r) = d ≢ 10
MayStep (Convert c b d) = d ≢ 10
MayStep (Jump distance) = Unit {0}
MayStep (JumpLong distance) = Unit {0}
MayStep (Branch w c l r distance) = ⊥
MayStep (Load z d b o) = d ≢ 10
MayStep (LoadSigned z d b o) = d ≢ 10
MayStep (Store z b o v) = Unit {0}
MayStep (LoadWide d v) = d ≢ 10
MayStep Exit = Unit {0}

-- no fault; the next state, if there is one, is contained, and lies that far on; an end of the run has a live answer
abbrev pub Lands : Option AbsState → Lengths → ℤ → Moved → Type 0
Lands o lengths distance (Ok (On next far)) = (far ≡ distance) × WithinState o lengths next
Lands o lengths distance (Ok (Returns value)) = (a : AbsState) × (o ≡ Some a)
Lands o lengths distance (Err kind) = ⊥

-- from each contained state of a run of the profile; so where the answer is dead, no state was contained
abbrev pub StepsTo : Profile → AbsState → Insn → Option AbsState → Type 0
StepsTo profile a insn o =
    (span : Span) (s : State) → span.profile ≡ profile → Contains a (lengths_of span) s
    → Lands o (lengths_of span) (distance_of insn) (does span s insn)

-- the state after a step, if a run can come there
abbrev pub after : Flow → AbsState → Option AbsState
after Live a = Some a
after Dead a = None

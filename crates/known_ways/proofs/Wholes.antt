-- What is known before a slot is all of a state of the code, which has no more registers and slots than the machine.
use Rattle.std.proofs.Common.{◌≡◌, ℕ, nat_lt, if◌then◌else◌, Bool, true, false, [], Option, Some, None, length, refl, sym, ap, ◌∙◌, subst}
use Rattle.std.proofs.Math.Path.{fun_ext}
use Rattle.std.specs.Prelude.{option_map}
use Rattle.std.proofs.lemmas.Option.{same_Some}
use Rattle.span_context.specs.declared.profile.Profile.{Profile}
use Rattle.semantics.specs.Step.{Program}
use Rattle.abstract_state.specs.declared.state.AbsState.{AbsState}
use Rattle.abstract_state.specs.Stacks.{Slots, Marked}
use Rattle.abstract_state.specs.Situation.{Situation, Registers, Least, IsSituation, situation_of}
use Rattle.value_marks.specs.declared.mark.Mark.{Mark}
use Rattle.value_marks.specs.Marking.{Marking}
use Rattle.tracked_state.specs.declared.state.TrackedState.{TrackedState}
use Rattle.tracked_state.specs.Tracked.{TrackedSituation, tracked, tracked_of, beside, IsTracked, IsTrackedIn}
use Rattle.verifier.proofs.Deciding.{is_trimmed}
use Rattle.verifier.specs.Decides.{trimmed, trimmed_situation, trimmed_marking, known_before, known_below, falls_into, jumps_to, either_way}
use Rattle.known_ways.specs.Ways.{known_on}

-- ---- what is trimmed twice
twice : {A : Type 0} (b : Bool) (x d : A) → (if b then (if b then x else d) else d) ≡ (if b then x else d)
twice true x d = refl
twice false x d = refl

abbrev situation : Registers → Slots → Least → Situation
situation registers slots least = record { registers = registers; slots = slots; least = least }

same_situation : (a b : Registers) (x y : Slots) (least : Least) → a ≡ b → x ≡ y → situation a x least ≡ situation b y least
same_situation a b x y least e f = rw (e, f) refl

situation_twice : (s : Situation) → trimmed_situation (trimmed_situation s) ≡ trimmed_situation s
situation_twice s =
    same_situation (trimmed_situation (trimmed_situation s)).registers (trimmed_situation s).registers (trimmed_situation (trimmed_situation s)).slots (trimmed_situation s).slots s.least
    (fun_ext (λ i. twice (nat_lt i 11) (s.registers i) None)) (fun_ext (λ i. twice (nat_lt i 64) (s.slots i) (Marked [])))

abbrev marking : (ℕ → Option Mark) → (ℕ → Option Mark) → Marking
marking registers slots = record { registers = registers; slots = slots }

same_marking : (a b c d : ℕ → Option Mark) → a ≡ b → c ≡ d → marking a c ≡ marking b d
same_marking a b c d e f = rw (e, f) refl

marking_twice : (o : Option Marking) → option_map trimmed_marking (option_map trimmed_marking o) ≡ option_map trimmed_marking o
marking_twice None = refl
marking_twice (Some w) =
    ap (λ (x : Marking). Some x)
    (same_marking (trimmed_marking (trimmed_marking w)).registers (trimmed_marking w).registers (trimmed_marking (trimmed_marking w)).slots (trimmed_marking w).slots
    (fun_ext (λ i. twice (nat_lt i 11) (w.registers i) None)) (fun_ext (λ i. twice (nat_lt i 64) (w.slots i) None)))

same_tracked : (a b : Option Marking) (s t : Situation) → a ≡ b → s ≡ t → tracked a s ≡ tracked b t
same_tracked a b s t e f = rw (e, f) refl

trimmed_twice : (t : TrackedSituation) → trimmed (trimmed t) ≡ trimmed t
trimmed_twice t =
    same_tracked (option_map trimmed_marking (option_map trimmed_marking t.marking)) (option_map trimmed_marking t.marking) (trimmed_situation (trimmed_situation t.situation)) (trimmed_situation t.situation)
    (marking_twice t.marking) (situation_twice t.situation)

-- a state of eleven registers and 64 slots is all of a situation
pub state_trimmed : (a : AbsState) (s : Situation) → length a.registers ≡ 11 → length a.stack ≡ 64 → IsSituation a s → trimmed_situation s ≡ situation_of a
state_trimmed a s eleven all is =
    ap (λ (t : TrackedSituation). t.situation)
    (is_trimmed (beside a (record { marks = None })) (tracked None s) eleven all tt (record { state = is; copies = tt }))

-- ---- a state that is all of what it is taken as
abbrev pub IsWhole : TrackedState → Type 0
IsWhole a = (t : TrackedSituation) → IsTracked a t → trimmed t ≡ tracked_of a

whole_of : (a : TrackedState) (o : Option TrackedSituation) → IsWhole a → IsTrackedIn (Some a) (option_map trimmed o) → option_map trimmed o ≡ Some (tracked_of a)
whole_of a None whole is = absurd (cc)
whole_of a (Some t) whole (b, same, is) =
    let here : IsTracked a (trimmed t) = subst (λ (x : TrackedState). IsTracked x (trimmed t)) (sym (same_Some a b same)) is in
    ap (λ (x : TrackedSituation). Some x) (sym (trimmed_twice t) ∙ whole (trimmed t) here)

-- where the code has a state before a slot, that is what is known there
pub before_some : (profile : Profile) (program : Program) (slot : ℕ) (o : Option TrackedState) (a : TrackedState) → o ≡ Some a → IsWhole a → IsTrackedIn o (known_before profile program slot) → known_before profile program slot ≡ Some (tracked_of a)
unfolding known_before
before_some profile program slot o a is whole known =
    whole_of a (either_way profile (falls_into profile program (known_below profile program slot) slot) (jumps_to profile program (known_below profile program slot) slot slot)) whole
    (subst (λ (x : Option TrackedState). IsTrackedIn x (known_before profile program slot)) is known)

none_of : (o : Option TrackedState) (known : Option TrackedSituation) → o ≡ None → IsTrackedIn o known → known ≡ None
none_of o None is none = refl
none_of o (Some t) is (a, same, there) = absurd (cc (is, same))

-- where it has none, no run comes there
pub before_none : (profile : Profile) (program : Program) (slot : ℕ) (o : Option TrackedState) → o ≡ None → IsTrackedIn o (known_before profile program slot) → known_before profile program slot ≡ None
before_none profile program slot o is known = none_of o (known_before profile program slot) is known

-- ---- of an edge
abbrev pub IsWholeState : AbsState → Type 0
IsWholeState a = (s : Situation) → IsSituation a s → trimmed_situation s ≡ situation_of a

pub edge_some : (o : Option TrackedState) (a : TrackedState) (edge : Option TrackedSituation) → o ≡ Some a → IsWholeState a.state → IsTrackedIn o edge → Some (situation_of a.state) ≡ known_on edge
edge_some o a None is whole none = absurd (cc (is, none))
edge_some o a (Some t) is whole (b, same, there) =
    let other : b ≡ a = same_Some b a (sym same ∙ is) in
    let here : IsSituation a.state t.situation = subst (λ (x : TrackedState). IsSituation x.state t.situation) other there.state in
    ap (λ (s : Situation). Some s) (sym (whole t.situation here))

pub edge_none : (o : Option TrackedState) (edge : Option TrackedSituation) → o ≡ None → IsTrackedIn o edge → None ≡ known_on edge
edge_none o edge is known = sym (ap known_on (none_of o edge is known))

pub own_whole : (a : AbsState) → IsWholeState a → Some (situation_of a) ≡ Some (trimmed_situation (situation_of a))
own_whole a whole =
    ap (λ (s : Situation). Some s)
    (sym (whole (situation_of a) (record { registers = λ i few. refl; slots = λ i few. refl; least = refl })))

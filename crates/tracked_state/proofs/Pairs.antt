-- What a state and its marks keep together.
use Rattle.std.proofs.Common.{◌≡◌, ℕ, ℤ, ◌≤◌, Option, Some, None, Result, Ok, Err, option_map, refl, sym, subst, arith}
use Rattle.std.specs.Result.{IfOk}
use Rattle.span_context.specs.declared.profile.Profile.{Profile}
use Rattle.span_context.specs.declared.profile.Profile.TheVariants.{One, Two, Three}
use Rattle.bpf_words.specs.declared.instruction.Insn.{Insn}
use Rattle.semantics.specs.State.{State}
use Rattle.semantics.specs.Step.{Moved, On, Returns}
use Rattle.abstract_state.specs.declared.refusal.Refusal.{Refusal}
use Rattle.abstract_state.specs.declared.state.AbsState.{AbsState}
use Rattle.abstract_state.specs.declared.step.Flow.{Flow}
use Rattle.abstract_state.specs.declared.step.Flow.TheVariants.{Live, Dead}
use Rattle.abstract_state.specs.Lent.{Lengths}
use Rattle.abstract_state.specs.State.{Span, lengths_of, Contains, WithinState, does}
use Rattle.abstract_state.specs.Steps.{after, Lands, StepsTo, distance_of}
use Rattle.abstract_state.specs.Situation.{Situation, IsSituation, IsSituationIn}
use Rattle.value_marks.specs.declared.mark.Mark.{Mark}
use Rattle.value_marks.specs.declared.marks.Marks.{Marks}
use Rattle.value_marks.specs.declared.copies.Copies.{Copies}
use Rattle.value_marks.specs.Marking.{marking_of, IsMarking, no_marks}
use Rattle.value_marks.specs.Bearing.{Bears}
use Rattle.value_marks.specs.Copies.{Bear, LieBelow, AreMarking, kept}
use Rattle.tracked_state.specs.declared.state.TrackedState.{TrackedState}
use Rattle.tracked_state.specs.Tracked.{WithinTracked, IsTrackedIn, beside, with_copies, tracked}
use Rattle.tracked_state.specs.Tracking.{after_tracked, LandsTracked, StepsToTracked}
use Rattle.tracked_state.specs.Rules.{first_marking}

abbrev pub both : AbsState → Copies → TrackedState
both a c = beside a c

same_some : {A : Type 0} (a b : A) → Some a ≡ Some b → b ≡ a
same_some a b e = cc

none_some : {A : Type 0} (a : A) → None ≡ Some a → ⊥
none_some a e = cc

-- ---- marks
pub own_marking : (o : Option Marks) → AreMarking o (option_map marking_of o)
own_marking None = tt
own_marking (Some m) = record { registers = λ i h. refl; slots = λ i h. refl }

pub unmarked : (o : Option Marks) → AreMarking o None → o ≡ None
unmarked None is = refl
unmarked (Some m) is = absurd is

pub marks_none : (o : Option Marks) → o ≡ None → AreMarking o None
marks_none o none = subst (λ (x : Option Marks). AreMarking x None) (sym none) tt

no_mark : (o : Option Mark) (m : Mark) → o ≡ None → o ≡ Some m → ⊥
no_mark o m e f = cc

bears_nothing : (marks : Marks) (s : State) → IsMarking marks no_marks → Bears (marking_of marks) s
bears_nothing marks s is = (
  λ slot. 0,
  record {
    registers = λ i h m n there stands. absurd (no_mark _ m (is.registers i h) there);
    slots = λ i h m n there stands. absurd (no_mark _ m (is.slots i h) there);
  },
)

pub bears_first : (profile : Profile) (o : Option Marks) (s : State) → AreMarking o (first_marking profile) → Bear o s
bears_first One None s is = tt
bears_first One (Some m) s is = absurd is
bears_first Two None s is = tt
bears_first Two (Some m) s is = absurd is
bears_first Three None s is = absurd is
bears_first Three (Some m) s is = bears_nothing m s is

lies_below : (m k : ℕ) (o : Option Marks) → m ≤ k → LieBelow m o → LieBelow k o
lies_below m k None h below = tt
lies_below m k (Some marks) h below = record {
  registers = λ i mark there. let less = below.registers i mark there in omega (arith, less, h);
  slots = λ i mark there. let less = below.slots i mark there in omega (arith, less, h);
}

pub copy_lies_below : (m k : ℕ) (o p : Option Marks) → m ≤ k → p ≡ o → LieBelow m o → LieBelow k p
copy_lies_below m k o p h same below = lies_below m k p h (subst (λ (x : Option Marks). LieBelow m x) (sym same) below)

-- ---- an edge
pub nothing_within : (lengths : Lengths) (s : State) → WithinState None lengths s → ⊥
nothing_within lengths s (a, is, held) = none_some a is

pub within_both : (a : AbsState) (c : Copies) (o : Option Marks) (lengths : Lengths) (s : State) → kept c ≡ o → Bear o s → WithinState (Some a) lengths s → WithinTracked (Some (both a c)) lengths s
within_both a c o lengths s same bears (b, is, held) = (
  both a c,
  refl,
  record {
    state = subst (λ (x : AbsState). Contains x lengths s) (same_some a b is) held;
    copies = subst (λ (x : Option Marks). Bear x s) (sym same) bears;
  },
)

pub tracked_edge : (a : AbsState) (c : Copies) (o : Option Marks) (told : Option Situation) → kept c ≡ o → IsSituationIn (Some a) told → IsTrackedIn (Some (both a c)) (option_map (tracked (option_map marking_of o)) told)
tracked_edge a c o None same is = absurd (none_some a (sym is))
tracked_edge a c o (Some t) same (b, is, shows) = (
  both a c,
  refl,
  record {
    state = subst (λ (x : AbsState). IsSituation x t) (same_some a b is) shows;
    copies = subst (λ (x : Option Marks). AreMarking x (option_map marking_of o)) (sym same) (own_marking o);
  },
)

-- an edge that keeps the copies of what was before it
pub beside_within : (o : Option AbsState) (c : Copies) (lengths : Lengths) (s : State) → Bear (kept c) s → WithinState o lengths s → WithinTracked (with_copies o c) lengths s
beside_within None c lengths s bears within = absurd (nothing_within lengths s within)
beside_within (Some a) c lengths s bears within = within_both a c (kept c) lengths s refl bears within

pub beside_tracked : (o : Option AbsState) (c : Copies) (told : Option Situation) → IsSituationIn o told → IsTrackedIn (with_copies o c) (option_map (tracked (option_map marking_of (kept c))) told)
beside_tracked None c None is = refl
beside_tracked None c (Some t) (a, there, is) = absurd (none_some a there)
beside_tracked (Some a) c told is = tracked_edge a c (kept c) told refl is

-- ---- a step
abbrev BearsThen : Copies → Moved → Type 0
BearsThen c moved = (next : State) (far : ℤ) → moved ≡ Ok (On next far) → Bear (kept c) next

lands : (flow : Flow) (a : AbsState) (c : Copies) (lengths : Lengths) (distance : ℤ) (moved : Moved) → BearsThen c moved → Lands (after flow a) lengths distance moved → LandsTracked (after_tracked flow (both a c)) lengths distance moved
lands Live a c lengths distance (Ok (On next far)) bears (same, within) = (same, within_both a c (kept c) lengths next refl (bears next far refl) within)
lands Dead a c lengths distance (Ok (On next far)) bears (same, within) = absurd (nothing_within lengths next within)
lands Live a c lengths distance (Ok (Returns value)) bears live = (both a c, refl)
lands Dead a c lengths distance (Ok (Returns value)) bears (b, is) = absurd (none_some b is)
lands flow a c lengths distance (Err kind) bears fault = fault

abbrev BearsAfter : TrackedState → Insn → Copies → Type 0
BearsAfter old insn c = (span : Span) (s next : State) (far : ℤ) → Contains old.state (lengths_of span) s → Bear (kept old.copies) s → does span s insn ≡ Ok (On next far) → Bear (kept c) next

pub steps_tracked : (profile : Profile) (old : TrackedState) (insn : Insn) (result : Result Flow Refusal) (a : AbsState) (c : Copies) → BearsAfter old insn c → IfOk result (λ flow. StepsTo profile old.state insn (after flow a)) → IfOk result (λ flow. StepsToTracked profile old insn (after_tracked flow (both a c)))
steps_tracked profile old insn (Ok flow) a c bears steps = λ span s which held.
    lands flow a c (lengths_of span) (distance_of insn) (does span s insn) (λ next far ran. bears span s next far held.state held.copies ran) (steps span s which held.state)
steps_tracked profile old insn (Err refusal) a c bears steps = tt

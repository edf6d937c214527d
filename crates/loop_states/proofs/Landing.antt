-- Where a step and a comparison lead, with the marks that are true there.
use Rattle.std.proofs.Common.{◌≡◌, ℕ, ℤ, Bool, Option, Some, None, Result, Ok, Err, option_map, refl, sym, ◌∙◌, ap, subst}
use Rattle.std.specs.Option.{IfSome, option_and_then}
use Rattle.std.specs.Result.{IfOk}
use Rattle.std.specs.declared.alloc.AllocError.{AllocError}
use Rattle.std.specs.declared.alloc.Global.{Global}
use Rattle.std.specs.declared.boxed.Box.{Box}
use Rattle.span_context.specs.declared.profile.Profile.TheVariants.{Three}
use Rattle.bpf_words.specs.declared.instruction.Insn.{Insn}
use Rattle.bpf_words.specs.declared.instruction.Width.{Width}
use Rattle.bpf_words.specs.declared.instruction.Comparison.{Comparison}
use Rattle.bpf_words.specs.declared.instruction.Operand.{Operand}
use Rattle.semantics.specs.State.{State, start}
use Rattle.semantics.specs.Step.{Moved, On, Returns}
use Rattle.abstract_state.specs.declared.refusal.Refusal.{Refusal}
use Rattle.abstract_state.specs.declared.state.AbsState.{AbsState}
use Rattle.abstract_state.specs.declared.step.Flow.{Flow}
use Rattle.abstract_state.specs.declared.step.Flow.TheVariants.{Live, Dead}
use Rattle.abstract_state.specs.Addresses.{answer_of}
use Rattle.abstract_state.specs.Lent.{Lengths}
use Rattle.abstract_state.specs.Situation.{Situation, IsSituation, Flows, AnswersStep}
use Rattle.abstract_state.specs.State.{Span, lengths_of, Contains, WithinState, does}
use Rattle.abstract_state.specs.Steps.{after, Lands, StepsTo, distance_of}
use Rattle.value_marks.specs.declared.marks.Marks.{Marks}
use Rattle.value_marks.specs.declared.copies.Copies.{Copies}
use Rattle.value_marks.specs.Marking.{Marking, marking_of}
use Rattle.value_marks.specs.Copies.{AreMarking, in_box, kept}
use Rattle.abstract_state.proofs.Registers.{state_at, state_none}
use Rattle.tracked_state.specs.declared.state.TrackedState.{TrackedState}
use Rattle.tracked_state.specs.Tracked.{ContainsTracked, WithinTracked, TrackedSituation, IsTracked, IsTrackedIn, beside, tracked}
use Rattle.tracked_state.specs.Tracking.{TrackedEdge, AnswersTrackedStep, after_tracked}
use Rattle.tracked_state.specs.Rules.{entry}
use Rattle.tracked_state.proofs.Pairs.{nothing_within}
use Rattle.loop_states.specs.Contained.{BearIn, ContainsInLoop, WithinInLoop, LandsInLoop, StepsInLoop, EdgeInLoop}
use Rattle.loop_states.specs.Across.{both_sides_tell, tell_if_marked}
use Rattle.loop_states.proofs.Bearing.{bear_none, contains_tracked}

none_some : (a : TrackedState) → None ≡ Some a → ⊥
none_some a e = cc

same_some : {A : Type 0} (a b : A) → Some a ≡ Some b → b ≡ a
same_some a b e = cc

-- ---- the start
pub starts_in_loop : (result : Result TrackedState AllocError) → IfOk result (λ a. (span : Span) → ContainsTracked a (lengths_of span) start) → IfOk result (λ a. IsTracked a (entry Three)) → IfOk result (λ a. (span : Span) → ContainsInLoop a (lengths_of span) start)
starts_in_loop (Ok a) contains rule = λ span. record {
  state = (contains span).state;
  marks = bear_none (lengths_of span) (kept a.copies) start rule.copies;
}
starts_in_loop (Err e) contains rule = tt

-- ---- a step
abbrev BearsThen : Lengths → Copies → Moved → Type 0
BearsThen lengths c moved = (next : State) (far : ℤ) → moved ≡ Ok (On next far) → BearIn lengths (kept c) next

within_both : (a : AbsState) (c : Copies) (lengths : Lengths) (s : State) → BearIn lengths (kept c) s → WithinState (Some a) lengths s → WithinInLoop (Some (beside a c)) lengths s
within_both a c lengths s bears (b, is, held) = (
  beside a c,
  refl,
  record { state = subst (λ (x : AbsState). Contains x lengths s) (same_some a b is) held; marks = bears },
)

no_state : (b : AbsState) → None ≡ Some b → ⊥
no_state b e = cc

lands : (flow : Flow) (a : AbsState) (c : Copies) (lengths : Lengths) (distance : ℤ) (moved : Moved) → BearsThen lengths c moved → Lands (after flow a) lengths distance moved → LandsInLoop (after_tracked flow (beside a c)) lengths distance moved
lands Live a c lengths distance (Ok (On next far)) bears (same, within) = (same, within_both a c lengths next (bears next far refl) within)
lands Dead a c lengths distance (Ok (On next far)) bears (same, within) = absurd (nothing_within lengths next within)
lands Live a c lengths distance (Ok (Returns value)) bears live = (beside a c, refl)
lands Dead a c lengths distance (Ok (Returns value)) bears (b, is) = absurd (no_state b is)
lands flow a c lengths distance (Err kind) bears fault = fault

abbrev BearsAfter : TrackedState → Insn → Copies → Type 0
BearsAfter old insn c =
    (span : Span) (s next : State) (far : ℤ) → span.profile ≡ Three → Contains old.state (lengths_of span) s → BearIn (lengths_of span) (kept old.copies) s → does span s insn ≡ Ok (On next far) → BearIn (lengths_of span) (kept c) next

pub steps_in_loop : (old : TrackedState) (insn : Insn) (result : Result Flow Refusal) (a : AbsState) (c : Copies) → BearsAfter old insn c → IfOk result (λ flow. StepsTo Three old.state insn (after flow a)) → IfOk result (λ flow. StepsInLoop old insn (after_tracked flow (beside a c)))
steps_in_loop old insn (Ok flow) a c bears steps = λ span s third held.
    lands flow a c (lengths_of span) (distance_of insn) (does span s insn) (λ next far ran. bears span s next far third held.state held.marks ran) (steps span s third held.state)
steps_in_loop old insn (Err refusal) a c bears steps = tt

pub answers_in_loop : (rule : Result (Option Situation) Refusal) (marking : Option Marking) (result : Result Flow Refusal) (a : AbsState) (c : Copies) → AreMarking (kept c) marking → AnswersStep rule result a → AnswersTrackedStep (answer_of (option_map (tracked marking)) rule) result (beside a c)
answers_in_loop (Ok None) marking result a c marks (flow, is, dead) = (flow, is, dead)
answers_in_loop (Ok (Some s)) marking result a c marks (flow, is, (live, shows)) = (flow, is, (live, record { state = shows; copies = marks }))
answers_in_loop (Err refusal) marking result a c marks refused = refused

-- ---- an edge of a comparison
within_edge : (a : TrackedState) (edge : Option TrackedState) (lengths : Lengths) (s : State) → IfSome edge (λ b. kept b.copies ≡ kept a.copies) → BearIn lengths (kept a.copies) s → WithinTracked edge lengths s → WithinInLoop edge lengths s
within_edge a None lengths s same bears (b, there, held) = absurd (none_some b there)
within_edge a (Some e) lengths s same bears (b, there, held) = (
  e,
  refl,
  record {
    state = subst (λ (x : TrackedState). Contains x.state lengths s) (same_some e b there) held.state;
    marks = subst (λ (o : Option Marks). BearIn lengths o s) (sym same) bears;
  },
)

pub edge_in_loop : (a : TrackedState) (width : Width) (comparison : Comparison) (left : ℕ) (right : Operand) (taken : Bool) (edge : Option TrackedState) → IfSome edge (λ b. kept b.copies ≡ kept a.copies) → TrackedEdge a width comparison left right taken edge → EdgeInLoop a width comparison left right taken edge
edge_in_loop a width comparison left right taken edge same goes = λ span s held.
    let (m, (n, one, other, within)) = goes span s (contains_tracked a (lengths_of span) s held) in
    (m, (n, one, other, λ h. within_edge a edge (lengths_of span) s same held.marks (within h)))

-- ---- what is told across kinds on an edge
tells_marked : (c : Copies) (box : Box Marks Global) (m : Marks) (left : ℕ) (right : Operand) (was : Situation) → c.marks ≡ Some box → m ≡ box.value → tell_if_marked left right (option_map marking_of (kept c)) was ≡ both_sides_tell left right (marking_of m) was
tells_marked c box m left right was is same =
    ap (λ (o : Option (Box Marks Global)). tell_if_marked left right (option_map marking_of (in_box o)) was) is
    ∙ ap (λ (x : Marks). both_sides_tell left right (marking_of x) was) (sym same)

pub flows_marked : (c : Copies) (box : Box Marks Global) (m : Marks) (left : ℕ) (right : Operand) (was : Situation) (flow : Flow) (b : AbsState) → c.marks ≡ Some box → m ≡ box.value → Flows (both_sides_tell left right (marking_of m) was) flow b → Flows (tell_if_marked left right (option_map marking_of (kept c)) was) flow b
flows_marked c box m left right was flow b is same told = subst (λ (o : Option Situation). Flows o flow b) (sym (tells_marked c box m left right was is same)) told

same_edge : (edge : Option TrackedState) (a b : TrackedState) → edge ≡ Some a → edge ≡ Some b → b ≡ a
same_edge edge a b e f = cc

not_both : (edge : Option TrackedState) (a : TrackedState) → edge ≡ None → edge ≡ Some a → ⊥
not_both edge a e f = cc

held_in : (edge : Option TrackedState) (a : TrackedState) (lengths : Lengths) (s : State) → edge ≡ Some a → WithinInLoop edge lengths s → ContainsInLoop a lengths s
held_in edge a lengths s is (b, there, held) = subst (λ (x : TrackedState). ContainsInLoop x lengths s) (same_edge edge a b is there) held

pub across_live : (edge : Option TrackedState) (a : TrackedState) (b : AbsState) (lengths : Lengths) (s : State) → edge ≡ Some a → (Contains a.state lengths s → WithinState (Some b) lengths s) → WithinInLoop edge lengths s → WithinInLoop (Some (beside b a.copies)) lengths s
across_live edge a b lengths s is told within =
    let held = held_in edge a lengths s is within in
    (beside b a.copies, refl, record { state = state_at (Some b) b lengths s refl (told held.state); marks = held.marks })

pub across_dead : (edge : Option TrackedState) (a : TrackedState) (lengths : Lengths) (s : State) → edge ≡ Some a → (Contains a.state lengths s → WithinState None lengths s) → WithinInLoop edge lengths s → ⊥
across_dead edge a lengths s is told within = state_none None lengths s refl (told (held_in edge a lengths s is within).state)

with_marking : (o : Option Situation) (marking : Option Marking) (b : AbsState) (c : Copies) (flow : Flow) (l : Option TrackedState) → l ≡ after_tracked flow (beside b c) → AreMarking (kept c) marking → Flows o flow b → IsTrackedIn l (option_map (tracked marking) o)
with_marking None marking b c flow l same marks dead = same ∙ ap (λ (f : Flow). after_tracked f (beside b c)) dead
with_marking (Some s) marking b c flow l same marks (live, shows) = (
  beside b c,
  same ∙ ap (λ (f : Flow). after_tracked f (beside b c)) live,
  record { state = shows; copies = marks },
)

pub across_is : (edge : Option TrackedState) (a : TrackedState) (b : AbsState) (g : Situation → Option Situation) (flow : Flow) (l : Option TrackedState) (was : Option TrackedSituation) → edge ≡ Some a → ((s : Situation) → IsSituation a.state s → Flows (g s) flow b) → l ≡ after_tracked flow (beside b a.copies) → IsTrackedIn edge was → IsTrackedIn l (option_and_then (λ t. option_map (tracked t.marking) (g t.situation)) was)
across_is edge a b g flow l None is told same there = absurd (not_both edge a there is)
across_is edge a b g flow l (Some t) is told same (x, there, shows) =
    let here = subst (λ (y : TrackedState). IsTracked y t) (same_edge edge a x is there) shows in
    with_marking (g t.situation) t.marking b a.copies flow l same here.copies (told t.situation here.state)

pub tells_edge : (a : TrackedState) (width : Width) (comparison : Comparison) (left : ℕ) (right : Operand) (taken : Bool) (edge new : Option TrackedState) → ((lengths : Lengths) (s : State) → BearIn lengths (kept a.copies) s → WithinInLoop edge lengths s → WithinInLoop new lengths s) → EdgeInLoop a width comparison left right taken edge → EdgeInLoop a width comparison left right taken new
tells_edge a width comparison left right taken edge new told goes = λ span s held.
    let (m, (n, one, other, within)) = goes span s held in
    (m, (n, one, other, λ h. told (lengths_of span) s held.marks (within h)))

-- Where an instruction leads the machine, by what is known on its edges.
use Rattle.std.proofs.Common.{◌≡◌, ◌≢◌, ℕ, ℤ, pos, ◌-◌, Bool, true, false, if◌then◌else◌, Option, Some, None, Result, Ok, Err, refl, sym, ap, subst, ◌∙◌, inl, inr}
use Rattle.span_context.specs.Context.{SpanBytes}
use Rattle.span_context.specs.declared.profile.Profile.TheVariants.{Three}
use Rattle.bpf_words.specs.declared.instruction.Width.{Width}
use Rattle.bpf_words.specs.declared.instruction.Comparison.{Comparison}
use Rattle.bpf_words.specs.declared.instruction.Operand.{Operand}
use Rattle.bpf_words.specs.declared.instruction.Insn.{Insn}
use Rattle.bpf_words.specs.declared.instruction.Insn.TheVariants.{Compute, Negate, Extend, Convert, Jump, JumpLong, Branch, Load, LoadSigned, Store, LoadWide, Exit}
use Rattle.bpf_words.specs.Flow.{jump_of, slots_of, written_by}
use Rattle.semantics.specs.declared.FaultKind.{FaultKind}
use Rattle.semantics.specs.State.{State, register_of, operand_in}
use Rattle.semantics.specs.Value.{cut, holds_of}
use Rattle.semantics.specs.Step.{Moved, On, Returns, then_with, perform}
use Rattle.semantics.specs.Safe.{IsSpanIn}
use Rattle.loop_labels.specs.Rules.{Edges, ContainsIn, Lands}
use Rattle.abstract_state.specs.State.{Span, lengths_of, does}
use Rattle.abstract_state.specs.Steps.{MayStep, distance_of}
use Rattle.tracked_state.specs.declared.state.TrackedState.{TrackedState}
use Rattle.tracked_state.specs.declared.branch.TrackedEdges.{TrackedEdges}
use Rattle.tracked_state.specs.Tracked.{ContainsTracked}
use Rattle.loop_states.specs.Contained.{ContainsInLoop, WithinInLoop, LandsInLoop, StepsInLoop, EdgeInLoop}
use Rattle.loop_states.proofs.Bearing.{contains_tracked}
use Rattle.loop_check.specs.declared.label.Label.{Label}
use Rattle.loop_check.specs.Rules.{lent, contains, states_in, EdgesBy, JumpEdges, StepEdges}
use Rattle.loop_check.specs.Meanings.{LandsOn}
use Rattle.loop_check.specs.Leads.{IsJump, IsPlain}

-- ---- instructions of one kind
pub jump_granted : (at : ℕ) (insn : Insn) → IsJump insn → (a : TrackedState) (edges : Edges Label) → JumpEdges a edges
    → EdgesBy at insn a edges
jump_granted at (Jump distance) is a edges granted = granted
jump_granted at (JumpLong distance) is a edges granted = granted
jump_granted at insn is a edges granted = absurd is

pub jump_back : (at : ℕ) (insn : Insn) → IsJump insn → (a : TrackedState) (edges : Edges Label)
    → EdgesBy at insn a edges → JumpEdges a edges
jump_back at (Jump distance) is a edges granted = granted
jump_back at (JumpLong distance) is a edges granted = granted
jump_back at insn is a edges granted = absurd is

pub jump_far : (insn : Insn) → IsJump insn → (distance : ℤ) × (jump_of insn ≡ Some distance)
jump_far (Jump distance) is = (distance, refl)
jump_far (JumpLong distance) is = (distance, refl)
jump_far insn is = absurd is

pub plain_jump : (insn : Insn) → IsPlain insn → jump_of insn ≡ None
plain_jump (Jump distance) is = absurd is
plain_jump (JumpLong distance) is = absurd is
plain_jump (Branch w c l r distance) is = absurd is
plain_jump insn is = refl

plain_distance : (insn : Insn) → IsPlain insn → distance_of insn ≡ pos (slots_of insn - 1)
plain_distance (Jump distance) is = absurd is
plain_distance (JumpLong distance) is = absurd is
plain_distance (Branch w c l r distance) is = absurd is
plain_distance insn is = refl

pub plain_granted : (at : ℕ) (insn : Insn) → IsPlain insn → (a : TrackedState) (edges : Edges Label)
    → StepEdges at insn a edges → EdgesBy at insn a edges
plain_granted at (Jump distance) is a edges granted = absurd is
plain_granted at (JumpLong distance) is a edges granted = absurd is
plain_granted at (Branch w c l r distance) is a edges granted = absurd is
plain_granted at Exit is a edges granted = absurd is
plain_granted at insn is a edges granted = granted

pub plain_back : (at : ℕ) (insn : Insn) → IsPlain insn → (a : TrackedState) (edges : Edges Label)
    → EdgesBy at insn a edges → StepEdges at insn a edges
plain_back at (Jump distance) is a edges granted = absurd is
plain_back at (JumpLong distance) is a edges granted = absurd is
plain_back at (Branch w c l r distance) is a edges granted = absurd is
plain_back at Exit is a edges granted = absurd is
plain_back at insn is a edges granted = granted

spared : (register : ℕ) → (Some register ≡ Some 10 → ⊥) → register ≢ 10
spared register spares = λ e. spares (ap (λ (n : ℕ). Some n) e)

pub may_step : (insn : Insn) → IsPlain insn → (written_by insn ≡ Some 10 → ⊥) → MayStep insn
may_step (Compute w op d o) is spares = spared d spares
may_step (Negate w d) is spares = spared d spares
may_step (Extend e d r) is spares = spared d spares
may_step (Convert c b d) is spares = spared d spares
may_step (Load z d b o) is spares = spared d spares
may_step (LoadSigned z d b o) is spares = spared d spares
may_step (Store z b o v) is spares = tt
may_step (LoadWide d v) is spares = spared d spares
may_step insn is spares = absurd is

-- ---- what an edge contains
no_state : (o : Option TrackedState) (a : TrackedState) → None ≡ o → o ≡ Some a → ⊥
no_state o a e f = cc

that_state : (o : Option TrackedState) (b a : TrackedState) → Some b ≡ o → o ≡ Some a → a ≡ b
that_state o b a e f = cc

inside : (edge : Option Label) (behind : Option TrackedState) (bytes : SpanBytes) (s : State) → states_in edge ≡ behind
    → IsSpanIn Three bytes
    → ((whole : IsSpanIn Three bytes) → WithinInLoop behind (lengths_of (lent bytes whole)) s)
    → ContainsIn contains edge bytes s
inside None behind bytes s same span within =
    let (a, there, held) = within span in absurd (no_state behind a same there)
inside (Some label) behind bytes s same span within = λ whole.
    let (a, there, held) = within whole in
    subst (λ (x : TrackedState). ContainsInLoop x (lengths_of (lent bytes whole)) s)
    (that_state behind label.state a same there) held

-- ---- a jump
pub jump_lands : (insn : Insn) → IsJump insn → (from : Label) (edge : Label) → edge.state ≡ from.state
    → LandsOn insn from (record { taken = Some edge; untaken = None })
jump_lands (Jump distance) is from edge same = λ bytes s span held. inl (
  refl,
  λ whole. subst (λ (x : TrackedState). ContainsInLoop x (lengths_of (lent bytes whole)) s) (sym same) (held whole),
)
jump_lands (JumpLong distance) is from edge same = λ bytes s span held. inl (
  refl,
  λ whole. subst (λ (x : TrackedState). ContainsInLoop x (lengths_of (lent bytes whole)) s) (sym same) (held whole),
)
jump_lands insn is from edge same = absurd is

-- ---- an instruction with no edge but to the next one
lands_behind : (insn : Insn) (edge : Option Label) (behind : Option TrackedState) (bytes : SpanBytes)
    → IsSpanIn Three bytes → states_in edge ≡ behind → distance_of insn ≡ pos (slots_of insn - 1) → (moved : Moved)
    → ((whole : IsSpanIn Three bytes) → LandsInLoop behind (lengths_of (lent bytes whole)) (distance_of insn) moved)
    → Lands contains bytes insn (record { taken = None; untaken = edge }) moved
lands_behind insn edge behind bytes span same far (Ok (On next distance)) lands =
    inr ((lands span).0 ∙ far, inside edge behind bytes next same span (λ whole. (lands whole).1))
lands_behind insn edge behind bytes span same far (Ok (Returns value)) lands = tt
lands_behind insn edge behind bytes span same far (Err kind) lands = lands span

pub plain_lands : (insn : Insn) → IsPlain insn → (from : Label) (edge : Option Label) (behind : Option TrackedState)
    → states_in edge ≡ behind → StepsInLoop from.state insn behind
    → LandsOn insn from (record { taken = None; untaken = edge })
plain_lands insn is from edge behind same steps = λ bytes s span held.
    lands_behind insn edge behind bytes span same (plain_distance insn is) (perform bytes s insn)
    (λ whole. steps (lent bytes whole) s refl (held whole))

-- ---- a comparison
same_ok : (r : Result ℕ FaultKind) (m n : ℕ) → r ≡ Ok m → r ≡ Ok n → m ≡ n
same_ok r m n e f = cc

within_edge : (a : TrackedState) (width : Width) (comparison : Comparison) (left : ℕ) (right : Operand) (taken : Bool)
    (edge : Option TrackedState) → EdgeInLoop a width comparison left right taken edge → (span : Span) (s : State)
    (m n : ℕ) → ContainsInLoop a (lengths_of span) s → register_of s left ≡ Ok m → operand_in s right ≡ Ok n
    → holds_of comparison width (cut width m) (cut width n) ≡ taken → WithinInLoop edge (lengths_of span) s
within_edge a width comparison left right taken edge goes span s m n held one other holds =
    let (k, (l, first, second, within)) = goes span s held in
    let same : m ≡ k = same_ok (register_of s left) m k one first in
    let equal : n ≡ l = same_ok (operand_in s right) n l other second in
    within
    (subst (λ (y : ℕ). holds_of comparison width (cut width k) (cut width y) ≡ taken) equal
    (subst (λ (x : ℕ). holds_of comparison width (cut width x) (cut width n) ≡ taken) same holds))

by_side : (width : Width) (comparison : Comparison) (left : ℕ) (right : Operand) (distance : ℤ) (edges : Edges Label)
    (bytes : SpanBytes) (s : State) (holds : Bool) → (holds ≡ true → ContainsIn contains edges.taken bytes s)
    → (holds ≡ false → ContainsIn contains edges.untaken bytes s)
    → Lands contains bytes (Branch width comparison left right distance) edges
    (Ok (On s (if holds then distance else pos 0)))
by_side width comparison left right distance edges bytes s true one other = inl (refl, one refl)
by_side width comparison left right distance edges bytes s false one other = inr (refl, other refl)

pub branch_lands : (from : Label) (width : Width) (comparison : Comparison) (left : ℕ) (right : Operand) (distance : ℤ)
    (edges : Edges Label) (known : TrackedEdges) → states_in edges.taken ≡ known.taken
    → states_in edges.untaken ≡ known.untaken → EdgeInLoop from.state width comparison left right true known.taken
    → EdgeInLoop from.state width comparison left right false known.untaken
    → LandsOn (Branch width comparison left right distance) from edges
branch_lands from width comparison left right distance edges known one other taken untaken = λ bytes s span held.
    let insn : Insn = Branch width comparison left right distance in
    let (m, (n, first, second, within)) = taken (lent bytes span) s (held span) in
    let goes : ℕ → ℕ → Moved
    = λ a b. Ok (On s (if holds_of comparison width (cut width a) (cut width b) then distance else pos 0)) in
    let lands : Lands contains bytes insn edges (goes m n)
    = by_side width comparison left right distance edges bytes s (holds_of comparison width (cut width m) (cut width n))
    (λ holds. inside edges.taken known.taken bytes s one span
    (λ whole. within_edge from.state width comparison left right true known.taken taken (lent bytes whole) s m n
    (held whole) first second holds))
    (λ fails. inside edges.untaken known.untaken bytes s other span
    (λ whole. within_edge from.state width comparison left right false known.untaken untaken (lent bytes whole) s m n
    (held whole) first second fails)) in
    subst (λ (r : Result ℕ FaultKind). Lands contains bytes insn edges
    (then_with r (λ a. then_with (operand_in s right) (λ b. goes a b)))) (sym first)
    (subst (λ (r : Result ℕ FaultKind). Lands contains bytes insn edges (then_with r (λ b. goes m b))) (sym second) lands)

-- ---- an exit
pub exit_lands : (from : Label)
    → ((span : Span) (s : State) → ContainsTracked from.state (lengths_of span) s
    → (v : ℕ) × (does span s Exit ≡ Ok (Returns v)))
    → LandsOn Exit from (record { taken = None; untaken = None })
exit_lands from ends = λ bytes s span held.
    let (v, is) = ends (lent bytes span) s (contains_tracked from.state (lengths_of (lent bytes span)) s (held span)) in
    subst (λ (moved : Moved). Lands contains bytes Exit (record { taken = None; untaken = None }) moved) (sym is) tt

-- What leads to labels whatever the states are, leads there from the states that are known.
use Rattle.std.proofs.Common.{◌≡◌, ℕ, ℤ, pos, ◌+◌, ◌+ℤ◌, List, Option, Some, None, Result, Ok, Err, refl, sym, ap, subst, ◌∙◌}
use Rattle.std.specs.Result.{IfErr, IsErrAnd}
use Rattle.bpf_words.specs.declared.instruction.Width.{Width}
use Rattle.bpf_words.specs.declared.instruction.Comparison.{Comparison}
use Rattle.bpf_words.specs.declared.instruction.Operand.{Operand}
use Rattle.bpf_words.specs.declared.instruction.Insn.{Insn}
use Rattle.bpf_words.specs.declared.instruction.Insn.TheVariants.{Compute, Negate, Extend, Convert, Jump, JumpLong, Branch, Load, LoadSigned, LoadWide, Exit}
use Rattle.std.specs.Prelude.{slice_get}
use Rattle.bpf_words.specs.Flow.{StartsAt, jump_of, written_by}
use Rattle.semantics.specs.Step.{Program}
use Rattle.abstract_state.specs.declared.refusal.Refusal.{Refusal}
use Rattle.abstract_state.specs.Steps.{MayStep}
use Rattle.tracked_state.specs.declared.stop.Stop.{Stop}
use Rattle.tracked_state.specs.declared.stop.Stop.TheVariants.{Refused, OutOfMemory}
use Rattle.tracked_state.specs.declared.state.TrackedState.{TrackedState}
use Rattle.tracked_state.specs.declared.branch.TrackedEdges.{TrackedEdges}
use Rattle.tracked_state.specs.Tracked.{TrackedSituation, IsTrackedIn}
use Rattle.tracked_state.specs.Tracking.{AnswersTrackedBranch}
use Rattle.tracked_state.specs.Rules.{TrackedWays}
use Rattle.loop_check.specs.declared.label.Label.{Label}
use Rattle.loop_check.specs.declared.refusal.Failure.{Failure}
use Rattle.loop_check.specs.declared.refusal.Failure.TheVariants as failure
use Rattle.loop_check.specs.Failures.{failure_of}
use Rattle.loop_check.specs.Rules.{loop_rules}
use Rattle.loop_check.specs.Leads.{LeadsOn, AnswersBehind, IsJump, IsPlain}
use Rattle.loop_check.specs.Always.{StepsAlways, BranchesAlways, GoesAlways}
use Rattle.loop_check.proofs.Among.{same_some}

-- ---- by kind
jump_at : (all : List (Option Label)) (slot : ℕ) (from : Label) (insn : Insn) (far distance : ℤ) → far ≡ distance
    → LeadsOn loop_rules all from insn (pos (slot + 1) +ℤ far) from.state
    → LeadsOn loop_rules all from insn (pos (slot + 1) +ℤ distance) from.state
jump_at all slot from insn far distance same leads =
    subst (λ (z : ℤ). LeadsOn loop_rules all from insn (pos (slot + 1) +ℤ z) from.state) same leads

pub jump_always : (all : List (Option Label)) (slot : ℕ) (from : Label) (insn : Insn) (distance : ℤ) → IsJump insn
    → jump_of insn ≡ Some distance → GoesAlways all slot from insn
    → LeadsOn loop_rules all from insn (pos (slot + 1) +ℤ distance) from.state
jump_always all slot from (Jump far) distance is jumps always =
    jump_at all slot from (Jump far) far distance (same_some far distance jumps) always
jump_always all slot from (JumpLong far) distance is jumps always =
    jump_at all slot from (JumpLong far) far distance (same_some far distance jumps) always
jump_always all slot from insn distance is jumps always = absurd is

pub plain_always : (all : List (Option Label)) (slot : ℕ) (from : Label) (insn : Insn) → IsPlain insn
    → GoesAlways all slot from insn → StepsAlways all slot from insn
plain_always all slot from (Jump distance) is always = absurd is
plain_always all slot from (JumpLong distance) is always = absurd is
plain_always all slot from (Branch w c l r distance) is always = absurd is
plain_always all slot from Exit is always = absurd is
plain_always all slot from insn is always = always

pub branch_always : (all : List (Option Label)) (slot : ℕ) (from : Label) (insn : Insn) (width : Width)
    (comparison : Comparison) (left : ℕ) (right : Operand) (distance : ℤ)
    → insn ≡ Branch width comparison left right distance → GoesAlways all slot from insn
    → BranchesAlways width comparison left right distance all slot from insn
branch_always all slot from insn width comparison left right distance is =
    subst (λ (i : Insn). GoesAlways all slot from i
    → BranchesAlways width comparison left right distance all slot from i) (sym is) (λ always. always)

spares_ten : (register : ℕ) → (register ≡ 10 → ⊥) → Some register ≡ Some 10 → ⊥
spares_ten register spares writes = spares (same_some register 10 writes)

no_register : (register : ℕ) → None ≡ Some register → ⊥
no_register register e = cc

pub not_written : (insn : Insn) → MayStep insn → written_by insn ≡ Some 10 → ⊥
not_written (Compute w op d o) may writes = spares_ten d may writes
not_written (Negate w d) may writes = spares_ten d may writes
not_written (Extend e d r) may writes = spares_ten d may writes
not_written (Convert c b d) may writes = spares_ten d may writes
not_written (Load z d b o) may writes = spares_ten d may writes
not_written (LoadSigned z d b o) may writes = spares_ten d may writes
not_written (LoadWide d v) may writes = spares_ten d may writes
not_written insn may writes = no_register 10 writes

-- ---- where the rule grants the instruction, only memory is wanted
pub branch_stops : (rule : Result TrackedWays Refusal) (ways : TrackedWays) (stop : Stop) → rule ≡ Ok ways
    → AnswersTrackedBranch rule (Err stop) → stop ≡ OutOfMemory
branch_stops rule ways (Refused refusal) granted answer = absurd (cc)
branch_stops rule ways OutOfMemory granted answer = refl

pub step_stops : (rule : Result (Option TrackedSituation) Refusal) (behind : Option TrackedSituation) (stop : Stop)
    → rule ≡ Ok behind → AnswersBehind rule (Err stop) → stop ≡ OutOfMemory
step_stops rule behind (Refused refusal) granted answer = absurd (cc)
step_stops rule behind OutOfMemory granted answer = refl

pub stops_as : {T : Type 0} (r : Result T Failure) (stop : Stop) → IsErrAnd r (λ y. y ≡ failure_of stop)
    → stop ≡ OutOfMemory → IfErr r (λ y. y ≡ failure.OutOfMemory)
stops_as (Ok t) stop is same = tt
stops_as (Err y) stop is same = is ∙ ap failure_of same

-- ---- the states behind are those of the rule
same_ways : (rule : Result TrackedWays Refusal) (one other : TrackedWays) → rule ≡ Ok one → rule ≡ Ok other → one ≡ other
same_ways rule one other e f = cc

same_behind : (rule : Result (Option TrackedSituation) Refusal) (one other : Option TrackedSituation) → rule ≡ Ok one
    → rule ≡ Ok other → one ≡ other
same_behind rule one other e f = cc

pub ways_taken : (rule : Result TrackedWays Refusal) (ways : TrackedWays) (known : TrackedEdges) → rule ≡ Ok ways
    → AnswersTrackedBranch rule (Ok known) → IsTrackedIn known.taken ways.taken
ways_taken rule ways known granted (w, is, taken, untaken) =
    subst (λ (x : TrackedWays). IsTrackedIn known.taken x.taken) (same_ways rule w ways is granted) taken

pub ways_untaken : (rule : Result TrackedWays Refusal) (ways : TrackedWays) (known : TrackedEdges) → rule ≡ Ok ways
    → AnswersTrackedBranch rule (Ok known) → IsTrackedIn known.untaken ways.untaken
ways_untaken rule ways known granted (w, is, taken, untaken) =
    subst (λ (x : TrackedWays). IsTrackedIn known.untaken x.untaken) (same_ways rule w ways is granted) untaken

pub step_behind : (rule : Result (Option TrackedSituation) Refusal) (behind : Option TrackedSituation)
    (known : Option TrackedState) → rule ≡ Ok behind → AnswersBehind rule (Ok known) → IsTrackedIn known behind
step_behind rule behind known granted (o, is, there) =
    subst (λ (x : Option TrackedSituation). IsTrackedIn known x) (same_behind rule o behind is granted) there

-- ---- the instruction at a slot
same_start : (o : Option (Option Insn)) (one other : Insn) → o ≡ Some (Some one) → o ≡ Some (Some other) → one ≡ other
same_start o one other e f = cc

pub same_insn : (program : Program) (slot : ℕ) (one other : Insn) → StartsAt program slot one
    → StartsAt program slot other → one ≡ other
same_insn program slot one other e f = same_start (slice_get program slot) one other e f

-- ---- errors
pub err_is : {T E : Type 0} (r : Result T E) (P : E → Type 0) → IsErrAnd r P → IfErr r P
err_is (Ok t) P is = tt
err_is (Err e) P is = is

pub err_as : {T E : Type 0} (r : Result T E) (e : E) (P : E → Type 0) → IsErrAnd r (λ y. y ≡ e) → P e → IfErr r P
err_as (Ok t) e P is holds = tt
err_as (Err y) e P is holds = subst P (sym is) holds

-- What is known before a slot is what the walk carries there.
use Rattle.std.proofs.Common.{◌≡◌, ℕ, zero, suc, ◌<◌, ⊎_elim, nat_eq, if◌then◌else◌, Bool, true, false, Option, Some, None, Result, Ok, Err, refl, sym, ap, ◌∙◌, subst, arith}
use Rattle.std.specs.List.{slice_get}
use Rattle.std.proofs.lemmas.Bool.{cases_eq}
use Rattle.std.proofs.lemmas.Bool.Decides.{nat_tests}
use Rattle.span_context.specs.declared.profile.Profile.{Profile}
use Rattle.bpf_words.specs.declared.instruction.Insn.{Insn}
use Rattle.bpf_words.specs.Flow.{jump_of}
use Rattle.semantics.specs.Step.{Program}
use Rattle.abstract_state.specs.declared.refusal.Refusal.{Refusal}
use Rattle.tracked_state.specs.Tracked.{TrackedSituation}
use Rattle.tracked_state.specs.Rules.{TrackedWays}
use Rattle.verifier.specs.Decides.{led, jump_target, either_way, arrived, Refuses, Before, granted, ways_from, fall_past, falls_into, jump_to, jumps_to, known_from, known_below, known_before}
use Rattle.verifier.specs.Awaited.{Waits, Awaited, awaited, with_jump, led_on, passed, stepped_over, awaited_at}
use Rattle.verifier.proofs.Deciding.{either_none}

-- ---- the edges from one slot
fall_granted : (profile : Profile) (slot : ℕ) (insn : Insn) (w : Waits) (r : Result TrackedWays Refusal) → (granted r).untaken ≡ (led_on profile slot insn w r).falling
fall_granted profile slot insn w (Ok v) = refl
fall_granted profile slot insn w (Err fault) = refl

fall_passed : (profile : Profile) (slot : ℕ) (insn : Insn) (known : Option TrackedSituation) (w : Waits) → (ways_from profile slot insn known).untaken ≡ (passed profile slot insn known w).falling
unfolding ways_from passed
fall_passed profile slot insn None w = refl
fall_passed profile slot insn (Some t) w = fall_granted profile slot insn w (led profile slot insn t)

fall_over : (profile : Profile) (slot : ℕ) (place : Option (Option Insn)) (known above : Option TrackedSituation) (a : Awaited) → known ≡ arrived profile a.falling (a.waiting slot) → above ≡ a.falling → fall_past profile slot place known above ≡ (stepped_over profile slot place a).falling
unfolding stepped_over
fall_over profile slot None known above a is same = same
fall_over profile slot (Some None) known above a is same = same
fall_over profile slot (Some (Some insn)) known above a is same =
    fall_passed profile slot insn known a.waiting ∙ ap (λ (o : Option TrackedSituation). (passed profile slot insn o a.waiting).falling) is

joined_if : (profile : Profile) (b : Bool) (old new : Option TrackedSituation) → either_way profile old (if b then new else None) ≡ (if b then either_way profile old new else old)
joined_if profile true old new = refl
joined_if profile false old new = either_none profile old

nothing_joined : (profile : Profile) (b : Bool) (old : Option TrackedSituation) → either_way profile old (if b then None else None) ≡ old
nothing_joined profile true old = either_none profile old
nothing_joined profile false old = either_none profile old

jump_granted : (profile : Profile) (to slot : ℕ) (insn : Insn) (w : Waits) (r : Result TrackedWays Refusal) → either_way profile (w to) (if nat_eq to (jump_target slot (jump_of insn)) then (granted r).taken else None) ≡ (led_on profile slot insn w r).waiting to
jump_granted profile to slot insn w (Ok v) = joined_if profile (nat_eq to (jump_target slot (jump_of insn))) (w to) v.taken
jump_granted profile to slot insn w (Err fault) = nothing_joined profile (nat_eq to (jump_target slot (jump_of insn))) (w to)

jump_passed : (profile : Profile) (to slot : ℕ) (insn : Insn) (known : Option TrackedSituation) (w : Waits) → either_way profile (w to) (jump_to profile to slot (Some (Some insn)) known) ≡ (passed profile slot insn known w).waiting to
unfolding ways_from passed
jump_passed profile to slot insn None w = nothing_joined profile (nat_eq to (jump_target slot (jump_of insn))) (w to)
jump_passed profile to slot insn (Some t) w = jump_granted profile to slot insn w (led profile slot insn t)

jump_over : (profile : Profile) (to slot : ℕ) (place : Option (Option Insn)) (known : Option TrackedSituation) (a : Awaited) → known ≡ arrived profile a.falling (a.waiting slot) → either_way profile (a.waiting to) (jump_to profile to slot place known) ≡ (stepped_over profile slot place a).waiting to
unfolding stepped_over
jump_over profile to slot None known a is = either_none profile (a.waiting to)
jump_over profile to slot (Some None) known a is = either_none profile (a.waiting to)
jump_over profile to slot (Some (Some insn)) known a is =
    jump_passed profile to slot insn known a.waiting ∙ ap (λ (o : Option TrackedSituation). (passed profile slot insn o a.waiting).waiting to) is

-- ---- what the walk carries to a slot
abbrev pub carried : Profile → Program → ℕ → Option TrackedSituation
carried profile program slot =
    arrived profile (awaited_at profile program slot).falling ((awaited_at profile program slot).waiting slot)

abbrev AgreesBelow : Profile → Program → Before → ℕ → Type 0
AgreesBelow profile program before end = (slot : ℕ) → slot < end → before slot ≡ carried profile program slot

falls_same : (profile : Profile) (program : Program) (before : Before) (slot : ℕ) → AgreesBelow profile program before slot → falls_into profile program before slot ≡ (awaited_at profile program slot).falling
unfolding falls_into awaited_at
falls_same profile program before zero all = refl
falls_same profile program before (suc slot) all =
    fall_over profile slot (slice_get program slot) (before slot) (falls_into profile program before slot) (awaited_at profile program slot)
    (all slot (omega arith)) (falls_same profile program before slot (λ k less. all k (omega (arith, less))))

jumps_same : (profile : Profile) (program : Program) (before : Before) (to slot : ℕ) → AgreesBelow profile program before slot → jumps_to profile program before to slot ≡ (awaited_at profile program slot).waiting to
unfolding jumps_to awaited_at
jumps_same profile program before to zero all = refl
jumps_same profile program before to (suc slot) all =
    ap (λ (o : Option TrackedSituation). either_way profile o (jump_to profile to slot (slice_get program slot) (before slot)))
    (jumps_same profile program before to slot (λ k less. all k (omega (arith, less))))
    ∙ jump_over profile to slot (slice_get program slot) (before slot) (awaited_at profile program slot) (all slot (omega arith))

from_same : (profile : Profile) (program : Program) (before : Before) (slot : ℕ) → AgreesBelow profile program before slot → known_from profile program before slot ≡ carried profile program slot
from_same profile program before slot all =
    ap (λ (o : Option TrackedSituation). arrived profile o (jumps_to profile program before slot slot)) (falls_same profile program before slot all)
    ∙ ap (λ (o : Option TrackedSituation). arrived profile (awaited_at profile program slot).falling o) (jumps_same profile program before slot slot all)

below_same : (profile : Profile) (program : Program) (end : ℕ) → AgreesBelow profile program (known_below profile program end) end
unfolding known_below
below_same profile program zero slot less = absurd (omega (arith, less))
below_same profile program (suc last) slot less =
    ⊎_elim
    (λ (here : slot ≡ last).
    let yes : nat_eq slot last ≡ true = grind (arith, nat_tests) in
    rw yes (from_same profile program (known_below profile program last) last (below_same profile program last) ∙ ap (carried profile program) (sym here)))
    (λ (apart : slot ≡ last → ⊥).
    let no : nat_eq slot last ≡ false = grind (arith, nat_tests) in
    rw no (below_same profile program last slot (omega (arith, less, apart))))
    (cases_eq slot last)

pub known_is_carried : (profile : Profile) (program : Program) (slot : ℕ) → known_before profile program slot ≡ carried profile program slot
unfolding known_before
known_is_carried profile program slot = from_same profile program (known_below profile program slot) slot (below_same profile program slot)

-- what is known before a slot follows from what is known before the slots below it
pub known_follows : (profile : Profile) (program : Program) (slot : ℕ) → known_before profile program slot ≡ known_from profile program (known_before profile program) slot
known_follows profile program slot =
    known_is_carried profile program slot ∙ sym (from_same profile program (known_before profile program) slot (λ k less. known_is_carried profile program k))

-- what is refused by what the walk carries is refused by what is known
pub known_refuses : (profile : Profile) (program : Program) (slot : ℕ) (insn : Insn) (fault : Refusal) → Refuses profile slot insn (carried profile program slot) fault → Refuses profile slot insn (known_before profile program slot) fault
known_refuses profile program slot insn fault refused =
    subst (λ (o : Option TrackedSituation). Refuses profile slot insn o fault) (sym (known_is_carried profile program slot)) refused

pub carried_refuses : (profile : Profile) (program : Program) (slot : ℕ) (insn : Insn) (fault : Refusal) → Refuses profile slot insn (known_before profile program slot) fault → Refuses profile slot insn (carried profile program slot) fault
carried_refuses profile program slot insn fault refused =
    subst (λ (o : Option TrackedSituation). Refuses profile slot insn o fault) (known_is_carried profile program slot) refused

-- A program that is functions with their calls inlined means the same: what there is to do at a place is done at each
-- slot that stands for it.
use Rattle.std.proofs.Common.{◌≡◌, ℕ, ℤ, pos, ◌+ℤ◌, zero, suc, ◌+◌, ◌-◌, ◌<◌, ◌≤◌, ◌⊎◌, inl, inr, List, [], ◌∷◌, length, Option, Some, None, refl, sym, ap, ◌∙◌, subst, arith}
use Rattle.std.proofs.Common.{lit<}
use Rattle.std.proofs.lemmas.Option.{slice_get_within}
use Rattle.span_context.specs.Context.{SpanBytes}
use Rattle.bpf_words.specs.declared.instruction.Insn.{Insn}
use Rattle.bpf_words.specs.declared.instruction.Insn.TheVariants.{Jump, LoadWide}
use Rattle.bpf_words.specs.Flow.{StartsAt, jump_of, slots_of}
use Rattle.semantics.specs.State.{State, start}
use Rattle.semantics.specs.Step.{Program, perform}
use Rattle.inlined_calls.specs.Calls.{Body, Place, first, at_slot, Work, Performs, Passes, Lacks, Stuck, work_at, Ended, follow, perform_all, go_to, go_by, do_work, ended_from}
use Rattle.inlined_calls.specs.Inlined.{Placed, StandsFor, IsAway, aimed, AllStand, behind, GoesOn, LeadsTo, Does, IsInlined, EndsAs, MeansTheSame}
use Rattle.inlined_calls.proofs.Steps.{at, BothGo, Arrives, shifts, goes, earlier, follows, falls_away}
use Rattle.inlined_calls.proofs.Straight.{IsStraight, AreStraight, IsStraightWork, work_straight}

slots_some : (insn : Insn) → 0 < slots_of insn
slots_some (LoadWide destination value) = lit< tt
slots_some insn = lit< tt

behind_above : (here : ℕ) (insns : List Insn) → here ≤ behind here insns
unfolding behind
behind_above here [] = omega arith
behind_above here (insn ∷ rest) = let above = behind_above (here + 1) rest in omega arith

-- ---- one instruction after the other
straight_on : (program : Program) (bytes : SpanBytes) (here : ℕ) (next : State) (insn : Insn) (distance onward : ℤ) (ended : Ended) → IsStraight insn → here + 1 < length program → EndsAs program bytes (at (here + 1) next) ended → BothGo insn (pos 0) distance onward → Arrives program bytes here next onward ended
straight_on program bytes here next insn distance onward ended straight within ends (inl (falls, is, same)) =
    (here + 1, falls_away here 1 onward (lit< tt) (same ∙ is ∙ ap (λ (n : ℕ). pos (n - 1)) straight.one), within, ends)
straight_on program bytes here next insn distance onward ended straight within ends (inr (jumps, aim)) =
    let none = straight.no_jump in
    let never : ⊥ = cc in
    absurd never

all : (program : Program) (bytes : SpanBytes) (insns : List Insn) (here : ℕ) (s : State) (rest : State → Ended) → AreStraight insns → AllStand program here insns → behind here insns < length program → ((next : State) → EndsAs program bytes (at (behind here insns) next) (rest next)) → EndsAs program bytes (at here s) (perform_all bytes insns s rest)
unfolding perform_all behind AllStand
all program bytes [] here s rest straight stand within ends = ends s
all program bytes (insn ∷ more) here s rest (straight, others) (starts, stand) within ends =
    let above = behind_above (here + 1) more in
    let inside : here + 1 < length program = omega arith in
    follows program bytes here s insn (pos 0) (λ next distance. perform_all bytes more next rest) (subst (λ (i : Insn). StartsAt program here i) (sym straight.same) starts)
    (λ next distance onward both. straight_on program bytes here next insn distance onward (perform_all bytes more next rest) straight inside (all program bytes more (here + 1) next rest others stand within ends) both)
    (perform bytes s insn) (shifts bytes s here insn (pos 0))

-- ---- what there is to do at a place
-- what is over at each slot that stands for a place
abbrev Over : Program → List Placed → SpanBytes → (Place → State → Ended) → Type 0
Over program places bytes rest = (slot : ℕ) (place : Place) (state : State) → StandsFor places slot place → EndsAs program bytes (at slot state) (rest place state)

abbrev Within : Program → List Placed → Type 0
Within program places = (slot : ℕ) (place : Place) → StandsFor places slot place → slot < length program

arrives : (program : Program) (bytes : SpanBytes) (rest : Place → State → Ended) (place : Place) (s next : State) (distance : ℤ) (to : ℕ) → IsAway place.slot distance to → EndsAs program bytes s (rest (at_slot place to) next) → EndsAs program bytes s (go_by rest place next distance)
arrives program bytes rest place s next distance to away ends = subst (λ (z : ℤ). EndsAs program bytes s (go_to rest place next z)) away ends

goes_on : (program : Program) (places : List Placed) (bytes : SpanBytes) (rest : Place → State → Ended) (here : ℕ) (place : Place) (insn : Insn) → Over program places bytes rest → Within program places → (on : GoesOn program places here place insn) → (next : State) (distance onward : ℤ) → BothGo insn on.onward distance onward → Arrives program bytes here next onward (go_by rest place next distance)
goes_on program places bytes rest here place insn over within on next distance onward (inl (falls, is, same)) =
    let stands = on.falls falls in
    let some = slots_some insn in (
      here + slots_of insn,
      falls_away here (slots_of insn) onward some (same ∙ is),
      within (here + slots_of insn) (at_slot place (place.slot + slots_of insn)) stands,
      arrives program bytes rest place (at (here + slots_of insn) next) next distance (place.slot + slots_of insn) (falls_away place.slot (slots_of insn) distance some is) (over (here + slots_of insn) (at_slot place (place.slot + slots_of insn)) next stands),
    )
goes_on program places bytes rest here place insn over within on next distance onward (inr (jumps, aim)) =
    let both = on.jumps distance jumps in (
      both.next,
      both.is ∙ ap (λ (d : ℤ). pos (here + 1) +ℤ d) (sym aim),
      within both.next (at_slot place both.to) both.stands,
      arrives program bytes rest place (at both.next next) next distance both.to both.was (over both.next (at_slot place both.to) next both.stands),
    )

leads : (program : Program) (places : List Placed) (bytes : SpanBytes) (rest : Place → State → Ended) (here : ℕ) (insns : List Insn) (place : Place) (s : State) → Over program places bytes rest → Within program places → AreStraight insns → LeadsTo program places here insns place → EndsAs program bytes (at here s) (perform_all bytes insns s (rest place))
leads program places bytes rest here insns place s over within straight way =
    all program bytes insns here s (rest place) straight way.all (within (behind here insns) place way.stands) (λ next. over (behind here insns) place next way.stands)

start_within : (program : Program) (places : List Placed) (here : ℕ) (insns : List Insn) (place : Place) → Within program places → LeadsTo program places here insns place → here < length program
start_within program places here insns place within way =
    let above = behind_above here insns in
    let inside = within (behind here insns) place way.stands in
    omega arith

does : (program : Program) (places : List Placed) (bytes : SpanBytes) (rest : Place → State → Ended) (here : ℕ) (place : Place) (s : State) → Over program places bytes rest → Within program places → (work : Work) → IsStraightWork work → here < length program → Does program places here place work → EndsAs program bytes (at here s) (do_work rest bytes place s work)
does program places bytes rest here place s over within (Performs before last) straight inside (stand, on) =
    all program bytes before here s (λ next. follow (perform bytes next last) (go_by rest place)) straight stand (slice_get_within program (behind here before) (Some (aimed last on.onward)) on.starts)
    (λ next. follows program bytes (behind here before) next last on.onward (go_by rest place) on.starts (goes_on program places bytes rest (behind here before) place last over within on) (perform bytes next last) (shifts bytes next (behind here before) last on.onward))
does program places bytes rest here place s over within (Passes insns next) straight inside (inl way) =
    leads program places bytes rest here insns next s over within straight way
does program places bytes rest here place s over within (Passes insns next) straight inside (inr (to, jump, way)) =
    earlier program bytes (at here s) (at to s) (perform_all bytes insns s (rest next))
    (goes program bytes here to s s (Jump jump.distance) jump.distance jump.starts refl jump.away (start_within program places to insns next within way))
    (leads program places bytes rest to insns next s over within straight way)
does program places bytes rest here place s over within (Lacks kind) straight inside none = absurd none
does program places bytes rest here place s over within Stuck straight inside none = absurd none

agrees : (functions : List Body) (program : Program) (places : List Placed) → IsInlined functions program places → (bytes : SpanBytes) (steps slot : ℕ) (place : Place) (state : State) → StandsFor places slot place → EndsAs program bytes (at slot state) (ended_from functions bytes steps place state)
unfolding ended_from
agrees functions program places inlined bytes zero slot place state stands = tt
agrees functions program places inlined bytes (suc steps) slot place state stands =
    does program places bytes (ended_from functions bytes steps) slot place state (agrees functions program places inlined bytes steps) inlined.within (work_at functions place) (work_straight functions place) (inlined.within slot place stands) (inlined.does slot place stands)

pub means_the_same : (functions : List Body) (program : Program) (places : List Placed) → IsInlined functions program places → MeansTheSame functions program
means_the_same functions program places inlined bytes steps =
    agrees functions program places inlined bytes steps 0 first start inlined.begins

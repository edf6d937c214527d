-- What the walk over the slots knows of each state that a run comes to.
use Rattle.std.proofs.Common.{◌≡◌, ◌≢◌, ℕ, ◌+◌, ◌<◌, inl, inr, ⊎_elim, Bool, true, false, if◌then◌else◌, nat_lt, List, [], ◌∷◌, ◌++◌, length, get_or, Option, Some, None, Result, Ok, Err, refl, sym, ap, ◌∙◌, subst, arith}
use Rattle.std.specs.Prelude.{pos, negsuc}
use Rattle.std.specs.List.{slice_get}
use Rattle.std.proofs.lemmas.List.{length-append}
use Rattle.std.proofs.Math.ListN.{get_or-append}
use Rattle.std.proofs.Math.Seq.{get_or-append_seam}
use Rattle.std.proofs.lemmas.Bool.{cases_eq}
use Rattle.std.proofs.lemmas.Option.{slice_get_within}
use Rattle.span_context.specs.declared.profile.Profile.{Profile}
use Rattle.bpf_words.specs.declared.instruction.Insn.{Insn}
use Rattle.bpf_words.specs.Flow.{StartsAt, IsPaired, jump_of, slots_of, falls_through}
use Rattle.semantics.specs.declared.FaultKind.TheVariants.{OutOfCode}
use Rattle.semantics.specs.State.{State, start}
use Rattle.semantics.specs.Step.{Program, Moved, On, Returns, Next, then_with, land, step_at, step}
use Rattle.tracked_state.specs.declared.state.TrackedState.{TrackedState}
use Rattle.abstract_state.specs.Lent.{Lengths}
use Rattle.abstract_state.specs.State.{Span, lengths_of, does}
use Rattle.tracked_state.specs.Tracked.{ContainsTracked, WithinTracked, state_in}
use Rattle.std.specs.Result.{IfErr}
use Rattle.verifier.specs.declared.refusal.StructureFault.{StructureFault}
use Rattle.verifier.specs.declared.refusal.StructureFault.TheVariants.{BackwardJump}
use Rattle.verifier.specs.declared.refusal.VerifyError.{VerifyError}
use Rattle.verifier.specs.declared.refusal.VerifyError.TheVariants.{Structure, State as StateRefused, OutOfMemory}
use Rattle.verifier.specs.Structure.{IsStructured}
use Rattle.verifier.specs.Arises.{ArisesAt}
use Rattle.verifier.specs.Waiting.{Waiting, waiting_at}
use Rattle.verifier.specs.Walk.{Between, IsAwaited, Advances, Keeps}
use Rattle.program_reads.specs.Runs.{Reaches, at_start, by_step, ContainsRuns}
use Rattle.verifier.specs.Reaches.{TracksRuns, Enters, from_start, from_below, Covers, IsStateBelow, IsBefore}
use Rattle.verifier.proofs.Runs.{StaysAt, stays, stays_on, contains_at, stepped}
use Rattle.verifier.proofs.Walking.{fall_starts}

-- ---- where a step leads
landed : (program : Program) (mid next : State) (to : ℕ) (within : Bool) → (if within then Ok (Next (record mid { slot = to })) else Err OutOfCode) ≡ Ok (Next next) → next ≡ record mid { slot = to }
landed program mid next to true e = cc
landed program mid next to false e = absurd (cc)

pub lands_at : (program : Program) (mid next : State) (n : ℕ) → land program (On mid (pos n)) ≡ Ok (Next next) → next ≡ record mid { slot = mid.slot + 1 + n }
lands_at program mid next n e = landed program mid next (mid.slot + 1 + n) (nat_lt (mid.slot + 1 + n) (length program)) e

moves_forward : (program : Program) (s next : State) (insn : Insn) (m : Moved) → IsStructured program → StartsAt program s.slot insn → StaysAt s.slot (jump_of insn) m → then_with m (land program) ≡ Ok (Next next) → s.slot < next.slot
moves_forward program s next insn (Ok (Returns value)) structured starts stay e = absurd (cc)
moves_forward program s next insn (Err kind) structured starts stay e = absurd (cc)
moves_forward program s next insn (Ok (On mid (pos n))) structured starts stay e =
    let at : next.slot ≡ mid.slot + 1 + n = ap (λ (x : State). x.slot) (lands_at program mid next n e) in
    let same : mid.slot ≡ s.slot = stay.0 in
    omega arith
moves_forward program s next insn (Ok (On mid (negsuc n))) structured starts (same, inl (k, is)) e = absurd (cc)
moves_forward program s next insn (Ok (On mid (negsuc n))) structured starts (same, inr jumps) e =
    absurd (structured s.slot insn (slice_get_within program s.slot (Some insn) starts) starts BackwardJump (negsuc n, jumps, (n, refl)))

forward_at : (program : Program) (span : Span) (s next : State) (entry : Option (Option Insn)) → IsStructured program → slice_get program s.slot ≡ entry → step_at program span.bytes s entry ≡ Ok (Next next) → s.slot < next.slot
forward_at program span s next None structured is e = absurd (cc)
forward_at program span s next (Some None) structured is e = absurd (cc)
forward_at program span s next (Some (Some insn)) structured is e = moves_forward program s next insn (does span s insn) structured is (stays span.bytes s insn) e

-- a structured program goes forward
goes_forward : (program : Program) (span : Span) (s next : State) → IsStructured program → step program span.bytes s ≡ Ok (Next next) → s.slot < next.slot
goes_forward program span s next structured e = forward_at program span s next (slice_get program s.slot) structured refl e

-- so a run enters each of its slots from below
enters : (program : Program) (span : Span) (slot : ℕ) (s : State) → IsStructured program → s.slot ≡ slot → Reaches program span s → Enters program span slot s
enters program span slot s structured at at_start = from_start
enters program span slot s structured at (by_step {s = before} from e) =
    let less = goes_forward program span before s structured e in
    from_below from (subst (λ k. before.slot < k) at less) e

-- ---- from the state before an instruction
moved_awaited : (program : Program) (span : Span) (slot : ℕ) (insn : Insn) (s next : State) (falling : Option TrackedState) (waiting : Waiting) (m : Moved) → IsPaired program → IsStructured program → StartsAt program slot insn → s.slot ≡ slot → does span s insn ≡ m → Advances (lengths_of span) slot insn falling waiting m → then_with m (land program) ≡ Ok (Next next) → IsAwaited program (slot + 1) falling waiting (lengths_of span) next
moved_awaited program span slot insn s next falling waiting (Ok (Returns value)) paired structured starts at e advances to = absurd (cc)
moved_awaited program span slot insn s next falling waiting (Err kind) paired structured starts at e advances to = absurd advances
moved_awaited program span slot insn s next falling waiting (Ok (On mid distance)) paired structured starts at e advances to =
    let same : mid.slot ≡ s.slot = stays_on span s mid insn distance e in
    ⊎_elim
    (λ (fell : (n : ℕ) × (distance ≡ pos n) × (n + 1 ≡ slots_of insn) × (falls_through insn ≡ true) × WithinTracked falling (lengths_of span) mid).
    let n = fell.0 in
    let count : n + 1 ≡ slots_of insn = fell.2 in
    let f = fall_starts program slot (slot + slots_of insn) insn paired structured starts fell.3 refl in
    let same_slot : mid.slot + 1 + n ≡ slot + slots_of insn = omega arith in
    let is : next ≡ record mid { slot = slot + slots_of insn } =
    lands_at program mid next n (subst (λ d. land program (On mid d) ≡ Ok (Next next)) fell.1 to) ∙ ap (λ k. record mid { slot = k }) same_slot in
    subst (λ (x : State). IsAwaited program (slot + 1) falling waiting (lengths_of span) x) (sym is)
    ((omega arith), inl (f.between, contains_at falling (lengths_of span) mid (slot + slots_of insn) fell.4)))
    (λ (jumped : (n : ℕ) × (distance ≡ pos n) × (jump_of insn ≡ Some (pos n)) × WithinTracked (waiting_at waiting (slot + 1 + n)) (lengths_of span) mid).
    let n = jumped.0 in
    let same_slot : mid.slot + 1 + n ≡ slot + 1 + n = omega arith in
    let is : next ≡ record mid { slot = slot + 1 + n } =
    lands_at program mid next n (subst (λ d. land program (On mid d) ≡ Ok (Next next)) jumped.1 to) ∙ ap (λ k. record mid { slot = k }) same_slot in
    subst (λ (x : State). IsAwaited program (slot + 1) falling waiting (lengths_of span) x) (sym is)
    ((omega arith), inr (contains_at (waiting_at waiting (slot + 1 + n)) (lengths_of span) mid (slot + 1 + n) jumped.3)))
    advances

-- ---- all edges into a slot
pub all_joined : (profile : Profile) (program : Program) (slot : ℕ) (falling joined : Option TrackedState) (waiting : Waiting) → IsStructured program → ((lengths : Lengths) (s : State) → WithinTracked falling lengths s → WithinTracked joined lengths s) → ((lengths : Lengths) (s : State) → WithinTracked (waiting_at waiting slot) lengths s → WithinTracked joined lengths s) → Covers profile program slot falling waiting → TracksRuns profile program slot joined
all_joined profile program slot falling joined waiting structured falls arrives covers span s which reached at =
    let awaited = covers span s which (enters program span slot s structured at reached) (omega arith) in
    ⊎_elim
    (λ (fell : Between program slot s.slot × WithinTracked falling (lengths_of span) s). falls (lengths_of span) s fell.1)
    (λ (waits : WithinTracked (waiting_at waiting s.slot) (lengths_of span) s).
    arrives (lengths_of span) s (subst (λ k. WithinTracked (waiting_at waiting k) (lengths_of span) s) at waits))
    awaited.1

-- what waited at a slot is joined to what falls into it, and all else still waits
pub covers_arrived : (profile : Profile) (program : Program) (slot : ℕ) (falling joined : Option TrackedState) (old mid : Waiting) → ((lengths : Lengths) (s : State) → WithinTracked falling lengths s → WithinTracked joined lengths s) → ((lengths : Lengths) (s : State) → WithinTracked (waiting_at old slot) lengths s → WithinTracked joined lengths s) → ((other : ℕ) → other ≢ slot → waiting_at mid other ≡ waiting_at old other) → Covers profile program slot falling old → Covers profile program slot joined mid
covers_arrived profile program slot falling joined old mid falls arrives others covers span s which entered low =
    let awaited = covers span s which entered low in (
      low,
      ⊎_elim
          (λ (fell : Between program slot s.slot × WithinTracked falling (lengths_of span) s). inl (fell.0, falls (lengths_of span) s fell.1))
          (λ (waits : WithinTracked (waiting_at old s.slot) (lengths_of span) s).
          ⊎_elim
          (λ (here : s.slot ≡ slot).
          let between : Between program slot s.slot = λ k least most. absurd (omega arith) in
          inl (between, arrives (lengths_of span) s (subst (λ k. WithinTracked (waiting_at old k) (lengths_of span) s) here waits)))
          (λ (apart : s.slot ≡ slot → ⊥). inr (subst (λ o. WithinTracked o (lengths_of span) s) (sym (others s.slot apart)) waits))
          (cases_eq s.slot slot))
          awaited.1,
    )

-- what is known contains them without its copies
pub tracked_runs : (profile : Profile) (program : Program) (slot : ℕ) (known : Option TrackedState) → TracksRuns profile program slot known → ContainsRuns profile program slot (state_in known)
tracked_runs profile program slot known tracks span s which reached at =
    let (a, is, c) = tracks span s which reached at in (a.state, ap state_in is, c.state)

-- ---- what is known before each slot, in a list
abbrev pub TrackRunsBelow : Profile → Program → ℕ → List (Option TrackedState) → Type 0
TrackRunsBelow profile program count states = (slot : ℕ) → slot < count → TracksRuns profile program slot (get_or states slot None)

pub contain_none : (profile : Profile) (program : Program) (states : List (Option TrackedState)) → TrackRunsBelow profile program 0 states
contain_none profile program states slot less = absurd (omega arith)

pub count_more : (slot : ℕ) (known : Option TrackedState) (states : List (Option TrackedState)) → length states ≡ slot → length (states ++ known ∷ []) ≡ slot + 1
count_more slot known states size = length-append states (known ∷ []) ∙ ap (λ n. n + 1) size

pub contain_more : (profile : Profile) (program : Program) (slot : ℕ) (known : Option TrackedState) (states : List (Option TrackedState)) → length states ≡ slot → TracksRuns profile program slot known → TrackRunsBelow profile program slot states → TrackRunsBelow profile program (slot + 1) (states ++ known ∷ [])
contain_more profile program slot known states size here below at less =
    ⊎_elim
    (λ (last : at ≡ slot).
    let end : at ≡ length states = last ∙ sym size in
    let is : get_or (states ++ known ∷ []) at None ≡ known = ap (λ k. get_or (states ++ known ∷ []) k None) end ∙ get_or-append_seam states known [] None in
    subst (λ k. TracksRuns profile program k (get_or (states ++ known ∷ []) at None)) (sym last) (subst (λ o. TracksRuns profile program slot o) (sym is) here))
    (λ (apart : at ≡ slot → ⊥).
    let under : at < slot = omega arith in
    let is : get_or (states ++ known ∷ []) at None ≡ get_or states at None = get_or-append states (known ∷ []) None at (omega arith) in
    subst (λ o. TracksRuns profile program at o) (sym is) (below at under))
    (cases_eq at slot)

abbrev pub AriseBelow : Profile → Program → ℕ → List (Option TrackedState) → Type 0
AriseBelow profile program count states = (slot : ℕ) (insn : Insn) → slot < count → StartsAt program slot insn → ArisesAt profile program slot (get_or states slot None)

pub arise_none : (profile : Profile) (program : Program) (states : List (Option TrackedState)) → AriseBelow profile program 0 states
arise_none profile program states slot insn less = absurd (omega arith)

pub arise_more : (profile : Profile) (program : Program) (slot : ℕ) (known : Option TrackedState) (states : List (Option TrackedState)) → length states ≡ slot → ((insn : Insn) → StartsAt program slot insn → ArisesAt profile program slot known) → AriseBelow profile program slot states → AriseBelow profile program (slot + 1) (states ++ known ∷ [])
arise_more profile program slot known states size here below at insn less starts =
    ⊎_elim
    (λ (last : at ≡ slot).
    let end : at ≡ length states = last ∙ sym size in
    let is : get_or (states ++ known ∷ []) at None ≡ known = ap (λ k. get_or (states ++ known ∷ []) k None) end ∙ get_or-append_seam states known [] None in
    let there : ArisesAt profile program slot known = here insn (subst (λ k. StartsAt program k insn) last starts) in
    subst (λ k. ArisesAt profile program k (get_or (states ++ known ∷ []) at None)) (sym last) (subst (λ o. ArisesAt profile program slot o) (sym is) there))
    (λ (apart : at ≡ slot → ⊥).
    let under : at < slot = omega arith in
    let is : get_or (states ++ known ∷ []) at None ≡ get_or states at None = get_or-append states (known ∷ []) None at (omega arith) in
    subst (λ o. ArisesAt profile program at o) (sym is) (below at insn under starts))
    (cases_eq at slot)

-- ---- one turn of the walk
pub covers_begin : (profile : Profile) (program : Program) (entry : TrackedState) (waiting : Waiting) → ((span : Span) → ContainsTracked entry (lengths_of span) start) → Covers profile program 0 (Some entry) waiting
covers_begin profile program entry waiting contains span s which from_start low = ((omega arith), inl ((λ k least most. absurd (omega arith)), (entry, refl, contains span)))
covers_begin profile program entry waiting contains span s which (from_below from below e) low = absurd (omega arith)

pub covers_over : (profile : Profile) (program : Program) (slot : ℕ) (falling : Option TrackedState) (waiting : Waiting) → slice_get program slot ≡ Some None → Covers profile program slot falling waiting → Covers profile program (slot + 1) falling waiting
covers_over profile program slot falling waiting second covers span s which from_start low = absurd (omega arith)
covers_over profile program slot falling waiting second covers span s which (from_below {s = before} from below e) low =
    ⊎_elim
    (λ (here : before.slot ≡ slot).
    let there : slice_get program before.slot ≡ Some None = ap (slice_get program) here ∙ second in
    let fault : step_at program span.bytes before (Some None) ≡ Ok (Next s) =
    subst (λ entry. step_at program span.bytes before entry ≡ Ok (Next s)) there e in
    absurd (cc))
    (λ (apart : before.slot ≡ slot → ⊥).
    let awaited = covers span s which (from_below from (omega arith) e) (omega arith) in (
      low,
      ⊎_elim
          (λ (fell : Between program slot s.slot × WithinTracked falling (lengths_of span) s). let between : Between program (slot + 1) s.slot = λ k least most. fell.0 k (omega arith) most in inl (between, fell.1))
          (λ (waits : WithinTracked (waiting_at waiting s.slot) (lengths_of span) s). inr waits)
          awaited.1,
    ))
    (cases_eq before.slot slot)

pub covers_passed : (profile : Profile) (program : Program) (slot : ℕ) (insn : Insn) (falling joined next : Option TrackedState) (old mid new : Waiting) → IsPaired program → IsStructured program → StartsAt program slot insn → ((lengths : Lengths) (s : State) → WithinTracked falling lengths s → WithinTracked joined lengths s) → ((lengths : Lengths) (s : State) → WithinTracked (waiting_at old slot) lengths s → WithinTracked joined lengths s) → ((other : ℕ) → other ≢ slot → waiting_at mid other ≡ waiting_at old other) → Keeps mid new → ((span : Span) (s : State) → span.profile ≡ profile → WithinTracked joined (lengths_of span) s → Advances (lengths_of span) slot insn next new (does span s insn)) → Covers profile program slot falling old → Covers profile program (slot + 1) next new
covers_passed profile program slot insn falling joined next old mid new paired structured starts falls arrives others keeps sound covers span s which from_start low = absurd (omega arith)
covers_passed profile program slot insn falling joined next old mid new paired structured starts falls arrives others keeps sound covers span s which (from_below {s = before} from below e) low =
    ⊎_elim
    (λ (here : before.slot ≡ slot).
    let known : WithinTracked joined (lengths_of span) before = all_joined profile program slot falling joined old structured falls arrives covers span before which from here in
    let there : StartsAt program before.slot insn = subst (λ k. StartsAt program k insn) (sym here) starts in
    moved_awaited program span slot insn before s next new (does span before insn) paired structured starts here refl (sound span before which known)
    (sym (stepped program span before insn (does span before insn) there refl) ∙ e))
    (λ (apart : before.slot ≡ slot → ⊥).
    let awaited = covers span s which (from_below from (omega arith) e) (omega arith) in (
      low,
      ⊎_elim
          (λ (fell : Between program slot s.slot × WithinTracked falling (lengths_of span) s).
          let none = fell.0 slot (omega arith) (omega arith) in
          let both : Some (Some insn) ≡ Some None = sym starts ∙ none in
          absurd (cc))
          (λ (waits : WithinTracked (waiting_at old s.slot) (lengths_of span) s).
          let stays = others s.slot (λ same. (omega arith)) in
          inr (keeps s.slot (lengths_of span) s (subst (λ o. WithinTracked o (lengths_of span) s) (sym stays) waits)))
          awaited.1,
    ))
    (cases_eq before.slot slot)

-- ---- refusals
pub err_more : {T : Type 0} (r : Result T VerifyError) (P Q : VerifyError → Type 0) → ((e : VerifyError) → P e → Q e) → IfErr r P → IfErr r Q
err_more (Ok t) P Q f p = tt
err_more (Err e) P Q f p = f e p

pub is_before : (end : ℕ) (e : VerifyError) → IsStateBelow end e → IsBefore end e
is_before end (Structure slot fault) below = tt
is_before end (StateRefused slot fault) below = below
is_before end OutOfMemory below = tt

pub none_of_structure : {T : Type 0} (r : Result T VerifyError) (end slot : ℕ) (fault : StructureFault) → IfErr r (IsStateBelow end) → r ≡ Err (Structure slot fault) → ⊥
none_of_structure (Ok t) end slot fault below is = absurd (cc)
none_of_structure (Err e) end slot fault below is = let same : e ≡ Structure slot fault = cc in subst (IsStateBelow end) same below

-- The walk finds what is known before each slot, and the first slot that is refused.
use Rattle.std.proofs.Common.{◌≡◌, ◌≢◌, ℕ, ◌+◌, ◌<◌, ◌≤◌, ◌⊎◌, inl, inr, ⊎_elim, length, get_or, List, [], ◌∷◌, ◌++◌, Option, Some, None, Result, Ok, Err, refl, sym, ap, ◌∙◌, subst, arith, add-one, option_map}
use Rattle.std.specs.List.{slice_get}
use Rattle.std.specs.Result.{IfOk, IfErr, IsErrAnd}
use Rattle.std.proofs.lemmas.Option.{slice_get_within, same_Some}
use Rattle.std.proofs.lemmas.Bool.{cases_eq, cases_order}
use Rattle.std.proofs.Math.Seq.{get_or-append_seam}
use Rattle.std.proofs.Math.ListN.{get_or-append}
use Rattle.span_context.specs.declared.profile.Profile.{Profile}
use Rattle.bpf_words.specs.declared.instruction.Insn.{Insn}
use Rattle.bpf_words.specs.Flow.{StartsAt}
use Rattle.semantics.specs.Step.{Program}
use Rattle.abstract_state.specs.declared.refusal.Refusal.{Refusal}
use Rattle.tracked_state.specs.declared.state.TrackedState.{TrackedState}
use Rattle.tracked_state.specs.Tracked.{TrackedSituation, IsTracked, IsTrackedIn, tracked_of}
use Rattle.tracked_state.specs.Rules.{entry}
use Rattle.verifier.specs.declared.refusal.VerifyError.{VerifyError}
use Rattle.verifier.specs.declared.refusal.VerifyError.TheVariants.{Structure, State as StateRefused, OutOfMemory}
use Rattle.verifier.specs.Structure.{IsStructured}
use Rattle.verifier.specs.Reaches.{IsStateBelow}
use Rattle.verifier.specs.Waiting.{Waiting, waiting_at}
use Rattle.verifier.specs.Awaited.{Waits, passed, stepped_over, awaited_at}
use Rattle.verifier.specs.Decides.{either_way, trimmed, arrived, known_before, Refuses, IsRefusedAt, IsAllowedBelow, FirstRefusal}
use Rattle.verifier.specs.Decided.{WaitsFrom, Awaits, Passes, NamesSlot, NamesFirst}
use Rattle.verifier.proofs.Deciding.{trimmed_is, some_is, none_is, either_none}
use Rattle.verifier.proofs.Folding.{known_is_carried, known_refuses, carried_refuses}

-- ---- what arrives at a slot
trimmed_in : (o : Option TrackedState) (x : Option TrackedSituation) → IsTrackedIn o x → IsTrackedIn o (option_map trimmed x)
trimmed_in o None is = is
trimmed_in o (Some s) (a, there, is) = (a, there, trimmed_is a s is)

pub arrives_at : (profile : Profile) (a : TrackedState) (falling here : Option TrackedSituation) → ((s : TrackedSituation) → IsTracked a s → trimmed s ≡ tracked_of a) → IsTrackedIn (Some a) (either_way profile falling here) → arrived profile falling here ≡ Some (tracked_of a)
arrives_at profile a falling here whole is =
    let (s, same, one) = some_is a (either_way profile falling here) is in
    ap (option_map trimmed) same ∙ ap (λ (t : TrackedSituation). Some t) (whole s one)

pub arrives_nowhere : (profile : Profile) (falling here : Option TrackedSituation) → IsTrackedIn None (either_way profile falling here) → arrived profile falling here ≡ None
arrives_nowhere profile falling here is = ap (option_map trimmed) (none_is (either_way profile falling here) is)

pub arrived_once : (profile : Profile) (falling here : Option TrackedSituation) → arrived profile (either_way profile falling here) None ≡ arrived profile falling here
arrived_once profile falling here = ap (option_map trimmed) (either_none profile (either_way profile falling here))

-- what waits beyond a slot is as it was
pub waits_beyond : (old new : Waiting) (slot : ℕ) (w : Waits) → ((other : ℕ) → other ≢ slot → waiting_at new other ≡ waiting_at old other) → WaitsFrom (slot + 1) old w → WaitsFrom (slot + 1) new w
waits_beyond old new slot w others waits at on =
    let apart : at ≢ slot = λ same. omega (arith, on, same) in
    subst (λ x. IsTrackedIn x (w at)) (sym (others at apart)) (waits at on)

pub waits_after : (waiting : Waiting) (slot : ℕ) (w : Waits) → WaitsFrom slot waiting w → WaitsFrom (slot + 1) waiting w
waits_after waiting slot w waits at on = waits at (omega (arith, on))

pub passes_dead : (profile : Profile) (slot : ℕ) (insn : Insn) (known : Option TrackedSituation) (w : Waits) (waiting : Waiting) → known ≡ None → WaitsFrom (slot + 1) waiting w → Passes profile slot insn known w None waiting
unfolding passed
passes_dead profile slot insn known w waiting none waits =
    subst (λ o. Passes profile slot insn o w None waiting) (sym none)
    (record { allowed = λ fault bad. bad; awaits = record { falls = refl; waits = waits } })

pub names_here : (profile : Profile) (slot : ℕ) (insn : Insn) (known : Option TrackedSituation) (fault : Refusal) → Refuses profile slot insn known fault → NamesSlot profile slot insn known (StateRefused slot fault)
names_here profile slot insn known fault bad at other e =
    let same : slot ≡ at = cc in
    let one : fault ≡ other = cc in
    (sym same, subst (λ f. Refuses profile slot insn known f) one bad)

pub le_self : (n : ℕ) → n ≤ n
le_self n = omega arith

-- ---- over the slots
pub awaits_first : (profile : Profile) (program : Program) (a : TrackedState) (waiting : Waiting) → IsTracked a (entry profile) → ((slot : ℕ) → waiting_at waiting slot ≡ None) → Awaits 0 (Some a) waiting (awaited_at profile program 0)
unfolding awaited_at
awaits_first profile program a waiting is nothing = record { falls = (a, refl, is); waits = λ at on. nothing at }

pub sound_first : (profile : Profile) (program : Program) → IsStructured program → IsAllowedBelow profile program 0
sound_first profile program structured = record { structured = structured; below = λ slot fault few. absurd (omega (arith, few)) }

pub awaits_over : (profile : Profile) (program : Program) (slot : ℕ) (insn : Insn) (o : Option TrackedState) (waiting : Waiting) → StartsAt program slot insn
    → (let a = awaited_at profile program slot in Passes profile slot insn (arrived profile a.falling (a.waiting slot)) a.waiting o waiting → Awaits (slot + 1) o waiting (awaited_at profile program (slot + 1)))
unfolding awaited_at stepped_over
awaits_over profile program slot insn o waiting starts passes =
    let next = passes.awaits in
    rw add-one (rw starts (rw add-one at next))

pub awaits_second : (profile : Profile) (program : Program) (slot : ℕ) (o : Option TrackedState) (waiting : Waiting) → slice_get program slot ≡ Some None → IsTrackedIn o (awaited_at profile program slot).falling → WaitsFrom (slot + 1) waiting (awaited_at profile program slot).waiting → Awaits (slot + 1) o waiting (awaited_at profile program (slot + 1))
unfolding awaited_at stepped_over
awaits_second profile program slot o waiting second falls waits =
    let next : Awaits (slot + 1) o waiting (awaited_at profile program slot) = record { falls = falls; waits = waits } in
    rw add-one (rw second (rw add-one at next))

same_insn : (program : Program) (slot : ℕ) (one other : Insn) → StartsAt program slot one → StartsAt program slot other → one ≡ other
same_insn program slot one other e f = same_Some one other (same_Some (Some one) (Some other) (sym e ∙ f))

refused_there : (profile : Profile) (program : Program) (slot : ℕ) (insn : Insn) (fault : Refusal) → StartsAt program slot insn → IsRefusedAt profile program slot fault → Refuses profile slot insn (known_before profile program slot) fault
refused_there profile program slot insn fault starts bad =
    subst (λ i. Refuses profile slot i (known_before profile program slot) fault) (same_insn program slot bad.insn insn bad.starts starts) bad.refused

sound_more : (profile : Profile) (program : Program) (slot : ℕ) → IsAllowedBelow profile program slot → ((fault : Refusal) → IsRefusedAt profile program slot fault → ⊥) → IsAllowedBelow profile program (slot + 1)
sound_more profile program slot sound here = record {
  structured = sound.structured;
  below = λ at fault few bad.
      ⊎_elim
      (λ (last : at ≡ slot). here fault (subst (λ k. IsRefusedAt profile program k fault) last bad))
      (λ (apart : at ≡ slot → ⊥). sound.below at fault (omega (arith, few, apart)) bad)
      (cases_eq at slot);
}

pub sound_over : (profile : Profile) (program : Program) (slot : ℕ) (insn : Insn) (o : Option TrackedState) (waiting : Waiting) → StartsAt program slot insn → IsAllowedBelow profile program slot
    → (let a = awaited_at profile program slot in Passes profile slot insn (arrived profile a.falling (a.waiting slot)) a.waiting o waiting → IsAllowedBelow profile program (slot + 1))
sound_over profile program slot insn o waiting starts sound passes =
    sound_more profile program slot sound
    (λ fault bad. passes.allowed fault (carried_refuses profile program slot insn fault (refused_there profile program slot insn fault starts bad)))

pub sound_second : (profile : Profile) (program : Program) (slot : ℕ) → slice_get program slot ≡ Some None → IsAllowedBelow profile program slot → IsAllowedBelow profile program (slot + 1)
sound_second profile program slot second sound =
    sound_more profile program slot sound (λ fault bad. let starts = bad.starts in absurd (cc (second, starts)))

pub names_first : (profile : Profile) (program : Program) (slot : ℕ) (insn : Insn) (e : VerifyError) → StartsAt program slot insn → IsAllowedBelow profile program slot
    → (let a = awaited_at profile program slot in NamesSlot profile slot insn (arrived profile a.falling (a.waiting slot)) e → NamesFirst profile program e)
names_first profile program slot insn e starts sound names at fault is =
    let (same, carried) = names at fault is in
    let bad = known_refuses profile program slot insn fault carried in
    subst (λ k. FirstRefusal profile program k fault) (sym same)
    (record { before = sound; here = record { insn = insn; starts = starts; refused = bad } })

pub known_is : (profile : Profile) (program : Program) (slot : ℕ) (o : Option TrackedState) → (let a = awaited_at profile program slot in IsTrackedIn o (either_way profile a.falling (a.waiting slot)) → IsTrackedIn o (known_before profile program slot))
known_is profile program slot o is =
    let a = awaited_at profile program slot in
    subst (λ (x : Option TrackedSituation). IsTrackedIn o x) (sym (known_is_carried profile program slot))
    (trimmed_in o (either_way profile a.falling (a.waiting slot)) is)

-- ---- what is known before each slot, in a list
abbrev pub KnownBelow : Profile → Program → ℕ → List (Option TrackedState) → Type 0
KnownBelow profile program count states = (slot : ℕ) → slot < count → IsTrackedIn (get_or states slot None) (known_before profile program slot)

pub known_none : (profile : Profile) (program : Program) (states : List (Option TrackedState)) → KnownBelow profile program 0 states
known_none profile program states slot less = absurd (omega (arith, less))

pub known_more : (profile : Profile) (program : Program) (slot : ℕ) (o : Option TrackedState) (states : List (Option TrackedState)) → length states ≡ slot → IsTrackedIn o (known_before profile program slot) → KnownBelow profile program slot states → KnownBelow profile program (slot + 1) (states ++ o ∷ [])
known_more profile program slot o states size here below at less =
    ⊎_elim
    (λ (last : at ≡ slot).
    let end : at ≡ length states = last ∙ sym size in
    let is : get_or (states ++ o ∷ []) at None ≡ o = ap (λ k. get_or (states ++ o ∷ []) k None) end ∙ get_or-append_seam states o [] None in
    subst (λ k. IsTrackedIn (get_or (states ++ o ∷ []) at None) (known_before profile program k)) (sym last) (subst (λ x. IsTrackedIn x (known_before profile program slot)) (sym is) here))
    (λ (apart : at ≡ slot → ⊥).
    let under : at < slot = omega arith in
    let is : get_or (states ++ o ∷ []) at None ≡ get_or states at None = get_or-append states (o ∷ []) None at (omega arith) in
    subst (λ x. IsTrackedIn x (known_before profile program at)) (sym is) (below at under))
    (cases_eq at slot)

-- ---- what is answered
-- a program has one first slot that is refused, for one fault
same_refusal : (profile : Profile) (slot : ℕ) (insn : Insn) (known : Option TrackedSituation) (a b : Refusal) → Refuses profile slot insn known a → Refuses profile slot insn known b → a ≡ b
same_refusal profile slot insn None a b e f = absurd e
same_refusal profile slot insn (Some s) a b e f = cc

pub one_first : (profile : Profile) (program : Program) (i j : ℕ) (a b : Refusal) → FirstRefusal profile program i a → FirstRefusal profile program j b → (i ≡ j) × (a ≡ b)
one_first profile program i j a b first second =
    ⊎_elim
    (λ (same : i ≡ j).
    let there : IsRefusedAt profile program i b = subst (λ k. IsRefusedAt profile program k b) (sym same) second.here in
    let here = first.here in
    (same, same_refusal profile i here.insn (known_before profile program i) a b here.refused (refused_there profile program i here.insn b here.starts there)))
    (λ (apart : (i < j) ⊎ (j < i)).
    ⊎_elim
    (λ (less : i < j). absurd (second.before.below i a less first.here))
    (λ (more : j < i). absurd (first.before.below j b more second.here))
    apart)
    (cases_order i j)

only_memory_left : (profile : Profile) (program : Program) (end : ℕ) (e : VerifyError) → IsStateBelow end e → NamesFirst profile program e → IsAllowedBelow profile program end → e ≡ OutOfMemory
only_memory_left profile program end (Structure slot fault) below names sound = absurd below
only_memory_left profile program end (StateRefused slot fault) below names sound = absurd (sound.below slot fault below (names slot fault refl).here)
only_memory_left profile program end OutOfMemory below names sound = refl

pub complete_of : {T : Type 0} (profile : Profile) (program : Program) (end : ℕ) (r : Result T VerifyError) → IfErr r (IsStateBelow end) → IfErr r (NamesFirst profile program) → IsAllowedBelow profile program end → IfErr r (λ e. e ≡ OutOfMemory)
complete_of profile program end (Ok t) below names sound = tt
complete_of profile program end (Err e) below names sound = only_memory_left profile program end e below names sound

pub first_of_all : {T : Type 0} (profile : Profile) (program : Program) (r : Result T VerifyError) (slot : ℕ) (fault : Refusal) → IfErr r (NamesFirst profile program) → r ≡ Err (StateRefused slot fault) → FirstRefusal profile program slot fault
first_of_all profile program (Ok t) slot fault names is = absurd (cc (is))
first_of_all profile program (Err e) slot fault names is = let same : e ≡ StateRefused slot fault = cc in names slot fault same

named_error : (profile : Profile) (program : Program) (end : ℕ) (e : VerifyError) (slot : ℕ) (fault : Refusal) → IsStateBelow end e → NamesFirst profile program e → FirstRefusal profile program slot fault → (e ≡ StateRefused slot fault) ⊎ (e ≡ OutOfMemory)
named_error profile program end (Structure at other) slot fault below names first = absurd below
named_error profile program end (StateRefused at other) slot fault below names first =
    let same = one_first profile program at slot other fault (names at other refl) first in
    inl (ap (λ k. StateRefused k other) same.0 ∙ ap (λ f. StateRefused slot f) same.1)
named_error profile program end OutOfMemory slot fault below names first = inr refl

pub named_of : {T : Type 0} (profile : Profile) (program : Program) (end : ℕ) (r : Result T VerifyError) (slot : ℕ) (fault : Refusal) → IfErr r (IsStateBelow end) → IfErr r (NamesFirst profile program) → IfOk r (λ _. IsAllowedBelow profile program end) → slot < end → FirstRefusal profile program slot fault → IsErrAnd r (λ e. (e ≡ StateRefused slot fault) ⊎ (e ≡ OutOfMemory))
named_of profile program end (Ok t) slot fault below names sound less first = absurd (sound.below slot fault less first.here)
named_of profile program end (Err e) slot fault below names sound less first = named_error profile program end e slot fault below names first

-- a slot that is refused is one of the program
pub within_program : (profile : Profile) (program : Program) (slot : ℕ) (fault : Refusal) → FirstRefusal profile program slot fault → slot < length program
within_program profile program slot fault first = slice_get_within program slot (Some first.here.insn) first.here.starts

pub not_ok : {T : Type 0} (r : Result T VerifyError) (P : VerifyError → Type 0) (Q : T → Type 0) → IsErrAnd r P → IfOk r Q
not_ok (Ok t) P Q is = absurd is
not_ok (Err e) P Q is = tt

pub memory_names : (profile : Profile) (program : Program) → NamesFirst profile program OutOfMemory
memory_names profile program at fault is = absurd (cc (is))

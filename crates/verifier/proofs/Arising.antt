-- How what is known arises through the walk.
use Rattle.std.proofs.Common.{◌≡◌, ◌≢◌, ℕ, ◌+◌, ◌<◌, ◌≤◌, inl, inr, ⊎_elim, true, Option, Some, None, Result, Ok, Err, length, set, get_or, refl, sym, ap, ◌∙◌, subst, arith}
use Rattle.std.specs.Prelude.{ℤ, pos}
use Rattle.std.specs.List.{slice_get}
use Rattle.std.specs.Result.{IfErr, IsErrAnd}
use Rattle.verifier.specs.declared.refusal.StructureFault.TheVariants.{JumpIntoWide}
use Rattle.verifier.specs.declared.refusal.VerifyError.{VerifyError}
use Rattle.verifier.specs.declared.refusal.VerifyError.TheVariants.{State as StateRefused, OutOfMemory}
use Rattle.tracked_state.specs.declared.stop.Stop.{Stop}
use Rattle.tracked_state.specs.declared.stop.Stop.TheVariants.{Refused, OutOfMemory as NoMemory}
use Rattle.abstract_state.specs.declared.refusal.Refusal.{Refusal}
use Rattle.std.proofs.lemmas.Bool.{cases_eq}
use Rattle.std.proofs.lemmas.Option.{same_Some, slice_get_within}
use Rattle.span_context.specs.declared.profile.Profile.{Profile}
use Rattle.bpf_words.specs.declared.instruction.Insn.{Insn}
use Rattle.bpf_words.specs.declared.instruction.Insn.TheVariants.{Compute, Negate, Extend, Convert, Jump, JumpLong, Branch, Load, LoadSigned, Store, LoadWide, Exit}
use Rattle.bpf_words.specs.Flow.{StartsAt, IsPaired, jump_of, slots_of, falls_through}
use Rattle.semantics.specs.Step.{Program}
use Rattle.abstract_state.specs.declared.state.AbsReg.TheVariants.{Unset}
use Rattle.abstract_state.specs.declared.state.AbsState.{AbsState}
use Rattle.tracked_state.specs.declared.state.TrackedState.{TrackedState}
use Rattle.abstract_state.specs.State.{register_at}
use Rattle.abstract_state.specs.Kinds.{IsContextAt, IsStackAt}
use Rattle.verifier.specs.Structure.{IsStructured}
use Rattle.verifier.specs.Arises.{Takes, IsLongBehind, IsTarget, Arises, ArisesAt, AllArise, FallsFrom, FallsAs, MayRefuse, IsCause, RefusesAt, first, fell, jumped}
use Rattle.verifier.specs.Waiting.{Waiting, unboxed, waiting_at, as_tracked}
use Rattle.verifier.specs.declared.waiting.Awaiting.{Awaiting}
use Rattle.verifier.specs.Walk.{Between}
use Rattle.verifier.proofs.Waits.{waiting-set_same, waiting-set_other, set_twice, read_waiting}
use Rattle.verifier.proofs.Passing.{IsStraight}
use Rattle.verifier.proofs.Taking.{straight_long}
use Rattle.verifier.proofs.Walking.{fall_starts, starts_at}

pub at_none : (profile : Profile) (program : Program) (slot : ℕ) → ArisesAt profile program slot None
at_none profile program slot a e = absurd (cc)

pub at_one : (profile : Profile) (program : Program) (slot : ℕ) (a : TrackedState) → Arises profile program slot a.state → ArisesAt profile program slot (Some a)
at_one profile program slot a arises b e = subst (λ (x : TrackedState). Arises profile program slot x.state) (same_Some a b e) arises

-- ---- what waits, where one slot's entry is written
pub arise_added : (profile : Profile) (program : Program) (states : Waiting) (slot : ℕ) (empty : Option Awaiting) (boxed : Awaiting) → slot < length states → AllArise profile program states → IsTarget program slot → Arises profile program slot (as_tracked boxed).state → AllArise profile program (set (set states slot empty) slot (Some boxed))
arise_added profile program states slot empty boxed within all target arises other a e =
    ⊎_elim
    (λ (here : other ≡ slot).
    let there = set_twice states slot empty boxed within in
    let is : Some (as_tracked boxed) ≡ Some a = sym there ∙ ap (waiting_at (set (set states slot empty) slot (Some boxed))) (sym here) ∙ e in
    subst (λ k. IsTarget program k × Arises profile program k a.state) (sym here) (target, subst (λ (x : TrackedState). Arises profile program slot x.state) (same_Some (as_tracked boxed) a is) arises))
    (λ (apart : other ≡ slot → ⊥).
    let stays = waiting-set_other (set states slot empty) slot other (Some boxed) apart ∙ waiting-set_other states slot other empty apart in
    all other a (sym stays ∙ e))
    (cases_eq other slot)

pub arise_taken : (profile : Profile) (program : Program) (states : Waiting) (slot : ℕ) (empty : Option Awaiting) → slot < length states → empty ≡ None → AllArise profile program states → AllArise profile program (set states slot empty)
arise_taken profile program states slot empty within none all other a e =
    ⊎_elim
    (λ (here : other ≡ slot).
    let there = waiting-set_same states slot empty within ∙ ap unboxed none in
    let is : None ≡ Some a = sym there ∙ ap (waiting_at (set states slot empty)) (sym here) ∙ e in
    absurd (cc))
    (λ (apart : other ≡ slot → ⊥). all other a (sym (waiting-set_other states slot other empty apart) ∙ e))
    (cases_eq other slot)

pub read_arises : (profile : Profile) (program : Program) (states : Waiting) (slot : ℕ) (read taken : Option Awaiting) (a : TrackedState) → slot < length states → read ≡ get_or states slot read → taken ≡ read → AllArise profile program states → unboxed taken ≡ Some a → IsTarget program slot × Arises profile program slot a.state
read_arises profile program states slot read taken a within is same all e = all slot a (read_waiting states slot read taken within is same ∙ e)

empty_of : (o : Option TrackedState) → ((a : TrackedState) → o ≡ Some a → ⊥) → o ≡ None
empty_of None never = refl
empty_of (Some a) never = absurd (never a refl)

-- a structured program's jumps don't lead to the second slot of an instruction, so nothing waits there
pub nothing_waits : (profile : Profile) (program : Program) (slot : ℕ) (waiting : Waiting) → IsStructured program → slice_get program slot ≡ Some None → AllArise profile program waiting → waiting_at waiting slot ≡ None
nothing_waits profile program slot waiting structured second all =
    empty_of (waiting_at waiting slot)
    (λ a e.
    let target = (all slot a e).0 in
    let there : slice_get program (target.from + 1 + target.distance) ≡ Some None = subst (λ k. slice_get program k ≡ Some None) target.there second in
    structured target.from target.insn (slice_get_within program target.from (Some target.insn) target.starts) target.starts JumpIntoWide (pos target.distance, target.jumps, (target.distance, refl, there)))

pub read_nothing : (states : Waiting) (slot : ℕ) (read taken : Option Awaiting) (boxed : Awaiting) → slot < length states → read ≡ get_or states slot read → taken ≡ read → taken ≡ Some boxed → waiting_at states slot ≡ None → ⊥
read_nothing states slot read taken boxed within is same found none =
    let both : None ≡ Some (as_tracked boxed) = sym none ∙ read_waiting states slot read taken within is same ∙ ap unboxed found in
    absurd (cc)

-- ---- an instruction's edges
straight_falls : (insn : Insn) → IsStraight insn → falls_through insn ≡ true
straight_falls (Compute w op d o) is = refl
straight_falls (Negate w d) is = refl
straight_falls (Extend x d r) is = refl
straight_falls (Convert c b d) is = refl
straight_falls (Jump distance) is = absurd is
straight_falls (JumpLong distance) is = absurd is
straight_falls (Branch w c l r distance) is = absurd is
straight_falls (Load z d b o) is = refl
straight_falls (LoadSigned z d b o) is = refl
straight_falls (Store z b o v) is = refl
straight_falls (LoadWide d v) is = refl
straight_falls Exit is = absurd is

pub step_falls : (profile : Profile) (program : Program) (slot : ℕ) (insn : Insn) (a : AbsState) (o : Option TrackedState) → IsStraight insn → StartsAt program slot insn → Arises profile program slot a → ((b : TrackedState) → o ≡ Some b → Takes profile a insn b.state) → FallsFrom profile program slot insn o
step_falls profile program slot insn a o straight starts from takes b e =
    let falls = straight_falls insn straight in
    (falls, fell from starts falls (takes b e) (straight_long a b.state insn straight))

pub no_falls : (profile : Profile) (program : Program) (slot : ℕ) (insn : Insn) → FallsFrom profile program slot insn None
no_falls profile program slot insn a e = absurd (cc)

pub edge_falls : (profile : Profile) (program : Program) (slot : ℕ) (insn : Insn) (a : AbsState) (o : Option TrackedState) → StartsAt program slot insn → Arises profile program slot a → falls_through insn ≡ true → ((b : TrackedState) → o ≡ Some b → Takes profile a insn b.state × IsLongBehind a insn b.state) → FallsFrom profile program slot insn o
edge_falls profile program slot insn a o starts from falls takes b e = (falls, fell from starts falls (takes b e).0 (takes b e).1)

-- the slot to which an instruction jumps
pub jump_target : (program : Program) (slot n to : ℕ) (insn : Insn) (distance : ℤ) → StartsAt program slot insn → jump_of insn ≡ Some distance → distance ≡ pos n → to ≡ slot + 1 + n → IsTarget program to
jump_target program slot n to insn distance starts jumps is at = record {
  from = slot;
  insn = insn;
  distance = n;
  starts = starts;
  jumps = jumps ∙ ap Some is;
  there = at;
}

pub jump_arises : (profile : Profile) (program : Program) (slot n to : ℕ) (insn : Insn) (distance : ℤ) (a b : AbsState) → StartsAt program slot insn → Arises profile program slot a → jump_of insn ≡ Some distance → distance ≡ pos n → to ≡ slot + 1 + n → Takes profile a insn b → Arises profile program to b
jump_arises profile program slot n to insn distance a b starts from jumps is at takes =
    subst (λ k. Arises profile program k b) (sym at) (jumped from starts (jumps ∙ ap Some is) takes)

-- ---- what falls into an instruction
one_at_least : (slot : ℕ) (insn : Insn) → slot + 1 ≤ slot + slots_of insn
one_at_least slot (Compute w op d o) = omega arith
one_at_least slot (Negate w d) = omega arith
one_at_least slot (Extend x d r) = omega arith
one_at_least slot (Convert c b d) = omega arith
one_at_least slot (Jump distance) = omega arith
one_at_least slot (JumpLong distance) = omega arith
one_at_least slot (Branch w c l r distance) = omega arith
one_at_least slot (Load z d b o) = omega arith
one_at_least slot (LoadSigned z d b o) = omega arith
one_at_least slot (Store z b o v) = omega arith
one_at_least slot (LoadWide d v) = omega arith
one_at_least slot Exit = omega arith

pub falls_here : (profile : Profile) (program : Program) (slot : ℕ) (insn : Insn) (falling : Option TrackedState) → StartsAt program slot insn → FallsAs profile program slot falling → ArisesAt profile program slot falling
falls_here profile program slot insn falling starts falls a e =
    let f = falls a e in
    let to = f.0 in
    let low = f.1.1 in
    ⊎_elim
    (λ (same : to ≡ slot). subst (λ k. Arises profile program k a.state) same f.1.4)
    (λ (other : to ≡ slot → ⊥).
    let none = f.1.2 slot (omega arith) (omega arith) in
    let both : Some (Some insn) ≡ Some None = sym starts ∙ none in
    absurd (cc))
    (cases_eq to slot)

pub here_falls : (profile : Profile) (program : Program) (slot : ℕ) (insn : Insn) (known : Option TrackedState) → StartsAt program slot insn → ArisesAt profile program slot known → FallsAs profile program slot known
here_falls profile program slot insn known starts arises a e =
    let none : Between program slot slot = λ k low high. absurd (omega arith) in
    (slot, (insn, (omega arith), none, starts, arises a e))

pub falls_next : (profile : Profile) (program : Program) (slot : ℕ) (insn : Insn) (falling : Option TrackedState) → IsPaired program → IsStructured program → StartsAt program slot insn → FallsFrom profile program slot insn falling → FallsAs profile program (slot + 1) falling
falls_next profile program slot insn falling paired structured starts falls a e =
    let f = falls a e in
    let n = fall_starts program slot (slot + slots_of insn) insn paired structured starts f.0 refl in
    (slot + slots_of insn, (n.next, one_at_least slot insn, n.between, n.starts, f.1))

pub dead_falls : (profile : Profile) (program : Program) (slot : ℕ) → FallsAs profile program (slot + 1) None
dead_falls profile program slot a e = absurd (cc)

pub second_falls : (profile : Profile) (program : Program) (slot : ℕ) (falling : Option TrackedState) → slice_get program slot ≡ Some None → FallsAs profile program slot falling → FallsAs profile program (slot + 1) falling
second_falls profile program slot falling second falls a e =
    let f = falls a e in
    let to = f.0 in
    let low = f.1.1 in
    let between : Between program (slot + 1) to = λ k above below. f.1.2 k (omega arith) below in
    ⊎_elim
    (λ (same : to ≡ slot).
    let both : Some (Some f.1.0) ≡ Some None = sym f.1.3 ∙ ap (slice_get program) same ∙ second in
    absurd (cc))
    (λ (other : to ≡ slot → ⊥). (to, (f.1.0, (omega arith), between, f.1.3, f.1.4)))
    (cases_eq to slot)

pub entry_falls : (profile : Profile) (program : Program) (entry : TrackedState) → 0 < length program → IsPaired program → IsContextAt 0 (register_at entry.state.registers 1) → IsStackAt 512 (register_at entry.state.registers 10) → ((i : ℕ) → i ≢ 1 → i ≢ 10 → register_at entry.state.registers i ≡ Unset) → FallsAs profile program 0 (Some entry)
entry_falls profile program entry some paired context frame unset a e =
    let start = starts_at program 0 some paired.begins in
    let is : entry ≡ a = same_Some entry a e in
    let none : Between program 0 0 = λ k low high. absurd (omega arith) in
    (0, (start.0, (omega arith), none, start.1, subst (λ (x : TrackedState). Arises profile program 0 x.state) is (first context frame unset)))

-- ---- a refusal that is passed on
pub passed_on : {T : Type 0} (r : Result T VerifyError) (e : VerifyError) (P : VerifyError → Type 0) → IsErrAnd r (λ y. y ≡ e) → P e → IfErr r P
passed_on (Ok t) e P is p = tt
passed_on (Err y) e P is p = subst P (sym is) p

-- a program of which each instruction is granted is refused for want of memory alone
pub only_memory : (profile : Profile) (program : Program) (e : VerifyError) (P : Type 0) → (P → MayRefuse profile program → ⊥) → IsCause profile program e → P → e ≡ OutOfMemory
only_memory profile program e P grants (inl none) p = none
only_memory profile program e P grants (inr may) p = absurd (grants p may.0)

-- a refusal at a slot has its cause there
pub refuses_at : {T : Type 0} (profile : Profile) (program : Program) (r : Result T VerifyError) (slot : ℕ) (fault : Refusal) → IfErr r (IsCause profile program) → r ≡ Err (StateRefused slot fault) → RefusesAt profile program slot fault
refuses_at profile program (Ok t) slot fault cause is = absurd (cc)
refuses_at profile program (Err e) slot fault (inl none) is = absurd (cc)
refuses_at profile program (Err e) slot fault (inr may) is =
    let same : StateRefused may.0.slot may.0.fault ≡ StateRefused slot fault = cc (may.1, is) in
    let at : may.0.slot ≡ slot = cc in
    let why : may.0.fault ≡ fault = cc in
    (may.0, at, why)

-- a refusal with a cause names it
pub caused : (profile : Profile) (program : Program) (e : VerifyError) (slot : ℕ) (fault : Refusal) → IsCause profile program e → e ≡ StateRefused slot fault → RefusesAt profile program slot fault
caused profile program e slot fault cause is =
    let refused : Result Program VerifyError = Err e in
    let same : refused ≡ Err (StateRefused slot fault) = cc in
    refuses_at profile program refused slot fault cause same

-- a refusal of an instruction that is passed on
pub refused_for : {T : Type 0} (r : Result T Stop) (e fault : Refusal) (P : Refusal → Type 0) → IsErrAnd r (λ y. y ≡ Refused e) → P e → r ≡ Err (Refused fault) → P fault
refused_for (Ok t) e fault P is p same = absurd (cc)
refused_for (Err y) e fault P is p same = let one : e ≡ fault = cc in subst P one p

-- what stops a comparison is passed on as it is
pub stopped_on : {T : Type 0} (r : Result T Stop) (e : Stop) (P : Stop → Type 0) → IsErrAnd r (λ y. y ≡ e) → P e → IfErr r P
stopped_on (Ok t) e P is p = tt
stopped_on (Err y) e P is p = subst P (sym is) p

pub stopped_for : {T : Type 0} (r : Result T Stop) (e : Stop) (fault : Refusal) (P : Refusal → Type 0) → IsErrAnd r (λ y. y ≡ e) → ((refusal : Refusal) → e ≡ Refused refusal → P refusal) → r ≡ Err (Refused fault) → P fault
stopped_for (Ok t) e fault P is p same = absurd (cc (same))
stopped_for (Err y) e fault P is p same = p fault (let one : y ≡ Refused fault = cc in sym is ∙ one)

pub not_refused : {T : Type 0} (r : Result T Stop) (fault : Refusal) (P : Type 0) → IsErrAnd r (λ y. y ≡ NoMemory) → r ≡ Err (Refused fault) → P
not_refused (Ok t) fault P is same = absurd (cc)
not_refused (Err y) fault P is same = absurd (cc)

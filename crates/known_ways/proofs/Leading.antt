-- From which slots no instruction leads to a slot.
use Rattle.std.proofs.Common.{◌≡◌, ℕ, zero, suc, ◌+◌, ◌-◌, ◌<◌, ◌≤◌, ⊎_elim, ◌⊎◌, inl, inr, nat_eq, if◌then◌else◌, ◌||◌, Bool, true, false, [], ◌++◌, length, Option, Some, None, refl, sym, ap, ◌∙◌, subst, arith}
use Rattle.std.specs.Prelude.{ℤ, pos, negsuc}
use Rattle.std.specs.List.{slice_get}
use Rattle.std.proofs.lemmas.Bool.{cases_eq, cases_lt}
use Rattle.std.proofs.lemmas.Bool.Decides.{nat_tests}
use Rattle.std.proofs.lemmas.Option.{slice_get_past, slice_get_within}
use Rattle.span_context.specs.declared.profile.Profile.{Profile}
use Rattle.bpf_words.specs.declared.instruction.Insn.{Insn}
use Rattle.bpf_words.specs.declared.instruction.Insn.TheVariants.{Compute, Negate, Extend, Convert, Jump, JumpLong, Branch, Load, LoadSigned, Store, LoadWide, Exit}
use Rattle.bpf_words.specs.Flow.{jump_of, slots_of}
use Rattle.semantics.specs.Step.{Program}
use Rattle.tracked_state.specs.Tracked.{TrackedSituation}
use Rattle.tracked_state.specs.Rules.{TrackedWays}
use Rattle.verifier.specs.declared.refusal.StructureFault.TheVariants.{JumpOut}
use Rattle.verifier.specs.Structure.{IsStructured}
use Rattle.verifier.specs.Decides.{jump_target, known_before}
use Rattle.known_ways.specs.Ways.{along, known_on, ways_by, ways_at, ways_below, forward_target, target_at, leads_to, is_jumped_below, is_jumped_to}

-- ---- a jump leads to a slot above it by its edge exactly where it leads there forward
pub target_forward : (from to : ℕ) (j : Option ℤ) → from < to → nat_eq to (jump_target from j) ≡ leads_to to (forward_target from j)
target_forward from to None less = let never : nat_eq to from ≡ false = grind (arith, nat_tests) in never
target_forward from to (Some (pos n)) less = refl
target_forward from to (Some (negsuc n)) less = let never : nat_eq to from ≡ false = grind (arith, nat_tests) in never

pub by_leads : (to from : ℕ) (insn : Insn) (w : TrackedWays) → from < to → ways_by to from insn w ≡ (if nat_eq to (from + slots_of insn) then along from (known_on w.untaken) else []) ++ (if leads_to to (forward_target from (jump_of insn)) then along from (known_on w.taken) else [])
by_leads to from insn w less = rw (target_forward from to (jump_of insn) less) refl

few_slots : (insn : Insn) → slots_of insn ≤ 2
few_slots (Compute w op d o) = omega arith
few_slots (Negate w d) = omega arith
few_slots (Extend x d r) = omega arith
few_slots (Convert c b d) = omega arith
few_slots (Jump distance) = omega arith
few_slots (JumpLong distance) = omega arith
few_slots (Branch w c l r distance) = omega arith
few_slots (Load z d b o) = omega arith
few_slots (LoadSigned z d b o) = omega arith
few_slots (Store z b o v) = omega arith
few_slots (LoadWide d v) = omega arith
few_slots Exit = omega arith

apart : (m n : ℕ) → n < m → nat_eq m n ≡ false
apart m n less = grind (arith, nat_tests)

pub no_way : (profile : Profile) (to from : ℕ) (place : Option (Option Insn)) (known : Option TrackedSituation) → from + 2 < to → leads_to to (target_at from place) ≡ false → ways_at profile to from place known ≡ []
no_way profile to from None known far never = refl
no_way profile to from (Some None) known far never = refl
no_way profile to from (Some (Some insn)) known far never =
    let next : nat_eq to (from + slots_of insn) ≡ false = apart to (from + slots_of insn) (omega (arith, far, few_slots insn)) in
    let jump : nat_eq to (jump_target from (jump_of insn)) ≡ false = target_forward from to (jump_of insn) (omega (arith, far)) ∙ never in
    rw (next, jump) refl

pub no_way_when : (profile : Profile) (to from : ℕ) (place : Option (Option Insn)) (known : Option TrackedSituation) (leads : Bool) (target : Option ℕ) → from + 2 < to → target ≡ target_at from place → leads ≡ leads_to to target → leads ≡ false → ways_at profile to from place known ≡ []
no_way_when profile to from place known leads target far at is never =
    no_way profile to from place known far (ap (leads_to to) (sym at) ∙ sym is ∙ never)

pub no_target : (program : Program) (from : ℕ) → length program ≤ from → None ≡ target_at from (slice_get program from)
no_target program from past = rw (slice_get_past program from past) refl

abbrev pub NoneLead : Program → ℕ → Type 0
NoneLead program to = (k : ℕ) → k < to → leads_to to (target_at k (slice_get program k)) ≡ false

pub none_below : (profile : Profile) (program : Program) (to count : ℕ) → NoneLead program to → count ≡ 0 ⊎ (count + 2 ≤ to) → ways_below profile program to count ≡ []
unfolding ways_below
none_below profile program to zero none few = refl
none_below profile program to (suc count) none few =
    rw (none_below profile program to count none (⊎_elim (λ (e : suc count ≡ 0). absurd (omega (arith, e))) (λ (le : suc count + 2 ≤ to). inr (omega (arith, le))) few), no_way profile to count (slice_get program count) (known_before profile program count) (⊎_elim (λ (e : suc count ≡ 0). absurd (omega (arith, e))) (λ (le : suc count + 2 ≤ to). omega (arith, le)) few) (none count (⊎_elim (λ (e : suc count ≡ 0). absurd (omega (arith, e))) (λ (le : suc count + 2 ≤ to). omega (arith, le)) few))) refl

-- ---- to which slots none does
neither : (a b : Bool) → (a || b) ≡ false → (a ≡ false) × (b ≡ false)
neither true b never = absurd (cc)
neither false b never = (refl, never)

jumps_none : (program : Program) (to count : ℕ) → is_jumped_below program to count ≡ false → (k : ℕ) → k < count → leads_to to (target_at k (slice_get program k)) ≡ false
unfolding is_jumped_below
jumps_none program to zero never k less = absurd (omega (arith, less))
jumps_none program to (suc count) never k less =
    let both = neither (is_jumped_below program to count) (leads_to to (target_at count (slice_get program count))) never in
    ⊎_elim
    (λ (here : k ≡ count). subst (λ (i : ℕ). leads_to to (target_at i (slice_get program i)) ≡ false) (sym here) both.1)
    (λ (other : k ≡ count → ⊥). jumps_none program to count both.0 k (omega (arith, less, other)))
    (cases_eq k count)

pub none_lead : (program : Program) (to : ℕ) → is_jumped_below program to (length program) ≡ false → NoneLead program to
none_lead program to never k less =
    ⊎_elim
    (λ (within : k < length program). jumps_none program to (length program) never k within)
    (λ (past : length program ≤ k). rw (slice_get_past program k past) refl)
    (cases_lt k (length program))

-- ---- no jump of a structured program leads past its end
jump_within : (program : Program) (k to : ℕ) (insn : Insn) (j : Option ℤ) → slice_get program k ≡ Some (Some insn) → jump_of insn ≡ j → IsStructured program → length program ≤ to → leads_to to (forward_target k j) ≡ false
jump_within program k to insn None starts is structured past = refl
jump_within program k to insn (Some (negsuc n)) starts is structured past = refl
jump_within program k to insn (Some (pos n)) starts is structured past =
    ⊎_elim
    (λ (less : k + 1 + n < length program). apart to (k + 1 + n) (omega (arith, less, past)))
    (λ (out : length program ≤ k + 1 + n).
    absurd (structured k insn (slice_get_within program k (Some insn) starts) starts JumpOut (pos n, is, (n, refl, out))))
    (cases_lt (k + 1 + n) (length program))

place_within : (program : Program) (k to : ℕ) (place : Option (Option Insn)) → slice_get program k ≡ place → IsStructured program → length program ≤ to → leads_to to (target_at k place) ≡ false
place_within program k to None starts structured past = refl
place_within program k to (Some None) starts structured past = refl
place_within program k to (Some (Some insn)) starts structured past = jump_within program k to insn (jump_of insn) starts refl structured past

pub jumped_past : (program : Program) (to count : ℕ) → IsStructured program → length program ≤ to → is_jumped_below program to count ≡ false
unfolding is_jumped_below
jumped_past program to zero structured past = refl
jumped_past program to (suc count) structured past =
    rw (jumped_past program to count structured past, place_within program count to (slice_get program count) refl structured past) refl

pub past_jumped : (program : Program) (to : ℕ) → IsStructured program → length program ≤ to → false ≡ is_jumped_to program to
past_jumped program to structured past = sym (jumped_past program to (length program) structured past)

-- ---- from which slot on ways are looked for
pub none_first : (profile : Profile) (program : Program) (to : ℕ) → ways_below profile program to 0 ≡ []
unfolding ways_below
none_first profile program to = refl

pub none_two : (profile : Profile) (program : Program) (to : ℕ) → is_jumped_to program to ≡ false → ways_below profile program to (to - 2) ≡ []
none_two profile program to never =
    none_below profile program to (to - 2) (none_lead program to never)
    (⊎_elim (λ (few : to < 2). inl (omega (arith, few))) (λ (more : 2 ≤ to). inr (omega (arith, more))) (cases_lt to 2))

pub ruleset firsts = (none_first, none_two)

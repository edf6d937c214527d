-- How many steps suffice for a run of a program whose jumps lead forward.
use Rattle.std.proofs.Common.{◌≡◌, ℕ, zero, suc, ◌+◌, ◌-◌, ◌<◌, ◌≤◌, ◌⊎◌, inl, inr, ⊎_elim, Bool, true, false, cond, if◌then◌else◌, List, length, get_or, set, Option, Some, None, Result, Ok, Err, refl, sym, ap, ◌∙◌, subst, arith, eqb}
use Rattle.std.specs.Prelude.{ℤ, pos, negsuc}
use Rattle.std.specs.List.{slice_get}
use Rattle.std.proofs.lemmas.Bool.{cases_eq}
use Rattle.std.proofs.lemmas.List.{get_or-set_same, get_or-set_other}
use Rattle.std.proofs.lemmas.Option.{slice_get_within}
use Rattle.span_context.specs.Context.{SpanBytes}
use Rattle.bpf_words.specs.declared.instruction.Insn.{Insn}
use Rattle.bpf_words.specs.declared.instruction.Insn.TheVariants.{Compute, Negate, Extend, Convert, Jump, JumpLong, Branch, Load, LoadSigned, Store, LoadWide, Exit}
use Rattle.bpf_words.specs.Flow.{StartsAt, jump_of, falls_through, slots_of}
use Rattle.semantics.specs.declared.FaultKind.{FaultKind}
use Rattle.semantics.specs.declared.FaultKind.TheVariants.{WriteR10}
use Rattle.semantics.specs.declared.Outcome.{Outcome}
use Rattle.semantics.specs.declared.Outcome.TheVariants.{Done}
use Rattle.semantics.specs.State.{State, start, register_of, operand_in}
use Rattle.semantics.specs.Value.{cut, value_of, negated, extended, converted, holds_of, with_sign}
use Rattle.semantics.specs.Memory.{address_of, load, store, bytes_in, bytes_in_signed}
use Rattle.semantics.specs.Step.{Program, Moved, On, Returns, Stepped, Next, Ends, then_with, write_and_go, first_of, perform, land, step_at, step}
use Rattle.semantics.specs.Outcomes.{after, outcome_from, outcome}
use Rattle.semantics.specs.Safe.{IsSpan, Safe}
use Rattle.semantics.proofs.Runs.{outcome_from-step}
use Rattle.verifier.specs.declared.refusal.StructureFault.TheVariants.{BackwardJump}
use Rattle.verifier.specs.Structure.{IsStructured}
use Rattle.verifier.specs.Plain.{Leads}
use Rattle.verifier.proofs.Reaching.{lands_at}

-- ---- an instruction goes on to the next one, or as its jump says
abbrev pub GoesAt : ℕ → Insn → Moved → Type 0
GoesAt slot insn (Ok (On next distance)) =
    (next.slot ≡ slot) × (((falls_through insn ≡ true) × ((n : ℕ) × (distance ≡ pos n) × (n + 1 ≡ slots_of insn))) ⊎ (jump_of insn ≡ Some distance))
GoesAt slot insn (Ok (Returns value)) = Unit {0}
GoesAt slot insn (Err kind) = Unit {0}

goes_then : {A : Type 0} (slot : ℕ) (insn : Insn) (part : Result A FaultKind) (rest : A → Moved) → ((a : A) → GoesAt slot insn (rest a)) → GoesAt slot insn (then_with part rest)
goes_then slot insn (Ok a) rest h = h a
goes_then slot insn (Err kind) rest h = tt

goes_write : (s : State) (insn : Insn) (register value n : ℕ) → falls_through insn ≡ true → n + 1 ≡ slots_of insn → GoesAt s.slot insn (write_and_go s register value (pos n))
goes_write s insn register value n falls size =
    elim (eqb register 10) as (λ b. GoesAt s.slot insn (then_with (cond b (Err WriteR10) (Ok (record s { registers = set s.registers register (Some value) }))) (λ new. Ok (On new (pos n))))) [ true ↦ tt | false ↦ (refl, inl (falls, (n, refl, size))) ]

goes_one : {A : Type 0} (s : State) (insn : Insn) (register : ℕ) (part : Result A FaultKind) (value : A → ℕ) → falls_through insn ≡ true → 1 ≡ slots_of insn → GoesAt s.slot insn (then_with part (λ a. write_and_go s register (value a) (pos 0)))
goes_one s insn register part value falls size = goes_then s.slot insn part (λ a. write_and_go s register (value a) (pos 0)) (λ a. goes_write s insn register (value a) 0 falls size)

goes_two : {A B : Type 0} (s : State) (insn : Insn) (register : ℕ) (first : Result A FaultKind) (second : A → Result B FaultKind) (value : A → B → ℕ) → falls_through insn ≡ true → 1 ≡ slots_of insn → GoesAt s.slot insn (then_with first (λ a. then_with (second a) (λ b. write_and_go s register (value a b) (pos 0))))
goes_two s insn register first second value falls size =
    goes_then s.slot insn first (λ a. then_with (second a) (λ b. write_and_go s register (value a b) (pos 0))) (λ a. goes_one s insn register (second a) (value a) falls size)

goes_either : (s : State) (insn : Insn) (holds : Bool) (distance : ℤ) → falls_through insn ≡ true → 1 ≡ slots_of insn → jump_of insn ≡ Some distance → GoesAt s.slot insn (Ok (On s (if holds then distance else pos 0)))
goes_either s insn true distance falls size jumps = (refl, inr jumps)
goes_either s insn false distance falls size jumps = (refl, inl (falls, (0, refl, size)))

goes : (bytes : SpanBytes) (s : State) (insn : Insn) → GoesAt s.slot insn (perform bytes s insn)
goes bytes s (Compute width operation destination operand) =
    goes_two s (Compute width operation destination operand) destination (first_of s operation destination) (λ a. operand_in s operand) (λ a b. value_of operation width (cut width a) (cut width b)) refl refl
goes bytes s (Negate width destination) = goes_one s (Negate width destination) destination (register_of s destination) (λ a. negated width (cut width a)) refl refl
goes bytes s (Extend extension destination source) = goes_one s (Extend extension destination source) destination (register_of s source) (λ a. extended extension a) refl refl
goes bytes s (Convert conversion bits destination) = goes_one s (Convert conversion bits destination) destination (register_of s destination) (λ a. converted conversion bits a) refl refl
goes bytes s (Jump distance) = (refl, inr refl)
goes bytes s (JumpLong distance) = (refl, inr refl)
goes bytes s (Branch width comparison left right distance) =
    let on : ℕ → ℕ → Moved = λ a b. Ok (On s (if holds_of comparison width (cut width a) (cut width b) then distance else pos 0)) in
    goes_then s.slot (Branch width comparison left right distance) (register_of s left) (λ a. then_with (operand_in s right) (on a))
    (λ a. goes_then s.slot (Branch width comparison left right distance) (operand_in s right) (on a)
    (λ b. goes_either s (Branch width comparison left right distance) (holds_of comparison width (cut width a) (cut width b)) distance refl refl refl))
goes bytes s (Load size destination base offset) =
    goes_two s (Load size destination base offset) destination (register_of s base) (λ address. load bytes s.stack (address_of address offset) (bytes_in size)) (λ address value. value) refl refl
goes bytes s (LoadSigned size destination base offset) =
    goes_two s (LoadSigned size destination base offset) destination (register_of s base) (λ address. load bytes s.stack (address_of address offset) (bytes_in_signed size)) (λ address value. with_sign size value) refl refl
goes bytes s (Store size base offset operand) =
    let insn : Insn = Store size base offset operand in
    let on : List (Option ℕ) → Moved = λ stack. Ok (On (record s { stack = stack }) (pos 0)) in
    let stores : ℕ → ℕ → Result (List (Option ℕ)) FaultKind = λ address value. store bytes s.stack (address_of address offset) (bytes_in size) value in
    goes_then s.slot insn (register_of s base) (λ address. then_with (operand_in s operand) (λ value. then_with (stores address value) on))
    (λ address. goes_then s.slot insn (operand_in s operand) (λ value. then_with (stores address value) on)
    (λ value. goes_then s.slot insn (stores address value) on (λ stack. (refl, inl (refl, (0, refl, refl))))))
goes bytes s (LoadWide destination value) = goes_write s (LoadWide destination value) destination value 1 refl refl
goes bytes s Exit = goes_then s.slot Exit (register_of s 0) (λ value. Ok (Returns value)) (λ value. tt)

-- ---- the slot that a step leads to
leads : (program : Program) (s next : State) (insn : Insn) (m : Moved) → IsStructured program → StartsAt program s.slot insn → GoesAt s.slot insn m → then_with m (land program) ≡ Ok (Next next) → Leads insn s.slot next.slot
leads program s next insn (Ok (Returns value)) structured starts go e = absurd (cc)
leads program s next insn (Err kind) structured starts go e = absurd (cc)
leads program s next insn (Ok (On mid (pos n))) structured starts (same, inl (falls, (k, is, size))) e =
    let at : next.slot ≡ mid.slot + 1 + n = ap (λ (x : State). x.slot) (lands_at program mid next n e) in
    let number : n ≡ k = cc in
    inl (falls, (omega arith))
leads program s next insn (Ok (On mid (pos n))) structured starts (same, inr jumps) e =
    let at : next.slot ≡ mid.slot + 1 + n = ap (λ (x : State). x.slot) (lands_at program mid next n e) in
    inr (n, jumps, (omega arith))
leads program s next insn (Ok (On mid (negsuc n))) structured starts (same, inl (falls, (k, is, size))) e = absurd (cc)
leads program s next insn (Ok (On mid (negsuc n))) structured starts (same, inr jumps) e =
    absurd (structured s.slot insn (slice_get_within program s.slot (Some insn) starts) starts BackwardJump (negsuc n, jumps, (n, refl)))

step_leads : (program : Program) (bytes : SpanBytes) (s next : State) (insn : Insn) → IsStructured program → StartsAt program s.slot insn → step program bytes s ≡ Ok (Next next) → Leads insn s.slot next.slot
step_leads program bytes s next insn structured starts e =
    leads program s next insn (perform bytes s insn) structured starts (goes bytes s insn)
    (subst (λ entry. step_at program bytes s entry ≡ Ok (Next next)) starts e)

-- ---- runs that end
more_at : (given : Stepped) (slot value : ℕ) (rest more : State → Outcome) → ((next : State) → given ≡ Ok (Next next) → rest next ≡ Done value → more next ≡ Done value) → after given slot rest ≡ Done value → after given slot more ≡ Done value
more_at (Ok (Next next)) slot value rest more h e = h next refl e
more_at (Ok (Ends result)) slot value rest more h e = e
more_at (Err kind) slot value rest more h e = absurd (cc)

-- a run that ends within some steps ends so within more
ends_within : (program : Program) (bytes : SpanBytes) (few many value : ℕ) (s : State) → few ≤ many → outcome_from program bytes few s ≡ Done value → outcome_from program bytes many s ≡ Done value
unfolding outcome_from
ends_within program bytes zero many value s less e = absurd (cc)
ends_within program bytes (suc few) zero value s less e = absurd (omega arith)
ends_within program bytes (suc few) (suc many) value s less e =
    more_at (step program bytes s) s.slot value (λ next. outcome_from program bytes few next) (λ next. outcome_from program bytes many next)
    (λ next is rest. ends_within program bytes few many value next (omega arith) rest) e

takes_steps : (program : Program) (bytes : SpanBytes) (steps value : ℕ) (s : State) → outcome_from program bytes steps s ≡ Done value → 0 < steps
unfolding outcome_from
takes_steps program bytes zero value s e = absurd (cc)
takes_steps program bytes (suc steps) value s e = omega arith

first_step : (program : Program) (bytes : SpanBytes) (steps value : ℕ) (s : State) → outcome_from program bytes steps s ≡ Done value → after (step program bytes s) s.slot (λ next. outcome_from program bytes (steps - 1) next) ≡ Done value
first_step program bytes steps value s e =
    sym (outcome_from-step program bytes steps s (takes_steps program bytes steps value s e)) ∙ e

-- no run ends with a number from a slot that has no instruction
none_ends : (program : Program) (bytes : SpanBytes) (steps value : ℕ) (s : State) (entry : Option (Option Insn)) → slice_get program s.slot ≡ entry → ((insn : Insn) → entry ≡ Some (Some insn) → ⊥) → outcome_from program bytes steps s ≡ Done value → ⊥
none_ends program bytes steps value s None is none e =
    let first = subst (λ o. after (step_at program bytes s o) s.slot (λ next. outcome_from program bytes (steps - 1) next) ≡ Done value) is (first_step program bytes steps value s e) in
    absurd (cc)
none_ends program bytes steps value s (Some None) is none e =
    let first = subst (λ o. after (step_at program bytes s o) s.slot (λ next. outcome_from program bytes (steps - 1) next) ≡ Done value) is (first_step program bytes steps value s e) in
    absurd (cc)
none_ends program bytes steps value s (Some (Some insn)) is none e = none insn refl

-- ---- how many steps suffice from each slot on
abbrev pub AreEnough : Program → List ℕ → ℕ → Type 0
AreEnough program steps from =
    (bytes : SpanBytes) (s : State) (given value : ℕ) → from ≤ s.slot → outcome_from program bytes given s ≡ Done value → outcome_from program bytes (get_or steps s.slot 0) s ≡ Done value

pub enough_none : (program : Program) (steps : List ℕ) → AreEnough program steps (length program)
enough_none program steps bytes s given value low e =
    absurd (none_ends program bytes given value s (slice_get program s.slot) refl
    (λ insn starts. (let within = slice_get_within program s.slot (Some insn) starts in omega arith)) e)

pub enough_over : (program : Program) (steps : List ℕ) (slot : ℕ) → slice_get program slot ≡ Some None → AreEnough program steps (slot + 1) → AreEnough program steps slot
enough_over program steps slot second above bytes s given value low e =
    ⊎_elim
    (λ (here : s.slot ≡ slot).
    absurd (none_ends program bytes given value s (Some None) (ap (slice_get program) here ∙ second) (λ insn is. absurd (cc)) e))
    (λ (apart : s.slot ≡ slot → ⊥). above bytes s given value (omega arith) e)
    (cases_eq s.slot slot)

-- one more than from each slot that an instruction leads to
pub record IsMore (steps : List ℕ) (slot : ℕ) (insn : Insn) (count : ℕ) : Type 0 where
  pub some : 1 ≤ count
  pub falls : falls_through insn ≡ true → get_or steps (slot + slots_of insn) 0 < count
  pub jumps : (n : ℕ) → jump_of insn ≡ Some (pos n) → get_or steps (slot + 1 + n) 0 < count

led_more : (steps : List ℕ) (slot to count : ℕ) (insn : Insn) → IsMore steps slot insn count → Leads insn slot to → get_or steps to 0 < count
led_more steps slot to count insn more (inl (falls, at)) = subst (λ k. get_or steps k 0 < count) (sym at) (more.falls falls)
led_more steps slot to count insn more (inr (n, jumps, at)) = subst (λ k. get_or steps k 0 < count) (sym at) (more.jumps n jumps)

one_or_more : (insn : Insn) → 1 ≤ slots_of insn
one_or_more (Compute w op d o) = omega arith
one_or_more (Negate w d) = omega arith
one_or_more (Extend x d r) = omega arith
one_or_more (Convert c b d) = omega arith
one_or_more (Jump distance) = omega arith
one_or_more (JumpLong distance) = omega arith
one_or_more (Branch w c l r distance) = omega arith
one_or_more (Load z d b o) = omega arith
one_or_more (LoadSigned z d b o) = omega arith
one_or_more (Store z b o v) = omega arith
one_or_more (LoadWide d v) = omega arith
one_or_more Exit = omega arith

led_above : (slot to : ℕ) (insn : Insn) → Leads insn slot to → slot + 1 ≤ to
led_above slot to insn (inl (falls, at)) = let size = one_or_more insn in omega arith
led_above slot to insn (inr (n, jumps, at)) = omega arith

pub enough_more : (program : Program) (steps : List ℕ) (slot count : ℕ) (insn : Insn) → IsStructured program → StartsAt program slot insn → slot < length steps → IsMore steps slot insn count → AreEnough program steps (slot + 1) → AreEnough program (set steps slot count) slot
enough_more program steps slot count insn structured starts within more above bytes s given value low e =
    ⊎_elim
    (λ (here : s.slot ≡ slot).
    let is : get_or (set steps slot count) s.slot 0 ≡ count = ap (λ k. get_or (set steps slot count) k 0) here ∙ get_or-set_same steps slot count 0 within in
    let there : StartsAt program s.slot insn = subst (λ k. StartsAt program k insn) (sym here) starts in
    let some : 0 < count = more.some in
    let enough : outcome_from program bytes count s ≡ Done value =
    outcome_from-step program bytes count s some
    ∙ more_at (step program bytes s) s.slot value (λ next. outcome_from program bytes (given - 1) next) (λ next. outcome_from program bytes (count - 1) next)
    (λ next steps_to rest.
    let lead : Leads insn slot next.slot = subst (λ k. Leads insn k next.slot) here (step_leads program bytes s next insn structured there steps_to) in
    let fewer : get_or steps next.slot 0 < count = led_more steps slot next.slot count insn more lead in
    ends_within program bytes (get_or steps next.slot 0) (count - 1) value next (omega arith)
    (above bytes next (given - 1) value (led_above slot next.slot insn lead) rest))
    (first_step program bytes given value s e) in
    subst (λ k. outcome_from program bytes k s ≡ Done value) (sym is) enough)
    (λ (apart : s.slot ≡ slot → ⊥).
    let is : get_or (set steps slot count) s.slot 0 ≡ get_or steps s.slot 0 = get_or-set_other steps slot s.slot count 0 apart in
    subst (λ k. outcome_from program bytes k s ≡ Done value) (sym is) (above bytes s given value (omega arith) e))
    (cases_eq s.slot slot)

-- a safe program's runs end within the steps of the first slot
pub enough_first : (program : Program) (steps : List ℕ) → Safe program → AreEnough program steps 0 → (bytes : SpanBytes) → IsSpan bytes → outcome_from program bytes (get_or steps 0 0) start ≡ outcome program bytes
enough_first program steps safe all bytes span =
    let ends = safe bytes span in
    all bytes start (length program) ends.0 (omega arith) ends.1 ∙ sym ends.1

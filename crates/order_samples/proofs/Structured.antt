-- The sample's structure has no fault.
use Rattle.std.proofs.Common.{◌≡◌, ◌≢◌, ℕ, zero, suc, ◌+◌, ◌<◌, ◌≤◌, ◌&&◌, nat_lt, Bool, true, false, Option, Some, None, refl, sym, subst, ap, ◌∙◌, arith, ⊎_elim}
use Rattle.std.specs.Prelude.{ℤ, pos, negsuc, slice_get}
use Rattle.std.proofs.lemmas.Option.{slice_get_within}
use Rattle.std.proofs.lemmas.Bool.{cases_eq, and_parts, ltb-true}
use Rattle.bpf_words.specs.declared.instruction.Insn.{Insn}
use Rattle.bpf_words.specs.declared.instruction.Insn.TheVariants.{Compute, Negate, Extend, Convert, Jump, JumpLong, Branch, Load, LoadSigned, Store, LoadWide, Exit}
use Rattle.bpf_words.specs.Flow.{jump_of, slots_of, written_by}
use Rattle.verifier.specs.declared.refusal.StructureFault.TheVariants.{BackwardJump, JumpOut, JumpIntoWide, FallOff, WriteR10}
use Rattle.verifier.specs.Structure.{IsStructured, IsSound}
use Rattle.order_samples.specs.Samples.{joined_twice}

-- ---- a test of each instruction
abbrev lands : Option (Option Insn) → Bool
lands None = false
lands (Some None) = false
lands (Some (Some insn)) = true

abbrev jumps_well : ℕ → Option ℤ → Bool
jumps_well slot None = true
jumps_well slot (Some (pos n)) = lands (slice_get joined_twice (slot + 1 + n))
jumps_well slot (Some (negsuc n)) = false

abbrev writes_well : Option ℕ → Bool
writes_well None = true
writes_well (Some register) = nat_lt register 10

abbrev falls_well : ℕ → Insn → Bool
falls_well slot Exit = true
falls_well slot insn = nat_lt (slot + slots_of insn) 13

abbrev is_well : ℕ → Insn → Bool
is_well slot insn = jumps_well slot (jump_of insn) && (writes_well (written_by insn) && falls_well slot insn)

abbrev well_at : ℕ → Option (Option Insn) → Bool
well_at slot None = true
well_at slot (Some None) = true
well_at slot (Some (Some insn)) = is_well slot insn

abbrev well_below : ℕ → Bool
well_below zero = true
well_below (suc end) = well_below end && well_at end (slice_get joined_twice end)

every_well : well_below 13 ≡ true
every_well = refl

-- ---- what the test says
well_there : (end slot : ℕ) → slot < end → well_below end ≡ true → well_at slot (slice_get joined_twice slot) ≡ true
well_there zero slot less all = absurd (omega arith)
well_there (suc end) slot less all =
    let parts = and_parts (well_below end) (well_at end (slice_get joined_twice end)) all in
    ⊎_elim
    (λ (is : slot ≡ end). subst (λ (n : ℕ). well_at n (slice_get joined_twice n) ≡ true) (sym is) parts.1)
    (λ (other : slot ≡ end → ⊥). well_there end slot (omega arith) parts.0)
    (cases_eq slot end)

landed : (o : Option (Option Insn)) → lands o ≡ true → (insn : Insn) × (o ≡ Some (Some insn))
landed None well = absurd (cc)
landed (Some None) well = absurd (cc)
landed (Some (Some insn)) well = (insn, refl)

not_far : (slot n : ℕ) → lands (slice_get joined_twice (slot + 1 + n)) ≡ true → 13 ≤ slot + 1 + n → ⊥
not_far slot n well past =
    let there = landed (slice_get joined_twice (slot + 1 + n)) well in
    let less : slot + 1 + n < 13 = slice_get_within joined_twice (slot + 1 + n) (Some there.0) there.1 in
    omega arith

not_past : (n : ℕ) → nat_lt n 13 ≡ true → 13 ≤ n → ⊥
not_past n well past = let less = ltb-true n 13 well in omega arith

not_off : (slot : ℕ) (insn : Insn) → falls_well slot insn ≡ true → insn ≢ Exit → 13 ≤ slot + slots_of insn → ⊥
not_off slot Exit well other past = other refl
not_off slot (Compute w op d o) well other past = not_past (slot + 1) well past
not_off slot (Negate w d) well other past = not_past (slot + 1) well past
not_off slot (Extend e d r) well other past = not_past (slot + 1) well past
not_off slot (Convert c b d) well other past = not_past (slot + 1) well past
not_off slot (Jump distance) well other past = not_past (slot + 1) well past
not_off slot (JumpLong distance) well other past = not_past (slot + 1) well past
not_off slot (Branch w c l r distance) well other past = not_past (slot + 1) well past
not_off slot (Load z d b o) well other past = not_past (slot + 1) well past
not_off slot (LoadSigned z d b o) well other past = not_past (slot + 1) well past
not_off slot (Store z b o v) well other past = not_past (slot + 1) well past
not_off slot (LoadWide d v) well other past = not_past (slot + 2) well past

sound_at : (slot : ℕ) (insn : Insn) → is_well slot insn ≡ true → IsSound joined_twice slot insn
sound_at slot insn well BackwardJump (d, jump, (n, back)) =
    let parts = and_parts (jumps_well slot (jump_of insn)) (writes_well (written_by insn) && falls_well slot insn) well in
    let wrong : jumps_well slot (Some (negsuc n)) ≡ true = subst (λ (o : Option ℤ). jumps_well slot o ≡ true) (jump ∙ ap (λ (z : ℤ). Some z) back) parts.0 in
    absurd (cc)
sound_at slot insn well JumpOut (d, jump, (n, forward, past)) =
    let parts = and_parts (jumps_well slot (jump_of insn)) (writes_well (written_by insn) && falls_well slot insn) well in
    let there : jumps_well slot (Some (pos n)) ≡ true = subst (λ (o : Option ℤ). jumps_well slot o ≡ true) (jump ∙ ap (λ (z : ℤ). Some z) forward) parts.0 in
    not_far slot n there past
sound_at slot insn well JumpIntoWide (d, jump, (n, forward, wide)) =
    let parts = and_parts (jumps_well slot (jump_of insn)) (writes_well (written_by insn) && falls_well slot insn) well in
    let there : jumps_well slot (Some (pos n)) ≡ true = subst (λ (o : Option ℤ). jumps_well slot o ≡ true) (jump ∙ ap (λ (z : ℤ). Some z) forward) parts.0 in
    let wrong : lands (Some None) ≡ true = subst (λ (o : Option (Option Insn)). lands o ≡ true) wide there in
    absurd (cc)
sound_at slot insn well FallOff (other, past) =
    let parts = and_parts (jumps_well slot (jump_of insn)) (writes_well (written_by insn) && falls_well slot insn) well in
    let falls = and_parts (writes_well (written_by insn)) (falls_well slot insn) parts.1 in
    not_off slot insn falls.1 other past
sound_at slot insn well WriteR10 written =
    let parts = and_parts (jumps_well slot (jump_of insn)) (writes_well (written_by insn) && falls_well slot insn) well in
    let writes = and_parts (writes_well (written_by insn)) (falls_well slot insn) parts.1 in
    let wrong : writes_well (Some 10) ≡ true = subst (λ (o : Option ℕ). writes_well o ≡ true) written writes.0 in
    absurd (cc)

pub structured : IsStructured joined_twice
structured slot insn less starts =
    sound_at slot insn (subst (λ (place : Option (Option Insn)). well_at slot place ≡ true) starts (well_there 13 slot less every_well))

-- A constant as an operation of 32 bits reads it: its low half, to the bit.
use Rattle.std.proofs.Common.{◌≡◌, ℕ, ℤ, ◌-◌, ◌%◌, ◌^◌, ◌<◌, ◌≤◌, Option, Some, refl, ap, ◌∙◌, subst, arith}
use Rattle.std.specs.Prelude.{option_and_then, bit_and, bit_or}
use Rattle.std.specs.Int.{cast_unsigned, w64}
use Rattle.std.proofs.lemmas.Nat.{and_mask, or_disjoint}
use Rattle.span_context.specs.declared.profile.Profile.{Profile}
use Rattle.bpf_words.specs.declared.instruction.Insn.TheVariants.{Compute}
use Rattle.bpf_words.specs.declared.instruction.Arithmetic.TheVariants as is
use Rattle.bpf_words.specs.declared.instruction.Operand.TheVariants.{Immediate}
use Rattle.bpf_words.specs.declared.instruction.Width.TheVariants.{Narrow}
use Rattle.semantics.specs.Value.{cut}
use Rattle.known_bits.specs.KnownBits.{most_bits, all_known, low_bits}
use Rattle.intervals.specs.Interval.{from_to, low_between}
use Rattle.abstract_state.specs.Estimate.{Estimate, no_tails, normal_cut, operand_cut, constant}
use Rattle.abstract_state.specs.Transfer.{applied, transferred}
use Rattle.abstract_state.specs.Addresses.{ANumber, moved}
use Rattle.abstract_state.specs.Situation.{Situation}
use Rattle.abstract_state.specs.Stepping.{arithmetic, stepped}
use Rattle.guarded_rules.specs.Facts.{Register, Number, Property, Any, AtLeast, AtMost, Behind, Of, Holds}
use Rattle.guarded_rules.specs.Keeps.{IsKept, Keeps}
use Rattle.guarded_rules.specs.Says.{HasProperty, Says, SaysIn, OnAnswer, OnSituation}
use Rattle.guarded_rules.specs.Sums.{Exactly, Sums}
use Rattle.guarded_rules.proofs.Bounds.{normal_within, operand_keeps}
use Rattle.guarded_rules.proofs.Kept.{seen, says_kept, bind_says}
use Rattle.guarded_rules.proofs.Sums.{added_says}
use Rattle.guarded_rules.proofs.Values.{number_on}
use Rattle.guarded_rules.proofs.Maps.{sums_map}
use Rattle.guarded_rules.proofs.Low.{cut_property, low_sum_on, moves}
use Rattle.guarded_rules.proofs.Steps.{computed_gives}

-- ---- the low half of a constant
low_ones : (n : ℕ) → (low_bits (all_known n)).ones ≡ n % 2 ^ 32
unfolding low_bits
low_ones n = and_mask n 32

nothing_and : (m : ℕ) → bit_and m 0 ≡ 0
nothing_and m = and_mask m 0 ∙ omega arith

low_most : (n : ℕ) → most_bits (low_bits (all_known n)) ≡ n % 2 ^ 32
unfolding low_bits
low_most n =
    ap (λ (m : ℕ). bit_or m 0) (and_mask n 32) ∙ or_disjoint (n % 2 ^ 32) 0 (nothing_and (n % 2 ^ 32)) ∙ omega arith

pub low_constant : (n : ℕ) → Keeps (from_to (n % 2 ^ 32) (n % 2 ^ 32)) no_tails (operand_cut Narrow (constant n))
unfolding operand_cut normal_cut
low_constant n =
    let ones = low_ones n in
    let most = low_most n in
    normal_within (low_bits (all_known n)) (from_to (n % 2 ^ 32) (n % 2 ^ 32)) (low_between (from_to n n)) no_tails (omega (arith, ones)) (omega (arith, most))

cut_constant : (n : ℕ) → operand_cut Narrow (constant n) ≡ normal_cut Narrow (all_known n) (from_to n n) no_tails
unfolding operand_cut
cut_constant n = refl

exact_seen : (p : Property) (m : ℕ) → Exactly m p → HasProperty p (seen (from_to m m) no_tails)
exact_seen Any m h = tt
exact_seen (AtLeast n) m h = h
exact_seen (AtMost n) m h = h
exact_seen (Behind r n) m h = absurd h

low_few : (n : ℕ) → n % 2 ^ 32 ≤ 2 ^ 64 - 1
low_few n = omega arith

-- ---- moves
low_moved : (p : Property) (n : ℕ) → Exactly (n % 2 ^ 32) p → OnAnswer (Of Number p) (moved Narrow (ANumber (constant n)))
unfolding moved
low_moved p n h =
    number_on p (normal_cut Narrow (all_known n) (from_to n n) no_tails)
    (subst (λ (o : Option Estimate). SaysIn Number p o) (cut_constant n)
    (says_kept Number p (from_to (n % 2 ^ 32) (n % 2 ^ 32)) no_tails (operand_cut Narrow (constant n)) (low_few n) (low_constant n) (exact_seen p (n % 2 ^ 32) h)))

pub constant_moves : (profile : Profile) (d : ℕ) (value : ℤ) (s : Situation) (p : Property) → Exactly (cut Narrow (cast_unsigned w64 value)) p → OnSituation (Holds (Register d) (Of Number p)) (stepped profile (Compute Narrow is.Mov d (Immediate value)) s)
constant_moves profile d value s p h = moves profile Narrow d (Immediate value) s (Of Number p) (constant (cast_unsigned w64 value)) refl (low_moved p (cast_unsigned w64 value) h)

-- ---- sums
exact_property : (p : Property) (m : ℕ) (v : Estimate) → IsKept (from_to m m) no_tails v → Exactly m p → HasProperty p v
exact_property Any m v kept h = tt
exact_property (AtLeast n) m v kept h = omega (arith, kept.low, h)
exact_property (AtMost n) m v kept h = omega (arith, kept.high, h)
exact_property (Behind r n) m v kept h = absurd h

constant_sum : (profile : Profile) (p : Property) (x : Estimate) (n : ℕ) → x.range.low ≤ x.range.high → x.range.high < 2 ^ 32 → Sums profile Narrow (λ q. HasProperty q x) (Exactly (n % 2 ^ 32)) p → SaysIn Number p (transferred profile is.Add Narrow x (constant n))
unfolding transferred applied
constant_sum profile p x n proper few sums =
    let m = n % 2 ^ 32 in
    bind_says Number p x.range x.tails (operand_cut Narrow x) (λ u. option_and_then (applied profile is.Add Narrow u) (operand_cut Narrow (constant n))) (operand_keeps Narrow x proper few)
    (λ u ku. bind_says Number p (from_to m m) no_tails (operand_cut Narrow (constant n)) (applied profile is.Add Narrow u) (low_constant n)
    (λ v kv. let top = ku.high in
    added_says profile Narrow p u v kv.proper (omega (arith, top, few))
    (sums_map profile Narrow (λ q. HasProperty q x) (Exactly m) (λ q. HasProperty q u) (λ q. HasProperty q v) p (λ q h. cut_property q x u ku h) (λ q h. exact_property q m v kv h) sums)))

pub constant_adds : (profile : Profile) (d : ℕ) (value : ℤ) (s : Situation) (p : Property) (x : Estimate) → s.registers d ≡ Some (ANumber x) → Says Number Any x → x.range.high < 2 ^ 32 → Sums profile Narrow (λ q. HasProperty q x) (Exactly (cut Narrow (cast_unsigned w64 value))) p → OnSituation (Holds (Register d) (Of Number p)) (stepped profile (Compute Narrow is.Add d (Immediate value)) s)
unfolding stepped arithmetic
constant_adds profile d value s p x ex one few sums =
    computed_gives profile Narrow is.Add d (Immediate value) s (Of Number p) (ANumber x) (ANumber (constant (cast_unsigned w64 value))) ex refl
    (low_sum_on profile p x (constant (cast_unsigned w64 value)) (constant_sum profile p x (cast_unsigned w64 value) one.proper few sums))

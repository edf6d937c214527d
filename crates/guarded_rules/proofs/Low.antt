-- Moves and sums of 32 bits, and instructions that give any number of their width.
use Rattle.std.proofs.Common.{◌≡◌, ℕ, ℤ, ◌-◌, ◌^◌, ◌<◌, ◌≤◌, Option, Some, None, Result, Ok, Err, sym, subst, arith}
use Rattle.std.specs.Prelude.{option_map, option_and_then, ⊤}
use Rattle.std.specs.Int.{cast_unsigned, w64}
use Rattle.span_context.specs.declared.profile.Profile.{Profile}
use Rattle.bpf_words.specs.declared.instruction.Insn.TheVariants.{Compute, Negate, Extend, Convert, LoadSigned}
use Rattle.bpf_words.specs.declared.instruction.Arithmetic.TheVariants as is
use Rattle.bpf_words.specs.declared.instruction.Conversion.{Conversion}
use Rattle.bpf_words.specs.declared.instruction.ConvertedBits.{ConvertedBits}
use Rattle.bpf_words.specs.declared.instruction.ConvertedBits.TheVariants.{Bits16, Bits32, Bits64}
use Rattle.bpf_words.specs.declared.instruction.Extension.{Extension}
use Rattle.bpf_words.specs.declared.instruction.SignedSize.{SignedSize}
use Rattle.bpf_words.specs.declared.instruction.Operand.{Operand}
use Rattle.bpf_words.specs.declared.instruction.Width.{Width}
use Rattle.bpf_words.specs.declared.instruction.Width.TheVariants.{Narrow, Full}
use Rattle.semantics.specs.Value.{bits_of, bytes_kept}
use Rattle.semantics.specs.Memory.{bytes_in_signed}
use Rattle.abstract_state.specs.declared.refusal.Refusal.{Refusal}
use Rattle.abstract_state.specs.Estimate.{Estimate, normal_cut, operand_cut, up_to, unknown}
use Rattle.abstract_state.specs.Transfer.{applied, transferred}
use Rattle.abstract_state.specs.Addresses.{Content, ANumber, answer_of, computed, moved, replaced, converted, width_of}
use Rattle.abstract_state.specs.Loading.{a_number, readable}
use Rattle.abstract_state.specs.Situation.{Situation, read, operand_of}
use Rattle.abstract_state.specs.Stepping.{made, arithmetic, stepped}
use Rattle.guarded_rules.specs.Facts.{Register, Number, Property, Any, AtMost, Value, Of, Holds}
use Rattle.guarded_rules.specs.Keeps.{IsKept}
use Rattle.guarded_rules.specs.Says.{HasProperty, Says, SaysIn, OnAnswer, OnSituation}
use Rattle.guarded_rules.specs.Sums.{Sums}
use Rattle.guarded_rules.proofs.Bounds.{cut_keeps, operand_keeps}
use Rattle.guarded_rules.proofs.Kept.{says_kept, property_kept, bind_says}
use Rattle.guarded_rules.proofs.Sums.{added_says}
use Rattle.guarded_rules.proofs.Numbers.{cut_word, unknown_word, up_to_says}
use Rattle.guarded_rules.proofs.Values.{number_on, number_kind, own_property}
use Rattle.guarded_rules.proofs.Maps.{sums_map}
use Rattle.guarded_rules.proofs.Steps.{made_gives, read_content, one_read, computed_gives}

-- ---- moves
word_moved : (width : Width) (x : Estimate) → Says Number Any x → OnAnswer (Of Number (AtMost (2 ^ bits_of width - 1))) (moved width (ANumber x))
unfolding moved
word_moved width x h =
    let word = h.word in
    number_on (AtMost (2 ^ bits_of width - 1)) (normal_cut width x.bits x.range x.tails) (cut_word width x.bits x.range x.tails (omega (arith, word)))

low_moved : (p : Property) (x : Estimate) → Says Number p x → x.range.high < 2 ^ 32 → OnAnswer (Of Number p) (moved Narrow (ANumber x))
unfolding moved
low_moved p x h few =
    number_on p (normal_cut Narrow x.bits x.range x.tails)
    (says_kept Number p x.range x.tails (normal_cut Narrow x.bits x.range x.tails) h.word (cut_keeps Narrow x.bits x.range x.tails few) (own_property p x h.has))

pub moves : (profile : Profile) (width : Width) (d : ℕ) (operand : Operand) (s : Situation) (v : Value) (y : Estimate) → operand_of s.registers operand ≡ Ok (ANumber y) → OnAnswer v (moved width (ANumber y)) → OnSituation (Holds (Register d) v) (stepped profile (Compute width is.Mov d operand) s)
unfolding stepped arithmetic
moves profile width d operand s v y ey h =
    made_gives v d s (moved width) (operand_of s.registers operand)
    (λ c ec. subst (λ (z : Content). OnAnswer v (moved width z)) (sym (one_read (operand_of s.registers operand) (ANumber y) c ey ec)) h)

pub word_moves : (profile : Profile) (width : Width) (d : ℕ) (operand : Operand) (s : Situation) (y : Estimate) → operand_of s.registers operand ≡ Ok (ANumber y) → Says Number Any y → OnSituation (Holds (Register d) (Of Number (AtMost (2 ^ bits_of width - 1)))) (stepped profile (Compute width is.Mov d operand) s)
word_moves profile width d operand s y ey h = moves profile width d operand s (Of Number (AtMost (2 ^ bits_of width - 1))) y ey (word_moved width y h)

pub low_moves : (profile : Profile) (d : ℕ) (operand : Operand) (s : Situation) (p : Property) (y : Estimate) → operand_of s.registers operand ≡ Ok (ANumber y) → Says Number p y → y.range.high < 2 ^ 32 → OnSituation (Holds (Register d) (Of Number p)) (stepped profile (Compute Narrow is.Mov d operand) s)
low_moves profile d operand s p y ey h few = moves profile Narrow d operand s (Of Number p) y ey (low_moved p y h few)

-- ---- sums of 32 bits
pub cut_property : (p : Property) (x u : Estimate) → IsKept x.range x.tails u → HasProperty p x → HasProperty p u
cut_property p x u kept h = property_kept p x.range x.tails u kept (own_property p x h)

low_sum : (profile : Profile) (p : Property) (x y : Estimate) → x.range.low ≤ x.range.high → y.range.low ≤ y.range.high → x.range.high < 2 ^ 32 → y.range.high < 2 ^ 32 → Sums profile Narrow (λ q. HasProperty q x) (λ q. HasProperty q y) p → SaysIn Number p (transferred profile is.Add Narrow x y)
unfolding transferred applied
low_sum profile p x y proper also few too sums =
    bind_says Number p x.range x.tails (operand_cut Narrow x) (λ u. option_and_then (applied profile is.Add Narrow u) (operand_cut Narrow y)) (operand_keeps Narrow x proper few)
    (λ u ku. bind_says Number p y.range y.tails (operand_cut Narrow y) (applied profile is.Add Narrow u) (operand_keeps Narrow y also too)
    (λ v kv. let top = ku.high in
    added_says profile Narrow p u v kv.proper (omega (arith, top, few))
    (sums_map profile Narrow (λ q. HasProperty q x) (λ q. HasProperty q y) (λ q. HasProperty q u) (λ q. HasProperty q v) p (λ q h. cut_property q x u ku h) (λ q h. cut_property q y v kv h) sums)))

pub low_sum_on : (profile : Profile) (p : Property) (x y : Estimate) → SaysIn Number p (transferred profile is.Add Narrow x y) → OnAnswer (Of Number p) (computed profile is.Add Narrow (ANumber x) (ANumber y))
unfolding computed
low_sum_on profile p x y h = number_on p (transferred profile is.Add Narrow x y) h

pub low_adds : (profile : Profile) (d : ℕ) (operand : Operand) (s : Situation) (p : Property) (x y : Estimate) → s.registers d ≡ Some (ANumber x) → operand_of s.registers operand ≡ Ok (ANumber y) → Says Number Any x → Says Number Any y → x.range.high < 2 ^ 32 → y.range.high < 2 ^ 32 → Sums profile Narrow (λ q. HasProperty q x) (λ q. HasProperty q y) p → OnSituation (Holds (Register d) (Of Number p)) (stepped profile (Compute Narrow is.Add d operand) s)
unfolding stepped arithmetic
low_adds profile d operand s p x y ex ey one two few too sums =
    computed_gives profile Narrow is.Add d operand s (Of Number p) (ANumber x) (ANumber y) ex ey
    (low_sum_on profile p x y (low_sum profile p x y one.proper two.proper few too sums))

-- ---- any number of a width
any_on : (width : Width) (o : Option Estimate) → OnAnswer (Of Number (AtMost (2 ^ bits_of width - 1))) (Ok (option_map (λ _. ANumber (unknown width)) o))
any_on width None = tt
any_on width (Some a) = number_kind (AtMost (2 ^ bits_of width - 1)) (unknown width) (unknown_word width)

replaced_on : (width : Width) (x : Estimate) → OnAnswer (Of Number (AtMost (2 ^ bits_of width - 1))) (replaced width (ANumber x))
unfolding replaced
replaced_on width x = any_on width (operand_cut width x)

made_of : (v : Value) (d : ℕ) (s : Situation) (g : Content → Result (Option Content) Refusal) (o : Option Content) (a : Content) → o ≡ Some a → OnAnswer v (g a) → OnSituation (Holds (Register d) v) (made d s g (read o))
made_of v d s g o a ea h = made_gives v d s g (read o) (λ c ec. subst (λ (z : Content). OnAnswer v (g z)) (sym (read_content o a c ea ec)) h)

pub negate_gives : (profile : Profile) (width : Width) (d : ℕ) (s : Situation) (x : Estimate) → s.registers d ≡ Some (ANumber x) → OnSituation (Holds (Register d) (Of Number (AtMost (2 ^ bits_of width - 1)))) (stepped profile (Negate width d) s)
unfolding stepped
negate_gives profile width d s x ex = made_of (Of Number (AtMost (2 ^ bits_of width - 1))) d s (replaced width) (s.registers d) (ANumber x) ex (replaced_on width x)

pub extend_gives : (profile : Profile) (extension : Extension) (d source : ℕ) (s : Situation) (x : Estimate) → s.registers source ≡ Some (ANumber x) → OnSituation (Holds (Register d) (Of Number (AtMost (2 ^ bits_of (width_of extension) - 1)))) (stepped profile (Extend extension d source) s)
unfolding stepped
extend_gives profile extension d source s x ex =
    made_of (Of Number (AtMost (2 ^ bits_of (width_of extension) - 1))) d s (replaced (width_of extension)) (s.registers source) (ANumber x) ex (replaced_on (width_of extension) x)

kept_top : (bits : ConvertedBits) → 256 ^ bytes_kept bits - 1 ≤ 2 ^ 64 - 1
kept_top Bits16 = omega arith
kept_top Bits32 = omega arith
kept_top Bits64 = omega arith

converted_on : (bits : ConvertedBits) (x : Estimate) → OnAnswer (Of Number (AtMost (256 ^ bytes_kept bits - 1))) (answer_of Some (converted bits (ANumber x)))
unfolding converted
converted_on bits x = number_kind (AtMost (256 ^ bytes_kept bits - 1)) (up_to (256 ^ bytes_kept bits - 1)) (up_to_says (256 ^ bytes_kept bits - 1) (kept_top bits))

pub convert_gives : (profile : Profile) (conversion : Conversion) (bits : ConvertedBits) (d : ℕ) (s : Situation) (x : Estimate) → s.registers d ≡ Some (ANumber x) → OnSituation (Holds (Register d) (Of Number (AtMost (256 ^ bytes_kept bits - 1)))) (stepped profile (Convert conversion bits d) s)
unfolding stepped
convert_gives profile conversion bits d s x ex =
    made_of (Of Number (AtMost (256 ^ bytes_kept bits - 1))) d s (λ a. answer_of Some (converted bits a)) (s.registers d) (ANumber x) ex (converted_on bits x)

signed_read : (r : Result ⊤ Refusal) → OnAnswer (Of Number (AtMost (2 ^ 64 - 1))) (answer_of (a_number (unknown Full)) r)
signed_read (Ok done) = number_kind (AtMost (2 ^ 64 - 1)) (unknown Full) (unknown_word Full)
signed_read (Err fault) = tt

pub signed_gives : (profile : Profile) (size : SignedSize) (d base : ℕ) (offset : ℤ) (s : Situation) → OnSituation (Holds (Register d) (Of Number (AtMost (2 ^ 64 - 1)))) (stepped profile (LoadSigned size d base offset) s)
unfolding stepped
signed_gives profile size d base offset s =
    made_gives (Of Number (AtMost (2 ^ 64 - 1))) d s (λ a. answer_of (a_number (unknown Full)) (readable profile s.slots s.least a (cast_unsigned w64 offset) (bytes_in_signed size))) (read (s.registers base))
    (λ c ec. signed_read (readable profile s.slots s.least c (cast_unsigned w64 offset) (bytes_in_signed size)))

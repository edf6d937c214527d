-- The one number of what a register or an operand holds.
use Rattle.std.proofs.Common.{◌≡◌, ℕ, ◌+◌, ◌≤◌, cond, nat_eq, Option, Some, None, Ok, option_map, refl, sym, ◌∙◌, arith}
use Rattle.std.proofs.lemmas.Bool.Decides.{nat_tests}
use Rattle.std.specs.Int.{cast_unsigned, w64}
use Rattle.bpf_words.specs.declared.instruction.Operand.{Operand}
use Rattle.bpf_words.specs.declared.instruction.Operand.TheVariants.{Immediate, Source}
use Rattle.semantics.specs.State.{State, register_of, operand_in}
use Rattle.abstract_state.specs.declared.known.Known.TheVariants.{Number, Context, Stack, Lent}
use Rattle.abstract_state.specs.declared.state.AbsReg.{AbsReg}
use Rattle.abstract_state.specs.declared.state.AbsReg.TheVariants.{Unset, Set}
use Rattle.abstract_state.specs.declared.state.AbsState.{AbsState}
use Rattle.abstract_state.specs.Lent.{Lengths, base_of}
use Rattle.abstract_state.specs.State.{Contains, register_at}
use Rattle.abstract_state.specs.Estimate.{only, estimate_of}
use Rattle.abstract_state.specs.Situation.{operand_of, registers_of, read}
use Rattle.abstract_state.specs.Situation as rules
use Rattle.value_marks.proofs.Held.{Fits, known_of, only_so}
use Rattle.length_marks.specs.Sums.{number_in}

mapped : (b n : ℕ) (o : Option ℕ) → option_map (λ x. b + x) o ≡ Some n → (x : ℕ) × (o ≡ Some x) × (b + x ≡ n)
mapped b n None e = absurd (cc)
mapped b n (Some x) e = (x, refl, cc)

one_register : (reg : AbsReg) (lengths : Lengths) (n y : ℕ) → Fits reg lengths y → number_in (read (rules.register_of reg)) ≡ Some n → y ≡ n
one_register Unset lengths n y fits e = absurd (cc)
one_register (Set (Number q)) lengths n y fits e =
    let ends = only_so (estimate_of q) n e in
    let c = fits (Number q) refl in
    let low : q.range.low ≤ y = c.range.low in
    let high : y ≤ q.range.high = c.range.high in
    omega (arith, ends.0, ends.1)
one_register (Set (Context p)) lengths n y fits e = let is = fits (Context p) refl in cc
one_register (Set (Stack p)) lengths n y fits e = let is = fits (Stack p) refl in cc
one_register (Set (Lent p)) lengths n y fits e =
    let sum = mapped (base_of p.region) n (only (estimate_of p.offset)) e in
    let ends = only_so (estimate_of p.offset) sum.0 sum.1 in
    let c = fits (Lent p) refl in
    let low : p.offset.range.low ≤ c.0 = c.2.range.low in
    let high : c.0 ≤ p.offset.range.high = c.2.range.high in
    omega (arith, ends.0, ends.1, sum.2, c.1)

only_constant : (n m : ℕ) → cond (nat_eq n n) (Some n) None ≡ Some m → n ≡ m
only_constant n m e = grind (arith, nat_tests)

-- a register, or an operand, of which one number is known is that
pub one_held : (a : AbsState) (lengths : Lengths) (s : State) (r n x : ℕ) → Contains a lengths s → register_of s r ≡ Ok x → number_in (read (registers_of a.registers r)) ≡ Some n → x ≡ n
one_held a lengths s r n x c e is = one_register (register_at a.registers r) lengths n x (known_of a lengths s r x c e) is

pub one_operand : (a : AbsState) (lengths : Lengths) (s : State) (o : Operand) (n y : ℕ) → Contains a lengths s → operand_in s o ≡ Ok y → number_in (operand_of (registers_of a.registers) o) ≡ Some n → y ≡ n
unfolding only
one_operand a lengths s (Immediate value) n y c e is =
    let same : cast_unsigned w64 value ≡ y = cc in
    sym same ∙ only_constant (cast_unsigned w64 value) n is
one_operand a lengths s (Source r) n y c e is = one_held a lengths s r n y c e is

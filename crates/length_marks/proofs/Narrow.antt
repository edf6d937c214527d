-- Sums and differences of 32 bits.
use Rattle.std.proofs.Common.{◌≡◌, ℕ, ◌+◌, ◌-◌, ◌%◌, ◌^◌, ◌<◌, ◌≤◌, ◌&&◌, ◌⊎◌, inl, inr, Bool, true, cond, nat_lt, nat_le, Option, Some, None, refl, sym, ◌∙◌, ap, subst, ⊎_elim, arith}
use Rattle.std.proofs.lemmas.Bool.Decides.{nat_tests}
use Rattle.std.specs.Option.{option_or}
use Rattle.bpf_words.specs.declared.instruction.Arithmetic.{Arithmetic}
use Rattle.bpf_words.specs.declared.instruction.Arithmetic.TheVariants as is
use Rattle.bpf_words.specs.declared.instruction.Width.TheVariants.{Narrow}
use Rattle.semantics.specs.Value.{cut, value_of}
use Rattle.abstract_state.specs.declared.known.Known.TheVariants.{Number, Context, Stack, Lent}
use Rattle.abstract_state.specs.declared.state.AbsReg.{AbsReg}
use Rattle.abstract_state.specs.declared.state.AbsReg.TheVariants.{Unset, Set}
use Rattle.abstract_state.specs.Lent.{Lengths}
use Rattle.abstract_state.specs.Estimate.{Estimate, estimate_of}
use Rattle.abstract_state.specs.Situation as rules
use Rattle.value_marks.specs.declared.mark.Mark.{Mark}
use Rattle.value_marks.specs.Mark.{raised_mark, lowered_mark, Agrees}
use Rattle.value_marks.specs.Marking.{shifted, computed}
use Rattle.value_marks.proofs.Words.{raises, lowers}
use Rattle.value_marks.proofs.Moved.{by_test}
use Rattle.value_marks.proofs.Naming.{computed_agrees}
use Rattle.value_marks.proofs.Held.{Fits}
use Rattle.length_marks.specs.Sums.{unwrapped, addend, narrow_mark, narrowed_by}

none_some : (o : Option Mark) (m : Mark) → o ≡ None → o ≡ Some m → ⊥
none_some o m e f = cc

some_mark : (m n : Mark) → Some m ≡ Some n → n ≡ m
some_mark m n e = cc

-- ---- a sum that stays below 2^32, and one that passes it once
below : (x high by : ℕ) → x ≤ high → nat_lt (high + by) (2 ^ 32) ≡ true → (x + by) % 2 ^ 64 ≡ (x % 2 ^ 32 + by) % 2 ^ 32
below x high by most e = let low : high + by < 2 ^ 32 = grind (arith, nat_tests) in omega arith

within : (low high by : ℕ) → (nat_lt high (2 ^ 32) && nat_le (2 ^ 32) (low + by)) ≡ true → (high < 2 ^ 32) × (2 ^ 32 ≤ low + by)
within low high by e = grind (arith, nat_tests)

past : (x low high by : ℕ) → by < 2 ^ 32 → low ≤ x → x ≤ high → (nat_lt high (2 ^ 32) && nat_le (2 ^ 32) (low + by)) ≡ true → (x + (2 ^ 64 - (2 ^ 32 - by) % 2 ^ 64)) % 2 ^ 64 ≡ (x % 2 ^ 32 + by) % 2 ^ 32
past x low high by narrow least most e =
    let is = within low high by e in
    let less : (2 ^ 32 - by) % 2 ^ 64 ≡ 2 ^ 32 - by = omega (arith, narrow) in
    omega (arith, is.0, is.1, less)

unwrapped_agrees : (origins : ℕ → ℕ) (a : Estimate) (x by : ℕ) (k m : Mark) → by < 2 ^ 32 → a.range.low ≤ x → x ≤ a.range.high → Agrees origins k x → unwrapped a by k ≡ Some m → Agrees origins m ((x % 2 ^ 32 + by) % 2 ^ 32)
unfolding unwrapped
unwrapped_agrees origins a x by k m narrow least most agrees e =
    let more = cond (nat_lt a.range.high (2 ^ 32) && nat_le (2 ^ 32) (a.range.low + by)) (Some (lowered_mark (2 ^ 32 - by) k)) None in
    by_test (Agrees origins m ((x % 2 ^ 32 + by) % 2 ^ 32)) (nat_lt (a.range.high + by) (2 ^ 32))
    (λ stays.
    let is = some_mark (raised_mark by k) m (sym (ap (λ (b : Bool). cond b (Some (raised_mark by k)) more) stays) ∙ e) in
    subst (λ (v : Mark). Agrees origins v ((x % 2 ^ 32 + by) % 2 ^ 32)) (sym is)
    (subst (λ (v : ℕ). Agrees origins (raised_mark by k) v) (below x a.range.high by most stays) (raises k.width (origins k.origin) k.addend x by agrees)))
    (λ other.
    let left : more ≡ Some m = sym (ap (λ (b : Bool). cond b (Some (raised_mark by k)) more) other) ∙ e in
    by_test (Agrees origins m ((x % 2 ^ 32 + by) % 2 ^ 32)) (nat_lt a.range.high (2 ^ 32) && nat_le (2 ^ 32) (a.range.low + by))
    (λ passes.
    let is = some_mark (lowered_mark (2 ^ 32 - by) k) m (sym (ap (λ (b : Bool). cond b (Some (lowered_mark (2 ^ 32 - by) k)) None) passes) ∙ left) in
    subst (λ (v : Mark). Agrees origins v ((x % 2 ^ 32 + by) % 2 ^ 32)) (sym is)
    (subst (λ (v : ℕ). Agrees origins (lowered_mark (2 ^ 32 - by) k) v) (past x a.range.low a.range.high by narrow least most passes) (lowers k.width (origins k.origin) k.addend x (2 ^ 32 - by) agrees)))
    (λ may. absurd (none_some None m refl (sym (ap (λ (b : Bool). cond b (Some (lowered_mark (2 ^ 32 - by) k)) None) may) ∙ left))))

-- ---- what is added, or taken away, as a number that is added
abbrev pub Adds : Arithmetic → Type 0
Adds operation = (x n : ℕ) → (addend operation n < 2 ^ 32) × (value_of operation Narrow (cut Narrow x) (cut Narrow n) ≡ (x % 2 ^ 32 + addend operation n) % 2 ^ 32)

taken_is : (x n : ℕ) → (x % 2 ^ 32 + (2 ^ 32 - n % 2 ^ 32)) % 2 ^ 32 ≡ (x % 2 ^ 32 + (2 ^ 32 - n % 2 ^ 32) % 2 ^ 32) % 2 ^ 32
taken_is x n = omega arith

pub add_adds : Adds is.Add
unfolding addend
add_adds x n = (omega arith, refl)

pub sub_adds : Adds is.Sub
unfolding addend
sub_adds x n = (omega arith, taken_is x n)

either : (o p : Option Mark) (m : Mark) → option_or o p ≡ Some m → (o ≡ Some m) ⊎ (p ≡ Some m)
either None p m e = inr e
either (Some k) p m e = inl e

-- the mark of the low bits
shifted_agrees : (origins : ℕ → ℕ) (operation : Arithmetic) (n x : ℕ) (k m : Mark) → Agrees origins k x → shifted Narrow operation n k ≡ Some m → Agrees origins m (value_of operation Narrow (cut Narrow x) (cut Narrow n))
unfolding computed
shifted_agrees origins operation n x k m agrees e =
    computed_agrees origins Narrow operation (Some n) (Some k) x n m (λ j same. cc)
    (λ j same. subst (λ (v : Mark). Agrees origins v x) (sym (some_mark k j same)) agrees) e

narrow_agrees : (origins : ℕ → ℕ) (lengths : Lengths) (operation : Arithmetic) (reg : AbsReg) (n x : ℕ) (k m : Mark) → Adds operation → Fits reg lengths x → Agrees origins k x → narrow_mark operation (rules.register_of reg) n k ≡ Some m → Agrees origins m (value_of operation Narrow (cut Narrow x) (cut Narrow n))
unfolding narrow_mark
narrow_agrees origins lengths operation Unset n x k m adds fits agrees e = shifted_agrees origins operation n x k m agrees e
narrow_agrees origins lengths operation (Set (Number q)) n x k m adds fits agrees e =
    let c = fits (Number q) refl in
    let by = addend operation n in
    ⊎_elim
    (λ (kept : unwrapped (estimate_of q) by k ≡ Some m).
    subst (λ (v : ℕ). Agrees origins m v) (sym (adds x n).1)
    (unwrapped_agrees origins (estimate_of q) x by k m (adds x n).0 c.range.low c.range.high agrees kept))
    (λ (low : shifted Narrow operation n k ≡ Some m). shifted_agrees origins operation n x k m agrees low)
    (either (unwrapped (estimate_of q) by k) (shifted Narrow operation n k) m e)
narrow_agrees origins lengths operation (Set (Context p)) n x k m adds fits agrees e = shifted_agrees origins operation n x k m agrees e
narrow_agrees origins lengths operation (Set (Stack p)) n x k m adds fits agrees e = shifted_agrees origins operation n x k m agrees e
narrow_agrees origins lengths operation (Set (Lent p)) n x k m adds fits agrees e = shifted_agrees origins operation n x k m agrees e

pub narrowed_agrees : (origins : ℕ → ℕ) (lengths : Lengths) (operation : Arithmetic) (reg : AbsReg) (by : Option ℕ) (o : Option Mark) (x y : ℕ) (m : Mark) → Adds operation → Fits reg lengths x → ((n : ℕ) → by ≡ Some n → y ≡ n) → ((k : Mark) → o ≡ Some k → Agrees origins k x) → narrowed_by operation (rules.register_of reg) by o ≡ Some m → Agrees origins m (value_of operation Narrow (cut Narrow x) (cut Narrow y))
unfolding narrowed_by
narrowed_agrees origins lengths operation reg None o x y m adds fits one marked e = absurd (cc)
narrowed_agrees origins lengths operation reg (Some n) None x y m adds fits one marked e = absurd (cc)
narrowed_agrees origins lengths operation reg (Some n) (Some k) x y m adds fits one marked e =
    subst (λ (v : ℕ). Agrees origins m (value_of operation Narrow (cut Narrow x) (cut Narrow v))) (sym (one n refl))
    (narrow_agrees origins lengths operation reg n x k m adds fits (marked k refl) e)

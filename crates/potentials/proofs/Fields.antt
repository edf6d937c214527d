-- Numbers of the code and the forms that it makes of them, as the rule has them.
use Rattle.std.proofs.Common.{◌≡◌, ℤ, pos, ◌<◌, ◌≤◌, ◌^◌, ◌+ℤ◌, ◌-ℤ◌, ◌≤ℤ◌, unsigned_abs, FitsSigned, to_z, of_z, w64, ◌∙◌, ap, arith}
use Rattle.std.specs.Int.{w128}
use Rattle.std.proofs.lemmas.Int.{ints}
use Rattle.potentials.specs.declared.Form.{Form}

abbrev pub of_parts : ℤ → ℤ → ℤ → Form
of_parts constant per_byte per_link_byte = record {
  constant = constant;
  per_byte = per_byte;
  per_link_byte = per_link_byte;
}

pub forms : (a b d e f g : ℤ) → a ≡ e → b ≡ f → d ≡ g → of_parts a b d ≡ of_parts e f g
forms a b d e f g one two three =
    ap (λ z. of_parts z b d) one ∙ (ap (λ z. of_parts e z d) two ∙ ap (λ z. of_parts e f z) three)

pub difference : (a b : ℤ) → unsigned_abs a < 2 ^ 120 → unsigned_abs b ≤ 2 ^ 95
    → to_z w128 (of_z w128 (to_z w128 (of_z w128 a) -ℤ to_z w128 (of_z w128 b))) ≡ a -ℤ b
difference a b room small = omega (arith, ints)

pub total : (a b : ℤ) → unsigned_abs a < 2 ^ 120 → unsigned_abs b ≤ 2 ^ 95
    → to_z w128 (of_z w128 (to_z w128 (of_z w128 a) +ℤ to_z w128 (of_z w128 b))) ≡ a +ℤ b
total a b room small = omega (arith, ints)

pub totals : (a b d : ℤ) → unsigned_abs a < 2 ^ 120 → unsigned_abs b ≤ 2 ^ 95 → unsigned_abs d ≤ 2 ^ 95
    → to_z w128 (of_z w128 (to_z w128 (of_z w128 a) +ℤ to_z w128 (of_z w128 (to_z w128 (of_z w128 b) +ℤ to_z w128 (of_z w128 d)))))
    ≡ a +ℤ (b +ℤ d)
totals a b d room small few = omega (arith, ints)

pub weight_left : (a b : ℤ) → FitsSigned w64 a → pos 0 ≤ℤ b → b ≤ℤ a
    → to_z w64 (of_z w64 (to_z w64 (of_z w64 a) -ℤ to_z w64 (of_z w64 b))) ≡ a -ℤ b
weight_left a b fits natural enough = omega (arith, ints)

-- The text of `{:+}`.
use Rattle.std.proofs.Common.{◌≡◌, ℕ, suc, ◌-◌, ◌^◌, Bool, false, true, List, [], ◌∷◌, ◌++◌, length, ℤ, pos, negsuc, refl, arith}
use Rattle.std.specs.Prelude.{if◌then◌else◌}
use Rattle.std.specs.Fmt.{decimal, styled_signed_decimal, format_spec, padded_integral, char_count}
use Rattle.std.proofs.lemmas.Bool.{le-ltb}
use Rattle.assembler_lines.specs.Pieces.{spell}
use Rattle.disassembler.specs.Canonical.{signed}

shown : (negative : Bool) (digits : List ℕ) → padded_integral (format_spec 32 0 1 0 (2 ^ 64 - 1)) negative [] digits ≡ (if negative then 45 else 43) ∷ digits ++ []
unfolding padded_integral char_count
shown true digits = let none : 0 - length digits - 1 - 0 ≡ 0 = omega arith in rw none refl
shown false digits = let none : 0 - length digits - 1 - 0 ≡ 0 = omega arith in rw none refl

pub plus_text : (z : ℤ) → styled_signed_decimal (format_spec 32 0 1 0 (2 ^ 64 - 1)) z ≡ spell (signed z)
plus_text (pos n) = rw (le-ltb n 0 (omega arith)) (shown false (decimal n))
plus_text (negsuc n) = shown true (decimal (suc n))

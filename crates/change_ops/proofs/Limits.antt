-- A saturated number is within the limits just where the number is.
use Rattle.std.proofs.Common.{◌≡◌, ℕ, ◌-◌, ◌^◌, ◌<◌, refl, arith, inl, inr}
use Rattle.std.proofs.lemmas.Bool.{cases_lt}
use Rattle.change_ops.specs.Ids.{OpId, within_limits, is_character, checked}
use Rattle.change_ops.specs.Attributes.{is_color, is_comment_number}
use Rattle.change_ops.specs.Words.{saturated}

abbrev id : ℕ → ℕ → OpId
id c n = record { counter = c; node = n }

pub same_small : (c : ℕ) → c < 2 ^ 64 - 1 → saturated c ≡ c
same_small c h = omega arith

pub id_saturated : (c n : ℕ) → checked within_limits (id (saturated c) (saturated n)) ≡ checked within_limits (id c n)
id_saturated c n = elim (cases_lt c (2 ^ 48)) [
  | inl lt ↦ elim (cases_lt n 65536) [
    | inl lt2 ↦ rw (same_small c (omega arith), same_small n (omega arith)) refl
    | inr le2 ↦ grind arith
  ]
  | inr le ↦ grind arith
]

pub comment_saturated : (n : ℕ) → checked is_comment_number (saturated n) ≡ checked is_comment_number n
comment_saturated n = elim (cases_lt n (2 ^ 32)) [
  | inl lt ↦ rw (same_small n (omega arith)) refl
  | inr le ↦ grind arith
]

pub color_saturated : (n : ℕ) → checked is_color (saturated n) ≡ checked is_color n
color_saturated n = elim (cases_lt n (2 ^ 32)) [
  | inl lt ↦ rw (same_small n (omega arith)) refl
  | inr le ↦ grind arith
]

-- a saturated code is that of a character just where the code is
pub character_saturated : (n : ℕ) → checked is_character (saturated n) ≡ checked is_character n
character_saturated n = elim (cases_lt n (2 ^ 32)) [
  | inl lt ↦ rw (same_small n (omega arith)) refl
  | inr le ↦ grind arith
]

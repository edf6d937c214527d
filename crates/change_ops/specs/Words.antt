-- Words of a line, and the numbers that they spell.
use Rattle.std.specs.Prelude.{ℕ, ◌+◌, ◌*◌, ◌-◌, ◌^◌, nat_lt, ◌==◌, min, if◌then◌else◌, Bool, true, false, List, [], ◌∷◌}
use Rattle.std.specs.Prelude.{length, Option, Some, None, option_and_then}
use Rattle.std.specs.List.{position_or_len, before_first, after_first}
use Rattle.std.specs.Borrow.{Bor}
use Rattle.change_ops.specs.Ids.{checked}
use Rattle.change_ops.specs.declared.numeral.Numeral.{Numeral}

-- what stands before the first of a byte, and what stands after it
unfoldable pub split : ℕ → List ℕ → Option (List ℕ × List ℕ)
split mark bytes =
    if nat_lt (position_or_len (λ b. b == mark) bytes) (length bytes)
    then Some (before_first (λ b. b == mark) bytes, after_first (λ b. b == mark) bytes) else None

-- what stands behind a byte at the front of a word
abbrev pub behind : ℕ → List ℕ → Option (List ℕ)
behind mark [] = None
behind mark (b ∷ word) = if b == mark then Some word else None

-- two texts that a call lends, as bytes
abbrev pub seen : Option (Bor (List ℕ) × Bor (List ℕ)) → Option (List ℕ × List ℕ)
seen None = None
seen (Some x) = Some (x.0.now, x.1.now)

-- the value of a digit, 0 to 9 and a to f; that of another byte is past every base
abbrev pub digit_of : ℕ → ℕ
digit_of b =
    if nat_lt b 48 then 255 else if nat_lt b 58 then b - 48 else if nat_lt b 97 then 255 else if nat_lt b 103
    then b - 87 else 255

-- the number that digits spell behind those of n
unfoldable pub digits_after : ℕ → ℕ → List ℕ → Option ℕ
digits_after base n [] = Some n
digits_after base n (b ∷ bs) = if nat_lt (digit_of b) base then digits_after base (n * base + digit_of b) bs else None

-- no digit at all, or a zero before another digit
abbrev pub is_no_front : List ℕ → Bool
is_no_front [] = true
is_no_front (b ∷ []) = false
is_no_front (b ∷ c ∷ bs) = b == 48

-- the number that a whole word spells, of any count of digits
unfoldable pub number_in : ℕ → List ℕ → Option ℕ
number_in base word = if is_no_front word then None else digits_after base 0 word

-- a number, or the greatest of 64 bits where it is greater
abbrev pub saturated : ℕ → ℕ
saturated n = min n (2 ^ 64 - 1)

-- a number, where it has 64 bits
abbrev pub small_number : ℕ → Option ℕ
small_number n = checked (λ m. nat_lt m (2 ^ 64)) n

abbrev pub small : Option ℕ → Option ℕ
small number = option_and_then small_number number

-- what is kept of a number of any size
abbrev pub numeral_of : ℕ → Numeral
numeral_of n = record { value = small_number n }

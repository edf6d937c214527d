-- Words of bits: a word is a list of bits, the lowest first, and each operation goes from bit to bit.
use Rattle.std.specs.Prelude.{ℕ, zero, suc, ◌+◌, ◌*◌, ◌/◌, ◌%◌, nat_eq, Bool, true, false, not, ◌&&◌, ◌||◌}
use Rattle.std.specs.Prelude.{if◌then◌else◌, List, [], ◌∷◌, ◌++◌, length, map, take, drop, replicate}

abbrev pub Bits : Type 0
Bits = List Bool

-- ---- as numbers
abbrev pub digit : Bool → ℕ
digit false = 0
digit true = 1

unfoldable pub value : Bits → ℕ
value [] = 0
value (b ∷ rest) = digit b + 2 * value rest

-- the low bits of a number
unfoldable pub bits : ℕ → ℕ → Bits
bits zero n = []
bits (suc count) n = nat_eq (n % 2) 1 ∷ bits count (n / 2)

-- the highest bit, which is the sign
unfoldable pub leading : Bits → Bool
leading [] = false
leading (b ∷ []) = b
leading (b ∷ c ∷ rest) = leading (c ∷ rest)

unfoldable pub has_any : Bits → Bool
has_any [] = false
has_any (b ∷ rest) = b || has_any rest

unfoldable pub zeros : Bits → Bits
zeros [] = []
zeros (b ∷ rest) = false ∷ zeros rest

-- ---- bit by bit
unfoldable pub each : (Bool → Bool → Bool) → Bits → Bits → Bits
each f [] right = []
each f (a ∷ left) [] = []
each f (a ∷ left) (b ∷ right) = f a b ∷ each f left right

-- ---- sum and difference: a carry ripples up, and the last one is lost
abbrev pub differ : Bool → Bool → Bool
differ a b = if a then not b else b

abbrev pub column : Bool → Bool → Bool → Bool
column a b carry = differ (differ a b) carry

abbrev pub carried : Bool → Bool → Bool → Bool
carried a b carry = if a then b || carry else b && carry

unfoldable pub ripple : Bool → Bits → Bits → Bits
ripple carry [] right = []
ripple carry (a ∷ left) [] = []
ripple carry (a ∷ left) (b ∷ right) = column a b carry ∷ ripple (carried a b carry) left right

abbrev pub sum : Bits → Bits → Bits
sum a b = ripple false a b

-- the complement and one are added
abbrev pub difference : Bits → Bits → Bits
difference a b = ripple true a (map not b)

abbrev pub negation : Bits → Bits
negation a = difference (zeros a) a

-- ---- order, by the highest bit that differs
unfoldable pub are_same : Bits → Bits → Bool
are_same [] right = true
are_same (a ∷ left) [] = true
are_same (a ∷ left) (b ∷ right) = not (differ a b) && are_same left right

unfoldable pub is_less : Bits → Bits → Bool
is_less [] right = false
is_less (a ∷ left) [] = false
is_less (a ∷ left) (b ∷ right) = is_less left right || (are_same left right && (not a && b))

-- words with a sign are ordered as those whose leading bit is turned
unfoldable pub turned : Bits → Bits
turned [] = []
turned (b ∷ []) = not b ∷ []
turned (b ∷ c ∷ rest) = b ∷ turned (c ∷ rest)

abbrev pub is_less_signed : Bits → Bits → Bool
is_less_signed a b = is_less (turned a) (turned b)

-- ---- shifts: the bits of a word move, one comes in, and the one that leaves is lost
-- by one place up
unfoldable pub moved_up : Bool → Bits → Bits
moved_up first [] = []
moved_up first (b ∷ rest) = first ∷ moved_up b rest

-- by one place down
unfoldable pub moved_down : Bool → Bits → Bits
moved_down last [] = []
moved_down last (b ∷ []) = last ∷ []
moved_down last (b ∷ c ∷ rest) = c ∷ moved_down last (c ∷ rest)

unfoldable pub shifted_left : ℕ → Bits → Bits
shifted_left zero a = a
shifted_left (suc count) a = shifted_left count (moved_up false a)

unfoldable pub shifted_right : ℕ → Bits → Bits
shifted_right zero a = a
shifted_right (suc count) a = shifted_right count (moved_down false a)

-- the sign comes in
unfoldable pub shifted_with_sign : ℕ → Bits → Bits
shifted_with_sign zero a = a
shifted_with_sign (suc count) a = shifted_with_sign count (moved_down (leading a) a)

-- ---- product: the first word, moved up, is added for each bit of the second
unfoldable pub product : Bits → Bits → Bits
product a [] = zeros a
product a (b ∷ rest) = sum (if b then a else zeros a) (product (moved_up false a) rest)

-- ---- long division: the dividend's bits come down from the highest, and the divisor is taken away where it fits
abbrev pub lessened : Bits → Bits → Bits
lessened a divisor = if is_less a divisor then a else difference a divisor

-- what is left of a dividend
unfoldable pub left_over : Bits → Bits → Bits
left_over [] divisor = zeros divisor
left_over (b ∷ rest) divisor = lessened (moved_up b (left_over rest divisor)) divisor

-- whether the divisor fits, at each bit that comes down
unfoldable pub times_within : Bits → Bits → Bits
times_within [] divisor = []
times_within (b ∷ rest) divisor =
    not (is_less (moved_up b (left_over rest divisor)) divisor) ∷ times_within rest divisor

-- the divisor has a zero more, so that a remainder that moves up loses no bit
abbrev pub quotient : Bits → Bits → Bits
quotient a b = times_within a (b ++ false ∷ [])

abbrev pub remainder : Bits → Bits → Bits
remainder a b = take (length b) (left_over a (b ++ false ∷ []))

-- ---- division with signs: that of the magnitudes, and its sign
abbrev pub negated_if : Bool → Bits → Bits
negated_if sign a = if sign then negation a else a

abbrev pub magnitude : Bits → Bits
magnitude a = negated_if (leading a) a

abbrev pub signed_quotient : Bits → Bits → Bits
signed_quotient a b = negated_if (differ (leading a) (leading b)) (quotient (magnitude a) (magnitude b))

abbrev pub signed_remainder : Bits → Bits → Bits
signed_remainder a b = negated_if (leading a) (remainder (magnitude a) (magnitude b))

-- ---- a longer word: the leading bit is repeated
abbrev pub lengthened : ℕ → Bits → Bits
lengthened count a = a ++ replicate count (leading a)

-- ---- bytes in the other order: groups of eight bits, the last first
unfoldable pub regrouped : ℕ → Bits → Bits → Bits
regrouped zero a done = done
regrouped (suc count) a done = regrouped count (drop 8 a) (take 8 a ++ done)

abbrev pub swapped : ℕ → Bits → Bits
swapped count a = regrouped count a []

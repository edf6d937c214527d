-- What is wanted of a value, whether it is known, and how it is printed.
use Rattle.std.specs.Prelude.{ℕ, zero, suc, ◌+◌, ◌-◌, ◌*◌, ◌^◌, nat_le, nat_lt, Bool, true, false, not, ◌&&◌, ◌||◌}
use Rattle.std.specs.Prelude.{ℤ, pos, negsuc, ◌+ℤ◌, int_le, List, [], ◌++◌, codes, if◌then◌else◌, Option, Some, None}
use Rattle.std.specs.Prelude.{is_some, option_and_then}
use Rattle.std.specs.Option.{option_map_or}
use Rattle.std.specs.Fmt.{decimal, signed_decimal}
use Rattle.abstract_state.specs.declared.region.Region.{Region}
use Rattle.abstract_state.specs.declared.region.Region.TheVariants.{Text, Link}
use Rattle.abstract_state.specs.Lent.{tail_of}
use Rattle.abstract_state.specs.Estimate.{Estimate, only}
use Rattle.abstract_state.specs.Addresses.{Content, ANumber, InContext, InStack, InRegion}
use Rattle.abstract_state.specs.Stacks.{whole_in, are_set}
use Rattle.abstract_state.specs.Situation.{Situation, Least, least_at}
use Rattle.refusal_needs.specs.declared.wanted.Place.{Place}
use Rattle.refusal_needs.specs.declared.wanted.Place.TheVariants.{Register, Eight, Bytes}
use Rattle.refusal_needs.specs.declared.wanted.Need.{Need}
use Rattle.refusal_needs.specs.declared.wanted.Need.TheVariants.{Set, Number, OneNumber, Address, StackAddress}
use Rattle.refusal_needs.specs.declared.wanted.Need.TheVariants.{Within, Behind, AtMost}
use Rattle.refusal_needs.specs.declared.wanted.Wanted.{Wanted}

-- ---- numbers of 64 bits with sign
-- a number, where it is one of these: from -2 ^ 63 on, below 2 ^ 63
unfoldable pub in_i64 : ℤ → Option ℤ
in_i64 (pos n) = if nat_lt n (2 ^ 63) then Some (pos n) else None
in_i64 (negsuc n) = if nat_lt n (2 ^ 63) then Some (negsuc n) else None

-- a number without sign, moved by one with sign
abbrev pub moved : ℕ → ℤ → Option ℤ
moved n by = option_and_then (λ m. in_i64 (m +ℤ by)) (in_i64 (pos n))

-- ---- what stands at a place
-- what is known of it, if it is one value; there are 11 registers, and 64 times eight bytes of the stack
abbrev pub held : Situation → Place → Option Content
held s (Register number) = if nat_lt number 11 then s.registers number else None
held s (Eight index) = if nat_lt index 64 then whole_in (s.slots index) else None
held s (Bytes first count) = None

abbrev pub is_number : Content → Bool
is_number (ANumber a) = true
is_number (InContext p) = false
is_number (InStack p) = false
is_number (InRegion region a) = false

abbrev pub is_in_stack : Content → Bool
is_in_stack (ANumber a) = false
is_in_stack (InContext p) = false
is_in_stack (InStack p) = true
is_in_stack (InRegion region a) = false

-- what is known of a number, or of how far an address in a lent region is behind the region's start
abbrev pub estimate_in : Content → Option Estimate
estimate_in (ANumber a) = Some a
estimate_in (InContext p) = None
estimate_in (InStack p) = None
estimate_in (InRegion region a) = Some a

-- the one number that this can be, where there is one
abbrev pub one_in : Content → Option ℤ
one_in content = option_and_then (λ n. in_i64 (pos n)) (option_and_then only (estimate_in content))

-- ---- whether what is wanted is known
abbrev pub is_same_region : Region → Region → Bool
is_same_region Text Text = true
is_same_region Text Link = false
is_same_region Link Text = false
is_same_region Link Link = true

-- a number and these bytes are not behind the end: they are no more than its tail
abbrev pub by_tail : Option ℕ → ℤ → Bool
by_tail None bytes = false
by_tail (Some tail) bytes = int_le bytes (pos tail)

-- or the last of the numbers and these bytes are not behind how long the region is at least
abbrev pub by_length : ℕ → Option ℤ → Bool
by_length least None = false
by_length least (Some end) = int_le end (pos least)

unfoldable pub ends_within : Least → Region → ℤ → Estimate → Bool
ends_within least region bytes a =
    by_tail (tail_of a.tails region) bytes || by_length (least_at least region) (moved a.range.high bytes)

-- of an address: it is in that region
abbrev pub is_within : Least → Region → ℤ → Content → Bool
is_within least region bytes (ANumber a) = ends_within least region bytes a
is_within least region bytes (InContext p) = false
is_within least region bytes (InStack p) = false
is_within least region bytes (InRegion r a) = is_same_region r region && ends_within least region bytes a

-- the least of the numbers is no less than these bytes
abbrev pub begins_behind : ℤ → Option ℤ → Bool
begins_behind bytes None = false
begins_behind bytes (Some low) = int_le bytes low

abbrev pub is_behind : ℤ → Content → Bool
is_behind bytes content =
    option_map_or (λ a. begins_behind bytes (in_i64 (pos a.range.low))) (estimate_in content) false

abbrev pub is_at_most : ℕ → Content → Bool
is_at_most most (ANumber a) = nat_le a.range.high most
is_at_most most (InContext p) = false
is_at_most most (InStack p) = false
is_at_most most (InRegion region a) = false

unfoldable pub is_met : Least → Need → Content → Bool
is_met least Set content = true
is_met least Number content = is_number content
is_met least OneNumber content = is_number content && is_some (one_in content)
is_met least Address content = not (is_number content)
is_met least StackAddress content = is_in_stack content
is_met least (Within region bytes) content = is_within least region bytes content
is_met least (Behind region bytes) content = is_behind bytes content
is_met least (AtMost most) content = is_at_most most content

-- of bytes of the stack that are no one value it can only be wanted that they are set
abbrev pub is_known_at : Situation → Place → Need → Bool
is_known_at s (Register number) need = option_map_or (is_met s.least need) (held s (Register number)) false
is_known_at s (Eight index) need = option_map_or (is_met s.least need) (held s (Eight index)) false
is_known_at s (Bytes first count) need = nat_le (first + count) 512 && are_set s.slots first count

abbrev pub is_known : Situation → Wanted → Bool
is_known s wanted = is_known_at s wanted.place wanted.need

-- ---- how it is printed
-- a byte of the stack, by how far it is below the stack's end
abbrev pub byte_text : ℕ → List ℕ
byte_text offset = codes "[stack-" ++ decimal (512 - offset) ++ codes "]"

-- the last of bytes behind the first
abbrev pub last_text : ℕ → ℕ → List ℕ
last_text first count = if nat_lt 1 count then codes " to " ++ byte_text (first + count - 1) else []

abbrev pub place_text : Place → List ℕ
place_text (Register number) = codes "r" ++ decimal number
place_text (Eight index) = byte_text (8 * index)
place_text (Bytes first count) = byte_text first ++ last_text first count

-- what is added to a value, or taken from it
abbrev pub difference_text : ℤ → List ℕ
difference_text (pos zero) = []
difference_text (pos (suc n)) = codes " + " ++ decimal (suc n)
difference_text (negsuc n) = codes " - " ++ decimal (suc n)

abbrev pub region_text : Region → List ℕ
region_text Text = codes "text"
region_text Link = codes "link"

-- a number is compared with the region's length, an address with its end
abbrev pub end_text : Bool → List ℕ
end_text true = codes " length"
end_text false = codes " end"

-- an address is compared with its region's start
abbrev pub behind_text : Bool → Region → ℤ → List ℕ
behind_text true region bytes = signed_decimal bytes
behind_text false region bytes = region_text region ++ codes " start" ++ difference_text bytes

-- what is wanted of the value at a place, which is a number or an address
abbrev pub need_text : Bool → List ℕ → Need → List ℕ
need_text number place Set = place ++ codes " set"
need_text number place Number = codes "a number in " ++ place
need_text number place OneNumber = codes "one number in " ++ place
need_text number place Address = codes "an address in " ++ place
need_text number place StackAddress = codes "an address in the stack in " ++ place
need_text number place (Within region bytes) =
    place ++ difference_text bytes ++ codes " <= " ++ region_text region ++ end_text number
need_text number place (Behind region bytes) = place ++ codes " >= " ++ behind_text number region bytes
need_text number place (AtMost most) = place ++ codes " <= " ++ decimal most

-- where nothing is known of a value it is printed as a number
abbrev pub is_number_at : Situation → Place → Bool
is_number_at s place = option_map_or is_number (held s place) true

unfoldable pub wanted_text : Situation → Wanted → List ℕ
wanted_text s wanted = need_text (is_number_at s wanted.place) (place_text wanted.place) wanted.need

-- The lines of what is known of the machine before an instruction.
use Rattle.std.specs.Prelude.{ℕ, ◌*◌, ◌-◌, ◌^◌, nat_eq, ◌&&◌, not, Bool, true, false, if◌then◌else◌}
use Rattle.std.specs.Prelude.{List, [], ◌∷◌, ◌++◌, length, map, codes, Option, Some, None}
use Rattle.std.specs.List.{flat_map, join_by, list_any, range_with_len}
use Rattle.std.specs.Str.{bytes_eq}
use Rattle.std.specs.Fmt.{decimal, digits}
use Rattle.span_context.specs.declared.profile.Profile.{Profile}
use Rattle.span_context.specs.Profile.{lends_link}
use Rattle.known_bits.specs.KnownBits.{common_bits}
use Rattle.intervals.specs.Interval.{Interval}
use Rattle.abstract_state.specs.declared.region.Region.{Region}
use Rattle.abstract_state.specs.declared.region.Region.TheVariants.{Text, Link}
use Rattle.abstract_state.specs.Estimate.{Estimate}
use Rattle.abstract_state.specs.Addresses.{Content, ANumber, InContext, InStack, InRegion}
use Rattle.abstract_state.specs.Stacks.{Eight, Marked, Whole, Slots}
use Rattle.abstract_state.specs.Situation.{Registers, Situation, Least}

-- ---- numbers
-- the first and the last number of an interval; the number itself where it is one
abbrev pub interval_text : Interval → List ℕ
interval_text range =
    if nat_eq range.low range.high then decimal range.low else decimal range.low ++ codes "..=" ++ decimal range.high

abbrev pub hexadecimal : ℕ → List ℕ
hexadecimal n = codes "0x" ++ digits 16 false n

-- whether the ends of the interval tell which bits are known: those that they have in common
abbrev pub tells_bits : Estimate → Bool
tells_bits a = nat_eq a.bits.unknown (common_bits a.range.low a.range.high).unknown

-- the bits that are 1 for sure, and those that may be 0 or 1, where the interval doesn't tell them
abbrev pub bits_text : Estimate → List ℕ
bits_text a =
    if tells_bits a
    then []
    else codes ", bits (" ++ hexadecimal a.bits.ones ++ codes "; " ++ hexadecimal a.bits.unknown ++ codes ")"

-- a tail behind its name, if there is one
abbrev pub tail_text : List ℕ → Option ℕ → List ℕ
tail_text name None = []
tail_text name (Some tail) = codes ", " ++ name ++ codes " " ++ decimal tail

-- what is known beside the interval: the bits, and the tails for the text and for the link's text
abbrev pub details_text : Estimate → List ℕ
details_text a = bits_text a ++ tail_text (codes "tail") a.tails.text ++ tail_text (codes "link tail") a.tails.link

abbrev pub is_any : Interval → Bool
is_any range = nat_eq range.low 0 && nat_eq range.high (2 ^ 64 - 1)

abbrev pub number_text : Estimate → List ℕ
number_text a = (if is_any a.range then codes "any number" else interval_text a.range) ++ details_text a

-- ---- numbers and addresses
abbrev pub region_text : Region → List ℕ
region_text Text = codes "text"
region_text Link = codes "link"

-- how far a byte of the stack is below the stack's end
abbrev pub below_end : ℕ → List ℕ
below_end offset = codes "stack-" ++ decimal (512 - offset)

abbrev pub content_text : Content → List ℕ
content_text (ANumber a) = number_text a
content_text (InContext offset) = codes "context+" ++ decimal offset
content_text (InStack offset) = below_end offset
content_text (InRegion region a) = region_text region ++ codes "+" ++ interval_text a.range ++ details_text a

-- ---- registers and the stack; a line is empty where nothing is known for sure
abbrev pub register_line : ℕ → Option Content → List ℕ
register_line number None = []
register_line number (Some content) = codes "r" ++ decimal number ++ codes " = " ++ content_text content

abbrev pub mark_text : Bool → List ℕ
mark_text set = if set then codes "x" else codes "-"

abbrev pub slot_name : ℕ → List ℕ
slot_name index = codes "[" ++ below_end (8 * index) ++ codes "]"

-- which of eight bytes are set
abbrev pub marks_line : ℕ → List Bool → List ℕ
marks_line index marks =
    if list_any (λ set. set) marks then slot_name index ++ codes " = " ++ flat_map mark_text marks else []

abbrev pub slot_line : ℕ → Eight → List ℕ
slot_line index (Marked marks) = marks_line index marks
slot_line index (Whole content) = slot_name index ++ codes " = " ++ content_text content

-- ---- all lines: those of the registers, those of the stack, and how long each region that is lent is at least
abbrev pub register_lines : Registers → List (List ℕ)
register_lines registers = map (λ i. register_line i (registers i)) (range_with_len 0 11)

abbrev pub slot_lines : Slots → List (List ℕ)
slot_lines slots = map (λ i. slot_line i (slots i)) (range_with_len 0 64)

abbrev pub text_length : Least → List ℕ
text_length least = codes "length >= " ++ decimal least.text

abbrev pub link_length : Least → List ℕ
link_length least = codes "link length >= " ++ decimal least.link

abbrev pub length_lines : Profile → Least → List (List ℕ)
length_lines profile least =
    text_length least ∷ (if lends_link profile then link_length least ∷ [] else [])

unfoldable pub known_lines : Profile → Situation → List (List ℕ)
known_lines profile s = register_lines s.registers ++ slot_lines s.slots ++ length_lines profile s.least

-- ---- what is printed of lines
abbrev pub is_empty : List ℕ → Bool
is_empty line = nat_eq (length line) 0

-- a line that is not empty, behind two spaces
abbrev pub listed_line : List ℕ → List ℕ
listed_line line = if is_empty line then [] else codes "  " ++ line ++ 10 ∷ []

abbrev pub listed : List (List ℕ) → List ℕ
listed lines = flat_map listed_line lines

-- a line is told beside another one in its place where it isn't empty and differs from that
abbrev pub is_told : List ℕ → List ℕ → Bool
is_told line other = not (is_empty line) && not (bytes_eq line other)

abbrev pub told_line : List ℕ → List ℕ → List (List ℕ)
told_line line other = if is_told line other then line ∷ [] else []

-- the lines that others don't have in the same place
abbrev pub lines_beside : List (List ℕ) → List (List ℕ) → List (List ℕ)
lines_beside [] others = []
lines_beside (line ∷ lines) [] = []
lines_beside (line ∷ lines) (other ∷ others) = told_line line other ++ lines_beside lines others

-- what stands before a line in one line, where there is one before it or not
abbrev pub behind : Bool → List ℕ
behind true = codes "; "
behind false = []

-- lines in one, where there are any
abbrev pub in_line : List (List ℕ) → List ℕ
in_line [] = codes "the same"
in_line (line ∷ lines) = join_by (λ each. each) (codes "; ") (line ∷ lines)

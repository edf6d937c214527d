-- The instructions of a program in lines, and what is known before each.
use Rattle.std.specs.Prelude.{ℕ, zero, suc, nat_le, nat_lt, if◌then◌else◌, List, [], ◌∷◌, ◌++◌, length, codes}
use Rattle.std.specs.Prelude.{Option, Some, None, option_map, slice_get}
use Rattle.std.specs.List.{flat_map}
use Rattle.std.specs.Fmt.{decimal}
use Rattle.span_context.specs.declared.profile.Profile.{Profile}
use Rattle.bpf_words.specs.declared.instruction.Insn.{Insn}
use Rattle.semantics.specs.Step.{Program}
use Rattle.step_lines.specs.Steps.{instruction_line}
use Rattle.known_lines.specs.KnownLines.{known_lines, listed, lines_beside, in_line}
use Rattle.known_ways.specs.Ways.{Way, ways_into, is_jumped_to, situation_before}

-- ---- instructions
abbrev pub line_at : ℕ → Option (Option Insn) → List ℕ
line_at slot (Some (Some insn)) = instruction_line slot insn
line_at slot place = []

-- those that begin at a slot from the first on, below the end
unfoldable pub instructions_text : Program → ℕ → ℕ → List ℕ
instructions_text program first zero = []
instructions_text program first (suc slot) =
    instructions_text program first slot
    ++ (if nat_le first slot then line_at slot (slice_get program slot) else [])

-- ---- what is known before a slot
-- the lines of it, where a run may come there
abbrev pub lines_before : Profile → Program → ℕ → Option (List (List ℕ))
lines_before profile program slot = option_map (known_lines profile) (situation_before profile program slot)

abbrev pub all_text : Option (List (List ℕ)) → List ℕ
all_text None = codes "  no run comes there\n"
all_text (Some lines) = listed lines

-- an instruction, and all that is known before it
abbrev pub known_at : Profile → Program → ℕ → Option (Option Insn) → List ℕ
known_at profile program slot (Some (Some insn)) =
    instruction_line slot insn ++ all_text (lines_before profile program slot)
known_at profile program slot place = []

abbrev pub slot_text : Profile → Program → ℕ → List ℕ
slot_text profile program slot = known_at profile program slot (slice_get program slot)

-- ---- what is known on the ways that join at a slot
abbrev pub number_behind : Way → List ℕ
number_behind way = codes ", " ++ decimal way.from

abbrev pub numbers_behind : List Way → List ℕ
numbers_behind ways = flat_map number_behind ways

-- from where many ways lead
abbrev pub sources_text : List Way → List ℕ
sources_text [] = []
sources_text (way ∷ more) = codes "  from slots " ++ decimal way.from ++ numbers_behind more ++ codes "\n"

-- what is known on a way and isn't known where it leads
abbrev pub way_text : Profile → List (List ℕ) → Way → List ℕ
way_text profile lines way =
    codes "  from slot " ++ decimal way.from ++ codes ": "
    ++ in_line (lines_beside (known_lines profile way.known) lines) ++ codes "\n"

-- of more than eight ways, from where they lead; of two to eight what is known on each; of one nothing
unfoldable pub ways_text : Profile → List (List ℕ) → List Way → List ℕ
ways_text profile lines ways =
    if nat_lt 8 (length ways)
    then sources_text ways
    else (if nat_lt (length ways) 2 then [] else flat_map (way_text profile lines) ways)

-- ---- the listing: before each instruction what isn't known before the one above it; where a jump leads there, or
-- nothing is known above it, what is known on the ways that join there and all that is known
abbrev pub earlier_by : Profile → Program → ℕ → Option (Option Insn) → Option (List (List ℕ)) → Option (List (List ℕ))
earlier_by profile program slot (Some (Some insn)) above = lines_before profile program slot
earlier_by profile program slot place above = above

-- the lines of what is known before the last instruction above a slot
unfoldable pub lines_above : Profile → Program → ℕ → Option (List (List ℕ))
lines_above profile program zero = None
lines_above profile program (suc slot) =
    earlier_by profile program slot (slice_get program slot) (lines_above profile program slot)

abbrev pub joined_text : Profile → Program → ℕ → List (List ℕ) → List ℕ
joined_text profile program slot lines = ways_text profile lines (ways_into profile program slot) ++ listed lines

unfoldable pub changes_text : Profile → Program → ℕ → Option (List (List ℕ)) → Option (List (List ℕ)) → List ℕ
changes_text profile program slot above None = all_text None
changes_text profile program slot None (Some lines) = joined_text profile program slot lines
changes_text profile program slot (Some above) (Some lines) =
    if is_jumped_to program slot then joined_text profile program slot lines else listed (lines_beside lines above)

abbrev pub listed_at : Profile → Program → ℕ → Option (Option Insn) → List ℕ
listed_at profile program slot (Some (Some insn)) =
    instruction_line slot insn
    ++ changes_text profile program slot (lines_above profile program slot) (lines_before profile program slot)
listed_at profile program slot place = []

unfoldable pub listing_text : Profile → Program → ℕ → List ℕ
listing_text profile program zero = []
listing_text profile program (suc slot) =
    listing_text profile program slot ++ listed_at profile program slot (slice_get program slot)

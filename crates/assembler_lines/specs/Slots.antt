-- The slots at which the lines of a text begin, its labels, and what each line of it is.
use Rattle.std.specs.Prelude.{ℕ, suc, ◌+◌, nat_lt, ◌==◌, if◌then◌else◌, Bool, true, false, List, [], ◌∷◌, take}
use Rattle.std.specs.Prelude.{slice_index_or, sum_by, Option, Some, None, Ok, Err, ℤ, pos, negsuc, ◌-ℤ◌, option_map}
use Rattle.std.specs.List.{slice_split, list_any}
use Rattle.std.specs.Str.{bytes_eq}
use Rattle.bpf_words.specs.declared.instruction.Insn.{Insn}
use Rattle.assembler_lines.specs.declared.token.Sign.TheVariants.{Colon}
use Rattle.assembler_lines.specs.declared.fault.LineFault.TheVariants.{UnknownLabel, LabelTwice, JumpRange}
use Rattle.assembler_lines.specs.declared.statement.Jump.{Jump}
use Rattle.assembler_lines.specs.declared.form.Form.TheVariants.{LoadWide}
use Rattle.assembler_lines.specs.Mnemonics.{name_of}
use Rattle.assembler_lines.specs.Tokens.{Lexeme, Mark, Word, Stray, tokens_of}
use Rattle.assembler_lines.specs.Statements.{Statement, Blank, Label, Plain, Onto, Judged, reach, jump_by, reading_of}
use Rattle.assembler_lines.specs.Statements.{◌>>=◌}

-- lines are parted by LF alone
abbrev pub lines_of : List ℕ → List (List ℕ)
lines_of source = slice_split (λ b. b == 10) source

abbrev pub begins_colon : List Lexeme → Bool
begins_colon (Mark Colon ∷ tokens) = true
begins_colon tokens = false

-- the slots that a line takes, right or at fault: none where it is blank or `:` follows its first word, two where that
-- word is the mnemonic of a wide load, else one
abbrev pub slots_of : List Lexeme → ℕ
slots_of [] = 0
slots_of (Word word ∷ tokens) = if begins_colon tokens then 0 else if bytes_eq word (name_of LoadWide) then 2 else 1
slots_of (Mark sign ∷ tokens) = 1
slots_of (Stray ∷ tokens) = 1

unfoldable pub slots : List ℕ → ℕ
slots line = slots_of (tokens_of line)

-- the line at an index
abbrev pub line_at : List (List ℕ) → ℕ → List ℕ
line_at lines k = slice_index_or lines k []

-- the slot at which a line begins
unfoldable pub first_slot : List (List ℕ) → ℕ → ℕ
first_slot lines k = sum_by slots (take k lines)

-- the name of a line that is a label
abbrev pub label_in : Judged Statement → Option (List ℕ)
label_in (Ok (Label word)) = Some word
label_in reading = None

unfoldable pub label_of : List ℕ → Option (List ℕ)
label_of line = label_in (reading_of line)

abbrev pub is_named : List ℕ → Option (List ℕ) → Bool
is_named name None = false
is_named name (Some word) = bytes_eq word name

-- whether a line is a label of that name
abbrev pub has_label : List ℕ → List ℕ → Bool
has_label name line = is_named name (label_of line)

-- the line that defines a label: the first of its name
abbrev pub definition : List (List ℕ) → List ℕ → Option ℕ
definition [] name = None
definition (line ∷ lines) name = if has_label name line then Some 0 else option_map suc (definition lines name)

-- whether a distance is within a limit, as its jump reaches
abbrev pub is_reached : ℕ → ℤ → Bool
is_reached limit (pos n) = nat_lt n limit
is_reached limit (negsuc n) = nat_lt n limit

-- the jump at a slot to another; a distance counts from the slot behind the jump
unfoldable pub jump_between : Jump → ℕ → ℕ → Judged Insn
jump_between jump here target =
    let distance = pos target -ℤ pos (here + 1) in
    if is_reached (reach jump) distance then Ok (jump_by jump distance) else Err JumpRange

abbrev pub jump_onto : List (List ℕ) → Jump → ℕ → Option ℕ → Judged (Option Insn)
jump_onto lines jump here None = Err UnknownLabel
jump_onto lines jump here (Some line) = do
  insn ← jump_between jump here (first_slot lines line)
  Ok (Some insn)

-- what a line is among the lines, by what it says
abbrev pub resolved : List (List ℕ) → ℕ → Judged Statement → Judged (Option Insn)
resolved lines k (Err fault) = Err fault
resolved lines k (Ok Blank) = Ok None
resolved lines k (Ok (Label name)) = if list_any (has_label name) (take k lines) then Err LabelTwice else Ok None
resolved lines k (Ok (Plain insn)) = Ok (Some insn)
resolved lines k (Ok (Onto jump name)) = jump_onto lines jump (first_slot lines k) (definition lines name)

-- the instruction of the line at an index, none on a blank line or a label, or the line's fault
unfoldable pub insn_at : List (List ℕ) → ℕ → Judged (Option Insn)
insn_at lines k = resolved lines k (reading_of (line_at lines k))

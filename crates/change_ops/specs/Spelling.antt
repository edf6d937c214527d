-- The text of a change, a form of this project's own: how each of its parts is spelled.
use Rattle.std.specs.Prelude.{◌≡◌, ℕ, zero, suc, ◌/◌, ◌%◌, false, List, [], ◌∷◌, ◌++◌, length, Option, Some, None}
use Rattle.std.specs.Prelude.{Result, Ok, Err, codes}
use Rattle.std.specs.Fmt.{decimal, digits, digit_glyph}
use Rattle.change_ops.specs.Ids.{OpId}
use Rattle.change_ops.specs.Runs.{Run}
use Rattle.change_ops.specs.IdRuns.{IdRun}
use Rattle.change_ops.specs.Changes.{Change, IsChange}
use Rattle.change_ops.specs.declared.attribute.Key.{Key}
use Rattle.change_ops.specs.declared.attribute.Key.TheVariants as key
use Rattle.change_ops.specs.declared.attribute.Attribute.{Attribute}
use Rattle.change_ops.specs.declared.attribute.Attribute.TheVariants as attribute
use Rattle.change_ops.specs.declared.value.Value.{Value}
use Rattle.change_ops.specs.declared.value.Value.TheVariants as value
use Rattle.change_ops.specs.Keys.{word_of}
use Rattle.change_ops.specs.LineKinds.{word_of_kind}
use Rattle.change_ops.specs.declared.operation.Anchor.{Anchor}
use Rattle.change_ops.specs.declared.operation.Anchor.TheVariants.{TextStart, BeforeCharacter, AfterCharacter, TextEnd}
use Rattle.change_ops.specs.declared.operation.Op.{Op}
use Rattle.change_ops.specs.declared.operation.Op.TheVariants.{Insert, Remove, AddMark, RemoveMark, Revive}
use Rattle.change_ops.specs.declared.line.Form.{Form}
use Rattle.change_ops.specs.declared.line.Form.TheVariants.{First, Second, Third}
use Rattle.change_ops.specs.declared.line.Line.{Line}
use Rattle.change_ops.specs.declared.line.Line.TheVariants.{Operation, Run as RunLine, Removals, Revivals}
use Rattle.change_ops.specs.declared.refusal.ChangeError.{ChangeError}
use Rattle.change_ops.specs.declared.refusal.ChangeError.TheVariants.{BadLine, Truncated, Limit, CharRefused, WrongPeer}
use Rattle.change_ops.specs.declared.refusal.ChangeError.TheVariants.{OutOfMemory}

-- a word, a space, and what follows
infixr 5 ◌␣◌
abbrev pub ◌␣◌ : List ℕ → List ℕ → List ℕ
word ␣ fields = word ++ 32 ∷ fields

-- lower case, without leading zeros
abbrev pub hexadecimal : ℕ → List ℕ
hexadecimal n = digits 16 false n

-- the last `count` hexadecimal digits, leading zeros too
unfoldable pub last_digits : ℕ → ℕ → List ℕ
last_digits zero n = []
last_digits (suc count) n = last_digits count (n / 16) ++ digit_glyph false (n % 16) ∷ []

abbrev pub id_text : OpId → List ℕ
id_text id = decimal id.counter ++ 64 ∷ decimal id.node

abbrev pub parent_text : Option OpId → List ℕ
parent_text None = codes "-"
parent_text (Some id) = id_text id

abbrev pub anchor_text : Anchor → List ℕ
anchor_text TextStart = codes "^"
anchor_text (BeforeCharacter id) = 60 ∷ id_text id
anchor_text (AfterCharacter id) = 62 ∷ id_text id
anchor_text TextEnd = codes "$"

abbrev pub key_text : Key → List ℕ
key_text (key.Row row) = word_of row
key_text (key.Comment number) = codes "comment" ++ 58 ∷ decimal number

abbrev pub value_text : Value → List ℕ
value_text value.Nothing = codes "-"
value_text (value.Link target) = target
value_text (value.Color rgb) = last_digits 6 rgb
value_text (value.LineKind kind) = word_of_kind kind

-- a key, and its value
abbrev pub attribute_text : Attribute → List ℕ
attribute_text (attribute.Row valued) = word_of valued.row ␣ value_text valued.value
attribute_text (attribute.Comment number) = (codes "comment" ++ 58 ∷ decimal number) ␣ codes "-"

-- an operation's line, without its LF
abbrev pub op_text : Op → List ℕ
op_text (Insert id parent character) = codes "i" ␣ id_text id ␣ parent_text parent ␣ hexadecimal character
op_text (Remove id target) = codes "d" ␣ id_text id ␣ id_text target
op_text (AddMark id attribute start end) =
    codes "m" ␣ id_text id ␣ attribute_text attribute ␣ anchor_text start ␣ anchor_text end
op_text (RemoveMark id key start end) = codes "u" ␣ id_text id ␣ key_text key ␣ anchor_text start ␣ anchor_text end
op_text (Revive id removal) = codes "v" ␣ id_text id ␣ id_text removal

-- characters' codes, each behind a space
unfoldable pub codes_text : List ℕ → List ℕ
codes_text [] = []
codes_text (character ∷ characters) = 32 ∷ hexadecimal character ++ codes_text characters

-- a run's line: how many characters it has, and these
abbrev pub run_text : Run → List ℕ
run_text run =
    codes "r" ␣ id_text run.id ␣ parent_text run.parent ␣ decimal (length run.characters) ++ codes_text run.characters

-- the line of a run of removals or of revivals, by its letter
abbrev pub id_run_text : List ℕ → IdRun → List ℕ
id_run_text letter run = letter ␣ id_text run.id ␣ id_text run.first ␣ decimal run.count

abbrev pub line_text : Line → List ℕ
line_text (Operation op) = op_text op
line_text (RunLine run) = run_text run
line_text (Removals run) = id_run_text (codes "d") run
line_text (Revivals run) = id_run_text (codes "v") run

unfoldable pub lines_text : List Line → List ℕ
lines_text [] = []
lines_text (line ∷ lines) = line_text line ++ 10 ∷ lines_text lines

abbrev pub form_text : Form → List ℕ
form_text First = codes "change"
form_text Second = codes "change2"
form_text Third = codes "change3"

abbrev pub header_text : Change → List ℕ
header_text change = form_text change.form ␣ decimal change.node ␣ decimal (length change.lines)

unfoldable pub change_text : Change → List ℕ
change_text change = header_text change ++ 10 ∷ lines_text change.lines

-- The front of a text spells the change, and the rest follows it.
abbrev pub Spells : List ℕ → Change → List ℕ → Type 0
Spells text change rest = IsChange change × (text ≡ change_text change ++ rest)

-- What was answered is the change and the rest, unless memory ran out.
abbrev pub Answers : {X : Type 0} → Result X ChangeError → (X → Change × List ℕ) → Change × List ℕ → Type 0
Answers (Ok x) view wanted = view x ≡ wanted
Answers (Err OutOfMemory) view wanted = Unit {0}
Answers (Err (BadLine n)) view wanted = ⊥
Answers (Err Truncated) view wanted = ⊥
Answers (Err (Limit n)) view wanted = ⊥
Answers (Err (CharRefused n)) view wanted = ⊥
Answers (Err (WrongPeer n)) view wanted = ⊥

-- Texts of changes can stand one behind the other: none is another's beginning.
abbrev pub NoneBeginsAnother : Type 0
NoneBeginsAnother =
    (a b : Change) (x y : List ℕ) → IsChange a → IsChange b → change_text a ++ x ≡ change_text b ++ y
    → (a ≡ b) × (x ≡ y)

-- What a line spells, and the first fault of a line.
use Rattle.std.specs.Prelude.{◌≡◌, ◌⊎◌, ℕ, zero, suc, nat_lt, nat_le, ◌==◌, ◌+◌, ◌^◌, ◌&&◌, not, Bool, false}
use Rattle.std.specs.Prelude.{if◌then◌else◌, List, [], ◌∷◌, ◌++◌, length, Option, Some, None, Result, Ok, Err}
use Rattle.std.specs.Prelude.{option_and_then, is_some, codes}
use Rattle.std.specs.List.{list_all}
use Rattle.std.specs.Option.{option_map}
use Rattle.std.specs.Str.{bytes_eq}
use Rattle.std.specs.Borrow.{Bor}
use Rattle.change_ops.specs.Ids.{OpId, within_limits, is_character, checked}
use Rattle.change_ops.specs.Attributes.{is_link_byte}
use Rattle.change_ops.specs.Limits.{parent_within, op_within, has_character}
use Rattle.change_ops.specs.Operations.{id_of}
use Rattle.change_ops.specs.Runs.{Run, run_within, run_has_characters}
use Rattle.change_ops.specs.IdRuns.{IdRun, id_run_within}
use Rattle.change_ops.specs.Lines.{first_id, line_within, line_has_characters, has_line, has_op}
use Rattle.change_ops.specs.Rooms.{line_fits}
use Rattle.change_ops.specs.Words.{split, number_in, digits_after, saturated}
use Rattle.change_ops.specs.declared.attribute.Key.{Key}
use Rattle.change_ops.specs.declared.attribute.Key.TheVariants as key
use Rattle.change_ops.specs.declared.attribute.Attribute.{Attribute}
use Rattle.change_ops.specs.declared.attribute.Attribute.TheVariants as attribute
use Rattle.change_ops.specs.declared.value.Value.{Value}
use Rattle.change_ops.specs.declared.value.Value.TheVariants as value
use Rattle.change_ops.specs.declared.keys.ValueType.{ValueType}
use Rattle.change_ops.specs.declared.keys.ValueType.TheVariants as type
use Rattle.change_ops.specs.Keys.{row_at, type_of_row}
use Rattle.change_ops.specs.LineKinds.{kind_at}
use Rattle.change_ops.specs.declared.operation.Anchor.{Anchor}
use Rattle.change_ops.specs.declared.operation.Anchor.TheVariants.{TextStart, BeforeCharacter, AfterCharacter, TextEnd}
use Rattle.change_ops.specs.declared.operation.Op.{Op}
use Rattle.change_ops.specs.declared.operation.Op.TheVariants.{Insert, Remove, AddMark, RemoveMark, Revive}
use Rattle.change_ops.specs.declared.line.Form.{Form}
use Rattle.change_ops.specs.declared.line.Form.TheVariants.{First, Second, Third}
use Rattle.change_ops.specs.declared.line.Line.{Line}
use Rattle.change_ops.specs.declared.line.Line.TheVariants.{Operation, Run as RunLine, Removals, Revivals}
use Rattle.change_ops.specs.declared.room.Room.{Room}
use Rattle.change_ops.specs.declared.refusal.LineFault.{LineFault}
use Rattle.change_ops.specs.declared.refusal.LineFault.TheVariants.{BadLine, Limit, CharRefused, WrongPeer, OutOfMemory}

infixl 10 ◌>>=◌
abbrev pub ◌>>=◌ : {A B : Type 0} → Option A → (A → Option B) → Option B
o >>= f = option_and_then f o

-- an id: counter@node
unfoldable pub id_at : List ℕ → Option OpId
id_at word = do
  parts ← split 64 word
  counter ← number_in 10 parts.0
  node ← number_in 10 parts.1
  Some (record { counter = counter; node = node })

-- a character's code, in at most six digits
unfoldable pub hex_at : List ℕ → Option ℕ
hex_at word = if nat_lt 6 (length word) then None else number_in 16 word

-- what an insertion stands after: an id, or - for the text's start
unfoldable pub parent_at : List ℕ → Option (Option OpId)
parent_at word = if bytes_eq word (codes "-") then Some None else (do
  id ← id_at word
  Some (Some id))

-- an anchor at a character, by its sign
abbrev pub beside : ℕ → List ℕ → Option Anchor
beside sign word =
    if sign == 60 then (do
      id ← id_at word
      Some (BeforeCharacter id)) else if sign == 62 then (do
        id ← id_at word
        Some (AfterCharacter id)) else None

-- an anchor: <id, >id, ^ or $
unfoldable pub anchor_at : List ℕ → Option Anchor
anchor_at [] = None
anchor_at (sign ∷ []) = if sign == 94 then Some TextStart else if sign == 36 then Some TextEnd else beside sign []
anchor_at (sign ∷ b ∷ word) = beside sign (b ∷ word)

unfoldable pub anchors_at : List ℕ → Option (Anchor × Anchor)
anchors_at fields = do
  parts ← split 32 fields
  start ← anchor_at parts.0
  end ← anchor_at parts.1
  Some (start, end)

-- the key of a comment: comment:number
unfoldable pub comment_at : List ℕ → Option ℕ
comment_at word = do
  parts ← split 58 word
  if bytes_eq parts.0 (codes "comment") then number_in 10 parts.1 else None

abbrev pub row_or_comment : Option ℕ → Option ℕ → Option Key
row_or_comment (Some row) comment = Some (key.Row row)
row_or_comment None comment = option_map key.Comment comment

-- a key: the word of a row, or a comment
unfoldable pub key_at : List ℕ → Option Key
key_at word = row_or_comment (row_at word) (comment_at word)

-- a color: six digits
unfoldable pub color_at : List ℕ → Option ℕ
color_at word = if length word == 6 then digits_after 16 0 word else None

-- a link: printable bytes of ASCII other than the space, at least one
unfoldable pub link_at : List ℕ → Option (List ℕ)
link_at word = if nat_lt 0 (length word) && list_all is_link_byte word then Some word else None

-- the word of no value
abbrev pub bare : {A : Type 0} → A → List ℕ → Option A
bare x word = if bytes_eq word (codes "-") then Some x else None

-- a value of a type
unfoldable pub value_at : ValueType → List ℕ → Option Value
value_at type.Nothing word = bare value.Nothing word
value_at type.Link word = option_map value.Link (link_at word)
value_at type.Color word = option_map value.Color (color_at word)
value_at type.LineKind word = option_map value.LineKind (kind_at word)

abbrev pub valued : ℕ → Value → Attribute
valued row value = attribute.Row (record { row = row; value = value })

-- what a mark of the key adds
abbrev pub added_at : Key → List ℕ → Option Attribute
added_at (key.Row row) word = option_map (valued row) (value_at (type_of_row row) word)
added_at (key.Comment number) word = bare (attribute.Comment number) word

-- an attribute, by the words of its key and its value
unfoldable pub attribute_at : List ℕ → List ℕ → Option Attribute
attribute_at name value = do
  key ← key_at name
  added_at key value

unfoldable pub insert_at : List ℕ → Option Op
insert_at fields = do
  first ← split 32 fields
  second ← split 32 first.1
  id ← id_at first.0
  parent ← parent_at second.0
  character ← hex_at second.1
  Some (Insert id parent character)

unfoldable pub remove_at : List ℕ → Option Op
remove_at fields = do
  first ← split 32 fields
  id ← id_at first.0
  target ← id_at first.1
  Some (Remove id target)

-- what a mark says behind its id
unfoldable pub marked_at : List ℕ → Option (Attribute × (Anchor × Anchor))
marked_at fields = do
  first ← split 32 fields
  second ← split 32 first.1
  anchors ← anchors_at second.1
  attribute ← attribute_at first.0 second.0
  Some (attribute, anchors)

unfoldable pub mark_at : List ℕ → Option Op
mark_at fields = do
  first ← split 32 fields
  id ← id_at first.0
  marked ← marked_at first.1
  Some (AddMark id marked.0 marked.1.0 marked.1.1)

-- what the removal of a mark says behind its id
unfoldable pub unmarked_at : List ℕ → Option (Key × (Anchor × Anchor))
unmarked_at fields = do
  first ← split 32 fields
  key ← key_at first.0
  anchors ← anchors_at first.1
  Some (key, anchors)

unfoldable pub unmark_at : List ℕ → Option Op
unmark_at fields = do
  first ← split 32 fields
  id ← id_at first.0
  unmarked ← unmarked_at first.1
  Some (RemoveMark id unmarked.0 unmarked.1.0 unmarked.1.1)

unfoldable pub revive_at : List ℕ → Option Op
revive_at fields = do
  first ← split 32 fields
  id ← id_at first.0
  removal ← id_at first.1
  Some (Revive id removal)

-- the operation that a line spells, of numbers of any size
unfoldable pub op_at : List ℕ → Option Op
op_at line = do
  first ← split 32 line
  if bytes_eq first.0 (codes "i") then insert_at first.1 else
      if bytes_eq first.0 (codes "d") then remove_at first.1 else
      if bytes_eq first.0 (codes "m") then mark_at first.1 else
      if bytes_eq first.0 (codes "u") then unmark_at first.1 else
      if bytes_eq first.0 (codes "v") then revive_at first.1 else None

-- the codes of this number of characters with a space between them, at least one
unfoldable pub characters_at : ℕ → List ℕ → Option (List ℕ)
characters_at zero fields = None
characters_at (suc zero) fields = do
  code ← hex_at fields
  Some (code ∷ [])
characters_at (suc (suc others)) fields = do
  first ← split 32 fields
  code ← hex_at first.0
  codes ← characters_at (suc others) first.1
  Some (code ∷ codes)

-- the count of a run's characters, and that number of codes; none behind a count of 0
unfoldable pub counted_at : List ℕ → Option (List ℕ)
counted_at fields = if bytes_eq fields (codes "0") then Some [] else (do
  first ← split 32 fields
  count ← number_in 10 first.0
  characters_at count first.1)

-- a run of parts that are there
abbrev pub run_parts : Option OpId → Option (Option OpId) → Option (List ℕ) → Option Run
run_parts id parent characters =
    id >>= λ i. parent >>= λ p. characters >>= λ cs. Some (record { id = i; parent = p; characters = cs })

unfoldable pub run_at : List ℕ → Option Run
run_at fields = do
  first ← split 32 fields
  second ← split 32 first.1
  run_parts (id_at first.0) (parent_at second.0) (counted_at second.1)

-- what of an option that is there passes a test
abbrev pub given : {A : Type 0} → Option A → (A → Bool) → Bool
given None test = false
given (Some x) test = test x

-- at least three words
unfoldable pub is_counted : List ℕ → Bool
is_counted fields = given (split 32 fields) (λ first. is_some (split 32 first.1))

-- two ids, and the number of a run of such
unfoldable pub id_run_at : List ℕ → Option IdRun
id_run_at fields = do
  words ← split 32 fields
  others ← split 32 words.1
  id ← id_at words.0
  first ← id_at others.0
  count ← number_in 10 others.1
  Some (record { id = id; first = first; count = count })

-- a run of characters, of removals or of revivals, or an operation
unfoldable pub line_at : List ℕ → Option Line
line_at line = do
  first ← split 32 line
  if bytes_eq first.0 (codes "r") then (do
    run ← run_at first.1
    Some (RunLine run)) else
      if bytes_eq first.0 (codes "d") && is_counted first.1 then (do
        run ← id_run_at first.1
        Some (Removals run)) else
      if bytes_eq first.0 (codes "v") && is_counted first.1 then (do
        run ← id_run_at first.1
        Some (Revivals run)) else (do
          op ← op_at line
          Some (Operation op))

-- the same, where the form of the change has such lines
abbrev pub line_in : Form → List ℕ → Option Line
line_in form text = do
  line ← line_at text
  if has_line form line then Some line else None

-- the word that a change of each form begins with
abbrev pub form_at : List ℕ → Option Form
form_at word =
    if bytes_eq word (codes "change") then Some First else
    if bytes_eq word (codes "change2") then Some Second else
    if bytes_eq word (codes "change3") then Some Third else None

-- the form, the node and the count of a change's first line
unfoldable pub header_at : List ℕ → Option (Form × ℕ × ℕ)
header_at line = do
  first ← split 32 line
  second ← split 32 first.1
  form ← form_at first.0
  node ← number_in 10 second.0
  count ← number_in 10 second.1
  Some (form, node, count)

-- what passes a test, if there is something
abbrev pub kept_if : {A : Type 0} → (A → Bool) → Option A → Option A
kept_if test None = None
kept_if test (Some x) = if test x then Some x else None

-- what has a form, or the fault of what has none
abbrev pub formed : {A : Type 0} → Option A → Result A LineFault
formed None = Err BadLine
formed (Some x) = Ok x

-- What was found are these two parts, or there are none.
abbrev pub Found : Result (Bor (List ℕ) × Bor (List ℕ)) LineFault → Option (List ℕ × List ℕ) → Type 0
Found (Ok x) parts = parts ≡ Some (x.0.now, x.1.now)
Found (Err fault) parts = (fault ≡ BadLine) × (parts ≡ None)

-- a part of a line that is within its limits, or the part's fault
abbrev pub within : {A : Type 0} → (A → Bool) → Option A → Result A LineFault
within test None = Err BadLine
within test (Some x) = if test x then Ok x else Err Limit

-- the character of a code, or the code's fault
abbrev pub encoded : Option ℕ → Result ℕ LineFault
encoded None = Err BadLine
encoded (Some code) = if is_character code then Ok code else Err CharRefused

-- the word of an attribute that has no value
abbrev pub unvalued : List ℕ → Result (Unit {0}) LineFault
unvalued word = if bytes_eq word (codes "-") then Ok tt else Err BadLine

-- two parts of a line, or the fault that is told: that of a part of no form, and otherwise the first part's
abbrev pub both : {A B : Type 0} → Result A LineFault → Result B LineFault → Result (A × B) LineFault
both (Ok a) (Ok b) = Ok (a, b)
both (Ok a) (Err fault) = Err fault
both (Err fault) (Ok b) = Err fault
both (Err fault) (Err BadLine) = Err BadLine
both (Err fault) (Err Limit) = Err fault
both (Err fault) (Err CharRefused) = Err fault
both (Err fault) (Err WrongPeer) = Err fault
both (Err fault) (Err OutOfMemory) = Err fault

-- an operation that is the peer's own
abbrev pub owned : ℕ → Op → Result Op LineFault
owned peer op = if (id_of op).node == peer then Ok op else Err WrongPeer

-- an operation of a peer's change, or the first fault
abbrev pub op_judged : ℕ → Op → Result Op LineFault
op_judged peer op =
    if not (op_within op) then Err Limit else
    if not (has_character op) then Err CharRefused else
    owned peer op

abbrev pub op_verdict : ℕ → Option Op → Result Op LineFault
op_verdict peer None = Err BadLine
op_verdict peer (Some op) = op_judged peer op

-- a run that is the peer's own
abbrev pub own_run : ℕ → Run → Result Run LineFault
own_run peer run = if run.id.node == peer then Ok run else Err WrongPeer

-- a run of a peer's change with room for `room` characters, or the first fault
abbrev pub run_judged : ℕ → ℕ → Run → Result Run LineFault
run_judged peer room run =
    if not (run_within run && nat_le (length run.characters) room) then Err Limit else
    if not (run_has_characters run) then Err CharRefused else
    own_run peer run

abbrev pub run_verdict : ℕ → ℕ → Option Run → Result Run LineFault
run_verdict peer room None = Err BadLine
run_verdict peer room (Some run) = run_judged peer room run

-- the same in a change of this form
abbrev pub run_verdict_in : Form → ℕ → ℕ → Option Run → Result Run LineFault
run_verdict_in First peer room run = Err BadLine
run_verdict_in Second peer room run = run_verdict peer room run
run_verdict_in Third peer room run = run_verdict peer room run

-- a run of removals or of revivals of a peer's change with this room, or the first fault
abbrev pub id_run_fits : Room → IdRun → Bool
id_run_fits room run = nat_le 1 room.operations && nat_le run.count room.meant

abbrev pub id_run_judged : ℕ → Room → IdRun → Result IdRun LineFault
id_run_judged peer room run =
    if not (id_run_within run && id_run_fits room run) then Err Limit else
    if run.id.node == peer then Ok run else Err WrongPeer

abbrev pub id_run_verdict : ℕ → Room → Option IdRun → Result IdRun LineFault
id_run_verdict peer room None = Err BadLine
id_run_verdict peer room (Some run) = id_run_judged peer room run

-- the same in a change of this form
abbrev pub id_run_verdict_in : Form → ℕ → Room → Option IdRun → Result IdRun LineFault
id_run_verdict_in First peer room run = Err BadLine
id_run_verdict_in Second peer room run = Err BadLine
id_run_verdict_in Third peer room run = id_run_verdict peer room run

-- the run of a number and two ids that were read
abbrev pub id_run_limited : ℕ → Room → Option IdRun → Result IdRun LineFault
id_run_limited peer room None = Err Limit
id_run_limited peer room (Some run) = id_run_judged peer room run

abbrev pub id_run_made : ℕ → Room → Result ℕ LineFault → Result (OpId × OpId) LineFault → Result IdRun LineFault
id_run_made peer room (Err fault) ids = Err fault
id_run_made peer room (Ok count) (Err fault) = Err fault
id_run_made peer room (Ok count) (Ok ids) =
    id_run_limited peer room (checked id_run_within (record { id = ids.0; first = ids.1; count = count }))

-- a line of a peer's change with this room, or the first fault
abbrev pub judged : ℕ → Room → Line → Result Line LineFault
judged peer room line =
    if not (line_within line && line_fits room line) then Err Limit else
    if not (line_has_characters line) then Err CharRefused else
    if (first_id line).node == peer then Ok line else Err WrongPeer

abbrev pub line_verdict : ℕ → Room → Option Line → Result Line LineFault
line_verdict peer room None = Err BadLine
line_verdict peer room (Some line) = judged peer room line

-- What a reader answered is what it should be, unless memory ran out.
abbrev pub Reads : {A : Type 0} → Result A LineFault → Result A LineFault → Type 0
Reads answer wanted = (answer ≡ Err OutOfMemory) ⊎ (answer ≡ wanted)

-- the same of what is seen by a view
abbrev pub ReadsAs : {A B : Type 0} → (A → B) → Result A LineFault → Result B LineFault → Type 0
ReadsAs view (Ok x) wanted = wanted ≡ Ok (view x)
ReadsAs view (Err BadLine) wanted = wanted ≡ Err BadLine
ReadsAs view (Err Limit) wanted = wanted ≡ Err Limit
ReadsAs view (Err CharRefused) wanted = wanted ≡ Err CharRefused
ReadsAs view (Err WrongPeer) wanted = wanted ≡ Err WrongPeer
ReadsAs view (Err OutOfMemory) wanted = Unit {0}

-- an operation's line of a peer's change of this form with room for `room` operations
abbrev pub op_verdict_in : Form → ℕ → ℕ → Option Op → Result Op LineFault
op_verdict_in form peer room None = Err BadLine
op_verdict_in form peer room (Some op) =
    if not (has_op form op) then Err BadLine else
    if not (nat_le 1 room) then Err Limit else op_judged peer op

-- where there is no room: the fault of what has no form, else the room's
abbrev pub unless_formless : Result Op LineFault → LineFault
unless_formless (Ok op) = Limit
unless_formless (Err BadLine) = BadLine
unless_formless (Err Limit) = Limit
unless_formless (Err CharRefused) = Limit
unless_formless (Err WrongPeer) = Limit
unless_formless (Err OutOfMemory) = OutOfMemory

-- an id and a parent of a run of `count` characters, in a change with room for `room` operations
abbrev pub within_run : ℕ → ℕ → Result (OpId × Option OpId) LineFault → Result (OpId × Option OpId) LineFault
within_run count room (Err fault) = Err fault
within_run count room (Ok named) =
    if nat_le 2 count && nat_le count room && nat_le (named.0.counter + count) (2 ^ 48) then Ok named else Err Limit

abbrev pub limited_run : ℕ → ℕ → Option OpId → Option (Option OpId) → Result (OpId × Option OpId) LineFault
limited_run count room id parent = within_run count room (both (within within_limits id) (within parent_within parent))

-- the characters of a run by their codes, or the first fault
abbrev pub encoded_all : Option (List ℕ) → Result (List ℕ) LineFault
encoded_all None = Err BadLine
encoded_all (Some codes) = if list_all is_character codes then Ok codes else Err CharRefused

-- the peer's own run of what was read as its characters
abbrev pub made_verdict : ℕ → OpId → Option OpId → Result (List ℕ) LineFault → Result Run LineFault
made_verdict peer id parent (Ok characters) =
    own_run peer (record { id = id; parent = parent; characters = characters })
made_verdict peer id parent (Err fault) = Err fault

-- what was read before, and what is still read
abbrev pub with_characters : List ℕ → Result (List ℕ) LineFault → Result (List ℕ) LineFault
with_characters front (Ok characters) = Ok (front ++ characters)
with_characters front (Err fault) = Err fault

-- What was found is the first code, as a number of 64 bits, and what follows its space; or there is none.
pub record NextCode (fields : List ℕ) (found : ℕ) (rest : List ℕ) : Type 0 where
  pub word : List ℕ
  pub code : ℕ
  pub parts : split 32 fields ≡ Some (word, rest)
  pub spelled : hex_at word ≡ Some code
  pub value : found ≡ saturated code

abbrev pub IsNextCode : List ℕ → Result (ℕ × Bor (List ℕ)) LineFault → Type 0
IsNextCode fields (Ok x) = NextCode fields x.0 x.1.now
IsNextCode fields (Err fault) =
    (fault ≡ BadLine) × ((word rest : List ℕ) → split 32 fields ≡ Some (word, rest) → hex_at word ≡ None)

-- What was found is the first character, with `others` more in what follows it; or the fault of them all.
abbrev pub IsFirst : ℕ → List ℕ → Result (ℕ × Bor (List ℕ)) LineFault → Type 0
IsFirst others fields (Ok x) =
    encoded_all (characters_at (others + 1) fields)
    ≡ with_characters (x.0 ∷ []) (encoded_all (characters_at others x.1.now))
IsFirst others fields (Err fault) = encoded_all (characters_at (others + 1) fields) ≡ Err fault

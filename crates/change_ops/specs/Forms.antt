-- The grammar of a change's lines, of numbers of any size: which words and lines have a form, whatever reads them.
use Rattle.std.specs.Prelude.{◌≡◌, ℕ, ◌+◌, ◌*◌, ◌^◌, ◌<◌, ◌≤◌, false, List, [], ◌∷◌, ◌++◌, map, length, Option, Some}
use Rattle.std.specs.Prelude.{None, codes, ⊤, ◌↔◌, IsTrue, slice_get}
use Rattle.std.specs.List.{AllByRecursion}
use Rattle.std.specs.Fmt.{digit_glyph}
use Rattle.change_ops.specs.Ids.{OpId}
use Rattle.change_ops.specs.Operations.{key_of}
use Rattle.change_ops.specs.Runs.{Run}
use Rattle.change_ops.specs.IdRuns.{IdRun}
use Rattle.change_ops.specs.Lines.{has_line}
use Rattle.change_ops.specs.Reading.{line_in, header_at}
use Rattle.change_ops.specs.declared.attribute.Key.{Key}
use Rattle.change_ops.specs.declared.attribute.Key.TheVariants as key
use Rattle.change_ops.specs.declared.attribute.Attribute.{Attribute}
use Rattle.change_ops.specs.declared.attribute.Attribute.TheVariants as attribute
use Rattle.change_ops.specs.declared.value.Value.{Value}
use Rattle.change_ops.specs.declared.value.Value.TheVariants as value
use Rattle.change_ops.specs.Keys.{words, type_of_row}
use Rattle.change_ops.specs.LineKinds.{kind_words}
use Rattle.change_ops.specs.Values.{RowValue, type_of}
use Rattle.change_ops.specs.declared.operation.Anchor.{Anchor}
use Rattle.change_ops.specs.declared.operation.Anchor.TheVariants.{TextStart, BeforeCharacter, AfterCharacter, TextEnd}
use Rattle.change_ops.specs.declared.operation.Op.{Op}
use Rattle.change_ops.specs.declared.operation.Op.TheVariants.{Insert, Remove, AddMark, RemoveMark, Revive}
use Rattle.change_ops.specs.declared.line.Form.{Form}
use Rattle.change_ops.specs.declared.line.Form.TheVariants as form
use Rattle.change_ops.specs.declared.line.Line.{Line}
use Rattle.change_ops.specs.declared.line.Line.TheVariants.{Operation, Run as RunLine, Removals, Revivals}

-- the sum of the digits, each times the base to the power of the number of digits behind it
unfoldable pub digits_value : ℕ → List ℕ → ℕ
digits_value base [] = 0
digits_value base (d ∷ ds) = d * base ^ length ds + digits_value base ds

-- The word writes a number of this value: each digit is below the base, 0 to 9 and then a to f.
pub record DigitsOf (base number : ℕ) (digits word : List ℕ) : Type 0 where
  pub below : AllByRecursion (λ d. d < base) digits
  pub written : word ≡ map (digit_glyph false) digits
  pub sum : number ≡ digits_value base digits

-- at least one digit, and no zero before another
abbrev pub LeadsWell : List ℕ → Type 0
LeadsWell [] = ⊥
LeadsWell (d ∷ []) = ⊤
LeadsWell (d ∷ e ∷ ds) = 0 < d

pub record Numeral (base number : ℕ) (word : List ℕ) : Type 0 where
  pub digits : List ℕ
  pub leads : LeadsWell digits
  pub spells : DigitsOf base number digits word

-- a word of one kind, a byte, and a word of another
pub record Joined (mark : ℕ) (First Second : List ℕ → Type 0) (word : List ℕ) : Type 0 where
  pub first : List ℕ
  pub second : List ℕ
  pub whole : word ≡ first ++ mark ∷ second
  pub before : First first
  pub after : Second second

-- with a space between them
infixr 5 ◌⎵◌
abbrev pub ◌⎵◌ : (List ℕ → Type 0) → (List ℕ → Type 0) → List ℕ → Type 0
First ⎵ Second = Joined 32 First Second

abbrev pub Word : List ℕ → List ℕ → Type 0
Word name word = word ≡ name

-- counter@node
abbrev pub IdForm : OpId → List ℕ → Type 0
IdForm id = Joined 64 (Numeral 10 id.counter) (Numeral 10 id.node)

abbrev pub ParentForm : Option OpId → List ℕ → Type 0
ParentForm None = Word (codes "-")
ParentForm (Some id) = IdForm id

-- at most six hexadecimal digits
pub record CodeForm (code : ℕ) (word : List ℕ) : Type 0 where
  pub numeral : Numeral 16 code word
  pub short : length word ≤ 6

-- a sign, and directly after it an id
pub record SignedId (sign : ℕ) (id : OpId) (word : List ℕ) : Type 0 where
  pub name : List ℕ
  pub whole : word ≡ sign ∷ name
  pub named : IdForm id name

-- <id, >id, ^ or $
abbrev pub AnchorForm : Anchor → List ℕ → Type 0
AnchorForm TextStart = Word (codes "^")
AnchorForm (BeforeCharacter id) = SignedId 60 id
AnchorForm (AfterCharacter id) = SignedId 62 id
AnchorForm TextEnd = Word (codes "$")

abbrev pub KeyForm : Key → List ℕ → Type 0
KeyForm (key.Row row) = λ word. slice_get words row ≡ Some word
KeyForm (key.Comment number) = Joined 58 (Word (codes "comment")) (Numeral 10 number)

-- printable bytes of ASCII other than the space, at least one
pub record LinkForm (target word : List ℕ) : Type 0 where
  pub whole : word ≡ target
  pub some : 1 ≤ length target
  pub printable : AllByRecursion (λ b. (0x21 ≤ b) × (b ≤ 0x7e)) target

-- six hexadecimal digits, zeros in front too
pub record ColorForm (rgb : ℕ) (word : List ℕ) : Type 0 where
  pub digits : List ℕ
  pub six : length digits ≡ 6
  pub spells : DigitsOf 16 rgb digits word

abbrev pub ValueForm : Value → List ℕ → Type 0
ValueForm value.Nothing = Word (codes "-")
ValueForm (value.Link target) = LinkForm target
ValueForm (value.Color rgb) = ColorForm rgb
ValueForm (value.LineKind kind) = λ word. slice_get kind_words kind ≡ Some word

-- the word of a value of the key's type
pub record TypedForm (valued : RowValue) (word : List ℕ) : Type 0 where
  pub typed : type_of valued.value ≡ type_of_row valued.row
  pub spelled : ValueForm valued.value word

abbrev pub AddedForm : Attribute → List ℕ → Type 0
AddedForm (attribute.Row valued) = TypedForm valued
AddedForm (attribute.Comment number) = Word (codes "-")

-- an operation's line, without its LF
abbrev pub OpForm : Op → List ℕ → Type 0
OpForm (Insert id parent character) = Word (codes "i") ⎵ IdForm id ⎵ ParentForm parent ⎵ CodeForm character
OpForm (Remove id target) = Word (codes "d") ⎵ IdForm id ⎵ IdForm target
OpForm (AddMark id attribute start end) =
    Word (codes "m") ⎵ IdForm id ⎵ KeyForm (key_of attribute) ⎵ AddedForm attribute ⎵ AnchorForm start ⎵ AnchorForm end
OpForm (RemoveMark id key start end) = Word (codes "u") ⎵ IdForm id ⎵ KeyForm key ⎵ AnchorForm start ⎵ AnchorForm end
OpForm (Revive id removal) = Word (codes "v") ⎵ IdForm id ⎵ IdForm removal

-- characters' codes with a space between them, at least one
abbrev pub CharactersForm : List ℕ → List ℕ → Type 0
CharactersForm [] = λ word. ⊥
CharactersForm (character ∷ []) = CodeForm character
CharactersForm (character ∷ next ∷ characters) = CodeForm character ⎵ CharactersForm (next ∷ characters)

-- how many they are, and their codes
abbrev pub CountedForm : List ℕ → List ℕ → Type 0
CountedForm [] = Word (codes "0")
CountedForm (character ∷ characters) =
    Numeral 10 (length (character ∷ characters)) ⎵ CharactersForm (character ∷ characters)

-- a run's line, without its LF
abbrev pub RunForm : Run → List ℕ → Type 0
RunForm run = Word (codes "r") ⎵ IdForm run.id ⎵ ParentForm run.parent ⎵ CountedForm run.characters

-- the line of a run of removals or of revivals, by its letter
abbrev pub IdRunForm : List ℕ → IdRun → List ℕ → Type 0
IdRunForm letter run = Word letter ⎵ IdForm run.id ⎵ IdForm run.first ⎵ Numeral 10 run.count

abbrev pub AnyForm : Line → List ℕ → Type 0
AnyForm (Operation op) = OpForm op
AnyForm (RunLine run) = RunForm run
AnyForm (Removals run) = IdRunForm (codes "d") run
AnyForm (Revivals run) = IdRunForm (codes "v") run

-- a line of a change of this form, without its LF
pub record LineForm (form : Form) (line : Line) (text : List ℕ) : Type 0 where
  pub had : IsTrue (has_line form line)
  pub spelled : AnyForm line text

abbrev pub FormWord : Form → List ℕ → Type 0
FormWord form.First = Word (codes "change")
FormWord form.Second = Word (codes "change2")
FormWord form.Third = Word (codes "change3")

-- a change's first line, without its LF
abbrev pub HeaderForm : Form → ℕ → ℕ → List ℕ → Type 0
HeaderForm form node count = FormWord form ⎵ Numeral 10 node ⎵ Numeral 10 count

-- A line is read as an operation or a run just where it has the form of it; so it has the form of one at most.
abbrev pub LinesAreForms : Type 0
LinesAreForms = (form : Form) (text : List ℕ) (line : Line) → (line_in form text ≡ Some line) ↔ LineForm form line text

abbrev pub HeadersAreForms : Type 0
HeadersAreForms =
    (line : List ℕ) (form : Form) (node count : ℕ)
    → (header_at line ≡ Some (form, node, count)) ↔ HeaderForm form node count line

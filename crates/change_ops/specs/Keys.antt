-- The keys of one value: their words, the types of their values, and the forms of changes that know them, in the order
-- of the table. A key is its row.
use Rattle.std.specs.Prelude.{ℕ, nat_lt, nat_le, Bool, List, [], ◌∷◌, Option, codes, slice_index_or}
use Rattle.std.specs.List.{position}
use Rattle.std.specs.Str.{bytes_eq}
use Rattle.change_ops.specs.declared.keys.Row.{Row}
use Rattle.change_ops.specs.declared.keys.ValueType.{ValueType}
use Rattle.change_ops.specs.declared.keys.ValueType.TheVariants.{Nothing, Link, Color, LineKind}
use Rattle.change_ops.specs.declared.keys.TheConstants.{KEYS}
use Rattle.change_ops.specs.declared.line.Form.{Form}
use Rattle.change_ops.specs.declared.line.Form.TheVariants.{First, Second, Third}

unfoldable pub words : List (List ℕ)
words =
    codes "strong" ∷ codes "em" ∷ codes "code" ∷ codes "link" ∷ codes "color" ∷ codes "underline" ∷ codes "strike"
    ∷ codes "block" ∷ []

unfoldable pub types : List ValueType
types = Nothing ∷ Nothing ∷ Nothing ∷ Link ∷ Color ∷ Nothing ∷ Nothing ∷ LineKind ∷ []

unfoldable pub forms : List Form
forms = First ∷ First ∷ Second ∷ First ∷ First ∷ Third ∷ Third ∷ Third ∷ []

-- a row as it is written in the code
abbrev pub word_in_row : Row → List ℕ
word_in_row row = row.word.now

abbrev pub type_in_row : Row → ValueType
type_in_row row = row.value

abbrev pub form_in_row : Row → Form
form_in_row row = row.form

abbrev pub is_row : ℕ → Bool
is_row row = nat_lt row KEYS

abbrev pub word_of : ℕ → List ℕ
word_of row = slice_index_or words row []

abbrev pub type_of_row : ℕ → ValueType
type_of_row row = slice_index_or types row Nothing

abbrev pub form_of : ℕ → Form
form_of row = slice_index_or forms row First

-- where a word first stands in a list
unfoldable pub place_in : List (List ℕ) → List ℕ → Option ℕ
place_in words word = position (λ other. bytes_eq other word) words

-- the row of a word
abbrev pub row_at : List ℕ → Option ℕ
row_at word = place_in words word

abbrev pub number_of_form : Form → ℕ
number_of_form First = 1
number_of_form Second = 2
number_of_form Third = 3

-- changes of a form have what an earlier form has
abbrev pub is_at_most : Form → Form → Bool
is_at_most form other = nat_le (number_of_form form) (number_of_form other)

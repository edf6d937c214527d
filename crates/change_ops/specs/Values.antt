-- The values of keys: their types and limits.
use Rattle.std.specs.Prelude.{ℕ, ◌==◌, ◌&&◌, Bool, true}
use Rattle.change_ops.specs.declared.value.Value.{Value}
use Rattle.change_ops.specs.declared.value.Value.TheVariants as value
use Rattle.change_ops.specs.declared.keys.ValueType.{ValueType}
use Rattle.change_ops.specs.declared.keys.ValueType.TheVariants.{Nothing, Link, Color, LineKind}
use Rattle.change_ops.specs.Attributes.{is_color, is_link}
use Rattle.change_ops.specs.Keys.{is_row, type_of_row}
use Rattle.change_ops.specs.LineKinds.{is_kind}

abbrev pub value_within : Value → Bool
value_within value.Nothing = true
value_within (value.Link target) = is_link target
value_within (value.Color rgb) = is_color rgb
value_within (value.LineKind kind) = is_kind kind

-- a key of one value, by its row, with a value
pub record RowValue : Type 0 where
  pub row : ℕ
  pub value : Value

abbrev pub type_of : Value → ValueType
type_of value.Nothing = Nothing
type_of (value.Link target) = Link
type_of (value.Color rgb) = Color
type_of (value.LineKind kind) = LineKind

abbrev pub number_of_type : ValueType → ℕ
number_of_type Nothing = 0
number_of_type Link = 1
number_of_type Color = 2
number_of_type LineKind = 3

abbrev pub is_of_type : ValueType → Value → Bool
is_of_type type value = number_of_type (type_of value) == number_of_type type

-- there is such a key, and the value is of its type
abbrev pub is_typed : RowValue → Bool
is_typed valued = is_row valued.row && is_of_type (type_of_row valued.row) valued.value

-- the value is of the key's type and within its limits
abbrev pub valued_within : RowValue → Bool
valued_within valued = is_typed valued && value_within valued.value

-- The values of the keys at a place, a list by row; and how they are stored, by their types.
use Rattle.std.specs.Prelude.{◌≡◌, ℕ, Bool, true, false, List, [], ◌∷◌, length, map, Option, Some, None, option_map}
use Rattle.std.specs.Prelude.{slice_index_or}
use Rattle.std.specs.List.{range_with_len}
use Rattle.change_ops.specs.Keys.{type_of_row}
use Rattle.change_ops.specs.declared.keys.TheConstants.{KEYS}
use Rattle.change_ops.specs.declared.keys.ValueType.{ValueType}
use Rattle.change_ops.specs.declared.keys.ValueType.TheVariants as type
use Rattle.change_ops.specs.declared.value.Value.{Value}
use Rattle.change_ops.specs.declared.value.Value.TheVariants.{Nothing, Link, Color, LineKind}
use Rattle.mark_anchors.specs.declared.values.TheConstants.{FLAGS, COLORS, LINE_KINDS}
use Rattle.mark_anchors.specs.declared.value_ref.ValueRef.{ValueRef}
use Rattle.mark_anchors.specs.declared.value_ref.ValueRef.TheVariants as lends

-- the place of each key among those whose values are of the same type
unfoldable pub places : List ℕ
places = 0 ∷ 1 ∷ 2 ∷ 0 ∷ 0 ∷ 3 ∷ 4 ∷ 0 ∷ []

abbrev pub place_of : ℕ → ℕ
place_of row = slice_index_or places row 0

-- which keys without a value hold, the link, the colors and the kinds of lines
pub record Stored : Type 0 where
  pub flags : List Bool
  pub link : Option (List ℕ)
  pub colors : List (Option ℕ)
  pub line_kinds : List (Option ℕ)

-- there is room for the value of each key
pub record AreSized (s : Stored) : Type 0 where
  pub flags : length s.flags ≡ FLAGS
  pub colors : length s.colors ≡ COLORS
  pub line_kinds : length s.line_kinds ≡ LINE_KINDS

abbrev pub flag_value : Bool → Option Value
flag_value true = Some Nothing
flag_value false = None

abbrev pub stored_at : Stored → ValueType → ℕ → Option Value
stored_at s type.Nothing place = flag_value (slice_index_or s.flags place false)
stored_at s type.Link place = option_map Link s.link
stored_at s type.Color place = option_map Color (slice_index_or s.colors place None)
stored_at s type.LineKind place = option_map LineKind (slice_index_or s.line_kinds place None)

-- what is stored of a row's key, and of all
abbrev pub stored_of : Stored → ℕ → Option Value
stored_of s row = stored_at s (type_of_row row) (place_of row)

abbrev pub values_of : Stored → List (Option Value)
values_of s = map (stored_of s) (range_with_len 0 KEYS)

-- what is lent of a value
abbrev pub lent : ValueRef → Value
lent (lends.Nothing) = Nothing
lent (lends.Link target) = Link target.now
lent (lends.Color rgb) = Color rgb
lent (lends.LineKind kind) = LineKind kind

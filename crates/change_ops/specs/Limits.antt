-- The limits of what an operation names.
use Rattle.std.specs.Prelude.{◌&&◌, Bool, true, Option, Some, None}
use Rattle.change_ops.specs.Ids.{OpId, within_limits, is_character}
use Rattle.change_ops.specs.Keys.{is_row}
use Rattle.change_ops.specs.Attributes.{is_comment_number}
use Rattle.change_ops.specs.Values.{valued_within}
use Rattle.change_ops.specs.declared.attribute.Key.{Key}
use Rattle.change_ops.specs.declared.attribute.Key.TheVariants as key
use Rattle.change_ops.specs.declared.attribute.Attribute.{Attribute}
use Rattle.change_ops.specs.declared.attribute.Attribute.TheVariants as attribute
use Rattle.change_ops.specs.declared.operation.Anchor.{Anchor}
use Rattle.change_ops.specs.declared.operation.Anchor.TheVariants.{TextStart, BeforeCharacter, AfterCharacter, TextEnd}
use Rattle.change_ops.specs.declared.operation.Op.{Op}
use Rattle.change_ops.specs.declared.operation.Op.TheVariants.{Insert, Remove, AddMark, RemoveMark, Revive}

abbrev pub parent_within : Option OpId → Bool
parent_within None = true
parent_within (Some id) = within_limits id

abbrev pub anchor_within : Anchor → Bool
anchor_within TextStart = true
anchor_within (BeforeCharacter id) = within_limits id
anchor_within (AfterCharacter id) = within_limits id
anchor_within TextEnd = true

abbrev pub anchors_within : Anchor × Anchor → Bool
anchors_within anchors = anchor_within anchors.0 && anchor_within anchors.1

abbrev pub key_within : Key → Bool
key_within (key.Row row) = is_row row
key_within (key.Comment number) = is_comment_number number

abbrev pub attribute_within : Attribute → Bool
attribute_within (attribute.Row valued) = valued_within valued
attribute_within (attribute.Comment number) = is_comment_number number

abbrev pub marked_within : Attribute × (Anchor × Anchor) → Bool
marked_within marked = attribute_within marked.0 && anchors_within marked.1

abbrev pub unmarked_within : Key × (Anchor × Anchor) → Bool
unmarked_within unmarked = key_within unmarked.0 && anchors_within unmarked.1

abbrev pub op_within : Op → Bool
op_within (Insert id parent character) = within_limits id && parent_within parent
op_within (Remove id target) = within_limits id && within_limits target
op_within (AddMark id attribute start end) = within_limits id && marked_within (attribute, (start, end))
op_within (RemoveMark id key start end) = within_limits id && unmarked_within (key, (start, end))
op_within (Revive id removal) = within_limits id && within_limits removal

abbrev pub has_character : Op → Bool
has_character (Insert id parent character) = is_character character
has_character (Remove id target) = true
has_character (AddMark id attribute start end) = true
has_character (RemoveMark id key start end) = true
has_character (Revive id removal) = true

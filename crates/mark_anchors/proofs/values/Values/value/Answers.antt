use Rattle.std.proofs.Common.{◌∙◌, ◌<◌, None, option_map, length, sym, ap, arith}
use Rattle.std.specs.Option.{option_copied}
use Rattle.std.proofs.lemmas.List.{get_or_default}
use Rattle.change_ops.specs.declared.keys.ValueType.TheVariants as type
use Rattle.change_ops.specs.declared.value.Value.TheVariants.{Link, Color, LineKind}
use Rattle.mark_anchors.specs.Values.{flag_value, lent, places}
use Rattle.mark_anchors.specs.declared.values.TheConstants.{COLORS, LINE_KINDS}
use Rattle.mark_anchors.proofs.Stores.{read_at_row, room_at_row}
use Rattle.mark_anchors.proofs.values.Values.value.Goals as goal

pub listed : goal.listed
unfolding places
listed c =
    let room : c.place_in-place.result < COLORS = room_at_row c.args.row c.row.result c.place_in-place.result type.Color c.value_type.result c.row.ensures.value c.row.ensures.limit c.place_in-place.ensures c.value_type.ensures c.in-Color.is in
    omega arith

pub bounds-self-inside-place-in-Color : goal.bounds-self-inside-place-in-Color
unfolding places
bounds-self-inside-place-in-Color c =
    let room : c.place_in-place.result < COLORS = room_at_row c.args.row c.row.result c.place_in-place.result type.Color c.value_type.result c.row.ensures.value c.row.ensures.limit c.place_in-place.ensures c.value_type.ensures c.in-Color.is in
    omega arith

pub listed-in-LineKind : goal.listed-in-LineKind
unfolding places
listed-in-LineKind c =
    let room : c.place_in-place.result < LINE_KINDS = room_at_row c.args.row c.row.result c.place_in-place.result type.LineKind c.value_type.result c.row.ensures.value c.row.ensures.limit c.place_in-place.ensures c.value_type.ensures c.in-LineKind.is in
    omega arith

pub bounds-self-inside-place-in-LineKind : goal.bounds-self-inside-place-in-LineKind
unfolding places
bounds-self-inside-place-in-LineKind c =
    let room : c.place_in-place.result < LINE_KINDS = room_at_row c.args.row c.row.result c.place_in-place.result type.LineKind c.value_type.result c.row.ensures.value c.row.ensures.limit c.place_in-place.ensures c.value_type.ensures c.in-LineKind.is in
    omega arith

pub returns-then-self-place : goal.returns-then-self-place
unfolding places
returns-then-self-place c =
    ap flag_value (sym c.if-self-place.true)
    ∙ read_at_row c.args.row c.row.result c.place_in-place.result type.Nothing c.value_type.result c.row.ensures.value c.row.ensures.limit c.place_in-place.ensures c.value_type.ensures c.in-Nothing.is
    (record { flags = c.self.inside.flags; link = c.self.inside.link; colors = c.self.inside.colors; line_kinds = c.self.inside.line_kinds }) c.args.self.now c.self.view_is

pub returns-else-self-place : goal.returns-else-self-place
unfolding places
returns-else-self-place c =
    ap flag_value (sym c.if-self-place.false)
    ∙ read_at_row c.args.row c.row.result c.place_in-place.result type.Nothing c.value_type.result c.row.ensures.value c.row.ensures.limit c.place_in-place.ensures c.value_type.ensures c.in-Nothing.is
    (record { flags = c.self.inside.flags; link = c.self.inside.link; colors = c.self.inside.colors; line_kinds = c.self.inside.line_kinds }) c.args.self.now c.self.view_is

pub returns-in_err-link-in-Link : goal.returns-in_err-link-in-Link
unfolding places
returns-in_err-link-in-Link c =
    ap (option_map lent) c.from_residual.ensures
    ∙ ap (option_map Link) (ap option_copied (sym c.in_err-link-in-Link.was) ∙ c.as_ref.ensures.value)
    ∙ read_at_row c.args.row c.row.result c.place_in-place.result type.Link c.value_type.result c.row.ensures.value c.row.ensures.limit c.place_in-place.ensures c.value_type.ensures c.in-Link.is
    (record { flags = c.self.inside.flags; link = c.self.inside.link; colors = c.self.inside.colors; line_kinds = c.self.inside.line_kinds }) c.args.self.now c.self.view_is

pub returns-in_ok-link-in-Link : goal.returns-in_ok-link-in-Link
unfolding places
returns-in_ok-link-in-Link c =
    ap (option_map Link) (ap option_copied (sym c.in_ok-link-in-Link.was) ∙ c.as_ref.ensures.value)
    ∙ read_at_row c.args.row c.row.result c.place_in-place.result type.Link c.value_type.result c.row.ensures.value c.row.ensures.limit c.place_in-place.ensures c.value_type.ensures c.in-Link.is
    (record { flags = c.self.inside.flags; link = c.self.inside.link; colors = c.self.inside.colors; line_kinds = c.self.inside.line_kinds }) c.args.self.now c.self.view_is

pub returns-in_err-color-in-Color : goal.returns-in_err-color-in-Color
unfolding places
returns-in_err-color-in-Color c =
    let room : c.place_in-place.result < COLORS = room_at_row c.args.row c.row.result c.place_in-place.result type.Color c.value_type.result c.row.ensures.value c.row.ensures.limit c.place_in-place.ensures c.value_type.ensures c.in-Color.is in
    let within : c.place_in-place.result < length c.self.inside.colors = omega arith in
    ap (option_map lent) c.from_residual-in_err-color-in-Color.ensures
    ∙ ap (option_map Color) (sym c.in_err-color-in-Color.was ∙ get_or_default c.self.inside.colors c.place_in-place.result c.index-self-place.result None within)
    ∙ read_at_row c.args.row c.row.result c.place_in-place.result type.Color c.value_type.result c.row.ensures.value c.row.ensures.limit c.place_in-place.ensures c.value_type.ensures c.in-Color.is
    (record { flags = c.self.inside.flags; link = c.self.inside.link; colors = c.self.inside.colors; line_kinds = c.self.inside.line_kinds }) c.args.self.now c.self.view_is

pub returns-in_ok-color-in-Color : goal.returns-in_ok-color-in-Color
unfolding places
returns-in_ok-color-in-Color c =
    let room : c.place_in-place.result < COLORS = room_at_row c.args.row c.row.result c.place_in-place.result type.Color c.value_type.result c.row.ensures.value c.row.ensures.limit c.place_in-place.ensures c.value_type.ensures c.in-Color.is in
    let within : c.place_in-place.result < length c.self.inside.colors = omega arith in
    ap (option_map Color) (sym c.in_ok-color-in-Color.was ∙ get_or_default c.self.inside.colors c.place_in-place.result c.index-self-place.result None within)
    ∙ read_at_row c.args.row c.row.result c.place_in-place.result type.Color c.value_type.result c.row.ensures.value c.row.ensures.limit c.place_in-place.ensures c.value_type.ensures c.in-Color.is
    (record { flags = c.self.inside.flags; link = c.self.inside.link; colors = c.self.inside.colors; line_kinds = c.self.inside.line_kinds }) c.args.self.now c.self.view_is

pub returns-in_err-kind-in-LineKind : goal.returns-in_err-kind-in-LineKind
unfolding places
returns-in_err-kind-in-LineKind c =
    let room : c.place_in-place.result < LINE_KINDS = room_at_row c.args.row c.row.result c.place_in-place.result type.LineKind c.value_type.result c.row.ensures.value c.row.ensures.limit c.place_in-place.ensures c.value_type.ensures c.in-LineKind.is in
    let within : c.place_in-place.result < length c.self.inside.line_kinds = omega arith in
    ap (option_map lent) c.from_residual-in_err-kind-in-LineKind.ensures
    ∙ ap (option_map LineKind) (sym c.in_err-kind-in-LineKind.was ∙ get_or_default c.self.inside.line_kinds c.place_in-place.result c.index-self-place-in-LineKind.result None within)
    ∙ read_at_row c.args.row c.row.result c.place_in-place.result type.LineKind c.value_type.result c.row.ensures.value c.row.ensures.limit c.place_in-place.ensures c.value_type.ensures c.in-LineKind.is
    (record { flags = c.self.inside.flags; link = c.self.inside.link; colors = c.self.inside.colors; line_kinds = c.self.inside.line_kinds }) c.args.self.now c.self.view_is

pub returns-in_ok-kind-in-LineKind : goal.returns-in_ok-kind-in-LineKind
unfolding places
returns-in_ok-kind-in-LineKind c =
    let room : c.place_in-place.result < LINE_KINDS = room_at_row c.args.row c.row.result c.place_in-place.result type.LineKind c.value_type.result c.row.ensures.value c.row.ensures.limit c.place_in-place.ensures c.value_type.ensures c.in-LineKind.is in
    let within : c.place_in-place.result < length c.self.inside.line_kinds = omega arith in
    ap (option_map LineKind) (sym c.in_ok-kind-in-LineKind.was ∙ get_or_default c.self.inside.line_kinds c.place_in-place.result c.index-self-place-in-LineKind.result None within)
    ∙ read_at_row c.args.row c.row.result c.place_in-place.result type.LineKind c.value_type.result c.row.ensures.value c.row.ensures.limit c.place_in-place.ensures c.value_type.ensures c.in-LineKind.is
    (record { flags = c.self.inside.flags; link = c.self.inside.link; colors = c.self.inside.colors; line_kinds = c.self.inside.line_kinds }) c.args.self.now c.self.view_is

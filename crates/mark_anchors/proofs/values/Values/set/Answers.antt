use Rattle.std.proofs.Common.{◌≡◌, ◌∙◌, ◌<◌, ℕ, List, Option, Some, length, set, ap, sym, refl, arith}
use Rattle.change_ops.specs.Keys.{type_of_row}
use Rattle.change_ops.specs.Values.{type_of}
use Rattle.change_ops.specs.declared.keys.ValueType.TheVariants as type
use Rattle.change_ops.specs.declared.value.Value.{Value}
use Rattle.change_ops.specs.declared.value.Value.TheVariants.{Link}
use Rattle.mark_anchors.specs.Values.{Stored, place_of, places}
use Rattle.mark_anchors.specs.declared.values.TheConstants.{FLAGS, COLORS, LINE_KINDS}
use Rattle.mark_anchors.proofs.Stores.{has_room, place_is, put_color, put_flag, put_line_kind, put_link, row_type, same_values_stored}
use Rattle.mark_anchors.proofs.values.Values.set.Goals as goal

pub listed : goal.listed
unfolding places
listed c =
    let at : place_of c.args.row ≡ c.place_in-place.result = place_is c.args.row c.place_in-place.result c.place_in-place.ensures in
    let is : type_of_row c.args.row ≡ type.Color = row_type c.args.row c.args.value.now type.Color c.requires.typed (ap type_of c.in-Color.is) in
    let room : place_of c.args.row < COLORS = has_room c.args.row c.requires.row type.Color is in
    omega arith

pub bounds-self-inside-place-in-Color : goal.bounds-self-inside-place-in-Color
unfolding places
bounds-self-inside-place-in-Color c =
    let at : place_of c.args.row ≡ c.place_in-place.result = place_is c.args.row c.place_in-place.result c.place_in-place.ensures in
    let is : type_of_row c.args.row ≡ type.Color = row_type c.args.row c.args.value.now type.Color c.requires.typed (ap type_of c.in-Color.is) in
    let room : place_of c.args.row < COLORS = has_room c.args.row c.requires.row type.Color is in
    omega arith

pub listed-in-LineKind : goal.listed-in-LineKind
unfolding places
listed-in-LineKind c =
    let at : place_of c.args.row ≡ c.place_in-place.result = place_is c.args.row c.place_in-place.result c.place_in-place.ensures in
    let is : type_of_row c.args.row ≡ type.LineKind = row_type c.args.row c.args.value.now type.LineKind c.requires.typed (ap type_of c.in-LineKind.is) in
    let room : place_of c.args.row < LINE_KINDS = has_room c.args.row c.requires.row type.LineKind is in
    omega arith

pub bounds-self-inside-place-in-LineKind : goal.bounds-self-inside-place-in-LineKind
unfolding places
bounds-self-inside-place-in-LineKind c =
    let at : place_of c.args.row ≡ c.place_in-place.result = place_is c.args.row c.place_in-place.result c.place_in-place.ensures in
    let is : type_of_row c.args.row ≡ type.LineKind = row_type c.args.row c.args.value.now type.LineKind c.requires.typed (ap type_of c.in-LineKind.is) in
    let room : place_of c.args.row < LINE_KINDS = has_room c.args.row c.requires.row type.LineKind is in
    omega arith

pub returns-in-Nothing : goal.returns-in-Nothing
unfolding places
returns-in-Nothing c =
    let s : Stored = record { flags = c.self.inside.flags; link = c.self.inside.link; colors = c.self.inside.colors; line_kinds = c.self.inside.line_kinds } in
    let at : place_of c.args.row ≡ c.place_in-place.result = place_is c.args.row c.place_in-place.result c.place_in-place.ensures in
    let is : type_of_row c.args.row ≡ type.Nothing = row_type c.args.row c.args.value.now type.Nothing c.requires.typed (ap type_of c.in-Nothing.is) in
    let room : place_of c.args.row < FLAGS = has_room c.args.row c.requires.row type.Nothing is in
    let within : c.place_in-place.result < length c.self.inside.flags = omega arith in
    let put = put_flag s c.args.row c.place_in-place.result c.requires.row at is within in
    cc (put, c.self.view_is, c.in-Nothing.is)

pub returns-in_ok-keep_link-in-Link : goal.returns-in_ok-keep_link-in-Link
unfolding places
returns-in_ok-keep_link-in-Link c =
    let s : Stored = record { flags = c.self.inside.flags; link = c.self.inside.link; colors = c.self.inside.colors; line_kinds = c.self.inside.line_kinds } in
    let at : place_of c.args.row ≡ c.place_in-place.result = place_is c.args.row c.place_in-place.result c.place_in-place.ensures in
    let is : type_of_row c.args.row ≡ type.Link = row_type c.args.row c.args.value.now type.Link c.requires.typed (ap type_of c.in-Link.is) in
    let link : List ℕ = c.in-Link.link in
    let put = put_link s c.args.row c.place_in-place.result c.requires.row at link is in
    same_values_stored s.flags c.keep_link.new.kept (Some link) s.colors s.colors s.line_kinds s.line_kinds c.in_ok-keep_link-in-Link.ensures refl refl ∙ put
    ∙ ap (λ (vs : List (Option Value)). set vs c.args.row (Some (Link link))) c.self.view_is
    ∙ ap (λ (v : Value). set c.args.self.now c.args.row (Some v)) (sym c.in-Link.is)

pub returns-in-Color : goal.returns-in-Color
unfolding places
returns-in-Color c =
    let s : Stored = record { flags = c.self.inside.flags; link = c.self.inside.link; colors = c.self.inside.colors; line_kinds = c.self.inside.line_kinds } in
    let at : place_of c.args.row ≡ c.place_in-place.result = place_is c.args.row c.place_in-place.result c.place_in-place.ensures in
    let is : type_of_row c.args.row ≡ type.Color = row_type c.args.row c.args.value.now type.Color c.requires.typed (ap type_of c.in-Color.is) in
    let room : place_of c.args.row < COLORS = has_room c.args.row c.requires.row type.Color is in
    let within : c.place_in-place.result < length c.self.inside.colors = omega arith in
    let put = put_color s c.args.row c.place_in-place.result c.requires.row at c.in-Color.color is within in
    cc (put, c.self.view_is, c.in-Color.is)

pub returns-in-LineKind : goal.returns-in-LineKind
unfolding places
returns-in-LineKind c =
    let s : Stored = record { flags = c.self.inside.flags; link = c.self.inside.link; colors = c.self.inside.colors; line_kinds = c.self.inside.line_kinds } in
    let at : place_of c.args.row ≡ c.place_in-place.result = place_is c.args.row c.place_in-place.result c.place_in-place.ensures in
    let is : type_of_row c.args.row ≡ type.LineKind = row_type c.args.row c.args.value.now type.LineKind c.requires.typed (ap type_of c.in-LineKind.is) in
    let room : place_of c.args.row < LINE_KINDS = has_room c.args.row c.requires.row type.LineKind is in
    let within : c.place_in-place.result < length c.self.inside.line_kinds = omega arith in
    let put = put_line_kind s c.args.row c.place_in-place.result c.requires.row at c.in-LineKind.kind is within in
    cc (put, c.self.view_is, c.in-LineKind.is)

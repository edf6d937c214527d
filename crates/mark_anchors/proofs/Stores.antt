-- The table of places: keys of one type have different places, and each place has its key. So what is stored of one key
-- is stored of no other.
use Rattle.std.proofs.Common.{inl, inr, ◌≡◌, ◌≢◌, ◌∙◌, ◌+◌, ◌<◌, ◌≤◌, ◌==◌, ◌&&◌, ℕ, zero, suc, Bool, true, false, cond, List, [], ◌∷◌, Option, Some, None, is_some, option_map, length, get_or, set, replicate, nat_lt, IsTrue, refl, sym, ap, subst, arith, ⊎_elim, ext_get_or, length-set, get_or-set_same, get_or-set_other}
use Rattle.std.specs.List.{list_all, range_with_len, slice_get}
use Rattle.std.proofs.lemmas.Option.{get_or_from_slice_get}
use Rattle.std.proofs.lemmas.Bool.{and_parts, cases_eq, cases_lt, lt-ltb}
use Rattle.std.proofs.lemmas.List.{get_or_past}
use Rattle.std.specs.Prelude.{nat_eq}
use Rattle.std.specs.Bool.{Decides, beq}
use Rattle.std.specs.Option.{option_eq}
use Rattle.std.specs.Cmp.{booleans_Decides, unsigned_Decides}
use Rattle.std.specs.Cmp.Lexicographic.{pointwise, pointwise_decides}
use Rattle.std.proofs.lemmas.Bool.Decides.{Decides-and, Decides-eqb, Decides-ltb}
use Rattle.std.proofs.lemmas.List.FromFn.{length-map-range_with_len, get_or-map-range_with_len}
use Rattle.change_ops.specs.Ids.{checked}
use Rattle.change_ops.specs.Keys.{is_row, types, type_of_row}
use Rattle.change_ops.specs.Values.{is_of_type, number_of_type, type_of}
use Rattle.change_ops.specs.declared.keys.TheConstants.{COLOR, KEYS, LINK}
use Rattle.change_ops.specs.declared.keys.ValueType.{ValueType}
use Rattle.change_ops.specs.declared.keys.ValueType.TheVariants as type
use Rattle.change_ops.specs.declared.value.Value.{Value}
use Rattle.change_ops.specs.declared.value.Value.TheVariants.{Nothing, Link, Color, LineKind}
use Rattle.mark_anchors.specs.Formatting.{rgb_of, target_of}
use Rattle.mark_anchors.specs.Values.{AreSized, Stored, flag_value, place_of, places, stored_at, stored_of, values_of}
use Rattle.mark_anchors.specs.declared.values.TheConstants.{FLAGS, COLORS, LINE_KINDS}
use Rattle.mark_anchors.proofs.Formats.{lists_Decides, options_Decides}

-- ---- the table
-- how many values of a type are stored
abbrev pub room_of : ValueType → ℕ
room_of type.Nothing = FLAGS
room_of type.Link = 1
room_of type.Color = COLORS
room_of type.LineKind = LINE_KINDS

is_at : ValueType → ℕ → ℕ → Bool
is_at type place row = (number_of_type (type_of_row row) == number_of_type type) && (place_of row == place)

first_at : ValueType → ℕ → List ℕ → ℕ
first_at type place [] = 0
first_at type place (row ∷ rows) = cond (is_at type place row) row (first_at type place rows)

rows : List ℕ
rows = range_with_len 0 KEYS

-- the key of a place
row_at : ValueType → ℕ → ℕ
row_at type place = first_at type place rows

-- the row's place has no other key, and there is room for it
is_placed : ℕ → Bool
is_placed row = (row_at (type_of_row row) (place_of row) == row) && nat_lt (place_of row) (room_of (type_of_row row))

-- the place has a key
is_used : ValueType → ℕ → Bool
is_used type place = is_at type place (row_at type place) && nat_lt (row_at type place) KEYS

all_placed : list_all is_placed (range_with_len 0 KEYS) ≡ true
unfolding types places is_placed row_at rows first_at is_at
all_placed = refl

all_used : (type : ValueType) → list_all (is_used type) (range_with_len 0 (room_of type)) ≡ true
unfolding types places is_used row_at rows first_at is_at
all_used type.Nothing = refl
all_used type.Link = refl
all_used type.Color = refl
all_used type.LineKind = refl

from_all : (test : ℕ → Bool) (a n k : ℕ) → list_all test (range_with_len a n) ≡ true → k < n → test (a + k) ≡ true
from_all test a zero k all less = absurd (omega arith)
from_all test a (suc n) zero all less =
    let at : a + 0 ≡ a = omega arith in
    ap test at ∙ (and_parts (test a) (list_all test (range_with_len (a + 1) n)) all).0
from_all test a (suc n) (suc k) all less =
    let at : a + suc k ≡ (a + 1) + k = omega arith in
    ap test at ∙ from_all test (a + 1) n k (and_parts (test a) (list_all test (range_with_len (a + 1) n)) all).1 (omega arith)

each_of : (test : ℕ → Bool) (n k : ℕ) → list_all test (range_with_len 0 n) ≡ true → k < n → test k ≡ true
each_of test n k all less = let at : k ≡ 0 + k = omega arith in ap test at ∙ from_all test 0 n k all less

type_numbered : ℕ → ValueType
type_numbered zero = type.Nothing
type_numbered (suc zero) = type.Link
type_numbered (suc (suc zero)) = type.Color
type_numbered (suc (suc (suc n))) = type.LineKind

type_from_number : (t : ValueType) → type_numbered (number_of_type t) ≡ t
unfolding type_numbered
type_from_number type.Nothing = refl
type_from_number type.Link = refl
type_from_number type.Color = refl
type_from_number type.LineKind = refl

pub same_type : (t u : ValueType) → number_of_type t ≡ number_of_type u → t ≡ u
same_type t u is = sym (type_from_number t) ∙ ap type_numbered is ∙ type_from_number u

module _ (row : ℕ) (less : row < KEYS) where
  placed_row : (row_at (type_of_row row) (place_of row) ≡ row) × (place_of row < room_of (type_of_row row))
  unfolding is_placed
  placed_row =
      let parts = and_parts (row_at (type_of_row row) (place_of row) == row) (nat_lt (place_of row) (room_of (type_of_row row))) (each_of is_placed KEYS row all_placed less) in
      ((Decides-eqb (row_at (type_of_row row) (place_of row)) row).0 parts.0, (Decides-ltb (place_of row) (room_of (type_of_row row))).0 parts.1)

  pub has_room : (t : ValueType) → type_of_row row ≡ t → place_of row < room_of t
  has_room t is = subst (λ z. place_of row < room_of z) is placed_row.1

-- a place of a type has a key
pub key_at : (t : ValueType) (place : ℕ) → place < room_of t → (row : ℕ) × (row < KEYS) × (type_of_row row ≡ t) × (place_of row ≡ place)
unfolding is_used is_at
key_at t place less =
    let row : ℕ = row_at t place in
    let used = and_parts (is_at t place row) (nat_lt row KEYS) (each_of (is_used t) (room_of t) place (all_used t) less) in
    let here = and_parts (number_of_type (type_of_row row) == number_of_type t) (place_of row == place) used.0 in (
      row,
      (Decides-ltb row KEYS).0 used.1,
      same_type (type_of_row row) t ((Decides-eqb (number_of_type (type_of_row row)) (number_of_type t)).0 here.0),
      (Decides-eqb (place_of row) place).0 here.1,
    )

-- keys of one type with one place are one
pub one_at : (row other : ℕ) → row < KEYS → other < KEYS → type_of_row other ≡ type_of_row row → place_of other ≡ place_of row → other ≡ row
one_at row other less within same at =
    sym (placed_row other within).0 ∙ ap (λ t. row_at t (place_of other)) same ∙ ap (row_at (type_of_row row)) at ∙ (placed_row row less).0

-- ---- what is stored of each key
pub value_stored : (s : Stored) (row : ℕ) → row < KEYS → get_or (values_of s) row None ≡ stored_of s row
value_stored s row less = get_or-map-range_with_len (stored_of s) 0 KEYS row row None less (omega arith)

pub value_at_place : (s : Stored) (row : ℕ) (t : ValueType) (place : ℕ) → row < KEYS → type_of_row row ≡ t → place_of row ≡ place → get_or (values_of s) row None ≡ stored_at s t place
value_at_place s row t place less is at = value_stored s row less ∙ ap (λ z. stored_at s z (place_of row)) is ∙ ap (stored_at s t) at

pub values_sized : (s : Stored) → length (values_of s) ≡ KEYS
values_sized s = length-map-range_with_len (stored_of s) 0 KEYS

-- a row beyond the last one has no value
beyond_rows : (row : ℕ) → checked is_row row ≡ None → KEYS ≤ row
beyond_rows row none = elim (cases_lt row KEYS) [
  | inl less ↦ absurd (let e = rw (lt-ltb _ _ less) at none in cc)
  | inr beyond ↦ beyond
]

pub none_beyond : (s : Stored) (values : List (Option Value)) (row : ℕ) → values ≡ values_of s → checked is_row row ≡ None → false ≡ is_some (get_or values row None)
none_beyond s values row is none =
    let sized : length values ≡ KEYS = ap length is ∙ values_sized s in
    let beyond : KEYS ≤ row = beyond_rows row none in
    sym (ap is_some (get_or_past values row None (omega (arith, sized, beyond))))

-- one value more is stored
put_value : (s t : Stored) (row : ℕ) (value : Value) → row < KEYS → stored_of t row ≡ Some value → ((other : ℕ) → other < KEYS → other ≢ row → stored_of t other ≡ stored_of s other) → values_of t ≡ set (values_of s) row (Some value)
put_value s t row value less new old =
    ext_get_or None (values_of t) (set (values_of s) row (Some value)) (values_sized t ∙ sym (length-set (values_of s) row (Some value) ∙ values_sized s))
    (λ other within.
    let sized : length (values_of t) ≡ KEYS = values_sized t in
    let also : length (values_of s) ≡ KEYS = values_sized s in
    let low : other < KEYS = omega arith in
    ⊎_elim
    (λ (same : other ≡ row).
    ap (λ k. get_or (values_of t) k None) same ∙ value_stored t row less ∙ new
    ∙ sym (ap (λ k. get_or (set (values_of s) row (Some value)) k None) same ∙ get_or-set_same (values_of s) row (Some value) None (omega arith)))
    (λ (apart : other ≡ row → ⊥). value_stored t other low ∙ old other low apart ∙ sym (value_stored s other low) ∙ sym (get_or-set_other (values_of s) row other (Some value) None apart))
    (cases_eq other row))

with_flag : Stored → ℕ → Stored
with_flag s place = record { flags = set s.flags place true; link = s.link; colors = s.colors; line_kinds = s.line_kinds }

flag_kept : (s : Stored) (place : ℕ) (t : ValueType) (other : ℕ) → (t ≡ type.Nothing → other ≢ place) → stored_at (with_flag s place) t other ≡ stored_at s t other
unfolding with_flag
flag_kept s place type.Nothing other apart = ap flag_value (get_or-set_other s.flags place other true false (apart refl))
flag_kept s place type.Link other apart = refl
flag_kept s place type.Color other apart = refl
flag_kept s place type.LineKind other apart = refl

with_link : Stored → List ℕ → Stored
with_link s target = record { flags = s.flags; link = Some target; colors = s.colors; line_kinds = s.line_kinds }

link_kept : (s : Stored) (target : List ℕ) (t : ValueType) (other : ℕ) → (t ≡ type.Link → ⊥) → stored_at (with_link s target) t other ≡ stored_at s t other
unfolding with_link
link_kept s target type.Nothing other not = refl
link_kept s target type.Link other not = absurd (not refl)
link_kept s target type.Color other not = refl
link_kept s target type.LineKind other not = refl

with_color : Stored → ℕ → ℕ → Stored
with_color s place rgb = record { flags = s.flags; link = s.link; colors = set s.colors place (Some rgb); line_kinds = s.line_kinds }

color_kept : (s : Stored) (place rgb : ℕ) (t : ValueType) (other : ℕ) → (t ≡ type.Color → other ≢ place) → stored_at (with_color s place rgb) t other ≡ stored_at s t other
unfolding with_color
color_kept s place rgb type.Nothing other apart = refl
color_kept s place rgb type.Link other apart = refl
color_kept s place rgb type.Color other apart = ap (option_map Color) (get_or-set_other s.colors place other (Some rgb) None (apart refl))
color_kept s place rgb type.LineKind other apart = refl

with_line_kind : Stored → ℕ → ℕ → Stored
with_line_kind s place kind = record { flags = s.flags; link = s.link; colors = s.colors; line_kinds = set s.line_kinds place (Some kind) }

line_kind_kept : (s : Stored) (place kind : ℕ) (t : ValueType) (other : ℕ) → (t ≡ type.LineKind → other ≢ place) → stored_at (with_line_kind s place kind) t other ≡ stored_at s t other
unfolding with_line_kind
line_kind_kept s place kind type.Nothing other apart = refl
line_kind_kept s place kind type.Link other apart = refl
line_kind_kept s place kind type.Color other apart = refl
line_kind_kept s place kind type.LineKind other apart = ap (option_map LineKind) (get_or-set_other s.line_kinds place other (Some kind) None (apart refl))

module _ (s : Stored) (row place : ℕ) (less : row < KEYS) (at : place_of row ≡ place) where
  apart_of : (t : ValueType) → type_of_row row ≡ t → (other : ℕ) → other < KEYS → other ≢ row → type_of_row other ≡ t → place_of other ≢ place
  apart_of t is other within apart same stands = apart (one_at row other less within (same ∙ sym is) (stands ∙ sym at))

  pub put_flag : type_of_row row ≡ type.Nothing → place < length s.flags → values_of (record { flags = set s.flags place true; link = s.link; colors = s.colors; line_kinds = s.line_kinds }) ≡ set (values_of s) row (Some Nothing)
  unfolding with_flag
  put_flag is within =
      put_value s (with_flag s place) row Nothing less
      (ap (λ z. stored_at (with_flag s place) z (place_of row)) is ∙ ap (stored_at (with_flag s place) type.Nothing) at ∙ ap flag_value (get_or-set_same s.flags place true false within))
      (λ other low apart. flag_kept s place (type_of_row other) (place_of other) (apart_of type.Nothing is other low apart))

  pub put_link : (target : List ℕ) → type_of_row row ≡ type.Link → values_of (record { flags = s.flags; link = Some target; colors = s.colors; line_kinds = s.line_kinds }) ≡ set (values_of s) row (Some (Link target))
  unfolding with_link
  put_link target is =
      put_value s (with_link s target) row (Link target) less
      (ap (λ z. stored_at (with_link s target) z (place_of row)) is)
      (λ other low apart.
      link_kept s target (type_of_row other) (place_of other)
      (λ same.
      let here : place_of row < 1 = has_room row less type.Link is in
      let there : place_of other < 1 = has_room other low type.Link same in
      let one : place_of other ≡ place_of row = omega arith in
      apart (one_at row other less low (same ∙ sym is) one)))

  pub put_color : (rgb : ℕ) → type_of_row row ≡ type.Color → place < length s.colors → values_of (record { flags = s.flags; link = s.link; colors = set s.colors place (Some rgb); line_kinds = s.line_kinds }) ≡ set (values_of s) row (Some (Color rgb))
  unfolding with_color
  put_color rgb is within =
      put_value s (with_color s place rgb) row (Color rgb) less
      (ap (λ z. stored_at (with_color s place rgb) z (place_of row)) is ∙ ap (stored_at (with_color s place rgb) type.Color) at
      ∙ ap (option_map Color) (get_or-set_same s.colors place (Some rgb) None within))
      (λ other low apart. color_kept s place rgb (type_of_row other) (place_of other) (apart_of type.Color is other low apart))

  pub put_line_kind : (kind : ℕ) → type_of_row row ≡ type.LineKind → place < length s.line_kinds → values_of (record { flags = s.flags; link = s.link; colors = s.colors; line_kinds = set s.line_kinds place (Some kind) }) ≡ set (values_of s) row (Some (LineKind kind))
  unfolding with_line_kind
  put_line_kind kind is within =
      put_value s (with_line_kind s place kind) row (LineKind kind) less
      (ap (λ z. stored_at (with_line_kind s place kind) z (place_of row)) is ∙ ap (stored_at (with_line_kind s place kind) type.LineKind) at
      ∙ ap (option_map LineKind) (get_or-set_same s.line_kinds place (Some kind) None within))
      (λ other low apart. line_kind_kept s place kind (type_of_row other) (place_of other) (apart_of type.LineKind is other low apart))

-- ---- what is stored is told by the values
kind_of : Option Value → Option ℕ
kind_of None = None
kind_of (Some Nothing) = None
kind_of (Some (Link target)) = None
kind_of (Some (Color rgb)) = None
kind_of (Some (LineKind kind)) = Some kind

flag_told : (b : Bool) → is_some (flag_value b) ≡ b
flag_told true = refl
flag_told false = refl

pub target_told : (o : Option (List ℕ)) → target_of (option_map Link o) ≡ o
target_told None = refl
target_told (Some target) = refl

pub rgb_told : (o : Option ℕ) → rgb_of (option_map Color o) ≡ o
rgb_told None = refl
rgb_told (Some rgb) = refl

kind_told : (o : Option ℕ) → kind_of (option_map LineKind o) ≡ o
unfolding kind_of
kind_told None = refl
kind_told (Some kind) = refl

module _ (s t : Stored) (same : values_of s ≡ values_of t) where
  stored_alike : (type : ValueType) (place : ℕ) → (row : ℕ) × (row < KEYS) × (type_of_row row ≡ type) × (place_of row ≡ place) → stored_at s type place ≡ stored_at t type place
  stored_alike type place key =
      sym (value_at_place s key.0 type place key.1 key.2 key.3) ∙ ap (λ (vs : List (Option Value)). get_or vs key.0 None) same ∙ value_at_place t key.0 type place key.1 key.2 key.3

  pub same_flags : length s.flags ≡ FLAGS → length t.flags ≡ FLAGS → s.flags ≡ t.flags
  same_flags sized also =
      ext_get_or false s.flags t.flags (sized ∙ sym also)
      (λ place within.
      sym (flag_told (get_or s.flags place false)) ∙ ap is_some (stored_alike type.Nothing place (key_at type.Nothing place (omega arith))) ∙ flag_told (get_or t.flags place false))

  pub same_link : s.link ≡ t.link
  same_link = sym (target_told s.link) ∙ ap target_of (stored_alike type.Link 0 (key_at type.Link 0 (omega arith))) ∙ target_told t.link

  pub same_colors : length s.colors ≡ COLORS → length t.colors ≡ COLORS → s.colors ≡ t.colors
  same_colors sized also =
      ext_get_or None s.colors t.colors (sized ∙ sym also)
      (λ place within.
      sym (rgb_told (get_or s.colors place None)) ∙ ap rgb_of (stored_alike type.Color place (key_at type.Color place (omega arith))) ∙ rgb_told (get_or t.colors place None))

  pub same_line_kinds : length s.line_kinds ≡ LINE_KINDS → length t.line_kinds ≡ LINE_KINDS → s.line_kinds ≡ t.line_kinds
  same_line_kinds sized also =
      ext_get_or None s.line_kinds t.line_kinds (sized ∙ sym also)
      (λ place within.
      sym (kind_told (get_or s.line_kinds place None)) ∙ ap kind_of (stored_alike type.LineKind place (key_at type.LineKind place (omega arith))) ∙ kind_told (get_or t.line_kinds place None))

-- ---- nothing is stored, and the keys that a program's context knows
pub none_stored : values_of (record { flags = replicate FLAGS false; link = None; colors = replicate COLORS None; line_kinds = replicate LINE_KINDS None }) ≡ replicate KEYS None
unfolding types places
none_stored = refl

pub link_stored : (s : Stored) → target_of (get_or (values_of s) LINK None) ≡ s.link
unfolding types places
link_stored s = target_told s.link

pub color_stored : (s : Stored) → rgb_of (get_or (values_of s) COLOR None) ≡ get_or s.colors 0 None
unfolding types places
color_stored s = rgb_told (get_or s.colors 0 None)

-- ---- a row's type and place
pub row_type : (row : ℕ) (v : Value) (t : ValueType) → IsTrue (is_of_type (type_of_row row) v) → type_of v ≡ t → type_of_row row ≡ t
row_type row v t typed is = sym (same_type (type_of v) (type_of_row row) ((Decides-eqb (number_of_type (type_of v)) (number_of_type (type_of_row row))).0 typed)) ∙ is

pub place_is : (row place : ℕ) → slice_get places row ≡ Some place → place_of row ≡ place
place_is row place at = get_or_from_slice_get places row place 0 at

module _ (row r place : ℕ) (t u : ValueType) (same : r ≡ row) (less : r < KEYS) (at : slice_get places r ≡ Some place) (of_row : u ≡ type_of_row row) (is : u ≡ t) where
  low : row < KEYS
  low = subst (λ z. z < KEYS) same less

  stands : place_of row ≡ place
  stands = place_is row place (subst (λ z. slice_get places z ≡ Some place) same at)

  pub room_at_row : place < room_of t
  room_at_row = subst (λ z. z < room_of t) stands (has_room row low t (sym of_row ∙ is))

  pub read_at_row : (s : Stored) (vs : List (Option Value)) → values_of s ≡ vs → stored_at s t place ≡ get_or vs row None
  read_at_row s vs view = sym (value_at_place s row t place low (sym of_row ∙ is) stands) ∙ ap (λ (l : List (Option Value)). get_or l row None) view

-- ---- `==` by what is stored
same_stored : (s t : Stored) → s.flags ≡ t.flags → s.link ≡ t.link → s.colors ≡ t.colors → s.line_kinds ≡ t.line_kinds → s ≡ t
same_stored s t flags link colors line_kinds = λ i. record { flags = flags i; link = link i; colors = colors i; line_kinds = line_kinds i }

abbrev pub fields_eq : Stored → Stored → Bool
fields_eq s t =
    pointwise beq s.flags t.flags
    && (option_eq (pointwise nat_eq) s.link t.link && (pointwise (option_eq nat_eq) s.colors t.colors && pointwise (option_eq nat_eq) s.line_kinds t.line_kinds))

pub fields_Decides : (s t : Stored) → AreSized s → AreSized t → Decides (fields_eq s t) (values_of s ≡ values_of t)
fields_Decides s t sized also =
    let all =
    Decides-and _ _ (pointwise_decides booleans_Decides s.flags t.flags)
    (Decides-and _ _ (options_Decides (pointwise nat_eq) lists_Decides s.link t.link)
    (Decides-and _ _ (pointwise_decides (options_Decides nat_eq unsigned_Decides) s.colors t.colors)
    (pointwise_decides (options_Decides nat_eq unsigned_Decides) s.line_kinds t.line_kinds))) in (
      λ e. let f = all.0 e in ap values_of (same_stored s t f.0 f.1.0 f.1.1.0 f.1.1.1),
      λ e. all.1 (same_flags s t e sized.flags also.flags, (same_link s t e, (same_colors s t e sized.colors also.colors, same_line_kinds s t e sized.line_kinds also.line_kinds))),
    )

pub same_values_stored : (flags : List Bool) (link link' : Option (List ℕ)) (colors colors' line_kinds line_kinds' : List (Option ℕ)) → link ≡ link' → colors ≡ colors' → line_kinds ≡ line_kinds' → values_of (record { flags = flags; link = link; colors = colors; line_kinds = line_kinds }) ≡ values_of (record { flags = flags; link = link'; colors = colors'; line_kinds = line_kinds' })
same_values_stored flags link link' colors colors' line_kinds line_kinds' a b c = λ i. values_of (record { flags = flags; link = a i; colors = b i; line_kinds = c i })

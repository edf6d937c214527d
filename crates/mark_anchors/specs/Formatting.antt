-- A character's format as one value, and when two are equal.
use Rattle.std.specs.Prelude.{ℕ, List, [], ◌∷◌, Option, Some, None, nat_eq, Bool, replicate, is_some, slice_index_or}
use Rattle.std.specs.Ordering.{on, eq_of_both}
use Rattle.std.specs.Option.{option_eq}
use Rattle.std.specs.Cmp.{IsEquivalence, on_equiv, and_equiv}
use Rattle.std.specs.Cmp.Lexicographic.{pointwise, lists_equiv, options_equiv, nat_list_eq_equiv}
use Rattle.change_ops.specs.declared.keys.TheConstants.{KEYS, LINK, COLOR}
use Rattle.change_ops.specs.declared.value.Value.{Value}
use Rattle.change_ops.specs.declared.value.Value.TheVariants as value

-- what holds of each key: the values of the keys of one value, by their rows, and the comments' numbers, rising
pub record Format : Type 0 where
  pub values : List (Option Value)
  pub comments : List ℕ

-- no key holds
abbrev pub plain : Format
plain = record { values = replicate KEYS None; comments = [] }

abbrev pub value_in : Format → ℕ → Option Value
value_in format row = slice_index_or format.values row None

-- the row's key holds
abbrev pub has : Format → ℕ → Bool
has format row = is_some (value_in format row)

-- the target of a link, and the number of a color
abbrev pub target_of : Option Value → Option (List ℕ)
target_of None = None
target_of (Some value.Nothing) = None
target_of (Some (value.Link target)) = Some target
target_of (Some (value.Color rgb)) = None
target_of (Some (value.LineKind kind)) = None

abbrev pub rgb_of : Option Value → Option ℕ
rgb_of None = None
rgb_of (Some value.Nothing) = None
rgb_of (Some (value.Link target)) = None
rgb_of (Some (value.Color rgb)) = Some rgb
rgb_of (Some (value.LineKind kind)) = None

abbrev pub link_in : Format → Option (List ℕ)
link_in format = target_of (value_in format LINK)

abbrev pub color_in : Format → Option ℕ
color_in format = rgb_of (value_in format COLOR)

-- a value as numbers, its type's first
abbrev pub numbers_of : Value → List ℕ
numbers_of value.Nothing = 0 ∷ []
numbers_of (value.Link target) = 1 ∷ target
numbers_of (value.Color rgb) = 2 ∷ rgb ∷ []
numbers_of (value.LineKind kind) = 3 ∷ kind ∷ []

-- `==`, value by value
abbrev pub value_eq : Value → Value → Bool
value_eq = on numbers_of (pointwise nat_eq)

abbrev pub values_eq : List (Option Value) → List (Option Value) → Bool
values_eq = pointwise (option_eq value_eq)

pub values_eq_equiv : IsEquivalence values_eq
values_eq_equiv = lists_equiv (options_equiv (on_equiv numbers_of nat_list_eq_equiv))

abbrev pub formatting_eq : Format → Format → Bool
formatting_eq = eq_of_both (on (λ f. f.values) values_eq) (on (λ f. f.comments) (pointwise nat_eq))

pub formatting_eq_equiv : IsEquivalence formatting_eq
formatting_eq_equiv =
    and_equiv (on_equiv (λ f. f.values) values_eq_equiv) (on_equiv (λ f. f.comments) nat_list_eq_equiv)

-- Where spans, or characters, meet.
use Rattle.std.specs.Prelude.{◌≡◌, ◌≢◌, ℕ, ◌+◌, List, Some, length, slice_get}
use Rattle.span_flatten.specs.Spans.{Shown, Span}

-- the last span of the first ones has another format than the first of the second ones, where there are both
abbrev pub Apart : List Span → List Span → Type 0
Apart before after =
    (i : ℕ) (x y : Span) → i + 1 ≡ length before → slice_get before i ≡ Some x → slice_get after 0 ≡ Some y
    → x.format ≢ y.format

-- the same of characters
abbrev pub CharactersApart : List Shown → List Shown → Type 0
CharactersApart before after =
    (i : ℕ) (x y : Shown) → i + 1 ≡ length before → slice_get before i ≡ Some x → slice_get after 0 ≡ Some y
    → x.format ≢ y.format

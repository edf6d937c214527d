-- The visible text of elements (Peritext, CSCW 2022).
use Rattle.std.specs.Prelude.{◌≡◌, ℕ, ◌+◌, ◌<◌, ◌≤◌, true, List, Some, map, length, slice_get, slice_range}
use Rattle.std.specs.Prelude.{encode_utf8_all}
use Rattle.std.specs.List.{filter, count_by}
use Rattle.char_sequence.specs.declared.sequence.Element.{Element}

-- the visible characters in order, as UTF-8
unfoldable pub visible_text : List Element → List ℕ
visible_text es = encode_utf8_all (map (λ e. e.character) (filter (λ e. e.visible) es))

-- how many bytes all characters have, hidden ones too
abbrev pub all_bytes : List Element → ℕ
all_bytes es = length (encode_utf8_all (map (λ e. e.character) es))

-- how many of the characters are visible
abbrev pub visible_count : List Element → ℕ
visible_count es = count_by (λ e. e.visible) es

-- at the place stands a visible character
abbrev pub IsVisibleAt : List Element → ℕ → Type 0
IsVisibleAt es place = (e : Element) × (slice_get es place ≡ Some e) × (e.visible ≡ true)

-- a visible character stands there, before the place, and none between them
pub record IsLastVisible (es : List Element) (place at : ℕ) : Type 0 where
  pub before : at < place
  pub visible : IsVisibleAt es at
  pub none : visible_count (slice_range es (at + 1) place) ≡ 0

-- a visible character stands there, at the place or behind it, and none between them
pub record IsFirstVisible (es : List Element) (place at : ℕ) : Type 0 where
  pub reached : place ≤ at
  pub visible : IsVisibleAt es at
  pub none : visible_count (slice_range es place at) ≡ 0

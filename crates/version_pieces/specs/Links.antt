-- Links of spans, which a program may read.
use Rattle.std.specs.Prelude.{◌≡◌, ℕ, List, IfSome, IsTrue, Some, slice_get}
use Rattle.change_ops.specs.Attributes.{is_link}
use Rattle.mark_anchors.specs.Formatting.{Format, link_in}
use Rattle.span_flatten.specs.Spans.{Span}

-- if a character of the format has a link, it is one
abbrev pub IsLinked : Format → Type 0
IsLinked format = IfSome (link_in format) (λ target. IsTrue (is_link target))

-- if the span has a link, it is one
abbrev pub HasLink : Span → Type 0
HasLink span = IsLinked span.format

-- each of the spans has none or one
abbrev pub HaveLinks : List Span → Type 0
HaveLinks spans = (i : ℕ) (span : Span) → slice_get spans i ≡ Some span → HasLink span

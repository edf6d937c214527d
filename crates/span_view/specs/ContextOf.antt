-- What a span lends to a program: its context, its text and the text of its link.
use Rattle.std.specs.Prelude.{ℕ, ◌+◌, Bool, List, [], length, chars, is_some, unwrap_or, nat_lt, if◌then◌else◌}
use Rattle.span_context.specs.declared.context.Facts.{Facts}
use Rattle.span_context.specs.Context.{SpanBytes, span_bytes, context_bytes}
use Rattle.change_ops.specs.declared.keys.TheConstants.{STRONG, EM, CODE}
use Rattle.mark_anchors.specs.Formatting.{Format, has, link_in, color_in}
use Rattle.span_view.specs.Views.{SpanView}

-- a flag is its bit where the fact holds, else 0
abbrev pub flag : Bool → ℕ → ℕ
flag holds bit = if holds then bit else 0

-- 1 strong, 2 em, 4 a link, 8 a color, 16 at least one comment, 32 code; other keys have none
abbrev pub flags_of : Format → ℕ
flags_of format =
    flag (has format STRONG) 1 + flag (has format EM) 2 + flag (is_some (link_in format)) 4
    + flag (is_some (color_in format)) 8 + flag (nat_lt 0 (length format.comments)) 16 + flag (has format CODE) 32

-- the text of the span's link, none where it has no link
abbrev pub link_of : SpanView → List ℕ
link_of span = unwrap_or (link_in span.format) []

-- lengths are in bytes; a color or a link that is not there counts as 0
abbrev pub facts_of : SpanView → Facts
facts_of span = record {
  text_len = length span.text;
  characters = length (chars span.text);
  flags = flags_of span.format;
  color = unwrap_or (color_in span.format) 0;
  link_len = length (link_of span);
  comments = length span.format.comments;
  index = span.index;
  count = span.count;
  version = span.version;
}

abbrev pub context_of : SpanView → List ℕ
context_of span = context_bytes (facts_of span)

abbrev pub bytes_of : SpanView → SpanBytes
bytes_of span = span_bytes (context_of span) span.text (link_of span)

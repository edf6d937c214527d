-- What a case says of its span beside the text, and what a program sees of that.
use Rattle.std.specs.Prelude.{ℕ, ◌+◌, ◌*◌, ◌^◌, ◌==◌, nat_lt, not, true, false, if◌then◌else◌, List, [], ◌∷◌}
use Rattle.std.specs.Prelude.{length, codes, Option, Some, None, is_some, unwrap_or, Result, Ok}
use Rattle.std.specs.Option.{option_map}
use Rattle.std.specs.Str.{bytes_eq, chars}
use Rattle.hex.specs.Hex.{decode_of}
use Rattle.hex.specs.declared.error.FromHexError.{FromHexError}
use Rattle.span_context.specs.declared.context.Facts.{Facts}
use Rattle.span_context.specs.Context.{SpanBytes, span_bytes, context_bytes}
use Rattle.change_ops.specs.Attributes.{is_link}
use Rattle.change_ops.specs.Ids.{checked}
use Rattle.change_ops.specs.Words.{split, number_in, small}
use Rattle.change_ops.specs.Reading.{◌>>=◌}
use Rattle.filter_cases.specs.declared.marks.Marks.{Marks}

-- of a span of which nothing is said: the only one of its version
abbrev pub plain : Marks
plain = record {
  strong = false;
  em = false;
  code = false;
  link = None;
  color = None;
  comments = 0;
  index = 0;
  count = 1;
  version = 0;
}

-- ---- what a program sees (docs/PROGRAMS.md, "The machine")
abbrev pub flags_of : Marks → ℕ
flags_of marks =
    (if marks.strong then 1 else 0) + (if marks.em then 2 else 0) + (if is_some marks.link then 4 else 0)
    + (if is_some marks.color then 8 else 0) + (if not (marks.comments == 0) then 16 else 0)
    + (if marks.code then 32 else 0)

-- the text of the link, none where there is no link
abbrev pub link_of : Marks → List ℕ
link_of marks = unwrap_or marks.link []

abbrev pub facts_of : Marks → List ℕ → Facts
facts_of marks text = record {
  text_len = length text;
  characters = length (chars text);
  flags = flags_of marks;
  color = unwrap_or marks.color 0;
  link_len = length (link_of marks);
  comments = marks.comments;
  index = marks.index;
  count = marks.count;
  version = marks.version;
}

-- what the span with this text lends to a run
abbrev pub bytes_of : Marks → List ℕ → SpanBytes
bytes_of marks text = span_bytes (context_bytes (facts_of marks text)) text (link_of marks)

-- ---- the words of a case's line
-- a number of 32 bits in decimal, without leading zeros
abbrev pub short_number : List ℕ → Option ℕ
short_number word = do
  number ← small (number_in 10 word)
  if nat_lt number (2 ^ 32) then Some number else None

-- red, green and blue
abbrev pub color_in : Result (List ℕ) FromHexError → Option ℕ
color_in (Ok (red ∷ green ∷ blue ∷ [])) = Some (65536 * red + 256 * green + blue)
color_in _ = None

-- what is said by a key and a number
unfoldable pub number_at : Marks → List ℕ → List ℕ → Option Marks
number_at marks key value =
    if bytes_eq key (codes "version")
    then option_map (λ number. record marks { version = number }) (small (number_in 10 value)) else (do
      number ← short_number value
      if bytes_eq key (codes "comments") then Some (record marks { comments = number })
          else if bytes_eq key (codes "index") then Some (record marks { index = number })
          else if bytes_eq key (codes "count") then Some (record marks { count = number }) else None)

-- what is said by a key and a value
unfoldable pub value_at : Marks → List ℕ → List ℕ → Option Marks
value_at marks key value =
    if bytes_eq key (codes "link")
    then option_map (λ target. record marks { link = Some target }) (checked is_link value)
    else if bytes_eq key (codes "color")
    then option_map (λ color. record marks { color = Some color }) (color_in (decode_of value))
    else number_at marks key value

unfoldable pub key_at : Marks → List ℕ → Option Marks
key_at marks word = do
  parts ← split 61 word
  value_at marks parts.0 parts.1

-- these marks, and what a word says further
unfoldable pub mark_at : Marks → List ℕ → Option Marks
mark_at marks word =
    if bytes_eq word (codes "strong") then Some (record marks { strong = true }) else
    if bytes_eq word (codes "em") then Some (record marks { em = true }) else
    if bytes_eq word (codes "code") then Some (record marks { code = true }) else key_at marks word

-- The lines that the spans of a version are printed as, as UTF-8.
use Rattle.std.specs.Prelude.{ℕ, ◌-◌, ◌==◌, if◌then◌else◌, Bool, true, List, [], ◌∷◌, ◌++◌, map, take, drop, Option}
use Rattle.std.specs.Prelude.{Some, None, codes}
use Rattle.std.specs.List.{flat_map, enumerate_from, range_with_len}
use Rattle.std.specs.Fmt.{decimal}
use Rattle.change_ops.specs.Spelling.{◌␣◌, last_digits}
use Rattle.change_ops.specs.Keys.{word_of}
use Rattle.change_ops.specs.LineKinds.{word_of_kind}
use Rattle.change_ops.specs.declared.keys.TheConstants.{KEYS}
use Rattle.change_ops.specs.declared.value.Value.{Value}
use Rattle.change_ops.specs.declared.value.Value.TheVariants as value
use Rattle.mark_anchors.specs.Formatting.{Format, value_in}
use Rattle.span_lines.specs.declared.printing.TheConstants.{BEFORE_COMMENTS}
use Rattle.span_flatten.specs.Spans.{Span}
use Rattle.span_flatten.specs.Version.{Version}
use Rattle.span_view.specs.Views.{SpanView, views}

-- what stands behind the word of a key; a color has six digits, leading zeros too
abbrev pub value_text : Value → List ℕ
value_text value.Nothing = []
value_text (value.Link target) = codes "=" ++ target
value_text (value.Color rgb) = codes "=" ++ last_digits 6 rgb
value_text (value.LineKind kind) = codes "=" ++ word_of_kind kind

-- the key of a row with its value, where it holds
abbrev pub key_with : ℕ → Option Value → List (List ℕ)
key_with row None = []
key_with row (Some value) = (word_of row ++ value_text value) ∷ []

-- those of the rows from one on
abbrev pub row_keys : Format → ℕ → ℕ → List (List ℕ)
row_keys format first count = flat_map (λ row. key_with row (value_in format row)) (range_with_len first count)

abbrev pub comment_key : ℕ → List ℕ
comment_key number = codes "comment:" ++ decimal number

-- the keys that hold, with their values, in the order in which they are printed: those of the first two forms, and
-- behind them the others, to a reader that knows these
abbrev pub keys_of : Bool → Format → List (List ℕ)
keys_of further format =
    row_keys format 0 BEFORE_COMMENTS ++ map comment_key format.comments
    ++ (if further then row_keys format BEFORE_COMMENTS (KEYS - BEFORE_COMMENTS) else [])

-- a comma before each key
abbrev pub behind_commas : List (List ℕ) → List ℕ
behind_commas keys = flat_map (λ key. 44 ∷ key) keys

-- a comma between each two keys, and one before the first where another key stands before it
abbrev pub parted : Bool → List (List ℕ) → List ℕ
parted behind [] = []
parted behind (key ∷ keys) = (if behind then 44 ∷ [] else []) ++ key ++ behind_commas keys

-- whether a key stands before what comes behind these
abbrev pub begun : Bool → List (List ℕ) → Bool
begun behind [] = behind
begun behind (key ∷ keys) = true

-- the keys with a comma between each two, `plain` where there is none
abbrev pub keys_text : List (List ℕ) → List ℕ
keys_text [] = codes "plain"
keys_text (key ∷ keys) = key ++ behind_commas keys

abbrev pub format_text : Bool → Format → List ℕ
format_text further format = keys_text (keys_of further format)

-- a byte of a text as it is printed: a line feed and a backslash are escaped
abbrev pub escaped_byte : ℕ → List ℕ
escaped_byte byte = if byte == 10 then codes "\\n" else if byte == 92 then codes "\\\\" else byte ∷ []

abbrev pub escaped : List ℕ → List ℕ
escaped text = flat_map escaped_byte text

-- the line of the span of this index, with its LF: the index, the format and the text
abbrev pub span_line : Bool → ℕ → Span → List ℕ
span_line further index span = (decimal index ␣ format_text further span.format ␣ escaped span.text) ++ 10 ∷ []

-- the line of a span as it is lent
abbrev pub lent_line : Bool → SpanView → List ℕ
lent_line further lent = span_line further lent.index (record { text = lent.text; format = lent.format })

-- the lines of the spans, from index 0, with all keys
abbrev pub span_lines : List Span → List ℕ
span_lines spans = flat_map (λ indexed. span_line true indexed.0 indexed.1) (enumerate_from 0 spans)

-- the same behind a word, where other lines stand beside it
abbrev pub named_line : Bool → SpanView → List ℕ
named_line further lent = codes "span " ++ lent_line further lent

-- `most` spans of a version, from the index `first` on, or as many as there are
abbrev pub some_lines : Bool → ℕ → ℕ → Version → List ℕ
some_lines further first most version = flat_map (named_line further) (take most (drop first (views version)))

-- A version as the characters of a text and the runs of their formats.
use Rattle.std.specs.Prelude.{◌≡◌, ℕ, List, [], ◌∷◌, drop, encode_utf8_all, length, take}
use Rattle.mark_anchors.specs.Formatting.{Format}
use Rattle.span_flatten.specs.Spans.{Span}
use Rattle.text_pieces.specs.Texts.{AreCharacters}
use Rattle.format_runs.specs.Runs.{Run, AreMaximal, character_count}
use Rattle.version_glyphs.specs.Glyphs.{Glyph}

-- a span for each run, which takes its characters from the text
abbrev pub spans_along : List Run → List ℕ → List Span
spans_along [] characters = []
spans_along (run ∷ runs) characters =
    record { text = encode_utf8_all (take run.characters characters); format = run.format }
    ∷ spans_along runs (drop run.characters characters)

-- characters, each with its format
abbrev pub paired : List ℕ → List Format → List Glyph
paired [] formats = []
paired (c ∷ cs) [] = []
paired (c ∷ cs) (f ∷ fs) = record { character = c; format = f } ∷ paired cs fs

-- what spans keep: the characters are those of a text, the runs are maximal, and each character has a format
pub record IsAlong (characters : List ℕ) (runs : List Run) : Type 0 where
  pub spelt : AreCharacters characters
  pub maximal : AreMaximal runs
  pub whole : character_count runs ≡ length characters

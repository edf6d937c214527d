-- Windows that can be put in place of characters.
use Rattle.std.specs.Prelude.{◌≤◌, ◌+◌, List, All, length}
use Rattle.version_glyphs.specs.Glyphs.{Glyph}
use Rattle.version_glyphs.specs.Replacements.{brought}
use Rattle.version_glyphs.specs.Replacements.{AreEdged, AreInOrder, HasMaximalSpans}
use Rattle.version_glyphs.specs.declared.replacement.Replacement.{Replacement}

-- the windows' places are among the characters, their spans are maximal, and with what they bring there are few
-- characters
pub record CanTake (characters : List Glyph) (windows : List Replacement) : Type 0 where
  pub order : AreInOrder windows 0 (length characters)
  pub spans : All HasMaximalSpans windows
  pub edged : AreEdged characters windows
  pub few : length characters + brought windows ≤ 262144

use Rattle.std.proofs.Common.{◌≡◌, ◌+◌, ◌++◌, ℕ, List, length, IsUtf8}
use Rattle.std.specs.Str.{chars}
use Rattle.std.specs.Str.Iter.{chars_rest}
use Rattle.text_pieces.proofs.split.split_characters.Given as goal

abbrev pub invariant-loop-index : goal.invariant-loop-index
invariant-loop-index l = record {
  whole : (before : List ℕ) × (l.text ≡ before ++ chars_rest l.rest);
  utf8 : IsUtf8 (chars_rest l.rest);
  count : length (chars (chars_rest l.rest)) + l.index ≡ length (chars l.text);
}

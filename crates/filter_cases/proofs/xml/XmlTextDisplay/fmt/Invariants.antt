use Rattle.std.proofs.Common.{◌≡◌, ◌++◌, ℕ, List, IsUtf8, chars}
use Rattle.std.specs.List.{flat_map}
use Rattle.std.specs.Fmt.{HasWritten, IsPlainFormatter}
use Rattle.std.specs.Str.Iter.{chars_rest}
use Rattle.filter_cases.specs.Xml.{xml_character, xml_text}
use Rattle.filter_cases.proofs.xml.XmlTextDisplay.fmt.Given as goal

abbrev pub invariant-loop-character : goal.invariant-loop-character
invariant-loop-character g l = record {
  legible : IsUtf8 (chars_rest l.character-iterator);
  written : IsPlainFormatter l.initial.f → (done : List ℕ) × HasWritten g.W.Write.write_str_gives l.initial.f done l.f
      × (done ++ flat_map xml_character (chars (chars_rest l.character-iterator)) ≡ xml_text l.fn.self.0.now);
}

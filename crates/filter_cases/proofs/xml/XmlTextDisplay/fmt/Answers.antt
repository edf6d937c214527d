use Rattle.std.proofs.Common.{◌++◌, rules, sym, ◌∙◌, append_assoc}
use Rattle.std.proofs.Output.{has_written_append, has_written_of_eq}
use Rattle.std.proofs.lemmas.List.{append-nil}
use Rattle.std.proofs.lemmas.Str.{IsUtf8-past_char, chars_past_char}
use Rattle.std.proofs.StrCases.{chars_of_empty}
use Rattle.filter_cases.specs.Xml.{xml_character}
use Rattle.filter_cases.proofs.xml.XmlTextDisplay.fmt.Goals as goal

pub loop-character-preserved : goal.loop-character-preserved
loop-character-preserved g c =
    let held = c.loop-character.invariant in
    let one = xml_character c.in-Some.character in
    let parts = c.in-Some.ensures.steps.0 in
    record {
      legible = IsUtf8-past_char _ _ c.in-Some.character held.legible parts;
      written = λ plain.
          let (done, wrote, is) = held.written plain in (
            done ++ one,
            has_written_append _ _ _ _ _ _ wrote (c.write_character.ensures wrote.plain (search rules)),
            append_assoc done one _ ∙ rw (chars_past_char _ _ c.in-Some.character held.legible parts) at is,
          );
    }

pub returns-clause-writes : goal.returns-clause-writes
returns-clause-writes g c = λ plain ok.
    let (done, wrote, is) = c.loop-character.invariant.written plain in
    has_written_of_eq _ _ _ _ _ (sym (append-nil done) ∙ rw (chars_of_empty _ c.in-None.ensures.steps.0.0) at is) wrote

use Rattle.std.proofs.Common.{◌++◌, rules, ap, sym, ◌∙◌, append_assoc, encode_utf8}
use Rattle.std.proofs.Output.{has_written_append}
use Rattle.std.proofs.lemmas.Grind.{flat_map-append}
use Rattle.std.specs.Str.Iter.{chars_rest}
use Rattle.span_lines.specs.SpanLines.{escaped, escaped_byte}
use Rattle.span_lines.proofs.printing.EscapedDisplay.fmt.Goals as goal

pub loop-character-preserved : goal.loop-character-preserved
loop-character-preserved g c = λ plain.
    let (done, wrote, is) = c.loop-character.invariant plain in
    let one = escaped (encode_utf8 c.in-Some.character) in
    let steps = c.in-Some.ensures.steps in (
      done ++ one,
      has_written_append _ _ _ _ _ _ wrote (c.write_character.ensures wrote.plain (search rules)),
      append_assoc done one _ ∙ ap (λ l. done ++ l) (sym (flat_map-append escaped_byte (encode_utf8 c.in-Some.character) (chars_rest c.next.new.self)) ∙ ap escaped (sym steps.0)) ∙ is,
    )

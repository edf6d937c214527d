use Rattle.std.proofs.Common.{◌++◌, rules, ap, sym, ◌∙◌, append_assoc, arith, length, length-append, encode_utf8_all}
use Rattle.std.proofs.Output.{has_written_append}
use Rattle.std.specs.Str.{chars}
use Rattle.span_lines.specs.SpanLines.{escaped}
use Rattle.span_lines.proofs.SpanPrinting.{escaped_part}
use Rattle.span_lines.proofs.printing.write_text.Goals as goal

pub loop-part-preserved : goal.loop-part-preserved
loop-part-preserved g c = λ plain.
    let (done, wrote, is) = c.loop-part.invariant plain in
    let one = escaped c.in-Some.part.now in
    let left = escaped (encode_utf8_all c.next.new.self) in (
      done ++ one,
      has_written_append _ _ _ _ _ _ wrote (c.write.ensures.writes wrote.plain (search rules)),
      append_assoc done one left ∙ ap (λ l. done ++ l) (sym (escaped_part c.in-Some.part.now c.loop-part.text c.next.new.self (search rules) c.in-Some.ensures.part)) ∙ is,
    )

pub loop-part-smaller : goal.loop-part-smaller
loop-part-smaller g c =
    omega (arith, c.in-Some.ensures.some, ap length c.in-Some.ensures.part, length-append (chars c.in-Some.part.now) c.next.new.self)

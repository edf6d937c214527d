use Rattle.std.proofs.Common.{arith, ◌≡◌, encode_utf8}
use Rattle.span_lines.specs.SpanLines.{escaped}
use Rattle.span_lines.proofs.SpanPrinting.{escaped_character}
use Rattle.span_lines.proofs.printing.write_character.Goals as goal

pub returns-in_default : goal.returns-in_default
returns-in_default g c =
    let same : escaped (encode_utf8 c.args.character) ≡ encode_utf8 c.args.character = escaped_character c.args.character (omega arith) (omega arith) in
    rw same c.write_char.ensures.writes

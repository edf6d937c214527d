use Rattle.std.proofs.Common.{◌≡◌, ◌++◌, ℕ, List, length, encode_utf8_all}
use Rattle.std.specs.Fmt.{HasWritten, IsPlainFormatter}
use Rattle.span_lines.specs.SpanLines.{escaped}
use Rattle.span_lines.proofs.printing.write_text.Given as goal

abbrev pub invariant-loop-part : goal.invariant-loop-part
invariant-loop-part g l =
    IsPlainFormatter l.initial.f → (done : List ℕ) × HasWritten g.W.Write.write_str_gives l.initial.f done l.f
    × (done ++ escaped (encode_utf8_all l.text) ≡ escaped (encode_utf8_all l.fn.text))

abbrev pub decreases-loop-part : goal.decreases-loop-part
decreases-loop-part g l = length l.text

use Rattle.std.proofs.Common.{◌≡◌, true, ◌++◌, ℕ, ◌-◌, ◌≤◌, List, length}
use Rattle.std.specs.Fmt.{HasWritten, IsPlainFormatter}
use Rattle.std.specs.Iterator.Adapters.{zip_first, zip_second}
use Rattle.span_flatten.specs.Version.{spans_of}
use Rattle.span_lines.specs.SpanLines.{span_line, span_lines}
use Rattle.span_lines.proofs.Numbered.{numbered}
use Rattle.span_lines.proofs.printing.AllSpansDisplay.fmt.Given as goal

abbrev pub invariant-loop-index : goal.invariant-loop-index
invariant-loop-index g l =
    let pairs = l.index-iterator in
    record {
      written : IsPlainFormatter l.initial.f → (done : List ℕ) × HasWritten g.W.Write.write_str_gives l.initial.f done l.f
          × (done ++ numbered (span_line true) (zip_first pairs).start (zip_second pairs) ≡ span_lines (spans_of l.fn.self.0.now));
      left : length (zip_second pairs) ≤ (zip_first pairs).end - (zip_first pairs).start;
    }

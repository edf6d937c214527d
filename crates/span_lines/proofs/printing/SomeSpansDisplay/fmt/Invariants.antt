use Rattle.std.proofs.Common.{◌≡◌, ◌++◌, ℕ, ◌-◌, ◌≤◌, List, length, take}
use Rattle.std.specs.Fmt.{HasWritten, IsPlainFormatter}
use Rattle.std.specs.Iterator.Adapters.{take_source, take_count, zip_first, zip_second}
use Rattle.span_lines.proofs.Numbered.{numbered}
use Rattle.span_lines.proofs.Some.{named, some_named}
use Rattle.span_lines.proofs.printing.SomeSpansDisplay.fmt.Given as goal

abbrev pub invariant-loop-index : goal.invariant-loop-index
invariant-loop-index g l =
    let pairs = take_source l.index-iterator in
    record {
      written : IsPlainFormatter l.initial.f → (done : List ℕ) × HasWritten g.W.Write.write_str_gives l.initial.f done l.f
          × (done ++ numbered (named l.fn.self.further) (zip_first pairs).start (take (take_count l.index-iterator) (zip_second pairs)) ≡ some_named l.fn.self.further l.fn.self.first l.fn.self.most l.fn.self.version.now);
      left : length (zip_second pairs) ≤ (zip_first pairs).end - (zip_first pairs).start;
    }

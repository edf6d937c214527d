use Rattle.std.proofs.Common.{◌≡◌, ◌≤◌}
use Rattle.log_frames.specs.Frames.{counted, sum_before, read_to}
use Rattle.log_frames.proofs.reading.read.Given as goal

abbrev pub invariant-loop-index : goal.invariant-loop-index
invariant-loop-index l = record {
  reading : l.reading ≡ read_to l.terms l.fn.begin l.log l.index;
  before : l.before ≡ sum_before l.terms.page_size l.log l.index;
  few : counted l.reading ≤ l.index;
}

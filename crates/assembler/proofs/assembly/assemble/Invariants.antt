use Rattle.std.proofs.Common.{◌≡◌, ◌*◌, ◌≤◌, drop, length}
use Rattle.assembler_lines.specs.Slots.{lines_of, first_slot}
use Rattle.assembler.specs.Lines.{lines_left}
use Rattle.assembler.specs.Text.{AreRight, bytes_before}
use Rattle.assembler.proofs.assembly.assemble.Given as goal

abbrev pub invariant-loop-rest : goal.invariant-loop-rest
invariant-loop-rest l =
    let lines = lines_of l.source in
    record {
      same : l.labels.source.now ≡ l.source;
      left : lines_left l.rest ≡ drop l.index lines;
      within : l.index ≤ length lines;
      right : AreRight lines l.index;
      whole : l.bytes.items ≡ bytes_before lines l.index;
      at_slot : length l.bytes.items ≡ 8 * first_slot lines l.index;
    }

abbrev pub decreases-loop-rest : goal.decreases-loop-rest
decreases-loop-rest l = length (lines_left l.rest)

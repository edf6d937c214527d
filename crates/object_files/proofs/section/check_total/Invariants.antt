use Rattle.std.proofs.Common.{◌≡◌, ◌+◌, length}
use Rattle.object_files.specs.Sections.{total_size}
use Rattle.object_files.proofs.section.check_total.Given as goal

abbrev pub invariant-loop-index : goal.invariant-loop-index
invariant-loop-index l = l.room + total_size l.bytes l.index ≡ length l.bytes

use Rattle.std.proofs.Common.{◌+◌, ◌-◌, ◌≤◌, slice_index}
use Rattle.block_layout.proofs.loops.jump_back.Given as goal

abbrev pub invariant-loop-index : goal.invariant-loop-index
invariant-loop-index l = slice_index l.path l.begin + (l.index - 1 - l.begin) ≤ slice_index l.path (l.index - 1)

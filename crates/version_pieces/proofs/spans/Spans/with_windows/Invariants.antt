use Rattle.std.proofs.Common.{length}
use Rattle.version_glyphs.specs.Glyphs.{glyphs}
use Rattle.version_pieces.proofs.Paying.{ArePaid}
use Rattle.version_pieces.proofs.Putting.{AreLeft}
use Rattle.version_pieces.proofs.spans.Spans.with_windows.Given as goal

abbrev pub invariant-loop-window : goal.invariant-loop-window
invariant-loop-window l = record {
  left : AreLeft (glyphs l.self) (glyphs l.all) l.windows l.rest;
  paid : ArePaid l.windows l.rest l.self l.all l.initial.budget l.budget;
}

abbrev pub decreases-loop-window : goal.decreases-loop-window
decreases-loop-window l = length l.rest

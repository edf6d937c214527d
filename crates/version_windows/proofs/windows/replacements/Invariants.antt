use Rattle.std.proofs.Common.{List, length, take, drop}
use Rattle.change_ops.specs.declared.operation.Op.{Op}
use Rattle.mark_places.specs.PlaceRanges.{AreApart}
use Rattle.mark_places.specs.declared.range.PlaceRange.{PlaceRange}
use Rattle.version_glyphs.specs.Replacements.{AreReplacements}
use Rattle.version_laws.specs.Ranges.{AreChangedWithin, AreGapped}
use Rattle.version_windows.specs.Neighbors.{GiveAllFormats}
use Rattle.version_windows.proofs.windows.replacements.Given as goal

abbrev pub invariant-loop-range : goal.invariant-loop-range
invariant-loop-range l = record {
  apart : AreApart (drop l.range-index l.ranges) l.end (length l.sequence.elements);
  gapped : AreGapped (drop l.range-index l.ranges);
  ahead : (olds : List PlaceRange) → AreChangedWithin l.before.elements l.sequence.elements olds l.ranges 0 0
      → AreChangedWithin l.before.elements l.sequence.elements (drop l.range-index olds) (drop l.range-index l.ranges) l.old_end l.end;
  made : (olds : List PlaceRange) (marks : List Op) → AreChangedWithin l.before.elements l.sequence.elements olds l.ranges 0 0
      → GiveAllFormats l.formats l.before.elements l.sequence.elements marks olds l.ranges
      → AreReplacements l.before.elements l.sequence.elements marks (take l.range-index olds) (take l.range-index l.ranges) l.windows.items;
}

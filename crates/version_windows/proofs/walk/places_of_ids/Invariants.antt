use Rattle.std.proofs.Common.{◌≡◌, ◌≤◌, length}
use Rattle.version_windows.specs.Walked.{CoversIds}
use Rattle.version_windows.proofs.walk.places_of_ids.Given as goal

abbrev pub invariant-loop-element : goal.invariant-loop-element
invariant-loop-element l = record {
  place : l.place ≡ length l.yielded;
  order : l.low ≤ l.high;
  within : l.high ≤ l.place;
  covered : CoversIds l.sequence.elements l.first l.count l.place (record { low = l.low; high = l.high });
}

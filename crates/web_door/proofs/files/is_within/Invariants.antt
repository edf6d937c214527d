use Rattle.std.proofs.Common.{◌≡◌, drop}
use Rattle.web_door.specs.Files.{stays_within}
use Rattle.web_door.proofs.files.is_within.Given as goal

abbrev pub invariant-loop-byte : goal.invariant-loop-byte
invariant-loop-byte l = stays_within 47 l.name ≡ stays_within l.before (drop l.byte-index l.name)

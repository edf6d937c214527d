use Rattle.std.proofs.Common.{refl}
use Rattle.std.specs.Fmt.{digits}
use Rattle.known_bits.specs.KnownBits.{common_bits}
use Rattle.known_lines.proofs.worked.lines_are_worked.Goals as goal

pub returns-clause-address : goal.returns-clause-address
unfolding digits common_bits lib.Count.count_leading_zeros
returns-clause-address c = refl

pub returns-clause-marks : goal.returns-clause-marks
unfolding digits
returns-clause-marks c = refl

pub returns-clause-tail : goal.returns-clause-tail
unfolding digits common_bits lib.Count.count_leading_zeros
returns-clause-tail c = refl

use Rattle.std.proofs.Common.{refl}
use Rattle.sqlite_wal.specs.Format.{be32}
use Rattle.log_frames.proofs.format.number.Goals as goal

pub returns : goal.returns
unfolding be32
returns c = refl

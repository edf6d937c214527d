use Rattle.std.proofs.Common.{◌+◌, ◌*◌, ap, slice_range}
use Rattle.log_frames.specs.Frames.{frame_of}
use Rattle.log_frames.proofs.format.frame_of.Goals as goal

pub returns-clause-value : goal.returns-clause-value
unfolding frame_of
returns-clause-value c =
    ap (λ size. slice_range c.args.log.now (32 + c.args.index * size) (32 + c.args.index * size + size)) c.frame_bytes-size.ensures

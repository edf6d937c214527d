use Rattle.feeds.proofs.Alike.{blind_to_position}
use Rattle.feeds.proofs.kept.is_blind_to_position.Goals as goal

pub returns-in-Some : goal.returns-in-Some
returns-in-Some c = λ on. blind_to_position c.in-Some.reads c.args.program.now (c.is_positionless.ensures.0 on)
    (rw c.in-Some.is at c.reads.ensures)

use Rattle.insert_place.specs.Place.{placed}
use Rattle.insert_place.proofs.insert_parent.Goals as goal

pub returns : goal.returns
returns c =
    placed c.in-Some.before c.in_ok-place.place c.in-Some.ensures.0 c.in_ok-place.ensures.place c.parent_at.ensures

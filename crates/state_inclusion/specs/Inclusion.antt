-- Where all that a second state says follows, part by part, from what a first says.
use Rattle.tracked_state.specs.Tracked.{TrackedSituation}
use Rattle.state_inclusion.specs.Contents.{IsSituationWithin}
use Rattle.state_inclusion.specs.Partners.{AreMarksWithin}

pub record IsWithin (a b : TrackedSituation) : Type 0 where
  pub situation : IsSituationWithin a.situation b.situation
  pub marks : AreMarksWithin a b

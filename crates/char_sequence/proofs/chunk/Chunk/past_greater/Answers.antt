use Rattle.std.proofs.Common.{refl, ap, ◌∙◌}
use Rattle.std.specs.List.{slice_get}
use Rattle.char_sequence.proofs.Ids.{less_floor}
use Rattle.char_sequence.proofs.chunk.Chunk.past_greater.Goals as goal

pub returns-then-is_below : goal.returns-then-is_below
returns-then-is_below c =
    λ i x from here.
    less_floor c.args.id c.self.inside.floor x.id (c.if-is_below.ensures.0 refl) (c.self.invariant.2 i x (ap (λ z. slice_get z i) c.self.view_is ∙ here))

use Rattle.mark_anchors.proofs.Gathering.{key_from_range}
use Rattle.mark_anchors.proofs.Uniform.{names_start, names_end, lies_from_range}
use Rattle.mark_anchors.proofs.placed.placed_mark.Goals as goal

pub boundary-requires : goal.boundary-requires
boundary-requires c = (
  c.requires.shown.0,
  c.requires.shown.1,
  λ x names. c.requires.shown.1.named c.args.operation.now x c.requires.shown.2 (names_start c.args.operation.now c.in-Some.range c.in-Some.ensures x names),
)

pub boundary-requires-2 : goal.boundary-requires-2
boundary-requires-2 c = (
  c.requires.shown.0,
  c.requires.shown.1,
  λ x names. c.requires.shown.1.named c.args.operation.now x c.requires.shown.2 (names_end c.args.operation.now c.in-Some.range c.in-Some.ensures x names),
)

pub returns-clause-placed : goal.returns-clause-placed
returns-clause-placed c = record {
  of_key = key_from_range c.args.operation.now c.in-Some.range c.in-Some.ensures;
  id = c.id.ensures;
  lies = lies_from_range c.args.places.now c.args.operation.now c.in-Some.range c.boundary.result c.boundary-2.result c.in-Some.ensures c.boundary.ensures c.boundary-2.ensures;
}

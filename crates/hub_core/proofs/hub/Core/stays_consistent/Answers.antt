use Rattle.hub_core.proofs.Streams.{consistent}
use Rattle.hub_core.proofs.hub.Core.stays_consistent.Goals as goal

pub returns-clause-consistent : goal.returns-clause-consistent
returns-clause-consistent g c = consistent g.S.Sink.sent g.S.Sink.full c.args.self.now _ c.self.view_is c.self.invariant.1 c.len.ensures.accepted

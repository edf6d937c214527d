use Rattle.std.proofs.Common.{◌<◌, ◌≤◌, length, arith}
use Rattle.hub_core.proofs.Sound.{sink_there, safe_there, none_there}
use Rattle.hub_core.proofs.Streams.{begins}
use Rattle.hub_core.proofs.hub.Core.sink.Goals as goal

pub returns-then-id-len-clause-stream : goal.returns-then-id-len-clause-stream
returns-then-id-len-clause-stream g c = begins g.S.Sink.sent g.S.Sink.full c.args.self.now _ c.self.view_is c.self.invariant.1 c.args.id

pub returns-clause-stream : goal.returns-clause-stream
returns-clause-stream g c = begins g.S.Sink.sent g.S.Sink.full c.args.self.now _ c.self.view_is c.self.invariant.1 c.args.id

pub returns-clause-value : goal.returns-clause-value
returns-clause-value g c =
    let within : c.args.id < length c.self.inside.subscribers.items = omega arith in
    sink_there c.args.self.now _ c.args.id c.index.result.now c.sink.result.now c.self.view_is within c.index.ensures c.sink.ensures.value

pub returns-then-id-len-clause-safe : goal.returns-then-id-len-clause-safe
returns-then-id-len-clause-safe g c =
    let past : length c.self.inside.subscribers.items ≤ c.args.id = omega arith in
    none_there c.args.self.now _ c.args.id c.self.view_is past

pub returns-clause-safe : goal.returns-clause-safe
returns-clause-safe g c =
    let within : c.args.id < length c.self.inside.subscribers.items = omega arith in
    safe_there c.args.self.now _ c.args.id c.index.result.now c.self.view_is within c.index.ensures c.sink.ensures.safe

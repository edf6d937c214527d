use Rattle.std.proofs.Common.{◌<◌, length, arith}
use Rattle.hub_core.proofs.Sound.{open_within, found_at}
use Rattle.hub_core.proofs.hub.Core.next_version.Goals as goal

pub index-requires : goal.index-requires
index-requires g c =
    let within : c.args.id < length c.self.inside.subscribers.items = open_within c.args.self.now _ c.args.id c.requires.0 c.self.view_is c.requires.1 in omega arith

pub returns : goal.returns
returns g c = found_at c.args.self.now _ c.args.id c.latest.result c.requires.0 c.index.result.now c.next_version.result c.self.view_is c.requires.1 c.index.ensures c.latest.ensures.value c.next_version.ensures

use Rattle.std.proofs.Common.{◌∙◌, ap}
use Rattle.std.specs.Map.{lookup}
use Rattle.char_sequence.specs.Named.{same_node}
use Rattle.char_sequence.proofs.Lists.{slice_get_set_same}
use Rattle.char_sequence.proofs.index.Index.reserve.Goals as goal

pub returns-clause-room : goal.returns-clause-room
returns-clause-room c =
    let at = ap (λ v. lookup (same_node c.args.node) v.places) c.self.view_is ∙ c.in_ok-place.ensures.place in
    record {
      at = at;
      peer = c.reserve.new.self;
      here = slice_get_set_same c.self.inside.peers.items c.in_ok-place.place c.reserve.new.self (c.self.invariant.within c.args.node c.in_ok-place.place at);
      room = c.in_ok-reserve.ensures.room;
    }

use Rattle.std.proofs.Common.{sym, ◌∙◌}
use Rattle.char_sequence.proofs.Counters.{get_lookup}
use Rattle.char_sequence.proofs.newest.Newest.kept.Goals as goal

pub returns : goal.returns
returns c =
    c.copied.ensures ∙ c.get.ensures.value ∙ sym (get_lookup c.self.inside.counters.entries c.args.self.now c.self.view_is c.args.node)

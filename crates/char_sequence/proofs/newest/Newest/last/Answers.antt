use Rattle.std.proofs.Common.{sym, ◌∙◌}
use Rattle.char_sequence.proofs.Counters.{get_lookup, last_of}
use Rattle.char_sequence.proofs.newest.Newest.last.Goals as goal

pub returns : goal.returns
returns c =
    λ ops n.
    last_of ops _ n c.args.node c.copied.result
    (c.copied.ensures ∙ c.get.ensures.value ∙ sym (get_lookup c.self.inside.counters.entries c.args.self.now c.self.view_is c.args.node))

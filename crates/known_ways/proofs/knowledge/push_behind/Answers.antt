use Rattle.known_ways.specs.Told.{ways_seen}
use Rattle.known_ways.proofs.Edges.{pushed_both}
use Rattle.known_ways.proofs.knowledge.push_behind.Goals as goal

pub returns : goal.returns
returns c = λ w is.
    pushed_both c.args.slot c.args.from c.args.insn.now c.args.behind.now w (ways_seen c.args.ways.now.items) (ways_seen c.push_next.new.ways.items) (ways_seen c.push_jump.new.ways.items)
    c.requires.below is c.in_ok-push_next.ensures c.in_ok-push_jump.ensures

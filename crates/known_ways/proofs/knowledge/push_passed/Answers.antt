use Rattle.tracked_state.specs.Tracked.{tracked_of}
use Rattle.verifier.specs.Decides.{granted, led}
use Rattle.known_ways.proofs.knowledge.push_passed.Goals as goal

pub returns : goal.returns
returns c =
    c.in_ok-push_behind.ensures (granted (led c.args.profile c.args.from c.args.insn.now (tracked_of c.args.before.now))) (c.in_ok-behind.ensures c.args.from)

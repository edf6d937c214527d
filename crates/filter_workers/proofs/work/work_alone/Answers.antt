use Rattle.std.proofs.Common.{◌≡◌, ◌<◌, rules, subst}
use Rattle.filter_workers.proofs.Worked.{AreFull, full_turns, one_turn, no_job, no_memory}
use Rattle.filter_workers.proofs.work.work_alone.Goals as goal

pub returns-in_err-end : goal.returns-in_err-end
returns-in_err-end g c =
    let lt : c.loop-turn._turn < c.args.turns = search rules in
    no_memory g.N.Naming.size _ c.args.share.now c.loop-turn.share c.turn.new.share c.loop-turn._turn c.args.turns c.loop-turn.committed c.in_err-end.field-0.0 c.from_residual.result c.loop-turn.invariant lt c.in_err-end.ensures
    c.from_residual.ensures.1

pub loop-turn-preserved : goal.loop-turn-preserved
loop-turn-preserved g c =
    one_turn g.N.Naming.size c.args.share.now c.loop-turn.share c.turn.new.share c.loop-turn._turn c.loop-turn.committed _ c.in_ok-end.field-0 c.in-Some.end c.loop-turn.invariant c.in_ok-end.ensures c.in-Some.is
    c.batches-committed.ensures.count

pub returns-after-loop-turn : goal.returns-after-loop-turn
returns-after-loop-turn g c =
    let done : c.loop-turn._turn ≡ c.args.turns = search rules in
    let before = c.loop-turn.invariant in
    (before.0, before.1, (full_turns c.args.turns before.0 (subst (λ k. AreFull k before.0) done before.2), before.3))

pub returns-in_default : goal.returns-in_default
returns-in_default g c =
    let lt : c.loop-turn._turn < c.args.turns = search rules in
    no_job g.N.Naming.size c.args.share.now c.loop-turn.share c.turn.new.share c.loop-turn._turn c.args.turns c.loop-turn.committed c.in_ok-end.field-0 c.loop-turn.invariant lt c.in_ok-end.ensures c.in_default.is

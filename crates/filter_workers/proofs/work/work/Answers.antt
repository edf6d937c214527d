use Rattle.std.proofs.Common.{◌≡◌, ◌<◌, length, map, arith, rules}
use Rattle.std.specs.List.{slice_index_or}
use Rattle.filter_workers.proofs.Worked.{did_at, DidEach, none_worked, all_worked, few_each}
use Rattle.filter_workers.proofs.work.work.Goals as goal

pub returns-then-turns-eq0-clause-worked : goal.returns-then-turns-eq0-clause-worked
returns-then-turns-eq0-clause-worked g c = none_worked g.N.Naming.size c.args.turns (map (λ w. w.share) c.args.workers.now) c.if-turns-eq0.true

pub total-requires : goal.total-requires
total-requires g c =
    let olds = c.args.workers.now in
    let news = c.for_each_mut.new.s in
    let same : length news ≡ length olds = search rules in
    let few : c.args.turns < 4294967296 = search rules in
    let most = c.requires.1 in
    let each : DidEach g.N.Naming.size c.args.turns (λ w. w.share) (λ w. w.ended) olds news = λ k d lt.
    let at = (c.for_each_mut.ensures k d lt).1 in
    did_at g.N.Naming.size c.args.turns (λ w. w.share) (λ w. w.ended) at.argument.now at.after_call.now (slice_index_or olds k d) (slice_index_or news k d) at.argument_is at.left at.call in
    (omega (arith, same, most), few_each g.N.Naming.size c.args.turns (λ w. w.share) (λ w. w.ended) olds news same few each)

pub returns-clause-worked : goal.returns-clause-worked
returns-clause-worked g c =
    let olds = c.args.workers.now in
    let news = c.for_each_mut.new.s in
    let same : length news ≡ length olds = search rules in
    let each : DidEach g.N.Naming.size c.args.turns (λ w. w.share) (λ w. w.ended) olds news = λ k d lt.
    let at = (c.for_each_mut.ensures k d lt).1 in
    did_at g.N.Naming.size c.args.turns (λ w. w.share) (λ w. w.ended) at.argument.now at.after_call.now (slice_index_or olds k d) (slice_index_or news k d) at.argument_is at.left at.call in
    all_worked g.N.Naming.size c.args.turns (λ w. w.share) (λ w. w.ended) olds news c.total.result same each c.total.ensures

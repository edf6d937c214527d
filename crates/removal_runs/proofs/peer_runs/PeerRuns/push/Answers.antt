use Rattle.std.proofs.Common.{◌≡◌, ◌+◌, ◌-◌, ◌^◌, [], ◌∷◌, ◌++◌, Some, suc, length, sym, ap, ◌∙◌, subst, arith, rules, vec_len}
use Rattle.std.specs.List.{slice_get}
use Rattle.std.proofs.lemmas.Option.{slice_get_read}
use Rattle.removal_runs.specs.Removals.{PeerRemovals, AreRuns, begin_of_run, end_of_run, removals_in}
use Rattle.removal_runs.proofs.Apart.{is_some, high_is_above}
use Rattle.removal_runs.proofs.RunLists.{IsAbove, pushed_runs, longer_runs, last_longer}
use Rattle.removal_runs.proofs.peer_runs.PeerRuns.push.Goals as goal

pub longer-requires-clause-length : goal.longer-requires-clause-length
longer-requires-clause-length c =
    let runs = c.self.inside.runs.items in
    let size : vec_len c.self.inside.runs ≡ length runs = search rules in
    let at : slice_get runs (c.len-count.result - 1) ≡ Some c.index.result.now = slice_get_read runs (length runs) (c.len-count.result - 1) c.index.result.now (search rules) (omega arith) c.index.ensures in
    let some = is_some begin_of_run end_of_run 0 runs (2 ^ 48) (c.len-count.result - 1) c.index.result.now c.self.invariant.apart at in
    omega arith

pub longer-requires-clause-small : goal.longer-requires-clause-small
longer-requires-clause-small c =
    let runs = c.self.inside.runs.items in
    let size : vec_len c.self.inside.runs ≡ length runs = search rules in
    let at : slice_get runs (c.len-count.result - 1) ≡ Some c.index.result.now = slice_get_read runs (length runs) (c.len-count.result - 1) c.index.result.now (search rules) (omega arith) c.index.ensures in
    high_is_above begin_of_run end_of_run 0 runs (2 ^ 48) (c.len-count.result - 1) c.index.result.now c.self.invariant.apart at

pub invariant_of-self : goal.invariant_of-self
invariant_of-self c =
    let runs = c.self.inside.runs.items in
    let run = c.index.result.now in
    let size : vec_len c.self.inside.runs ≡ length runs = search rules in
    let at : slice_get runs (c.len-count.result - 1) ≡ Some run = slice_get_read runs (length runs) (c.len-count.result - 1) run (search rules) (omega arith) c.index.ensures in
    let last : suc (c.len-count.result - 1) ≡ length runs = omega arith in
    let end : c.args.counter ≡ run.counter + run.length = c.in-Some.ensures.end in
    longer_runs runs (c.len-count.result - 1) run c.in-Some.longer c.self.invariant at last (omega arith) c.in-Some.ensures.counter c.in-Some.ensures.length c.in-Some.ensures.targets

pub returns-in-Some-clause-ok : goal.returns-in-Some-clause-ok
returns-in-Some-clause-ok c =
    let runs = c.self.inside.runs.items in
    let run = c.index.result.now in
    let size : vec_len c.self.inside.runs ≡ length runs = search rules in
    let at : slice_get runs (c.len-count.result - 1) ≡ Some run = slice_get_read runs (length runs) (c.len-count.result - 1) run (search rules) (omega arith) c.index.ensures in
    let last : suc (c.len-count.result - 1) ≡ length runs = omega arith in
    last_longer removals_in runs (c.len-count.result - 1) run c.in-Some.longer (record { counter = c.args.counter; target = c.args.target }) at last c.in-Some.ensures.removals
    ∙ ap (λ (v : PeerRemovals). v.removals ++ (record { counter = c.args.counter; target = c.args.target }) ∷ []) c.self.view_is

pub invariant_of-self-2 : goal.invariant_of-self-2
invariant_of-self-2 c =
    let runs = c.self.inside.runs.items in
    let items : c.push.new.self.items ≡ runs ++ c.one.result ∷ [] = search rules in
    subst AreRuns (sym items)
    (pushed_runs runs c.args.counter c.one.result c.self.invariant (subst (λ (v : PeerRemovals). IsAbove v.removals c.args.counter) (sym c.self.view_is) c.requires.above) c.requires.small c.one.ensures.counter c.one.ensures.length c.one.ensures.targets)

use Rattle.std.proofs.Common.{rules, ◌≡◌, ◌++◌, ◌∷◌, [], arith}
use Rattle.change_ops.proofs.Loop.{is_done, goes_on}
use Rattle.change_ops.proofs.ChangeLaws.{lines_own}
use Rattle.change_ops.proofs.change.lines_of.Goals as goal

pub returns-clause-read : goal.returns-clause-read
returns-clause-read c = is_done _ _ _ _ _ _ _ _ c.loop-index-test.false c.loop-index.invariant.same

pub returns-clause-kept : goal.returns-clause-kept
returns-clause-kept c = lines_own _ _ _ _ _ _ _ (is_done _ _ _ _ _ _ _ _ c.loop-index-test.false c.loop-index.invariant.same)

pub loop-index-preserved : goal.loop-index-preserved
loop-index-preserved c =
    let pushed : c.push.new.self.items ≡ c.loop-index.lines.items ++ c.in_ok-line.line ∷ [] = search rules in
    let behind = c.behind-room.ensures in
    let most = c.loop-index.invariant.room in
    record { text = c.in_ok-line.ensures.text; room = rw behind (omega arith); same = rw (pushed, behind) (goes_on _ _ _ _ _ _ _ _ _ _ c.loop-index-test.true c.in_ok-line.ensures.read c.loop-index.invariant.same) }

use Rattle.std.proofs.Common.{◌++◌}
use Rattle.change_history.proofs.Counting.{not_unknown}
use Rattle.change_history.proofs.parts.Parts.check_full.Goals as goal

pub returns-then-is_stale : goal.returns-then-is_stale
returns-then-is_stale c = λ size ops own node k t of full. c.is_stale.ensures.yes ops own node t of c.if-is_stale.true

pub returns-then-is_unknown : goal.returns-then-is_unknown
returns-then-is_unknown c = λ size ops own node k t of full. (c.is_stale.ensures.no ops own node t of c.if-is_stale.false, c.is_unknown.ensures.yes ops own node k t c.if-is_unknown.true)

pub returns : goal.returns
returns c = λ size ops own node k t of full.
    let known = not_unknown (ops ++ own) c.args.op.now (c.is_unknown.ensures.characters ops own node k t c.if-is_unknown.false) (c.is_unknown.ensures.removal ops own node k t c.if-is_unknown.false) in
    (c.is_stale.ensures.no ops own node t of c.if-is_stale.false, known, full)

use Rattle.std.proofs.Common.{rules, ◌<◌, arith}
use Rattle.interpreter.proofs.Joined.{joined-small, joined-fits}
use Rattle.interpreter.proofs.memory.+number_on_stack.Goals as goal

pub overflow_mul-result : goal.overflow_mul-result
overflow_mul-result t c =
    let some : 0 < c.args.count = omega arith in
    let byte : c.in-Some.low < 256 = search rules in
    search (rules, joined-fits c.in-Some.low c.in_ok-high.high c.args.count byte some c.requires.short (c.in_ok-high.ensures.small))

pub overflow_add-result : goal.overflow_add-result
overflow_add-result t c =
    let some : 0 < c.args.count = omega arith in
    let byte : c.in-Some.low < 256 = search rules in
    search (rules, c.from.ensures, joined-fits c.in-Some.low c.in_ok-high.high c.args.count byte some c.requires.short (c.in_ok-high.ensures.small))

pub returns-in-Some-clause-small : goal.returns-in-Some-clause-small
returns-in-Some-clause-small t c =
    let some : 0 < c.args.count = omega arith in
    let byte : c.in-Some.low < 256 = search rules in
    rw c.from.ensures (joined-small c.in-Some.low c.in_ok-high.high c.args.count byte some (c.in_ok-high.ensures.small))

use Rattle.std.proofs.Common.{rules, ◌+◌, ◌-◌, arith}
use Rattle.interpreter.proofs.Stores.{stores}
use Rattle.interpreter.proofs.memory.store_on_stack.Goals as goal

pub returns : goal.returns
returns c =
    stores c.args.size c.args.offset (c.args.offset + c.count-count.result - c.args.offset) c.args.value c.args.stack.now
    c.copy_from_slice.new.self (let h = c.count-count.ensures.value in omega arith) (search rules)

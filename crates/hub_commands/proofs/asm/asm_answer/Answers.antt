use Rattle.hub_commands.proofs.Replies.{asm_done, asm_refused}
use Rattle.hub_commands.proofs.asm.asm_answer.Goals as goal

pub returns-in_ok-slot_lines-in-Ok-assemble : goal.returns-in_ok-slot_lines-in-Ok-assemble
returns-in_ok-slot_lines-in-Ok-assemble c =
    let utf8 = c.in-Ok.ensures.cases in
    asm_done c.args.input.now c.in-Ok.source.now c.in-Ok-assemble.bytes.items c.deref.result.now _ c.done.result utf8.0 utf8.1 c.in-Ok-assemble.ensures.text c.deref.ensures.value
    c.in_ok-slot_lines-in-Ok-assemble.ensures c.done.ensures

pub returns-in-Err : goal.returns-in-Err
returns-in-Err c =
    let utf8 = c.in-Ok.ensures.cases in
    asm_refused c.args.input.now c.in-Ok.source.now c.in-Err.error c.refused-in-Err.result utf8.0 utf8.1 c.in-Err.ensures.fault c.refused-in-Err.ensures

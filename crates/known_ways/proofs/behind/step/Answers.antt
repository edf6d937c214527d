use Rattle.abstract_state.specs.Situation.{situation_of}
use Rattle.abstract_state.specs.Stepping.{stepped}
use Rattle.known_ways.proofs.Edges.{left_on, left_refused}
use Rattle.known_ways.proofs.behind.step.Goals as goal

pub returns-in-Ok : goal.returns-in-Ok
returns-in-Ok c =
    left_on (stepped c.args.profile c.args.insn.now (situation_of c.args.before.now)) c.in-Ok.flow c.step.new.self c.live.result c.in-Ok.ensures.rule c.live.ensures

pub returns-in-Err : goal.returns-in-Err
returns-in-Err c =
    left_refused (stepped c.args.profile c.args.insn.now (situation_of c.args.before.now)) c.step.new.self c.in-Err.field-0 c.in-Err.ensures.rule

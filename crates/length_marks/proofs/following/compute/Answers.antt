use Rattle.abstract_state.specs.Situation.{situation_of}
use Rattle.length_marks.proofs.Others.{by_operation}
use Rattle.length_marks.proofs.following.compute.Goals as goal

pub returns-in_default : goal.returns-in_default
returns-in_default c = λ w is. by_operation c.follow.new.self c.args.at c.args.insn.now c.args.width c.args.operation c.args.destination c.args.operand.now (situation_of c.args.known.now) w c.requires c.in_default.not-Add c.in_default.not-Sub (c.follow.ensures.rule w is)

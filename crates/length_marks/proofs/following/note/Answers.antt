use Rattle.std.proofs.Common.{subst}
use Rattle.abstract_state.specs.Situation.{situation_of}
use Rattle.value_marks.specs.Marking.{Marking, IsMarking}
use Rattle.length_marks.proofs.Others.{by_other}
use Rattle.length_marks.proofs.following.note.Goals as goal

pub returns-in_default : goal.returns-in_default
returns-in_default c = λ w is. subst (λ (v : Marking). IsMarking c.follow.new.self v) (by_other c.args.at c.args.insn.now (situation_of c.args.known.now) w c.in_default.not-Compute c.in_default.not-Load) (c.follow.ensures.rule w is)

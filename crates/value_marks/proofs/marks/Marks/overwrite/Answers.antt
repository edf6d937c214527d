use Rattle.value_marks.proofs.Empty.{all_none, cleared}
use Rattle.value_marks.proofs.marks.Marks.overwrite.Goals as goal

pub returns-in-None : goal.returns-in-None
returns-in-None c = λ w is. cleared _ c.args.place c.args.count w c.in-None.is is.registers (all_none 64)

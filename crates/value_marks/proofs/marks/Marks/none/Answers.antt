use Rattle.value_marks.proofs.Empty.{all_none, none_some}
use Rattle.value_marks.proofs.marks.Marks.none.Goals as goal

pub returns-clause-rule : goal.returns-clause-rule
returns-clause-rule c = record {
  registers = λ i h. all_none 11 i;
  slots = λ i h. all_none 64 i;
}

pub returns-clause-below : goal.returns-clause-below
returns-clause-below c = record {
  registers = λ i m e. absurd (none_some _ m (all_none 11 i) e);
  slots = λ i m e. absurd (none_some _ m (all_none 64 i) e);
}

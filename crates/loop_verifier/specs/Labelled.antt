-- Labels of a program that loops, by which it is accepted.
use Rattle.std.specs.Prelude.{List}
use Rattle.semantics.specs.Step.{Program}
use Rattle.loop_labels.specs.Labels.{Label as LabelOf}
use Rattle.loop_labels.specs.Potential.{Bound}
use Rattle.loop_labels.specs.Rules.{AreInductiveBy}
use Rattle.loop_check.specs.declared.label.Label.{Label}
use Rattle.loop_check.specs.Rules.{loop_rules}

-- the program has labels that are inductive by the rules of loops, and the bound is the first one's potential
abbrev pub HasLabels : Program → Bound → Type 0
HasLabels program bound = (labels : List (LabelOf Label)) × AreInductiveBy loop_rules program labels bound

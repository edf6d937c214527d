use Rattle.std.proofs.Common.{◌≤◌, ◌⊎◌, inl, inr, length, take, ap, sym, arith, ◌∙◌}
use Rattle.std.specs.List.{list_any}
use Rattle.assembler_lines.specs.Slots.{has_label, lines_of}
use Rattle.assembler.specs.Lines.{lines_left}
use Rattle.assembler.proofs.Reading.{none_left}
use Rattle.assembler.proofs.Resolving.{before_held}
use Rattle.assembler.proofs.labels.Labels.is_taken.Goals.{else-loop-self-test, then-loop-self-test+in_default}
use Rattle.assembler.proofs.labels.Labels.is_taken.Goals as goal

pub returns-clause-found : goal.returns-clause-found
returns-clause-found c =
    let labels = c.loop-self.self in
    let lines = lines_of labels.source.now in
    let within : (c.args.index ≤ labels.count) ⊎ (length lines ≤ labels.count) = elim c.loop-self-test.branch [
      | else-loop-self-test w ↦ inl (omega (arith, w.loop-self-test.false))
      | then-loop-self-test+in_default w ↦ inr (none_left lines labels.count (sym (ap lines_left w.in_default.is) ∙ labels.left))
    ] in
    c.is_before.ensures ∙ before_held lines c.args.name.now labels.count c.args.index c.definition_of.result (c.definition_of.ensures ∙ labels.held c.args.name.now) within
    ∙ ap (λ source. list_any (has_label c.args.name.now) (take c.args.index (lines_of source.now))) c.loop-self.invariant

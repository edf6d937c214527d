use Rattle.std.proofs.Common.{◌≡◌, not, ap, sym, ◌∙◌}
use Rattle.std.specs.Option.{option_map}
use Rattle.assembler_lines.specs.Slots.{definition, lines_of}
use Rattle.assembler.specs.Labels.{defined_at}
use Rattle.assembler.proofs.Reading.{none_left, rest_none, rest_some}
use Rattle.assembler.proofs.Resolving.{found_early, found_at_end}
use Rattle.assembler.proofs.labels.Labels.find.Goals.{then-is_some-via-then-is_some, then-is_some-via-else-is_some+then-is_none}
use Rattle.assembler.proofs.labels.Labels.find.Goals as goal

pub returns-then-is_some-clause-found : goal.returns-then-is_some-clause-found
returns-then-is_some-clause-found c =
    let labels = c.loop-self.self in
    let lines = lines_of labels.source.now in
    let name = c.args.name.now in
    let known = c.definition_of-found.ensures ∙ labels.held name in
    let there : c.definition_of-found.result ≡ option_map (defined_at lines) (definition lines name) = elim c.then-is_some.branch [
      | then-is_some-via-then-is_some w ↦ found_early lines name labels.count c.definition_of-found.result known (sym c.is_some.ensures ∙ w.if-is_some.true)
      | then-is_some-via-else-is_some+then-is_none w ↦ found_at_end lines name labels.count c.definition_of-found.result known (none_left lines labels.count (sym (rest_none labels.rest (w.is_none.ensures ∙ ap not w.if-is_none.true)) ∙ labels.left))
    ] in
    there ∙ ap (λ source. option_map (defined_at (lines_of source.now)) (definition (lines_of source.now) name)) c.loop-self.invariant

pub read_label-requires : goal.read_label-requires
read_label-requires c = rest_some c.loop-self.self.rest (c.is_none.ensures ∙ ap not c.if-is_none.false)

use Rattle.std.proofs.Common.{◌≡◌, ap, ◌∙◌}
use Rattle.std.proofs.lemmas.Int.{to_z-of_z}
use Rattle.std.specs.Int.{cast_unsigned, w32, w64}
use Rattle.semantics.specs.Value.{cut}
use Rattle.abstract_state.proofs.Widths.{cut_of_narrow}
use Rattle.abstract_state.proofs.branch.compared.Goals as goal

pub returns-in-Full-clause-contains : goal.returns-in-Full-clause-contains
returns-in-Full-clause-contains c = λ lengths.
    let same : c.extended-value.result ≡ cast_unsigned w64 c.args.value = c.extended-value.ensures ∙ ap (cast_unsigned w64) (to_z-of_z w32 c.args.value c.ranges.value) in
    (c.extended-value.result, ap (cut c.args.width) same, c.constant.ensures.contains lengths)

pub returns-in-Narrow-clause-contains : goal.returns-in-Narrow-clause-contains
returns-in-Narrow-clause-contains c = λ lengths.
    let same : c.extended-value.result ≡ cast_unsigned w64 c.args.value = c.extended-value.ensures ∙ ap (cast_unsigned w64) (to_z-of_z w32 c.args.value c.ranges.value) in
    (_, cut_of_narrow c.args.width c.extended-value.result c.in-Narrow.is ∙ ap (cut c.args.width) same, c.constant-in-Narrow.ensures.contains lengths)

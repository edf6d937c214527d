use Rattle.std.proofs.Common.{FitsSigned, ap, ◌∙◌, rules}
use Rattle.std.proofs.lemmas.Int.{to_z-of_z}
use Rattle.std.specs.Int.{w128}
use Rattle.potential_edges.specs.Edges.{rest_together, rest_by}
use Rattle.potential_edges.proofs.rest.rest_of.Goals as goal

pub returns-in-Some-clause-rule : goal.returns-in-Some-clause-rule
returns-in-Some-clause-rule c =
    let a = c.args.state.now.state in
    let before = c.args.before.now in
    let after = c.args.after.now in
    let fits : FitsSigned w128 c.in-Some.more = search rules in
    c.together.ensures.rule
    ∙ ap (rest_together a before after) (to_z-of_z w128 c.in-Some.more fits)
    ∙ ap (rest_by a c.args.behind.now before after) c.in-Some.ensures.rule

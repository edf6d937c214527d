use Rattle.std.proofs.Common.{◌≡◌, ◌+◌, ◌∙◌, refl, sym, ap, rules}
use Rattle.abstract_state.specs.declared.region.Region.{Region}
use Rattle.abstract_state.specs.Lent.{base_of}
use Rattle.abstract_state.proofs.known.join_lent.Goals as goal

pub returns-clause-left : goal.returns-clause-left
returns-clause-left c = λ lengths x a. (a.0, a.1, c.join-offset.ensures.left lengths a.0 a.2)

pub returns-clause-right : goal.returns-clause-right
returns-clause-right c = λ lengths x b.
    let same : c.args.a.region ≡ c.args.b.region = search rules in
    (b.0, b.1 ∙ ap (λ (r : Region). base_of r + b.0) (sym same), c.join-offset.ensures.right lengths b.0 b.2)

pub returns-clause-joins : goal.returns-clause-joins
returns-clause-joins c = λ same. (_, refl, refl, c.join-offset.ensures.joins)

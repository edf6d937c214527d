use Rattle.std.proofs.Common.{◌+◌, ℕ, refl, sym, ap, ◌∙◌}
use Rattle.semantics.specs.Value.{cut}
use Rattle.abstract_state.specs.declared.region.Region.{Region}
use Rattle.abstract_state.specs.Lent.{base_of}
use Rattle.abstract_state.specs.Quantity.{Contains}
use Rattle.abstract_state.proofs.Options.{at_some, at_none}
use Rattle.value_marks.proofs.Words.{same_base}
use Rattle.value_marks.proofs.telling.told_address.Goals as goal

pub returns-in_default-clause-sound : goal.returns-in_default-clause-sound
returns-in_default-clause-sound c = λ lengths m n a b e.
    let first = a.1 ∙ ap (λ (r : Region). base_of r + a.0) c.requires.region in
    let moved = sym (ap (cut c.args.width) b.1) ∙ e ∙ ap (λ (k : ℕ). cut c.args.width (k + c.args.ahead)) first in
    let offsets = same_base c.args.width (base_of c.args.y.region) a.0 b.0 c.args.ahead moved in
    absurd (at_none (λ q. Contains q lengths b.0) _ c.in_default.is (c.told.ensures.sound lengths a.0 b.0 a.2 b.2 offsets))

pub returns-clause-sound : goal.returns-clause-sound
returns-clause-sound c = λ lengths m n a b e.
    let first = a.1 ∙ ap (λ (r : Region). base_of r + a.0) c.requires.region in
    let moved = sym (ap (cut c.args.width) b.1) ∙ e ∙ ap (λ (k : ℕ). cut c.args.width (k + c.args.ahead)) first in
    let offsets = same_base c.args.width (base_of c.args.y.region) a.0 b.0 c.args.ahead moved in
    (_, refl, (b.0, b.1, at_some (λ q. Contains q lengths b.0) _ _ c.in-Some.is (c.told.ensures.sound lengths a.0 b.0 a.2 b.2 offsets)))

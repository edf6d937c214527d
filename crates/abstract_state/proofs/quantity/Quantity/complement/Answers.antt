use Rattle.std.proofs.Common.{◌≡◌, ◌+◌, ◌*◌, ◌≤◌, ◌^◌}
use Rattle.semantics.specs.Value.{bits_of}
use Rattle.abstract_state.proofs.Widths.{complement_is}
use Rattle.abstract_state.proofs.quantity.Quantity.complement.Goals as goal

pub returns-in-Some-clause-contains : goal.returns-in-Some-clause-contains
returns-in-Some-clause-contains c = λ lengths x a f.
    let same : x ≡ c.in-Some.b = c.in-Some.ensures.contains lengths x a in
    let at_least : c.half.result ≤ c.in-Some.b = c.if-b-half.true in
    let whole : 2 * c.half.result ≡ 2 ^ bits_of c.args.width = c.half.ensures in
    let most : c.greatest-in-Some.result + 1 ≡ 2 ^ bits_of c.args.width = c.greatest-in-Some.ensures in
    complement_is c.constant.result lengths c.args.width x c.in-Some.b c.half.result c.greatest-in-Some.result same at_least whole most f (c.constant.ensures.contains lengths)

use Rattle.std.proofs.Common.{ap, arith, rules, length, IsUtf8}
use Rattle.std.specs.Str.{chars}
use Rattle.std.proofs.lemmas.Str.{length-le-encodes, encodes-chars}
use Rattle.span_view.proofs.context.character_count.Goals as goal

pub overflow_cast-result : goal.overflow_cast-result
overflow_cast-result c =
    let text = c.span.inside.text.now in
    let utf8 : IsUtf8 text = search rules in
    let few = length-le-encodes (chars text) in
    let same = ap length (encodes-chars text utf8) in
    let short = c.span.invariant.0.short in
    let count = c.span.invariant.1 in
    omega (arith, few, same, short, count)

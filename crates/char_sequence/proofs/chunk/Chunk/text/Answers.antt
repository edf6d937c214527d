use Rattle.std.proofs.Common.{◌∙◌, length, ap, arith}
use Rattle.char_sequence.proofs.VisibleText.{visible_most}
use Rattle.char_sequence.proofs.chunk.Chunk.text.Goals as goal

pub returns-clause-few : goal.returns-clause-few
returns-clause-few c =
    let size = ap length (c.as_str.ensures.value ∙ c.self.invariant.1.shown) in
    let few = c.self.invariant.0.few in
    omega (arith, size, few, visible_most c.self.inside.items.items)

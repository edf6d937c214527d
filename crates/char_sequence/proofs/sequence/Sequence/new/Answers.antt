use Rattle.std.proofs.Common.{length, [], ap, ◌∙◌, arith}
use Rattle.char_sequence.specs.Chunks.{joined}
use Rattle.char_sequence.specs.Visible.{visible_text}
use Rattle.char_sequence.proofs.VisibleText.{visible_none}
use Rattle.char_sequence.proofs.Reviving.{holds_none}
use Rattle.char_sequence.proofs.sequence.Sequence.new.Goals as goal

pub invariant_of-result : goal.invariant_of-result
invariant_of-result c =
    let none = ap joined c.new.ensures in
    let size = ap length none in
    let bytes = ap length (ap visible_text none ∙ visible_none) in
    (omega (arith, size), omega (arith, bytes), ([], holds_none _ _ _ none c.new-2.ensures c.new-3.ensures.removals c.new-3.ensures.back))

pub returns : goal.returns
returns c = holds_none _ _ _ (ap joined c.new.ensures) c.new-2.ensures c.new-3.ensures.removals c.new-3.ensures.back

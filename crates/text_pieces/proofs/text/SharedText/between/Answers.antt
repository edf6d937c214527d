use Rattle.std.proofs.Common.{◌≤◌, ℕ, List, length, ap, ◌∙◌, arith}
use Rattle.std.specs.List.{slice_range}
use Rattle.piece_tree.specs.Nodes.{pieces_of}
use Rattle.text_pieces.proofs.Pieces.{part_at, sum_characters}
use Rattle.text_pieces.proofs.text.SharedText.between.Goals as goal

pub overflow_add-from : goal.overflow_add-from
overflow_add-from c =
    omega (arith, c.requires.order, c.requires.within, c.keeps.ensures.short.characters, sum_characters c.self.inside.pieces, ap length c.self.view_is)

pub invariant_of-result : goal.invariant_of-result
invariant_of-result c =
    let within : c.args.to ≤ length (pieces_of c.self.inside.pieces) = omega (arith, c.requires.within, ap length c.self.view_is) in
    ((part_at c.self.inside.pieces c.args.from c.args.to c.spot-spot.result c.self.invariant.0 c.spot-spot.ensures c.requires.order within).extract, tt)

pub returns : goal.returns
returns c =
    let within : c.args.to ≤ length (pieces_of c.self.inside.pieces) = omega (arith, c.requires.within, ap length c.self.view_is) in
    (part_at c.self.inside.pieces c.args.from c.args.to c.spot-spot.result c.self.invariant.0 c.spot-spot.ensures c.requires.order within).is
    ∙ ap (λ (l : List ℕ). slice_range l c.args.from c.args.to) c.self.view_is

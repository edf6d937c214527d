use Rattle.std.proofs.Common.{◌-◌, ◌+◌, ◌≤◌, ℕ, List, drop, length, sym, ap, ◌∙◌, arith}
use Rattle.piece_tree.specs.Nodes.{pieces_of}
use Rattle.text_pieces.proofs.Pieces.{drop_past, has_first, size_past}
use Rattle.text_pieces.proofs.place.place_behind.Goals as goal

pub loop-before-preserved : goal.loop-before-preserved
loop-before-preserved c =
    let ps : List (List ℕ) = c.args.pieces.now in
    let k : ℕ = c.loop-before.index in
    let n : ℕ = c.loop-before.before in
    let piece : List ℕ = c.piece_at-piece.result.now in
    let le : length piece ≤ n = omega (arith, c.characters-size.ensures, c.if-before-size.false) in
    record {
      same =
          ap (λ (i : ℕ). drop (n - i) (pieces_of (drop (k + 1) ps))) c.characters-size.ensures
          ∙ sym (drop_past ps k n piece c.piece_at-piece.ensures le) ∙ c.loop-before.invariant.same;
      within = omega (arith, c.characters-size.ensures, c.loop-before.invariant.within, size_past ps k piece c.piece_at-piece.ensures);
      known = tt;
    }

pub returns-clause-begins : goal.returns-clause-begins
returns-clause-begins c = λ piece is. omega (arith, c.loop-before-test.false, has_first c.args.pieces.now c.loop-before.index piece c.requires.filled is)

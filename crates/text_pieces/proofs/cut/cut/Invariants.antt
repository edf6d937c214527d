use Rattle.std.proofs.Common.{◌≡◌, ◌++◌, ◌+◌, ◌*◌, ◌≤◌, length, All, IsUtf8}
use Rattle.std.specs.Str.{chars}
use Rattle.piece_tree.specs.Nodes.{pieces_of}
use Rattle.text_pieces.specs.Texts.{AreAllLarge, IsPiece}
use Rattle.text_pieces.proofs.cut.cut.Given as goal

abbrev pub invariant-loop-rest : goal.invariant-loop-rest
invariant-loop-rest l = record {
  utf8 : IsUtf8 l.rest;
  flat : pieces_of l.pieces.items ++ chars l.rest ≡ chars l.text;
  filled : All IsPiece l.pieces.items;
  large : AreAllLarge l.pieces.items;
  left : 64 ≤ length l.text → 64 ≤ length l.rest;
  few : 110 * length l.pieces.items + length l.rest ≤ length l.text;
  cost : l.initial.budget + length l.rest ≤ l.budget + (96 * length l.pieces.items + length l.text);
  less : l.budget ≤ l.initial.budget;
}

abbrev pub decreases-loop-rest : goal.decreases-loop-rest
decreases-loop-rest l = length l.rest

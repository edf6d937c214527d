use Rattle.std.proofs.Common.{◌++◌, ◌∷◌, ℕ, List, [], ap, ◌∙◌}
use Rattle.text_pieces.proofs.Bytes.{bytes_of_chars}
use Rattle.text_pieces.proofs.Texts.{piece_of}
use Rattle.text_pieces.proofs.cut.add.Goals as goal

pub returns-clause-added : goal.returns-clause-added
returns-clause-added c = c.in_ok-push.ensures ∙ ap (λ (l : List ℕ). c.args.pieces.now.items ++ l ∷ []) c.in_ok-piece.ensures.piece

pub returns-clause-piece : goal.returns-clause-piece
returns-clause-piece c = piece_of c.args.text.now c.utf8.text c.requires.some c.requires.few

pub returns-clause-size : goal.returns-clause-size
returns-clause-size c = bytes_of_chars c.args.text.now c.utf8.text

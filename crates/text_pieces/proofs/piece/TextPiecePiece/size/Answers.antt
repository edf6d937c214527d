use Rattle.std.proofs.Common.{ℕ, List, length, sym, ap, ◌∙◌, encode_utf8_all}
use Rattle.std.proofs.lemmas.Str.{encodes-chars}
use Rattle.piece_tree.specs.declared.piece.Measure.{Measure}
use Rattle.text_pieces.specs.Texts.{text_size}
use Rattle.text_pieces.proofs.piece.TextPiecePiece.size.Goals as goal

pub returns-in-Parts : goal.returns-in-Parts
returns-in-Parts c =
    ap length (sym (encodes-chars c.text.result.now c.text.utf8)) ∙ ap (λ (cs : List ℕ). length (encode_utf8_all cs)) c.text.ensures
    ∙ ap (λ (m : Measure). text_size m c.args.self.now) (sym c.in-Parts.is)

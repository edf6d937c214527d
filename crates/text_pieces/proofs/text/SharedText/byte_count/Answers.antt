use Rattle.std.proofs.Common.{ℕ, List, length, ap, ◌∙◌, encode_utf8_all}
use Rattle.text_pieces.proofs.Pieces.{sum_bytes}
use Rattle.text_pieces.proofs.text.SharedText.byte_count.Goals as goal

pub returns : goal.returns
returns c = c.size.ensures ∙ sum_bytes c.self.inside.pieces ∙ ap (λ (l : List ℕ). length (encode_utf8_all l)) c.self.view_is

use Rattle.std.proofs.Common.{length, ap, ◌∙◌}
use Rattle.text_pieces.proofs.Pieces.{sum_characters}
use Rattle.text_pieces.proofs.text.SharedText.character_count.Goals as goal

pub returns : goal.returns
returns c = c.size.ensures ∙ sum_characters c.self.inside.pieces ∙ ap length c.self.view_is

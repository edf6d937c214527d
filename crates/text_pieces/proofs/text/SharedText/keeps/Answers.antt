use Rattle.std.proofs.Common.{ℕ, List, length, ap, subst, arith, encode_utf8_all}
use Rattle.text_pieces.specs.Texts.{AreCharacters}
use Rattle.text_pieces.proofs.Pieces.{pieces_spelt, sum_bytes}
use Rattle.text_pieces.proofs.text.SharedText.keeps.Goals as goal

pub returns-clause-spelt : goal.returns-clause-spelt
returns-clause-spelt c = subst (λ (l : List ℕ). AreCharacters l) c.self.view_is (pieces_spelt c.self.inside.pieces c.self.invariant.0)

pub returns-clause-short : goal.returns-clause-short
returns-clause-short c =
    omega (arith, c.keeps.ensures.short.parts, sum_bytes c.self.inside.pieces, ap (λ (l : List ℕ). length (encode_utf8_all l)) c.self.view_is)

use Rattle.std.proofs.Common.{ℕ, List, All, sym, subst}
use Rattle.text_pieces.specs.Texts.{AreLarge, IsPiece}
use Rattle.text_pieces.proofs.text.SharedText.shared.Goals as goal

pub invariant_of-result : goal.invariant_of-result
invariant_of-result c = subst (λ (l : List (List ℕ)). All IsPiece l × AreLarge l) (sym c.in_ok-pieces.ensures) c.self.invariant

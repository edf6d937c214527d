-- Several operations more, as those of a change.
use Rattle.std.proofs.Common.{◌↔◌, suc, List, [], ◌∷◌, ◌++◌, take, refl, sym, subst, append_assoc, ⊎_elim}
use Rattle.std.specs.List.{Contains}
use Rattle.std.proofs.lemmas.List.{append-nil}
use Rattle.std.proofs.lemmas.List.Elements.{Contains-append_left, Contains-append_cases}
use Rattle.change_ops.specs.declared.size.Size.{Size}
use Rattle.change_ops.specs.declared.id.OpId.{OpId}
use Rattle.change_ops.specs.declared.attribute.Key.{Key}
use Rattle.change_ops.specs.declared.operation.Op.{Op}
use Rattle.char_sequence.specs.declared.sequence.Element.{Element}
use Rattle.char_sequence.specs.Tree.{Present}
use Rattle.char_sequence.specs.Order.{Shows}
use Rattle.char_sequence.specs.Acceptance.{Accepts}
use Rattle.mark_anchors.specs.Format.{Touches, IsFormat}
use Rattle.mark_anchors.specs.Formatting.{Format}
use Rattle.version_laws.specs.Later.{Extends}
use Rattle.char_sequence.specs.Acceptance.{AcceptsAll}
use Rattle.version_laws.proofs.OrderKept.{extends_self, extends_trans, extends_accepted}
use Rattle.version_laws.proofs.FormatKept.{format_same}

-- Operations of which each is accepted after those before it extend the first ones.
pub extends_all : {size : Size} (ops added : List Op) → AcceptsAll size ops added → Extends ops (ops ++ added)
extends_all {size = size} ops [] all = subst (λ l. Extends ops l) (sym (append-nil ops)) (extends_self ops)
extends_all {size = size} ops (op ∷ added) all =
    let first : Accepts size ops op = subst (λ l. Accepts size l op) (append-nil ops) (all 0 op refl) in
    let rest : AcceptsAll size (ops ++ op ∷ []) added = λ i o g. subst (λ l. Accepts size l o) (sym (append_assoc ops (op ∷ []) (take i added))) (all (suc i) o g) in
    subst (λ l. Extends ops l) (append_assoc ops (op ∷ []) added)
    (extends_trans ops (ops ++ op ∷ []) ((ops ++ op ∷ []) ++ added) (extends_accepted ops op first) (extends_all (ops ++ op ∷ []) added rest))

module _ {size : Size} (ops added : List Op) (es : List Element) (shows : Shows es ops) (all : AcceptsAll size ops added) where
  -- The format of a character stays where none of the operations touches it.
  pub format_all : (e : OpId) → Present ops e → ((key : Key) (o : Op) → Contains added o → Touches (ops ++ added) key e o → ⊥) → (f : Format) → IsFormat ops e f ↔ IsFormat (ops ++ added) e f
  format_all e at none =
      format_same ops (ops ++ added) shows.tree shows.named (extends_all ops added all) (λ o. Contains-append_left ops added o) e at
      (λ key o held touches.
      ⊎_elim
      (λ (old : Contains ops o). old)
      (λ (new : Contains added o). absurd (none key o new touches))
      (Contains-append_cases ops added o held))

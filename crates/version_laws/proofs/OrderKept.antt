-- The order of two characters stays as operations come.
use Rattle.std.proofs.Common.{◌≡◌, ◌↔◌, ℕ, List, [], ◌∷◌, ◌++◌, Option, Some, None, inl, inr, sym, ap, refl, ◌∙◌, subst, ⊎_elim}
use Rattle.std.proofs.lemmas.Option.{same_Some, none-some}
use Rattle.change_ops.specs.declared.size.Size.{Size}
use Rattle.change_ops.specs.Operations.{id_of}
use Rattle.change_ops.specs.declared.id.OpId.{OpId}
use Rattle.change_ops.specs.declared.operation.Op.{Op}
use Rattle.change_ops.specs.declared.operation.Op.TheVariants.{Insert}
use Rattle.char_sequence.specs.Tree.{Inserts, Present, Within, itself, below, Ancestor, IsTree}
use Rattle.char_sequence.specs.Order.{Fork, Before}
use Rattle.char_sequence.specs.Acceptance.{Accepts}
use Rattle.char_sequence.proofs.TreeLaws.{cases_within, before_kept}
use Rattle.char_sequence.proofs.Holding.{grows_push, inserts_cases, not_present}
use Rattle.version_laws.specs.Later.{Extends}

-- ---- which operations extend others
pub extends_accepted : {size : Size} (ops : List Op) (op : Op) → Accepts size ops op → Extends ops (ops ++ op ∷ [])
extends_accepted ops op a = record {
  more = grows_push ops op;
  same =
      λ x p q h i.
      ⊎_elim
      (λ (old : Inserts ops x q). old)
      (λ (new : (c : ℕ) × (op ≡ Insert x q c)). absurd (not_present ops op a (subst (λ z. Present ops z) (sym (ap id_of new.1)) (p, h))))
      (inserts_cases ops op x q i);
}

pub extends_self : (ops : List Op) → Extends ops ops
extends_self ops = record { more = λ x p i. i; same = λ x p q h i. i }

pub extends_trans : (first second third : List Op) → Extends first second → Extends second third → Extends first third
extends_trans first second third h k = record {
  more = λ x p i. k.more x p (h.more x p i);
  same = λ x p q i j. h.same x p q i (k.same x p q (h.more x p i) j);
}

-- ---- no path between two characters leads through a later one
parent_there : (ops : List Op) → IsTree ops → (x : OpId) (p : Option OpId) → Inserts ops x p → (m : OpId) → p ≡ Some m → Present ops m
parent_there ops t x p i m e =
    ⊎_elim
    (λ (root : None ≡ p). absurd (none-some m (root ∙ e)))
    (λ (r : (z : OpId) × (p ≡ Some z) × Ancestor ops None z).
    subst (λ z. Present ops z) (same_Some r.0 m (sym r.1 ∙ e)) (r.2.0, r.2.2))
    (cases_within ops None p (t.rooted x p i))

within_back : (old new : List Op) → IsTree old → Extends old new → (a q : Option OpId) → Within new a q → ((m : OpId) → q ≡ Some m → Present old m) → Within old a q
within_back old new t h a q itself there = itself
within_back old new t h a q (below {p} {x} w i) there =
    let at : Present old x = there x refl in
    let was : Inserts old x p = h.same x at.0 p at.1 i in
    below (within_back old new t h a p w (parent_there old t x p was)) was

top_there : (ops : List Op) → IsTree ops → (l : OpId) (q : Option OpId) → Within ops (Some l) q → ((m : OpId) → q ≡ Some m → Present ops m) → Present ops l
top_there ops t l q itself there = there l refl
top_there ops t l q (below {p} {x} w i) there = top_there ops t l p w (parent_there ops t x p i)

there_itself : (ops : List Op) (x : OpId) → Present ops x → (m : OpId) → Some x ≡ Some m → Present ops m
there_itself ops x at m e = subst (λ z. Present ops z) (same_Some x m e) at

fork_back : (old new : List Op) → IsTree old → Extends old new → (a : Option OpId) (b : OpId) → ((m : OpId) → a ≡ Some m → Present old m) → Present old b → Fork new a b → Fork old a b
fork_back old new t h a b there at f =
    let left : Within old (Some f.left) a = within_back old new t h (Some f.left) a f.on_left there in
    let right : Within old (Some f.right) (Some b) = within_back old new t h (Some f.right) (Some b) f.on_right (there_itself old b at) in
    let l : Present old f.left = top_there old t f.left a left there in
    let r : Present old f.right = top_there old t f.right (Some b) right (there_itself old b at) in
    record {
      at = f.at;
      left = f.left;
      right = f.right;
      left_branch = h.same f.left l.0 f.at l.1 f.left_branch;
      right_branch = h.same f.right r.0 f.at r.1 f.right_branch;
      greater = f.greater;
      on_left = left;
      on_right = right;
    }

-- the first is the root or was there, and the second was there
pub before_back : (old new : List Op) → IsTree old → Extends old new → (a : Option OpId) (b : OpId) → ((m : OpId) → a ≡ Some m → Present old m) → Present old b → Before new a b → Before old a b
before_back old new t h a b there at (inl (p, w, i)) =
    let was : Inserts old b p = h.same b at.0 p at.1 i in
    inl (p, within_back old new t h a p w (parent_there old t b p was), was)
before_back old new t h a b there at (inr f) = inr (fork_back old new t h a b there at f)

-- Of two characters that were there, one stands before the other exactly if it did.
pub before_same : (old new : List Op) → IsTree old → Extends old new → (x y : OpId) → Present old x → Present old y → Before old (Some x) y ↔ Before new (Some x) y
before_same old new t h x y at bt = (before_kept old new h.more (Some x) y, before_back old new t h (Some x) y (there_itself old x at) bt)

-- The same after one more accepted operation.
pub order : {size : Size} (ops : List Op) (op : Op) → IsTree ops → Accepts size ops op → (x y : OpId) → Present ops x → Present ops y → Before ops (Some x) y ↔ Before (ops ++ op ∷ []) (Some x) y
order ops op t a = before_same ops (ops ++ op ∷ []) t (extends_accepted ops op a)

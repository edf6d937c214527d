use Rattle.std.proofs.Common.{◌≡◌, Some, ap, sym, ◌∙◌, subst}
use Rattle.std.specs.Option.{IfSome}
use Rattle.bpf_words.specs.declared.instruction.Width.{Width}
use Rattle.semantics.specs.Value.{cut, holds_of}
use Rattle.abstract_state.specs.declared.known.Known.{Known}
use Rattle.abstract_state.specs.Known.{ContainsKnown}
use Rattle.abstract_state.specs.declared.address.LentAddress.{LentAddress}
use Rattle.abstract_state.specs.declared.known.Known.TheVariants.{Lent}
use Rattle.abstract_state.specs.Lent.{tail_of}
use Rattle.abstract_state.specs.Branch.{LongFrom}
use Rattle.abstract_state.proofs.branch.pair_on.Goals as goal

pub returns-in-Number-Number-default-clause-sound : goal.returns-in-Number-Number-default-clause-sound
returns-in-Number-Number-default-clause-sound c = λ lengths m n a b h.
    c.numbers_on.ensures.sound lengths m n
    (subst (λ (v : Known). ContainsKnown v lengths m) c.in-Number-Number-default.is-0 a)
    (subst (λ (v : Known). ContainsKnown v lengths n) c.in-Number-Number-default.is-1 b) h

pub returns-then-is_order-clause-sound : goal.returns-then-is_order-clause-sound
returns-then-is_order-clause-sound c = λ lengths m n a b h.
    c.addresses_on.ensures.sound lengths m n
    (subst (λ (v : Known). ContainsKnown v lengths m) c.in-Lent-Lent-Full.is-0 a)
    (subst (λ (v : Known). ContainsKnown v lengths n) c.in-Lent-Lent-Full.is-1 b)
    (sym (ap (λ (w : Width). holds_of c.args.comparison w (cut w m) (cut w n)) c.in-Lent-Lent-Full.is-2) ∙ h)

lent_same : (k : Known) (x p : LentAddress) → k ≡ Lent x → k ≡ Lent p → x ≡ p
lent_same k x p e f = cc

pub returns-then-is_order-clause-guards : goal.returns-then-is_order-clause-guards
returns-then-is_order-clause-guards c = λ p q t wide greater untaken ia ib same tail.
    let left : c.in-Lent-Lent-Full.x ≡ p = lent_same _ _ _ c.in-Lent-Lent-Full.is-0 ia in
    let right : c.in-Lent-Lent-Full.y ≡ q = lent_same _ _ _ c.in-Lent-Lent-Full.is-1 ib in
    let there : tail_of c.in-Lent-Lent-Full.y.offset.tails c.in-Lent-Lent-Full.x.region ≡ Some t = subst (λ (a : LentAddress). tail_of c.in-Lent-Lent-Full.y.offset.tails a.region ≡ Some t) (sym left) (subst (λ (a : LentAddress). tail_of a.offset.tails p.region ≡ Some t) (sym right) tail) in
    subst (λ (a : LentAddress). IfSome c.addresses_on.result (λ sides. LongFrom a.region a.offset.range.low sides.left)) left
    (c.addresses_on.ensures.guards c.in-Lent-Lent-Full.x.region greater untaken t there)

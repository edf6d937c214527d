use Rattle.std.proofs.Common.{◌≤◌, ℕ, ◌%◌, ◌^◌, refl, subst, arith, sym}
use Rattle.std.specs.Option.{IfSome}
use Rattle.std.specs.Result.{IsOk, IfOk}
use Rattle.abstract_state.specs.Exact.{IsLentIn, IsNumberIn, IsNoLess}
use Rattle.abstract_state.proofs.Exact.{one_stays, moved_number, moved_lent}
use Rattle.std.proofs.lemmas.Result.{IfOk-weaker}
use Rattle.abstract_state.specs.Known.{ContainsKnown, WithinKnown}
use Rattle.abstract_state.specs.declared.known.Known.{Known}
use Rattle.abstract_state.proofs.Widths.{full_is}
use Rattle.abstract_state.proofs.Addresses.{known_fits, lent_moved}
use Rattle.abstract_state.proofs.known.Known.moved.Goals as goal

pub returns-in-Number-default-clause-sound : goal.returns-in-Number-default-clause-sound
returns-in-Number-default-clause-sound c = λ lengths x a.
    c.number.ensures.contains lengths _ (c.moved.ensures.contains lengths x (subst (λ (k : Known). ContainsKnown k lengths x) c.in-Number-default.is-0 a))

pub returns-in-Lent-Full-clause-sound : goal.returns-in-Lent-Full-clause-sound
returns-in-Lent-Full-clause-sound c = IfOk-weaker c.lent.result _ _
    (λ o h lengths x a.
    let address = subst (λ (k : Known). ContainsKnown k lengths x) c.in-Lent-Full.is-0 a in
    subst (λ (n : ℕ). WithinKnown o lengths n) (lent_moved c.in-Lent-Full.a.region c.args.width x address.0 c.in-Lent-Full.is-1 address.1)
    (h lengths (address.0 % 2 ^ 64) (c.moved-in-Lent-Full.ensures.contains lengths address.0 address.2)))
    c.lent.ensures.sound

pub returns-in-Context-Full-clause-sound : goal.returns-in-Context-Full-clause-sound
returns-in-Context-Full-clause-sound c = λ lengths x a.
    (_, refl, subst (λ (n : ℕ). ContainsKnown c.args.self lengths n) (full_is c.args.width x c.in-Context-Full.is-1 (known_fits c.args.self lengths x a)) a)

pub returns-in-Stack-Full-clause-sound : goal.returns-in-Stack-Full-clause-sound
returns-in-Stack-Full-clause-sound c = λ lengths x a.
    (_, refl, subst (λ (n : ℕ). ContainsKnown c.args.self lengths n) (full_is c.args.width x c.in-Stack-Full.is-1 (known_fits c.args.self lengths x a)) a)

pub returns-in-Lent-Full-clause-lent : goal.returns-in-Lent-Full-clause-lent
returns-in-Lent-Full-clause-lent c = λ at wide n t is.
    let given = subst (λ (k : Known). IsLentIn at n n t k) c.in-Lent-Full.is-0 is in
    let near : n ≤ 2 ^ 20 = omega (arith, c.in-Lent-Full.a.near, given.1.1) in
    c.lent.ensures.there at n n t given.0 (one_stays at c.moved-in-Lent-Full.result c.in-Lent-Full.a.offset.bits c.in-Lent-Full.a.offset.range c.in-Lent-Full.a.offset.tails n t (c.moved-in-Lent-Full.ensures.narrows refl) (c.moved-in-Lent-Full.ensures.bits refl) given.1.0 given.1.1 given.1.2 given.1.3) near

pub returns-in-Number-default-clause-constant : goal.returns-in-Number-default-clause-constant
returns-in-Number-default-clause-constant c = λ at wide n t is.
    let given = subst (λ (k : Known). IsNumberIn at n n t k) c.in-Number-default.is-0 is in
    c.number.ensures.same at n n t
    (one_stays at c.moved.result c.in-Number-default.a.bits c.in-Number-default.a.range c.in-Number-default.a.tails n t (c.moved.ensures.narrows wide) (c.moved.ensures.bits wide) given.0 given.1 given.2 given.3)

pub returns-in-Number-default-clause-whole : goal.returns-in-Number-default-clause-whole
returns-in-Number-default-clause-whole c = λ wide. (
  refl,
  subst (λ (k : Known). IfSome c.number.result (λ v. IsNoLess k v)) (sym c.in-Number-default.is-0)
      (moved_number c.in-Number-default.a c.moved.result c.number.result (c.moved.ensures.narrows wide) (c.moved.ensures.bits wide) c.number.ensures.none c.number.ensures.some),
)

pub returns-in-Lent-Full-clause-whole : goal.returns-in-Lent-Full-clause-whole
returns-in-Lent-Full-clause-whole c = λ wide.
    subst (λ (k : Known). IsOk c.lent.result × IfOk c.lent.result (λ v. IfSome v (λ u. IsNoLess k u))) (sym c.in-Lent-Full.is-0)
    (moved_lent c.in-Lent-Full.a c.moved-in-Lent-Full.result c.lent.result (c.moved-in-Lent-Full.ensures.narrows refl) (c.moved-in-Lent-Full.ensures.bits refl) c.lent.ensures.none c.lent.ensures.some)

pub returns-in-Context-Full-clause-whole : goal.returns-in-Context-Full-clause-whole
returns-in-Context-Full-clause-whole c = λ wide. (refl, subst (λ (k : Known). IsNoLess k k) (sym c.in-Context-Full.is-0) refl)

pub returns-in-Stack-Full-clause-whole : goal.returns-in-Stack-Full-clause-whole
returns-in-Stack-Full-clause-whole c = λ wide. (refl, subst (λ (k : Known). IsNoLess k k) (sym c.in-Stack-Full.is-0) refl)

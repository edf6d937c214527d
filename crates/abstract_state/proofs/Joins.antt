-- What joins, from what is known of both.
use Rattle.std.proofs.Common.{◌≡◌, ℕ, ◌⊎◌, inl, inr, Option, Some, None, refl, sym, subst, rules}
use Rattle.std.specs.Option.{IsSome, IfSome}
use Rattle.abstract_state.specs.declared.known.Known.{Known}
use Rattle.abstract_state.specs.declared.known.Known.TheVariants.{Number, Lent}
use Rattle.abstract_state.specs.declared.address.LentAddress.{LentAddress}
use Rattle.abstract_state.specs.declared.quantity.Quantity.{Quantity}
use Rattle.abstract_state.specs.declared.state.AbsReg.{AbsReg}
use Rattle.abstract_state.specs.declared.state.AbsReg.TheVariants.{Unset, Set}
use Rattle.abstract_state.specs.Known.{IsNumber, AreNumbers}
use Rattle.abstract_state.specs.Quantity.{JoinsNumber}
use Rattle.abstract_state.specs.Kinds.{IsContextAt, IsStackAt, JoinsReg}

-- the register that holds what is known, if anything is
abbrev pub held : Option Known → AbsReg
held None = Unset
held (Some k) = Set k

pub some_none : (o : Option Known) → o ≡ None → IsSome o → ⊥
some_none o e h = search rules

known_set : (a b : Known) → Set a ≡ Set b → a ≡ b
known_set a b e = cc

set_some : (a b : Known) → Some a ≡ Some b → Set a ≡ Set b
set_some a b e = cc

none_some : (a : Known) → None ≡ Some a → ⊥
none_some a e = cc

both_set : (a b : Known) → (Set a ≡ Unset) ⊎ (Set b ≡ Unset) → ⊥
both_set a b (inl e) = cc
both_set a b (inr e) = cc

pub joins_held : (a b : Known) (o : Option Known) → (IsNumber a → IsNumber b → IsSome o × AreNumbers o) → ((p q : Quantity) → a ≡ Number p → b ≡ Number q → (r : Quantity) × (o ≡ Some (Number r)) × JoinsNumber p q r) → ((p q : LentAddress) → a ≡ Lent p → b ≡ Lent q → p.region ≡ q.region → (r : LentAddress) × (o ≡ Some (Lent r)) × (r.region ≡ p.region) × JoinsNumber p.offset q.offset r.offset) → ((n : ℕ) → IsContextAt n (Set a) → IsContextAt n (Set b) → IsSome o × IfSome o (λ k. IsContextAt n (Set k))) → ((n : ℕ) → IsStackAt n (Set a) → IsStackAt n (Set b) → IsSome o × IfSome o (λ k. IsStackAt n (Set k))) → JoinsReg (Set a) (Set b) (held o)
joins_held a b None numbers values lent context stack = record {
  unset = λ either. refl;
  numbers = λ p q. absurd (some_none None refl (numbers p q).0);
  context = λ n p q. absurd (some_none None refl (context n p q).0);
  stack = λ n p q. absurd (some_none None refl (stack n p q).0);
  values = λ p q e f. absurd (none_some _ (values p q (known_set _ _ e) (known_set _ _ f)).1);
  lent = λ p q e f same. absurd (none_some _ (lent p q (known_set _ _ e) (known_set _ _ f) same).1);
}
joins_held a b (Some k) numbers values lent context stack = record {
  unset = λ either. absurd (both_set a b either);
  numbers = λ p q. (numbers p q).1;
  context = λ n p q. (context n p q).1;
  stack = λ n p q. (stack n p q).1;
  values = λ p q e f. let given = values p q (known_set _ _ e) (known_set _ _ f) in (given.0, set_some _ _ given.1, given.2);
  lent = λ p q e f same. let given = lent p q (known_set _ _ e) (known_set _ _ f) same in (given.0, set_some _ _ given.1, given.2, given.3);
}

pub joins_from : (a b c : AbsReg) (x y : Known) (o : Option Known) → a ≡ Set x → b ≡ Set y → held o ≡ c → JoinsReg (Set x) (Set y) (held o) → JoinsReg a b c
joins_from a b c x y o ea eb ec h =
    subst (λ (r : AbsReg). JoinsReg r b c) (sym ea)
    (subst (λ (r : AbsReg). JoinsReg (Set x) r c) (sym eb)
    (subst (λ (r : AbsReg). JoinsReg (Set x) (Set y) r) ec h))

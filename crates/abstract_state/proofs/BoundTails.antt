-- Addresses that took the tails that the bounds give them.
use Rattle.std.proofs.Common.{◌≡◌, ◌≤◌, ℕ, min, max, Option, Some, None, inl, inr, refl, sym, ◌∙◌, ap, subst, ⊎_elim, arith}
use Rattle.known_bits.specs.declared.Bits.{Bits}
use Rattle.known_bits.specs.Bits as known
use Rattle.intervals.specs.declared.Range.{Range}
use Rattle.abstract_state.specs.declared.address.LentAddress.{LentAddress}
use Rattle.abstract_state.specs.declared.quantity.Quantity.{Quantity}
use Rattle.abstract_state.specs.declared.known.Known.{Known}
use Rattle.abstract_state.specs.declared.known.Known.TheVariants.{Number, Context, Stack, Lent}
use Rattle.abstract_state.specs.declared.slot.Slot.{Slot}
use Rattle.abstract_state.specs.declared.slot.Slot.TheVariants.{Marks, Spilled}
use Rattle.abstract_state.specs.declared.state.AbsReg.{AbsReg}
use Rattle.abstract_state.specs.declared.state.AbsReg.TheVariants.{Unset, Set}
use Rattle.abstract_state.specs.Known.{IsNumber}
use Rattle.abstract_state.specs.Quantity.{JoinsNumber}
use Rattle.abstract_state.specs.Estimate.{greater_tail}
use Rattle.abstract_state.specs.Kinds.{IsNumberReg, IsContextAt, IsStackAt, IsMarked, JoinsReg, JoinsSlot, spilled_in}
use Rattle.abstract_state.specs.Bounded.{KeepsNumber, KeepsAddress, KeepsKnown, KeepsReg, KeepsSlot}

-- ---- the greater of two tails
pub greater_keeps : (a u : Option ℕ) (t : ℕ) → a ≡ Some t → (v : ℕ) × (greater_tail a u ≡ Some v) × (t ≤ v)
greater_keeps None u t e = absurd (cc)
greater_keeps (Some s) None t e = let same : s ≡ t = cc in (s, refl, omega arith)
greater_keeps (Some s) (Some u) t e = let same : s ≡ t = cc in (max s u, refl, omega arith)

pub tail_keeps : (a : Option ℕ) (t : ℕ) → a ≡ Some t → (v : ℕ) × (a ≡ Some v) × (t ≤ v)
tail_keeps a t e = (t, e, omega arith)

-- ---- what a register holds
known_number : (k j : Known) → KeepsKnown k j → IsNumber k → IsNumber j
known_number (Number q) j h n = subst IsNumber (sym h) tt
known_number (Context p) j h n = absurd n
known_number (Stack p) j h n = absurd n
known_number (Lent p) j h n = absurd n

reg_unset : (a b : AbsReg) → KeepsReg a b → a ≡ Unset → b ≡ Unset
reg_unset Unset b k e = k
reg_unset (Set x) b k e = absurd (cc)

reg_number : (a b : AbsReg) → KeepsReg a b → IsNumberReg a → IsNumberReg b
reg_number Unset b k n = absurd n
reg_number (Set x) b (j, e, h) n = subst IsNumberReg (sym e) (known_number x j h n)

reg_context : (n : ℕ) (a b : AbsReg) → KeepsReg a b → IsContextAt n a → IsContextAt n b
reg_context n Unset b k at = absurd at
reg_context n (Set (Number q)) b k at = absurd at
reg_context n (Set (Context p)) b (j, e, h) at = subst (λ (r : AbsReg). IsContextAt n r) (sym (e ∙ ap (λ (x : Known). Set x) h)) at
reg_context n (Set (Stack p)) b k at = absurd at
reg_context n (Set (Lent p)) b k at = absurd at

reg_stack : (n : ℕ) (a b : AbsReg) → KeepsReg a b → IsStackAt n a → IsStackAt n b
reg_stack n Unset b k at = absurd at
reg_stack n (Set (Number q)) b k at = absurd at
reg_stack n (Set (Context p)) b k at = absurd at
reg_stack n (Set (Stack p)) b (j, e, h) at = subst (λ (r : AbsReg). IsStackAt n r) (sym (e ∙ ap (λ (x : Known). Set x) h)) at
reg_stack n (Set (Lent p)) b k at = absurd at

value_kept : (b : AbsReg) (p : Quantity) → KeepsReg (Set (Number p)) b → b ≡ Set (Number p)
value_kept b p (j, e, h) = e ∙ ap (λ (x : Known). Set x) h

reg_value : (a b : AbsReg) (p : Quantity) → KeepsReg a b → a ≡ Set (Number p) → b ≡ Set (Number p)
reg_value a b p k e = value_kept b p (subst (λ (r : AbsReg). KeepsReg r b) e k)

lent_kept : (b : AbsReg) (p : LentAddress) → KeepsReg (Set (Lent p)) b → (q : LentAddress) × (b ≡ Set (Lent q)) × KeepsAddress p q
lent_kept b p (j, e, (q, f, h)) = (q, e ∙ ap (λ (x : Known). Set x) f, h)

reg_lent : (a b : AbsReg) (p : LentAddress) → KeepsReg a b → a ≡ Set (Lent p) → (q : LentAddress) × (b ≡ Set (Lent q)) × KeepsAddress p q
reg_lent a b p k e = lent_kept b p (subst (λ (r : AbsReg). KeepsReg r b) e k)

-- ---- what joins afterwards
number_joins : (p q x y r : Quantity) → KeepsNumber p x → KeepsNumber q y → JoinsNumber x y r → JoinsNumber p q r
number_joins p q x y r a b j = record {
  low = subst (λ (m : Range). min m.low q.range.low ≤ r.range.low) a.range (subst (λ (m : Range). min x.range.low m.low ≤ r.range.low) b.range j.low);
  high = subst (λ (m : Range). r.range.high ≤ max m.high q.range.high) a.range (subst (λ (m : Range). r.range.high ≤ max x.range.high m.high) b.range j.high);
  bits = λ k ka kb same.
      j.bits k
      (subst (λ (m : Bits). known.bit m.unknown k ≡ 0) (sym a.bits) ka)
      (subst (λ (m : Bits). known.bit m.unknown k ≡ 0) (sym b.bits) kb)
      (ap (λ (m : Bits). known.bit m.value k) a.bits ∙ same ∙ sym (ap (λ (m : Bits). known.bit m.value k) b.bits));
  tails = λ region t u ta ub.
      let s = a.tails region t ta in
      let v = b.tails region u ub in
      let w = j.tails region s.0 v.0 s.1 v.1 in
      (w.0, w.1, omega (arith, s.2, v.2, w.2));
}

pub register_joins : (a b x y c : AbsReg) → KeepsReg a x → KeepsReg b y → JoinsReg x y c → JoinsReg a b c
register_joins a b x y c ka kb j = record {
  unset = λ either. j.unset (⊎_elim (λ e. inl (reg_unset a x ka e)) (λ e. inr (reg_unset b y kb e)) either);
  numbers = λ p q. j.numbers (reg_number a x ka p) (reg_number b y kb q);
  context = λ n p q. j.context n (reg_context n a x ka p) (reg_context n b y kb q);
  stack = λ n p q. j.stack n (reg_stack n a x ka p) (reg_stack n b y kb q);
  values = λ p q e f. j.values p q (reg_value a x p ka e) (reg_value b y q kb f);
  lent = λ p q e f same.
      let s = reg_lent a x p ka e in
      let t = reg_lent b y q kb f in
      let given = j.lent s.0 t.0 s.1 t.1 (s.2.region ∙ same ∙ sym t.2.region) in
      (given.0, given.1, given.2 ∙ s.2.region, number_joins _ _ _ _ _ s.2.offset t.2.offset given.3);
}

slot_spilled : (a b : Slot) → KeepsSlot a b → KeepsReg (spilled_in a) (spilled_in b)
slot_spilled (Marks marks) b k = ap spilled_in k
slot_spilled (Spilled x) b (j, e, h) = (j, ap spilled_in e, h)

slot_marked : (a b : Slot) (n : ℕ) → KeepsSlot a b → IsMarked a n → IsMarked b n
slot_marked (Marks marks) b n k h = subst (λ (s : Slot). IsMarked s n) (sym k) h
slot_marked (Spilled x) b n (j, e, k) h = subst (λ (s : Slot). IsMarked s n) (sym e) (known_number x j k h)

pub slot_joins : (a b x y c : Slot) → KeepsSlot a x → KeepsSlot b y → JoinsSlot x y c → JoinsSlot a b c
slot_joins a b x y c ka kb j = record {
  spilled = register_joins _ _ _ _ _ (slot_spilled a x ka) (slot_spilled b y kb) j.spilled;
  marked = λ n less p q. j.marked n less (slot_marked a x n ka p) (slot_marked b y n kb q);
}

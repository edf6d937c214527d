-- What is known of one number stays that.
use Rattle.std.proofs.Common.{◌≡◌, ℕ, Option, Some, None, refl, ap, ◌∙◌, arith, ◌≤◌, ◌^◌, Ok, Result, sym, subst}
use Rattle.std.specs.Option.{IfSome}
use Rattle.std.specs.Result.{IsOk, IfOk}
use Rattle.abstract_state.specs.declared.refusal.Refusal.{Refusal}
use Rattle.intervals.specs.declared.Range.{Range}
use Rattle.abstract_state.specs.declared.region.Tails.{Tails}
use Rattle.abstract_state.specs.declared.quantity.Quantity.{Quantity}
use Rattle.known_bits.specs.declared.Bits.{Bits}
use Rattle.abstract_state.specs.Quantity.{Narrows, KeepsBits, LiesInBits}
use Rattle.abstract_state.specs.declared.region.Region.{Region}
use Rattle.abstract_state.specs.Lent.{tail_of}
use Rattle.abstract_state.specs.declared.known.Known.{Known}
use Rattle.abstract_state.specs.declared.known.Known.TheVariants.{Number, Context, Stack, Lent}
use Rattle.abstract_state.specs.declared.address.LentAddress.{LentAddress}
use Rattle.abstract_state.specs.declared.state.AbsReg.{AbsReg}
use Rattle.abstract_state.specs.declared.state.AbsReg.TheVariants.{Unset, Set}
use Rattle.abstract_state.specs.Kinds.{IsNumberReg}
use Rattle.abstract_state.specs.Known.{IsNumber, AreNumbers}
use Rattle.abstract_state.specs.Exact.{HasBits, IsIn, IsNumberIn, IsNoLess, Refines, Says, Holds, LentIn, NumberIn, AnyNumber, Exactly}
use Rattle.abstract_state.proofs.Options.{some_is, where_some}
use Rattle.abstract_state.proofs.KnownBits.{one_kept, bits_value, most_one}

pub one_stays : (region : Region) (o : Option Quantity) (bits : Bits) (range : Range) (tails : Tails) (n : ℕ) (t : Option ℕ) → Narrows o range tails → KeepsBits o bits → range.low ≡ n → range.high ≡ n → tail_of tails region ≡ t → HasBits bits n n → IfSome o (λ q. IsIn region q n n t)
one_stays region o bits range tails n t narrows keeps low high tail one = where_some _ o (λ q is.
    let inner = some_is _ o q is narrows in
    let ordered = q.range.ordered in (
      omega arith,
      omega arith,
      ap (λ (s : Tails). tail_of s region) inner.2 ∙ tail,
      one_kept bits q.bits n one (some_is _ o q is keeps),
    ))

-- where the bits are those of one number, the interval is too
pub one_made : (region : Region) (o : Option Quantity) (bits : Bits) (range : Range) (tails : Tails) (n : ℕ) (t : Option ℕ) → Narrows o range tails → KeepsBits o bits → IfSome o (λ q. LiesInBits q) → tail_of tails region ≡ t → HasBits bits n n → IfSome o (λ q. IsIn region q n n t)
one_made region o bits range tails n t narrows keeps lies tail one = where_some _ o (λ q is.
    let inner = some_is _ o q is narrows in
    let ends = some_is _ o q is lies in
    let ordered = q.range.ordered in
    let bits_now = one_kept bits q.bits n one (some_is _ o q is keeps) in
    let value = bits_value q.bits n bits_now in
    let top = most_one q.bits n bits_now in
    let low : q.range.low ≡ n = omega (arith, ends.0, ends.1, ordered, value, top) in
    let high : q.range.high ≡ n = omega (arith, ends.0, ends.1, ordered, value, top) in
    (low, high, ap (λ (s : Tails). tail_of s region) inner.2 ∙ tail, bits_now))

-- what an address in a lent region is
pub lent_set : (region : Region) (low high : ℕ) (t : Option ℕ) (reg : AbsReg) → Holds (LentIn region low high t) reg
    → (p : LentAddress) × (reg ≡ Set (Lent p)) × (p.region ≡ region) × IsIn region p.offset low high t
lent_set region low high t Unset h = absurd h
lent_set region low high t (Set (Number q)) h = absurd h
lent_set region low high t (Set (Context p)) h = absurd h
lent_set region low high t (Set (Stack p)) h = absurd h
lent_set region low high t (Set (Lent p)) h = (p, refl, h.0, h.1)

pub set_exactly : (reg : AbsReg) (k : Known) → reg ≡ Set k → Holds (Exactly k) reg
set_exactly Unset k e = absurd (cc)
set_exactly (Set v) k e = cc

pub any_number : (o : Option Known) → AreNumbers o → IfSome o (λ k. Says AnyNumber k)
any_number None h = tt
any_number (Some k) h = h

pub any_is_number : (reg : AbsReg) → Holds AnyNumber reg → IsNumberReg reg
any_is_number Unset h = absurd h
any_is_number (Set k) h = h

pub in_is_number : (region : Region) (low high : ℕ) (t : Option ℕ) (reg : AbsReg) → Holds (NumberIn region low high t) reg → IsNumberReg reg
in_is_number region low high t Unset h = absurd h
in_is_number region low high t (Set (Number q)) h = tt
in_is_number region low high t (Set (Context p)) h = absurd h
in_is_number region low high t (Set (Stack p)) h = absurd h
in_is_number region low high t (Set (Lent p)) h = absurd h

pub one_number : (region : Region) (low high : ℕ) (t : Option ℕ) (k : Known) → IsNumberIn region low high t k → IsNumber k
one_number region low high t (Number q) h = tt
one_number region low high t (Context p) h = absurd h
one_number region low high t (Stack p) h = absurd h
one_number region low high t (Lent p) h = absurd h

pub refines : (a : Quantity) (o : Option Quantity) (q : Quantity) → Narrows o a.range a.tails → KeepsBits o a.bits → o ≡ Some q → Refines a q
refines a o q narrows keeps is =
    let inner = some_is _ o q is narrows in
    record { low = inner.0; high = inner.1; bits = some_is _ o q is keeps; tails = inner.2 }

pub moved_number : (a : Quantity) (o : Option Quantity) (r : Option Known) → Narrows o a.range a.tails → KeepsBits o a.bits → (o ≡ None → r ≡ None) → ((q : Quantity) → o ≡ Some q → r ≡ Some (Number q)) → IfSome r (λ k. IsNoLess (Number a) k)
moved_number a None r narrows keeps none some = subst (λ (v : Option Known). IfSome v (λ k. IsNoLess (Number a) k)) (sym (none refl)) tt
moved_number a (Some q) r narrows keeps none some = subst (λ (v : Option Known). IfSome v (λ k. IsNoLess (Number a) k)) (sym (some q refl)) (q, refl, refines a (Some q) q narrows keeps refl)

pub moved_lent : (a : LentAddress) (o : Option Quantity) (r : Result (Option Known) Refusal) → Narrows o a.offset.range a.offset.tails → KeepsBits o a.offset.bits → (o ≡ None → r ≡ Ok None) → ((q : Quantity) → o ≡ Some q → q.range.high ≤ 2 ^ 20 → (p : LentAddress) × (r ≡ Ok (Some (Lent p))) × (p.region ≡ a.region) × (p.offset ≡ q)) → IsOk r × IfOk r (λ v. IfSome v (λ k. IsNoLess (Lent a) k))
moved_lent a None r narrows keeps none some = subst (λ (v : Result (Option Known) Refusal). IsOk v × IfOk v (λ u. IfSome u (λ k. IsNoLess (Lent a) k))) (sym (none refl)) (refl, tt)
moved_lent a (Some q) r narrows keeps none some =
    let given = refines a.offset (Some q) q narrows keeps refl in
    let near : a.offset.range.high ≤ 2 ^ 20 = a.near in
    let found = some q refl (omega (arith, given.high, near)) in
    subst (λ (v : Result (Option Known) Refusal). IsOk v × IfOk v (λ u. IfSome u (λ k. IsNoLess (Lent a) k))) (sym found.1)
    (refl, (found.0, refl, found.2, subst (λ (v : Quantity). Refines a.offset v) (sym found.3) given))

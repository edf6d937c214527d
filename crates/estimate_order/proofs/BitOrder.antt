-- Known bits in order: what holds of one bit, and what follows of words.
use Rattle.std.proofs.Common.{◌≡◌, ℕ, suc, ◌+◌, ◌-◌, ◌/◌, ◌%◌, ◌^◌, ◌<◌, ◌≤◌, ⊎_elim, min, max, bit_and, bit_or, bit_xor, nat_eq, true, false, Option, Some, None, refl, sym, subst, ap, ◌∙◌, arith}
use Rattle.std.proofs.Math.Nat.{div-eq_of_lt, pow-le-pow_right}
use Rattle.std.proofs.lemmas.Nat.{and_le_r, xor_shr}
use Rattle.std.proofs.lemmas.Nat.Bits.{bit_at_ones}
use Rattle.std.proofs.lemmas.Bool.{cases_lt, cases_eq}
use Rattle.std.proofs.lemmas.Option.{same_Some}
use Rattle.std.proofs.lemmas.Bool.Decides.{nat_tests}
use Rattle.known_bits.specs.Bits.{bit}
use Rattle.known_bits.specs.KnownBits.{KnownBits, most_bits, all_known, common_bits, merged_bits, without}
use Rattle.known_bits.proofs.BitLaws.{bit-lt, bit-zero, bit-and, bit-or, bit-xor, bit-and_not, same, and-fits, or-fits, xor-fits}
use Rattle.known_bits.proofs.Between.{Leading, leading, mask_lt, between_knows, common_one}
use Rattle.abstract_state.proofs.KnownBits.{between_ends}
use Rattle.intervals.specs.Interval.{Interval}
use Rattle.estimate_order.specs.Order.{AreBitsWithin, IsIntervalWithin, IsBelow, AreWords, IsRange}

-- ---- the least and the greatest number
pub le_bits : (n m : ℕ) → ((k : ℕ) → bit n k ≤ bit m k) → n ≤ m
le_bits n m h =
    let inside : bit_and n m ≡ n = same _ _ (λ k. bit-and n m k ∙ omega (arith, h k)) in
    omega (arith, and_le_r n m)

ones_bit : (o u p v : ℕ) → o < 2 → p < 2 → min p v ≡ 0 → v < 2 → (v ≡ 0 → o ≡ p) → p ≤ o
ones_bit o u p v a b d c e = grind arith

pub ones_within : (a b : KnownBits) → AreWords b → AreBitsWithin a b → b.ones ≤ a.ones
ones_within a b words within =
    le_bits b.ones a.ones
    (λ k. ones_bit _ (bit a.unknown k) _ (bit b.unknown k) (bit-lt a.ones k) (bit-lt b.ones k) (words.apart k) (bit-lt b.unknown k) (λ z. (within k z).1))

most_bit : (o u p v : ℕ) → o < 2 → u < 2 → p < 2 → v < 2 → (v ≡ 0 → u ≡ 0) → (v ≡ 0 → o ≡ p) → max o u ≤ max p v
most_bit o u p v a b c d e f = grind arith

pub most_within : (a b : KnownBits) → AreBitsWithin a b → most_bits a ≤ most_bits b
most_within a b within =
    le_bits (most_bits a) (most_bits b)
    (λ k.
    rw (bit-or a.ones a.unknown k, bit-or b.ones b.unknown k)
    (most_bit _ _ _ _ (bit-lt a.ones k) (bit-lt a.unknown k) (bit-lt b.ones k) (bit-lt b.unknown k) (λ z. (within k z).0) (λ z. (within k z).1)))

-- ---- the bits that two numbers have in common
equal_bit : (a b : ℕ) → a < 2 → b < 2 → (a + b) % 2 ≡ 0 → a ≡ b
equal_bit a b p q h = grind arith

xor_zero : (a b : ℕ) → bit_xor a b ≡ 0 → a ≡ b
xor_zero a b h = same a b (λ k. equal_bit _ _ (bit-lt a k) (bit-lt b k) (sym (bit-xor a b k) ∙ ap (λ n. bit n k) h ∙ bit-zero k))

pub low_ones : (n k : ℕ) → k < n → bit (2 ^ n - 1) k ≡ 1
unfolding bit
low_ones n k h = bit_at_ones n k h

known_above : (n k : ℕ) → bit (2 ^ n - 1) k ≡ 0 → n ≤ k
known_above n k z =
    ⊎_elim
    (λ (below : k < n). let one : bit (2 ^ n - 1) k ≡ 1 = low_ones n k below in absurd (omega arith))
    (λ (above : n ≤ k). above)
    (cases_lt k n)

agree_from : (low high t k : ℕ) → bit_xor low high < 2 ^ t → t ≤ k → low / 2 ^ k ≡ high / 2 ^ k
agree_from low high t k less from =
    let more : 2 ^ t ≤ 2 ^ k = pow-le-pow_right (omega arith) from in
    let small : bit_xor low high < 2 ^ k = omega arith in
    xor_zero _ _ (sym (xor_shr low high k) ∙ div-eq_of_lt small)

pub same_bit : (n m k : ℕ) → n / 2 ^ k ≡ m / 2 ^ k → bit n k ≡ bit m k
unfolding bit
same_bit n m k e = ap (λ (q : ℕ). q % 2) e

ones_kept : (l m : ℕ) → l < 2 → m ≡ 0 → min l (1 - m) ≡ l
ones_kept l m a e = omega arith

-- from the bit on that is known both numbers are the same, and only there
pub record Common (low high : ℕ) (c : KnownBits) : Type 0 where
  pub words : AreWords c
  pub knows : (k : ℕ) → low / 2 ^ k ≡ high / 2 ^ k → bit c.unknown k ≡ 0
  pub known : (k : ℕ) → bit c.unknown k ≡ 0 → low / 2 ^ k ≡ high / 2 ^ k
  pub ones : (k : ℕ) → bit c.unknown k ≡ 0 → bit c.ones k ≡ bit low k

without_apart : (l m : ℕ) → l < 2 → m < 2 → min (min l (1 - m)) m ≡ 0
without_apart l m a b = grind arith

one_common : (n : ℕ) → n < 2 ^ 64 → Common n n (all_known n)
one_common n fits = record {
  words = record { ones = fits; unknown = omega arith; apart = λ k. rw (bit-zero k) (omega (arith, bit-lt n k)) };
  knows = λ k e. bit-zero k;
  known = λ k e. refl;
  ones = λ k e. refl;
}

masked_common : (low high m : ℕ) → Leading low high m → low < 2 ^ 64 → m < 2 ^ 64 → Common low high (record { ones = without low m; unknown = m })
masked_common low high m l lf mf = record {
  words = record {
    ones = and-fits low (18446744073709551615 - m) lf;
    unknown = mf;
    apart = λ k. rw (bit-and_not low m k lf mf) (without_apart (bit low k) (bit m k) (bit-lt low k) (bit-lt m k));
  };
  knows = between_knows low high m l;
  known = λ k z. agree_from low high (suc l.top) k l.most (known_above (suc l.top) k (sym (ap (λ n. bit n k) l.mask) ∙ z));
  ones = λ k z. bit-and_not low m k lf mf ∙ ones_kept (bit low k) (bit m k) (bit-lt low k) z;
}

pub common : (low high : ℕ) → low < 2 ^ 64 → high < 2 ^ 64 → Common low high (common_bits low high)
unfolding common_bits
common low high lf hf =
    ⊎_elim
    (λ (one : low ≡ high).
    subst (λ (c : KnownBits). Common low high c) (sym (common_one low high lf one))
    (subst (λ (h : ℕ). Common low h (all_known low)) one (one_common low lf)))
    (λ (apart : low ≡ high → ⊥). masked_common low high _ (leading low high apart lf hf) lf (mask_lt _))
    (cases_eq low high)

pub common_within : (r s : Interval) → IsRange r → IsRange s → IsIntervalWithin r s → AreBitsWithin (common_bits r.low r.high) (common_bits s.low s.high)
common_within r s one other within k z =
    let c = common s.low s.high (omega (arith, other.order, other.fits)) other.fits in
    let d = common r.low r.high (omega (arith, one.order, one.fits)) one.fits in
    let agree : s.low / 2 ^ k ≡ s.high / 2 ^ k = c.known k z in
    let here : bit (common_bits r.low r.high).unknown k ≡ 0 =
    d.knows k (between_ends s.low r.low r.high s.high k within.0 one.order within.1 agree) in
    let low : s.low / 2 ^ k ≡ r.low / 2 ^ k =
    between_ends s.low s.low r.low s.high k (omega arith) within.0 (omega (arith, one.order, within.1)) agree in
    (here, d.ones k here ∙ sym (same_bit s.low r.low k low) ∙ sym (c.ones k z))

-- ---- what two say of one number
clash_bit : (ao au bo bu xo xu yo yu : ℕ) → ao < 2 → bo < 2 → xo < 2 → yo < 2 → au < 2 → bu < 2 → xu < 2 → yu < 2 → (xu ≡ 0 → au ≡ 0) → (xu ≡ 0 → ao ≡ xo) → (yu ≡ 0 → bu ≡ 0) → (yu ≡ 0 → bo ≡ yo) → min ((ao + bo) % 2) (1 - max au bu) ≡ 0 → min ((xo + yo) % 2) (1 - max xu yu) ≡ 0
clash_bit ao au bo bu xo xu yo yu a b c d e f g h i j k l m = grind arith

known_bit : (ao au bo bu xo xu yo yu : ℕ) → (xu ≡ 0 → au ≡ 0) → (yu ≡ 0 → bu ≡ 0) → min xu yu ≡ 0 → min au bu ≡ 0
known_bit ao au bo bu xo xu yo yu i k m = grind arith

value_bit : (ao au bo bu xo xu yo yu : ℕ) → ao < 2 → bo < 2 → xo < 2 → yo < 2 → au < 2 → bu < 2 → min ao au ≡ 0 → min bo bu ≡ 0 → min xo xu ≡ 0 → min yo yu ≡ 0 → (xu ≡ 0 → au ≡ 0) → (xu ≡ 0 → ao ≡ xo) → (yu ≡ 0 → bu ≡ 0) → (yu ≡ 0 → bo ≡ yo) → min ((ao + bo) % 2) (1 - max au bu) ≡ 0 → min xu yu ≡ 0 → xu < 2 → yu < 2 → max ao bo ≡ max xo yo
value_bit ao au bo bu xo xu yo yu a b c d e f p q r s i j k l m n g h = grind arith

-- the bits that both know and on which they differ
bit_clash : (a b : KnownBits) (k : ℕ) → AreWords a → AreWords b → bit (without (bit_xor a.ones b.ones) (bit_or a.unknown b.unknown)) k ≡ min ((bit a.ones k + bit b.ones k) % 2) (1 - max (bit a.unknown k) (bit b.unknown k))
bit_clash a b k one other =
    bit-and_not (bit_xor a.ones b.ones) (bit_or a.unknown b.unknown) k (xor-fits a.ones b.ones one.ones other.ones) (or-fits a.unknown b.unknown one.unknown other.unknown) ∙ rw (bit-xor a.ones b.ones k, bit-or a.unknown b.unknown k) refl

no_clash : (a b : KnownBits) → AreWords a → AreWords b → without (bit_xor a.ones b.ones) (bit_or a.unknown b.unknown) ≡ 0 → (k : ℕ) → min ((bit a.ones k + bit b.ones k) % 2) (1 - max (bit a.unknown k) (bit b.unknown k)) ≡ 0
no_clash a b one other none k = sym (bit_clash a b k one other) ∙ ap (λ (n : ℕ). bit n k) none ∙ bit-zero k

clash_none : (a b : KnownBits) → AreWords a → AreWords b → ((k : ℕ) → min ((bit a.ones k + bit b.ones k) % 2) (1 - max (bit a.unknown k) (bit b.unknown k)) ≡ 0) → without (bit_xor a.ones b.ones) (bit_or a.unknown b.unknown) ≡ 0
clash_none a b one other none = same _ _ (λ k. bit_clash a b k one other ∙ none k ∙ sym (bit-zero k))

-- two words each, by their bits
abbrev pub clash_at : KnownBits → KnownBits → ℕ → ℕ
clash_at a b k = min ((bit a.ones k + bit b.ones k) % 2) (1 - max (bit a.unknown k) (bit b.unknown k))

abbrev pub both : KnownBits → KnownBits → KnownBits
both a b = record { ones = bit_or a.ones b.ones; unknown = bit_and a.unknown b.unknown }

-- where both say the same of each bit that both know, the merged bits are there
pub record Merge (a b : KnownBits) (o : Option KnownBits) : Type 0 where
  pub some : ((k : ℕ) → clash_at a b k ≡ 0) → o ≡ Some (both a b)
  pub only : (c : KnownBits) → o ≡ Some c → (c ≡ both a b) × ((k : ℕ) → clash_at a b k ≡ 0)

pub merge : (a b : KnownBits) → AreWords a → AreWords b → Merge a b (merged_bits a b)
unfolding merged_bits
merge a b one other =
    ⊎_elim
    (λ (none : without (bit_xor a.ones b.ones) (bit_or a.unknown b.unknown) ≡ 0).
    let yes : nat_eq (without (bit_xor a.ones b.ones) (bit_or a.unknown b.unknown)) 0 ≡ true = grind (arith, nat_tests) in
    rw yes
    (record { some = λ all. refl; only = λ c is. (sym (same_Some _ _ is), no_clash a b one other none) }))
    (λ (some : without (bit_xor a.ones b.ones) (bit_or a.unknown b.unknown) ≡ 0 → ⊥).
    let no : nat_eq (without (bit_xor a.ones b.ones) (bit_or a.unknown b.unknown)) 0 ≡ false = grind (arith, nat_tests) in
    rw no
    (record { some = λ all. absurd (some (clash_none a b one other all)); only = λ c is. absurd (cc) }))
    (cases_eq (without (bit_xor a.ones b.ones) (bit_or a.unknown b.unknown)) 0)

apart_bit : (ao au bo bu : ℕ) → ao < 2 → au < 2 → bo < 2 → bu < 2 → min ao au ≡ 0 → min bo bu ≡ 0 → min (max ao bo) (min au bu) ≡ 0
apart_bit ao au bo bu a b c d e f = grind arith

pub both_words : (a b : KnownBits) → AreWords a → AreWords b → AreWords (both a b)
both_words a b one other = record {
  ones = or-fits a.ones b.ones one.ones other.ones;
  unknown = and-fits a.unknown b.unknown one.unknown;
  apart = λ k.
      rw (bit-or a.ones b.ones k, bit-and a.unknown b.unknown k)
      (apart_bit _ _ _ _ (bit-lt a.ones k) (bit-lt a.unknown k) (bit-lt b.ones k) (bit-lt b.unknown k) (one.apart k) (other.apart k));
}

pub both_within : (a b x y : KnownBits) → AreWords a → AreWords b → AreWords x → AreWords y → AreBitsWithin a x → AreBitsWithin b y → ((k : ℕ) → clash_at a b k ≡ 0) → AreBitsWithin (both a b) (both x y)
both_within a b x y aw bw xw yw one other same_bits k z =
    let zero_in : min (bit x.unknown k) (bit y.unknown k) ≡ 0 = sym (bit-and x.unknown y.unknown k) ∙ z in (
      bit-and a.unknown b.unknown k
          ∙ known_bit (bit a.ones k) (bit a.unknown k) (bit b.ones k) (bit b.unknown k) (bit x.ones k) (bit x.unknown k) (bit y.ones k) (bit y.unknown k) (λ e. (one k e).0) (λ e. (other k e).0) zero_in,
      bit-or a.ones b.ones k
          ∙ value_bit (bit a.ones k) (bit a.unknown k) (bit b.ones k) (bit b.unknown k) (bit x.ones k) (bit x.unknown k) (bit y.ones k) (bit y.unknown k)
          (bit-lt a.ones k) (bit-lt b.ones k) (bit-lt x.ones k) (bit-lt y.ones k) (bit-lt a.unknown k) (bit-lt b.unknown k) (aw.apart k) (bw.apart k) (xw.apart k) (yw.apart k)
          (λ e. (one k e).0) (λ e. (one k e).1) (λ e. (other k e).0) (λ e. (other k e).1) (same_bits k) zero_in (bit-lt x.unknown k) (bit-lt y.unknown k)
          ∙ sym (bit-or x.ones y.ones k),
    )

differ_less : (a b x y : KnownBits) → AreBitsWithin a x → AreBitsWithin b y → (k : ℕ) → clash_at a b k ≡ 0 → clash_at x y k ≡ 0
differ_less a b x y one other k none =
    clash_bit (bit a.ones k) (bit a.unknown k) (bit b.ones k) (bit b.unknown k) (bit x.ones k) (bit x.unknown k) (bit y.ones k) (bit y.unknown k)
    (bit-lt a.ones k) (bit-lt b.ones k) (bit-lt x.ones k) (bit-lt y.ones k) (bit-lt a.unknown k) (bit-lt b.unknown k) (bit-lt x.unknown k) (bit-lt y.unknown k)
    (λ e. (one k e).0) (λ e. (one k e).1) (λ e. (other k e).0) (λ e. (other k e).1) none

merged_on : (a b x y : KnownBits) (o p : Option KnownBits) → AreWords a → AreWords b → AreWords x → AreWords y → AreBitsWithin a x → AreBitsWithin b y → Merge a b o → Merge x y p → IsBelow AreBitsWithin o p
merged_on a b x y None p aw bw xw yw one other m n = tt
merged_on a b x y (Some c) None aw bw xw yw one other m n =
    let is = m.only c refl in
    let there : None ≡ Some (both x y) = n.some (λ k. differ_less a b x y one other k (is.1 k)) in
    absurd (cc)
merged_on a b x y (Some c) (Some d) aw bw xw yw one other m n =
    let is = m.only c refl in
    subst (λ (e : KnownBits). AreBitsWithin e d) (sym is.0)
    (subst (λ (e : KnownBits). AreBitsWithin (both a b) e) (sym (n.only d refl).0) (both_within a b x y aw bw xw yw one other is.1))

-- merged bits say no less where both say no less
pub merged_within : (a b x y : KnownBits) → AreWords a → AreWords b → AreWords x → AreWords y → AreBitsWithin a x → AreBitsWithin b y → IsBelow AreBitsWithin (merged_bits a b) (merged_bits x y)
merged_within a b x y aw bw xw yw one other = merged_on a b x y (merged_bits a b) (merged_bits x y) aw bw xw yw one other (merge a b aw bw) (merge x y xw yw)

-- and are words
abbrev pub AreWordsIn : Option KnownBits → Type 0
AreWordsIn None = Unit {0}
AreWordsIn (Some c) = AreWords c

words_on : (a b : KnownBits) (o : Option KnownBits) → AreWords a → AreWords b → Merge a b o → AreWordsIn o
words_on a b None aw bw m = tt
words_on a b (Some c) aw bw m = subst AreWords (sym (m.only c refl).0) (both_words a b aw bw)

pub merged_words : (a b : KnownBits) → AreWords a → AreWords b → AreWordsIn (merged_bits a b)
merged_words a b aw bw = words_on a b (merged_bits a b) aw bw (merge a b aw bw)

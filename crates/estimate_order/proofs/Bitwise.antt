-- Operations of known bits keep the order, bit by bit.
use Rattle.std.proofs.Common.{◌≡◌, ℕ, ◌+◌, ◌-◌, ◌*◌, ◌%◌, ◌^◌, ◌<◌, ◌≤◌, ⊎_elim, min, max, bit_and, bit_or, bit_xor, refl, sym, ◌∙◌, arith}
use Rattle.std.proofs.lemmas.Nat.{shr_le}
use Rattle.std.proofs.lemmas.Bool.{cases_lt}
use Rattle.known_bits.specs.Bits.{bit}
use Rattle.known_bits.specs.KnownBits.{KnownBits, most_bits, none_known, bits_of_both, bits_of_either, bits_of_one, bits_shifted_left, bits_shifted_right, low_bits, agreed_bits}
use Rattle.known_bits.proofs.BitLaws.{bit-lt, bit-and, bit-or, bit-xor, bit-and_not, bit-shr, bit-max, bit-above, bit-zero, shl_cases, and-fits, or-fits, xor-fits}
use Rattle.estimate_order.specs.Order.{AreBitsWithin, AreWords}

-- one bit of the bits of two numbers, of which the first knows no less
pub record AreAt (ao au xo xu : ℕ) : Type 0 where
  pub first : ao + au ≤ 1
  pub second : xo + xu ≤ 1
  pub known : au ≤ xu
  pub least : xo ≤ ao
  pub most : ao ≤ xo + xu

at_bit : (ao au xo xu : ℕ) → ao < 2 → au < 2 → xo < 2 → xu < 2 → min ao au ≡ 0 → min xo xu ≡ 0 → (xu ≡ 0 → au ≡ 0) → (xu ≡ 0 → ao ≡ xo) → AreAt ao au xo xu
at_bit ao au xo xu a b c d e f g h = record { first = grind arith; second = grind arith; known = grind arith; least = grind arith; most = grind arith }

pub at : (a x : KnownBits) → AreWords a → AreWords x → AreBitsWithin a x → (k : ℕ) → AreAt (bit a.ones k) (bit a.unknown k) (bit x.ones k) (bit x.unknown k)
at a x aw xw within k =
    at_bit (bit a.ones k) (bit a.unknown k) (bit x.ones k) (bit x.unknown k) (bit-lt a.ones k) (bit-lt a.unknown k) (bit-lt x.ones k) (bit-lt x.unknown k) (aw.apart k) (xw.apart k)
    (λ z. (within k z).0) (λ z. (within k z).1)

-- ---- and
and_known : (ao au xo xu bo bu yo yu : ℕ) → AreAt ao au xo xu → AreAt bo bu yo yu → min (min (max xo xu) (max yo yu)) (1 - min xo yo) ≡ 0 → min (min (max ao au) (max bo bu)) (1 - min ao bo) ≡ 0
and_known ao au xo xu bo bu yo yu p q z = omega arith

and_ones : (ao au xo xu bo bu yo yu : ℕ) → AreAt ao au xo xu → AreAt bo bu yo yu → min (min (max xo xu) (max yo yu)) (1 - min xo yo) ≡ 0 → min ao bo ≡ min xo yo
and_ones ao au xo xu bo bu yo yu p q z = omega arith

and_bit : (a b : KnownBits) (k : ℕ) → AreWords a → AreWords b → bit (bits_of_both a b).unknown k ≡ min (min (max (bit a.ones k) (bit a.unknown k)) (max (bit b.ones k) (bit b.unknown k))) (1 - min (bit a.ones k) (bit b.ones k))
unfolding bits_of_both
and_bit a b k aw bw =
    bit-and_not (bit_and (most_bits a) (most_bits b)) (bit_and a.ones b.ones) k (and-fits (most_bits a) (most_bits b) (or-fits a.ones a.unknown aw.ones aw.unknown)) (and-fits a.ones b.ones aw.ones)
    ∙ rw (bit-and (most_bits a) (most_bits b) k, bit-or a.ones a.unknown k, bit-or b.ones b.unknown k, bit-and a.ones b.ones k) refl

and_one : (a b : KnownBits) (k : ℕ) → bit (bits_of_both a b).ones k ≡ min (bit a.ones k) (bit b.ones k)
unfolding bits_of_both
and_one a b k = bit-and a.ones b.ones k

pub both_bits_within : (a b x y : KnownBits) → AreWords a → AreWords b → AreWords x → AreWords y → AreBitsWithin a x → AreBitsWithin b y → AreBitsWithin (bits_of_both a b) (bits_of_both x y)
both_bits_within a b x y aw bw xw yw one other k z =
    let p = at a x aw xw one k in
    let q = at b y bw yw other k in
    let here = sym (and_bit x y k xw yw) ∙ z in (
      and_bit a b k aw bw ∙ and_known _ _ _ _ _ _ _ _ p q here,
      and_one a b k ∙ and_ones _ _ _ _ _ _ _ _ p q here ∙ sym (and_one x y k),
    )

trim_apart : (m l : ℕ) → m < 2 → min m (min l (1 - m)) ≡ 0
trim_apart m l a = omega arith

pub both_bits_words : (a b : KnownBits) → AreWords a → AreWords b → AreWords (bits_of_both a b)
unfolding bits_of_both
both_bits_words a b aw bw =
    let most = and-fits (most_bits a) (most_bits b) (or-fits a.ones a.unknown aw.ones aw.unknown) in
    let ones = and-fits a.ones b.ones aw.ones in
    record {
      ones = ones;
      unknown = and-fits (bit_and (most_bits a) (most_bits b)) (18446744073709551615 - bit_and a.ones b.ones) most;
      apart = λ k.
          rw (bit-and_not (bit_and (most_bits a) (most_bits b)) (bit_and a.ones b.ones) k most ones)
          (trim_apart (bit (bit_and a.ones b.ones) k) (bit (bit_and (most_bits a) (most_bits b)) k) (bit-lt (bit_and a.ones b.ones) k));
    }

-- ---- or
or_known : (ao au xo xu bo bu yo yu : ℕ) → AreAt ao au xo xu → AreAt bo bu yo yu → min (max xu yu) (1 - max xo yo) ≡ 0 → min (max au bu) (1 - max ao bo) ≡ 0
or_known ao au xo xu bo bu yo yu p q z = omega arith

or_ones : (ao au xo xu bo bu yo yu : ℕ) → AreAt ao au xo xu → AreAt bo bu yo yu → min (max xu yu) (1 - max xo yo) ≡ 0 → max ao bo ≡ max xo yo
or_ones ao au xo xu bo bu yo yu p q z = omega arith

or_bit : (a b : KnownBits) (k : ℕ) → AreWords a → AreWords b → bit (bits_of_either a b).unknown k ≡ min (max (bit a.unknown k) (bit b.unknown k)) (1 - max (bit a.ones k) (bit b.ones k))
unfolding bits_of_either
or_bit a b k aw bw =
    bit-and_not (bit_or a.unknown b.unknown) (bit_or a.ones b.ones) k (or-fits a.unknown b.unknown aw.unknown bw.unknown) (or-fits a.ones b.ones aw.ones bw.ones)
    ∙ rw (bit-or a.unknown b.unknown k, bit-or a.ones b.ones k) refl

or_one : (a b : KnownBits) (k : ℕ) → bit (bits_of_either a b).ones k ≡ max (bit a.ones k) (bit b.ones k)
unfolding bits_of_either
or_one a b k = bit-or a.ones b.ones k

pub either_bits_within : (a b x y : KnownBits) → AreWords a → AreWords b → AreWords x → AreWords y → AreBitsWithin a x → AreBitsWithin b y → AreBitsWithin (bits_of_either a b) (bits_of_either x y)
either_bits_within a b x y aw bw xw yw one other k z =
    let p = at a x aw xw one k in
    let q = at b y bw yw other k in
    let here = sym (or_bit x y k xw yw) ∙ z in (
      or_bit a b k aw bw ∙ or_known _ _ _ _ _ _ _ _ p q here,
      or_one a b k ∙ or_ones _ _ _ _ _ _ _ _ p q here ∙ sym (or_one x y k),
    )

pub either_bits_words : (a b : KnownBits) → AreWords a → AreWords b → AreWords (bits_of_either a b)
unfolding bits_of_either
either_bits_words a b aw bw =
    let most = or-fits a.unknown b.unknown aw.unknown bw.unknown in
    let ones = or-fits a.ones b.ones aw.ones bw.ones in
    record {
      ones = ones;
      unknown = and-fits (bit_or a.unknown b.unknown) (18446744073709551615 - bit_or a.ones b.ones) most;
      apart = λ k.
          rw (bit-and_not (bit_or a.unknown b.unknown) (bit_or a.ones b.ones) k most ones)
          (trim_apart (bit (bit_or a.ones b.ones) k) (bit (bit_or a.unknown b.unknown) k) (bit-lt (bit_or a.ones b.ones) k));
    }

-- ---- xor
xor_known : (ao au xo xu bo bu yo yu : ℕ) → AreAt ao au xo xu → AreAt bo bu yo yu → max xu yu ≡ 0 → max au bu ≡ 0
xor_known ao au xo xu bo bu yo yu p q z = omega arith

xor_ones : (ao au xo xu bo bu yo yu : ℕ) → AreAt ao au xo xu → AreAt bo bu yo yu → max xu yu ≡ 0 → min ((ao + bo) % 2) (1 - max au bu) ≡ min ((xo + yo) % 2) (1 - max xu yu)
xor_ones ao au xo xu bo bu yo yu p q z =
    let one : ao ≡ xo = omega arith in
    let other : bo ≡ yo = omega arith in
    let none : max au bu ≡ 0 = omega arith in
    rw (one, other, none, z) refl

xor_bit : (a b : KnownBits) (k : ℕ) → bit (bits_of_one a b).unknown k ≡ max (bit a.unknown k) (bit b.unknown k)
unfolding bits_of_one
xor_bit a b k = bit-or a.unknown b.unknown k

xor_one : (a b : KnownBits) (k : ℕ) → AreWords a → AreWords b → bit (bits_of_one a b).ones k ≡ min ((bit a.ones k + bit b.ones k) % 2) (1 - max (bit a.unknown k) (bit b.unknown k))
unfolding bits_of_one
xor_one a b k aw bw =
    bit-and_not (bit_xor a.ones b.ones) (bit_or a.unknown b.unknown) k (xor-fits a.ones b.ones aw.ones bw.ones) (or-fits a.unknown b.unknown aw.unknown bw.unknown)
    ∙ rw (bit-xor a.ones b.ones k, bit-or a.unknown b.unknown k) refl

pub one_bits_within : (a b x y : KnownBits) → AreWords a → AreWords b → AreWords x → AreWords y → AreBitsWithin a x → AreBitsWithin b y → AreBitsWithin (bits_of_one a b) (bits_of_one x y)
one_bits_within a b x y aw bw xw yw one other k z =
    let p = at a x aw xw one k in
    let q = at b y bw yw other k in
    let here = sym (xor_bit x y k) ∙ z in (
      xor_bit a b k ∙ xor_known _ _ _ _ _ _ _ _ p q here,
      xor_one a b k aw bw ∙ xor_ones _ _ _ _ _ _ _ _ p q here ∙ sym (xor_one x y k xw yw),
    )

left_apart : (v u : ℕ) → v < 2 → u < 2 → min (min v (1 - u)) u ≡ 0
left_apart v u a b = omega arith

pub one_bits_words : (a b : KnownBits) → AreWords a → AreWords b → AreWords (bits_of_one a b)
unfolding bits_of_one
one_bits_words a b aw bw =
    let ones = xor-fits a.ones b.ones aw.ones bw.ones in
    let unknown = or-fits a.unknown b.unknown aw.unknown bw.unknown in
    record {
      ones = and-fits (bit_xor a.ones b.ones) (18446744073709551615 - bit_or a.unknown b.unknown) ones;
      unknown = unknown;
      apart = λ k.
          rw (bit-and_not (bit_xor a.ones b.ones) (bit_or a.unknown b.unknown) k ones unknown)
          (left_apart (bit (bit_xor a.ones b.ones) k) (bit (bit_or a.unknown b.unknown) k) (bit-lt (bit_xor a.ones b.ones) k) (bit-lt (bit_or a.unknown b.unknown) k));
    }

-- ---- either of two numbers
join_known : (ao au xo xu bo bu yo yu : ℕ) → AreAt ao au xo xu → AreAt bo bu yo yu → max (max xu yu) ((xo + yo) % 2) ≡ 0 → max (max au bu) ((ao + bo) % 2) ≡ 0
join_known ao au xo xu bo bu yo yu p q z =
    let one : ao ≡ xo = omega arith in
    let other : bo ≡ yo = omega arith in
    let none : max au bu ≡ 0 = omega arith in
    rw (one, other, none) (omega arith)

join_ones : (ao au xo xu bo bu yo yu : ℕ) → AreAt ao au xo xu → AreAt bo bu yo yu → max (max xu yu) ((xo + yo) % 2) ≡ 0 → min ao (1 - max (max au bu) ((ao + bo) % 2)) ≡ min xo (1 - max (max xu yu) ((xo + yo) % 2))
join_ones ao au xo xu bo bu yo yu p q z =
    let one : ao ≡ xo = omega arith in
    let none = join_known ao au xo xu bo bu yo yu p q z in
    rw (none, z, one) refl

pub join_bit : (a b : KnownBits) (k : ℕ) → bit (agreed_bits a b).unknown k ≡ max (max (bit a.unknown k) (bit b.unknown k)) ((bit a.ones k + bit b.ones k) % 2)
unfolding agreed_bits
join_bit a b k = bit-or (bit_or a.unknown b.unknown) (bit_xor a.ones b.ones) k ∙ rw (bit-or a.unknown b.unknown k, bit-xor a.ones b.ones k) refl

pub join_one : (a b : KnownBits) (k : ℕ) → AreWords a → AreWords b → bit (agreed_bits a b).ones k ≡ min (bit a.ones k) (1 - max (max (bit a.unknown k) (bit b.unknown k)) ((bit a.ones k + bit b.ones k) % 2))
unfolding agreed_bits
join_one a b k aw bw =
    bit-and_not a.ones (bit_or (bit_or a.unknown b.unknown) (bit_xor a.ones b.ones)) k aw.ones
    (or-fits (bit_or a.unknown b.unknown) (bit_xor a.ones b.ones) (or-fits a.unknown b.unknown aw.unknown bw.unknown) (xor-fits a.ones b.ones aw.ones bw.ones))
    ∙ rw (bit-or (bit_or a.unknown b.unknown) (bit_xor a.ones b.ones) k, bit-or a.unknown b.unknown k, bit-xor a.ones b.ones k) refl

pub agreed_within : (a b x y : KnownBits) → AreWords a → AreWords b → AreWords x → AreWords y → AreBitsWithin a x → AreBitsWithin b y → AreBitsWithin (agreed_bits a b) (agreed_bits x y)
agreed_within a b x y aw bw xw yw one other k z =
    let p = at a x aw xw one k in
    let q = at b y bw yw other k in
    let here = sym (join_bit x y k) ∙ z in (
      join_bit a b k ∙ join_known _ _ _ _ _ _ _ _ p q here,
      join_one a b k aw bw ∙ join_ones _ _ _ _ _ _ _ _ p q here ∙ sym (join_one x y k xw yw),
    )

pub agreed_words : (a b : KnownBits) → AreWords a → AreWords b → AreWords (agreed_bits a b)
unfolding agreed_bits
agreed_words a b aw bw =
    let unknown = or-fits (bit_or a.unknown b.unknown) (bit_xor a.ones b.ones) (or-fits a.unknown b.unknown aw.unknown bw.unknown) (xor-fits a.ones b.ones aw.ones bw.ones) in
    record {
      ones = and-fits a.ones (18446744073709551615 - bit_or (bit_or a.unknown b.unknown) (bit_xor a.ones b.ones)) aw.ones;
      unknown = unknown;
      apart = λ k.
          rw (bit-and_not a.ones (bit_or (bit_or a.unknown b.unknown) (bit_xor a.ones b.ones)) k aw.ones unknown)
          (left_apart (bit a.ones k) (bit (bit_or (bit_or a.unknown b.unknown) (bit_xor a.ones b.ones)) k) (bit-lt a.ones k) (bit-lt (bit_or (bit_or a.unknown b.unknown) (bit_xor a.ones b.ones)) k));
    }

-- ---- shifts
pub right_within : (n : ℕ) (a x : KnownBits) → AreBitsWithin a x → AreBitsWithin (bits_shifted_right n a) (bits_shifted_right n x)
unfolding bits_shifted_right
right_within n a x within k z =
    let there = within (n + k) (sym (bit-shr x.unknown n k) ∙ z) in
    (bit-shr a.unknown n k ∙ there.0, bit-shr a.ones n k ∙ there.1 ∙ sym (bit-shr x.ones n k))

pub left_within : (n : ℕ) (a x : KnownBits) → AreBitsWithin a x → AreBitsWithin (bits_shifted_left n a) (bits_shifted_left n x)
unfolding bits_shifted_left
left_within n a x within k z =
    ⊎_elim
    (λ (none : (m : ℕ) → bit (m * 2 ^ n % 2 ^ 64) k ≡ 0). (none a.unknown, none a.ones ∙ sym (none x.ones)))
    (λ (some : (m : ℕ) → bit (m * 2 ^ n % 2 ^ 64) k ≡ bit m (k - n)).
    let there = within (k - n) (sym (some x.unknown) ∙ z) in
    (some a.unknown ∙ there.0, some a.ones ∙ there.1 ∙ sym (some x.ones)))
    (shl_cases n k)

pub right_words : (n : ℕ) (a : KnownBits) → AreWords a → AreWords (bits_shifted_right n a)
unfolding bits_shifted_right
right_words n a aw =
    let ones = aw.ones in
    let unknown = aw.unknown in
    record {
      ones = omega (arith, shr_le a.ones n);
      unknown = omega (arith, shr_le a.unknown n);
      apart = λ k. rw (bit-shr a.ones n k, bit-shr a.unknown n k) (aw.apart (n + k));
    }

pub left_words : (n : ℕ) (a : KnownBits) → AreWords a → AreWords (bits_shifted_left n a)
unfolding bits_shifted_left
left_words n a aw = record {
  ones = omega arith;
  unknown = omega arith;
  apart = λ k.
      ⊎_elim
      (λ (none : (m : ℕ) → bit (m * 2 ^ n % 2 ^ 64) k ≡ 0). rw (none a.ones) (omega arith))
      (λ (some : (m : ℕ) → bit (m * 2 ^ n % 2 ^ 64) k ≡ bit m (k - n)). rw (some a.ones, some a.unknown) (aw.apart (k - n)))
      (shl_cases n k);
}

-- ---- the low half
low_known : (ao au xo xu t : ℕ) → AreAt ao au xo xu → min xu t ≡ 0 → min au t ≡ 0
low_known ao au xo xu t p z = omega arith

low_ones : (ao au xo xu t : ℕ) → AreAt ao au xo xu → min xu t ≡ 0 → min ao t ≡ min xo t
low_ones ao au xo xu t p z = omega arith

pub low_within : (a x : KnownBits) → AreWords a → AreWords x → AreBitsWithin a x → AreBitsWithin (low_bits a) (low_bits x)
unfolding low_bits
low_within a x aw xw within k z =
    let p = at a x aw xw within k in
    let here = sym (bit-and x.unknown 4294967295 k) ∙ z in (
      bit-and a.unknown 4294967295 k ∙ low_known _ _ _ _ _ p here,
      bit-and a.ones 4294967295 k ∙ low_ones _ _ _ _ _ p here ∙ sym (bit-and x.ones 4294967295 k),
    )

cut_apart : (v u t : ℕ) → v < 2 → u < 2 → min v u ≡ 0 → min (min v t) (min u t) ≡ 0
cut_apart v u t a b c = omega arith

pub low_words : (a : KnownBits) → AreWords a → AreWords (low_bits a)
unfolding low_bits
low_words a aw = record {
  ones = and-fits a.ones 4294967295 aw.ones;
  unknown = and-fits a.unknown 4294967295 aw.unknown;
  apart = λ k.
      rw (bit-and a.ones 4294967295 k, bit-and a.unknown 4294967295 k)
      (cut_apart (bit a.ones k) (bit a.unknown k) (bit 4294967295 k) (bit-lt a.ones k) (bit-lt a.unknown k) (aw.apart k));
}

-- ---- nothing is less than that no bit is known
pub any_within_none : (a : KnownBits) → AreWords a → AreBitsWithin a none_known
any_within_none a words k z =
    ⊎_elim
    (λ (below : k < 64). let one = bit-max k below in absurd (omega (arith, one, z)))
    (λ (above : 64 ≤ k). (bit-above a.unknown k words.unknown above, bit-above a.ones k words.ones above ∙ sym (bit-zero k)))
    (cases_lt k 64)

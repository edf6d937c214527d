-- What `and`, `or`, `xor`, `join` and `meet` say, by what they say of one bit.
use Rattle.std.proofs.Common.{◌≡◌, ℕ, ◌+◌, ◌-◌, ◌%◌, ◌^◌, ◌<◌, ◌≤◌, ⊎_elim, min, max, bit_and, bit_or, bit_xor, sym, ap, ◌∙◌, arith}
use Rattle.std.proofs.lemmas.Bool.{cases_lt}
use Rattle.known_bits.specs.declared.Bits.{Bits}
use Rattle.known_bits.specs.Bits.{bit, Contains, Maps, MapsBoth, FixesBoth, most}
use Rattle.known_bits.proofs.BitLaws.{bit-lt, bit-zero, bit-and, bit-or, bit-xor, bit-above, same_below, and-fits, or-fits, xor-fits}
use Rattle.known_bits.proofs.Members.{Fit, fit, apart, has_value, has_most}

-- what a bit of a result is, of the value and the unknown bit of each operand at the same index
abbrev pub Rule : Type 0
Rule = ℕ → ℕ → ℕ → ℕ → ℕ

-- a word that has such bits
pub record IsMade (a b : Bits) (rule : Rule) (n : ℕ) : Type 0 where
  pub fits : n < 2 ^ 64
  pub bits : (k : ℕ) → k < 64 → bit n k ≡ rule (bit a.value k) (bit a.unknown k) (bit b.value k) (bit b.unknown k)

-- the value and the unknown bit of each operand at one index
pub record AreBits (va ma vb mb : ℕ) : Type 0 where
  pub value : va < 2
  pub unknown : ma < 2
  pub other_value : vb < 2
  pub other_unknown : mb < 2
  pub disjoint : min va ma ≡ 0
  pub other_disjoint : min vb mb ≡ 0

bits_at : (a b : Bits) (k : ℕ) → AreBits (bit a.value k) (bit a.unknown k) (bit b.value k) (bit b.unknown k)
bits_at a b k = record {
  value = bit-lt _ k;
  unknown = bit-lt _ k;
  other_value = bit-lt _ k;
  other_unknown = bit-lt _ k;
  disjoint = apart _ _ a.disjoint k;
  other_disjoint = apart _ _ b.disjoint k;
}

-- two words share no bit if they share none at any index
made_apart : (a b : Bits) (value unknown : Rule) (v m : ℕ) → IsMade a b value v → IsMade a b unknown m → ((va ma vb mb : ℕ) → AreBits va ma vb mb → min (value va ma vb mb) (unknown va ma vb mb) ≡ 0) → bit_and v m ≡ 0
made_apart a b value unknown v m ev em h =
    let zero_fits : 0 < 2 ^ 64 = omega arith in
    same_below _ _ (and-fits _ _ ev.fits) zero_fits (λ k below. rw (bit-and, ev.bits k below, em.bits k below, bit-zero) (h _ _ _ _ (bits_at a b k)))

-- a number is contained where each bit below 64 agrees
made_contains : (a b r : Bits) (value unknown : Rule) (x : ℕ) → IsMade a b value r.value → IsMade a b unknown r.unknown → x < 2 ^ 64 → ((k : ℕ) → k < 64 → unknown (bit a.value k) (bit a.unknown k) (bit b.value k) (bit b.unknown k) ≡ 0 → bit x k ≡ value (bit a.value k) (bit a.unknown k) (bit b.value k) (bit b.unknown k)) → Contains r x
made_contains a b r value unknown x ev em fx h = record {
  fits = fx;
  agrees = λ k e.
      ⊎_elim
      (λ (below : k < 64). h k below (sym (em.bits k below) ∙ e) ∙ sym (ev.bits k below))
      (λ (above : 64 ≤ k). bit-above x k fx above ∙ sym (bit-above r.value k ev.fits above))
      (cases_lt k 64);
}

-- a bit is known where the rule gives 0 for its unknown bit
made_knows : (a b : Bits) (unknown : Rule) (m k : ℕ) → IsMade a b unknown m → unknown (bit a.value k) (bit a.unknown k) (bit b.value k) (bit b.unknown k) ≡ 0 → bit m k ≡ 0
made_knows a b unknown m k em h =
    ⊎_elim
    (λ (below : k < 64). em.bits k below ∙ h)
    (λ (above : 64 ≤ k). bit-above m k em.fits above)
    (cases_lt k 64)

-- ---- and
abbrev pub and_value : Rule
and_value va ma vb mb = min va vb

abbrev pub and_unknown : Rule
and_unknown va ma vb mb = min (min (max va ma) (max vb mb)) (1 - min va vb)

and_apart_bit : (va ma vb mb : ℕ) → AreBits va ma vb mb → min (min va vb) (min (min (max va ma) (max vb mb)) (1 - min va vb)) ≡ 0
and_apart_bit va ma vb mb p = grind arith

and_agrees_bit : (va ma vb mb x y : ℕ) → AreBits va ma vb mb → x < 2 → y < 2 → (ma ≡ 0 → x ≡ va) → (mb ≡ 0 → y ≡ vb) → min (min (max va ma) (max vb mb)) (1 - min va vb) ≡ 0 → min x y ≡ min va vb
and_agrees_bit va ma vb mb x y p xb yb ex ey h = grind arith

and_knows_bit : (va ma vb mb : ℕ) → AreBits va ma vb mb → min va vb ≡ min (max va ma) (max vb mb) → min (min (max va ma) (max vb mb)) (1 - min va vb) ≡ 0
and_knows_bit va ma vb mb p h = grind arith

pub and_apart : (a b : Bits) (v m : ℕ) → IsMade a b and_value v → IsMade a b and_unknown m → bit_and v m ≡ 0
and_apart a b v m ev em = made_apart a b and_value and_unknown v m ev em and_apart_bit

pub and_contains : (a b r : Bits) → IsMade a b and_value r.value → IsMade a b and_unknown r.unknown → MapsBoth a b r (λ x y. bit_and x y)
and_contains a b r ev em x y ca cb =
    made_contains a b r and_value and_unknown (bit_and x y) ev em (and-fits x y ca.fits)
    (λ k below e. bit-and x y k ∙ and_agrees_bit _ _ _ _ _ _ (bits_at a b k) (bit-lt x k) (bit-lt y k) (ca.agrees k) (cb.agrees k) e)

pub and_knows : (a b : Bits) (m : ℕ) → Fit a → Fit b → IsMade a b and_unknown m → (k : ℕ) → FixesBoth a b k (λ x y. bit_and x y) → bit m k ≡ 0
and_knows a b m fa fb em k same_bit =
    let e : min (bit a.value k) (bit b.value k) ≡ min (max (bit a.value k) (bit a.unknown k)) (max (bit b.value k) (bit b.unknown k)) =
    simp (bit-and, bit-or) at (same_bit a.value b.value (most a) (most b) (has_value a fa) (has_value b fb) (has_most a fa) (has_most b fb)) in
    made_knows a b and_unknown m k em (and_knows_bit _ _ _ _ (bits_at a b k) e)

-- ---- or
abbrev pub or_value : Rule
or_value va ma vb mb = max va vb

abbrev pub or_unknown : Rule
or_unknown va ma vb mb = min (max ma mb) (1 - max va vb)

or_apart_bit : (va ma vb mb : ℕ) → AreBits va ma vb mb → min (max va vb) (min (max ma mb) (1 - max va vb)) ≡ 0
or_apart_bit va ma vb mb p = grind arith

or_agrees_bit : (va ma vb mb x y : ℕ) → AreBits va ma vb mb → x < 2 → y < 2 → (ma ≡ 0 → x ≡ va) → (mb ≡ 0 → y ≡ vb) → min (max ma mb) (1 - max va vb) ≡ 0 → max x y ≡ max va vb
or_agrees_bit va ma vb mb x y p xb yb ex ey h = grind arith

or_knows_bit : (va ma vb mb : ℕ) → AreBits va ma vb mb → max va vb ≡ max (max va ma) (max vb mb) → min (max ma mb) (1 - max va vb) ≡ 0
or_knows_bit va ma vb mb p h = grind arith

pub or_apart : (a b : Bits) (v m : ℕ) → IsMade a b or_value v → IsMade a b or_unknown m → bit_and v m ≡ 0
or_apart a b v m ev em = made_apart a b or_value or_unknown v m ev em or_apart_bit

pub or_contains : (a b r : Bits) → IsMade a b or_value r.value → IsMade a b or_unknown r.unknown → MapsBoth a b r (λ x y. bit_or x y)
or_contains a b r ev em x y ca cb =
    made_contains a b r or_value or_unknown (bit_or x y) ev em (or-fits x y ca.fits cb.fits)
    (λ k below e. bit-or x y k ∙ or_agrees_bit _ _ _ _ _ _ (bits_at a b k) (bit-lt x k) (bit-lt y k) (ca.agrees k) (cb.agrees k) e)

pub or_knows : (a b : Bits) (m : ℕ) → Fit a → Fit b → IsMade a b or_unknown m → (k : ℕ) → FixesBoth a b k (λ x y. bit_or x y) → bit m k ≡ 0
or_knows a b m fa fb em k same_bit =
    let e : max (bit a.value k) (bit b.value k) ≡ max (max (bit a.value k) (bit a.unknown k)) (max (bit b.value k) (bit b.unknown k)) =
    simp bit-or at (same_bit a.value b.value (most a) (most b) (has_value a fa) (has_value b fb) (has_most a fa) (has_most b fb)) in
    made_knows a b or_unknown m k em (or_knows_bit _ _ _ _ (bits_at a b k) e)

-- ---- xor
abbrev pub xor_value : Rule
xor_value va ma vb mb = min ((va + vb) % 2) (1 - max ma mb)

abbrev pub xor_unknown : Rule
xor_unknown va ma vb mb = max ma mb

xor_apart_bit : (va ma vb mb : ℕ) → AreBits va ma vb mb → min (min ((va + vb) % 2) (1 - max ma mb)) (max ma mb) ≡ 0
xor_apart_bit va ma vb mb p = grind arith

xor_agrees_bit : (va ma vb mb x y : ℕ) → AreBits va ma vb mb → x < 2 → y < 2 → (ma ≡ 0 → x ≡ va) → (mb ≡ 0 → y ≡ vb) → max ma mb ≡ 0 → (x + y) % 2 ≡ min ((va + vb) % 2) (1 - max ma mb)
xor_agrees_bit va ma vb mb x y p xb yb ex ey h = grind arith

xor_knows_bit : (va ma vb mb : ℕ) → AreBits va ma vb mb → (va + vb) % 2 ≡ (max va ma + vb) % 2 → (va + vb) % 2 ≡ (va + max vb mb) % 2 → max ma mb ≡ 0
xor_knows_bit va ma vb mb p h g = grind arith

pub xor_apart : (a b : Bits) (v m : ℕ) → IsMade a b xor_value v → IsMade a b xor_unknown m → bit_and v m ≡ 0
xor_apart a b v m ev em = made_apart a b xor_value xor_unknown v m ev em xor_apart_bit

pub xor_contains : (a b r : Bits) → IsMade a b xor_value r.value → IsMade a b xor_unknown r.unknown → MapsBoth a b r (λ x y. bit_xor x y)
xor_contains a b r ev em x y ca cb =
    made_contains a b r xor_value xor_unknown (bit_xor x y) ev em (xor-fits x y ca.fits cb.fits)
    (λ k below e. bit-xor x y k ∙ xor_agrees_bit _ _ _ _ _ _ (bits_at a b k) (bit-lt x k) (bit-lt y k) (ca.agrees k) (cb.agrees k) e)

pub xor_knows : (a b : Bits) (m : ℕ) → Fit a → Fit b → IsMade a b xor_unknown m → (k : ℕ) → FixesBoth a b k (λ x y. bit_xor x y) → bit m k ≡ 0
xor_knows a b m fa fb em k same_bit =
    let left : (bit a.value k + bit b.value k) % 2 ≡ (max (bit a.value k) (bit a.unknown k) + bit b.value k) % 2 =
    simp (bit-or, bit-xor) at (same_bit a.value b.value (most a) b.value (has_value a fa) (has_value b fb) (has_most a fa) (has_value b fb)) in
    let right : (bit a.value k + bit b.value k) % 2 ≡ (bit a.value k + max (bit b.value k) (bit b.unknown k)) % 2 =
    simp (bit-or, bit-xor) at (same_bit a.value b.value a.value (most b) (has_value a fa) (has_value b fb) (has_value a fa) (has_most b fb)) in
    made_knows a b xor_unknown m k em (xor_knows_bit _ _ _ _ (bits_at a b k) left right)

-- ---- join
abbrev pub join_value : Rule
join_value va ma vb mb = min va (1 - max (max ma mb) ((va + vb) % 2))

abbrev pub join_unknown : Rule
join_unknown va ma vb mb = max (max ma mb) ((va + vb) % 2)

join_apart_bit : (va ma vb mb : ℕ) → AreBits va ma vb mb → min (min va (1 - max (max ma mb) ((va + vb) % 2))) (max (max ma mb) ((va + vb) % 2)) ≡ 0
join_apart_bit va ma vb mb p = grind arith

join_left_bit : (va ma vb mb x : ℕ) → AreBits va ma vb mb → (ma ≡ 0 → x ≡ va) → max (max ma mb) ((va + vb) % 2) ≡ 0 → x ≡ min va (1 - max (max ma mb) ((va + vb) % 2))
join_left_bit va ma vb mb x p e h = grind arith

join_right_bit : (va ma vb mb x : ℕ) → AreBits va ma vb mb → (mb ≡ 0 → x ≡ vb) → max (max ma mb) ((va + vb) % 2) ≡ 0 → x ≡ min va (1 - max (max ma mb) ((va + vb) % 2))
join_right_bit va ma vb mb x p e h = grind arith

agreed_bit : (va ma vb mb : ℕ) → ma ≡ 0 → mb ≡ 0 → va ≡ vb → max (max ma mb) ((va + vb) % 2) ≡ 0
agreed_bit va ma vb mb a b e = grind arith

pub join_apart : (a b : Bits) (v m : ℕ) → IsMade a b join_value v → IsMade a b join_unknown m → bit_and v m ≡ 0
join_apart a b v m ev em = made_apart a b join_value join_unknown v m ev em join_apart_bit

pub join_left : (a b r : Bits) → IsMade a b join_value r.value → IsMade a b join_unknown r.unknown → Maps a r (λ x. x)
join_left a b r ev em x ca =
    made_contains a b r join_value join_unknown x ev em ca.fits (λ k below e. join_left_bit _ _ _ _ _ (bits_at a b k) (ca.agrees k) e)

pub join_right : (a b r : Bits) → IsMade a b join_value r.value → IsMade a b join_unknown r.unknown → Maps b r (λ x. x)
join_right a b r ev em x cb =
    made_contains a b r join_value join_unknown x ev em cb.fits (λ k below e. join_right_bit _ _ _ _ _ (bits_at a b k) (cb.agrees k) e)

pub join_agreed : (a b : Bits) (m : ℕ) → IsMade a b join_unknown m → (k : ℕ) → bit a.unknown k ≡ 0 → bit b.unknown k ≡ 0 → bit a.value k ≡ bit b.value k → bit m k ≡ 0
join_agreed a b m em k p q e = made_knows a b join_unknown m k em (agreed_bit _ _ _ _ p q e)

-- ---- meet
abbrev pub meet_value : Rule
meet_value va ma vb mb = max va vb

abbrev pub meet_unknown : Rule
meet_unknown va ma vb mb = min ma mb

-- the bits that both know and on which they differ
abbrev pub clash : Rule
clash va ma vb mb = min ((va + vb) % 2) (1 - max ma mb)

meet_apart_bit : (va ma vb mb : ℕ) → AreBits va ma vb mb → min (max va vb) (min ma mb) ≡ 0
meet_apart_bit va ma vb mb p = grind arith

meet_agrees_bit : (va ma vb mb x : ℕ) → AreBits va ma vb mb → (ma ≡ 0 → x ≡ va) → (mb ≡ 0 → x ≡ vb) → min ma mb ≡ 0 → x ≡ max va vb
meet_agrees_bit va ma vb mb x p ea eb h = grind arith

meet_only_bit : (va ma vb mb x : ℕ) → AreBits va ma vb mb → min ((va + vb) % 2) (1 - max ma mb) ≡ 0 → (min ma mb ≡ 0 → x ≡ max va vb) → ma ≡ 0 → x ≡ va
meet_only_bit va ma vb mb x p h e z = grind arith

meet_only_right_bit : (va ma vb mb x : ℕ) → AreBits va ma vb mb → min ((va + vb) % 2) (1 - max ma mb) ≡ 0 → (min ma mb ≡ 0 → x ≡ max va vb) → mb ≡ 0 → x ≡ vb
meet_only_right_bit va ma vb mb x p h e z = grind arith

clash_bit : (va ma vb mb x : ℕ) → AreBits va ma vb mb → (ma ≡ 0 → x ≡ va) → (mb ≡ 0 → x ≡ vb) → min ((va + vb) % 2) (1 - max ma mb) ≡ 0
clash_bit va ma vb mb x p ea eb = grind arith

pub meet_apart : (a b : Bits) (v m : ℕ) → IsMade a b meet_value v → IsMade a b meet_unknown m → bit_and v m ≡ 0
meet_apart a b v m ev em = made_apart a b meet_value meet_unknown v m ev em meet_apart_bit

pub meet_contains : (a b r : Bits) → IsMade a b meet_value r.value → IsMade a b meet_unknown r.unknown → (x : ℕ) → Contains a x → Contains b x → Contains r x
meet_contains a b r ev em x ca cb =
    made_contains a b r meet_value meet_unknown x ev em ca.fits (λ k below e. meet_agrees_bit _ _ _ _ _ (bits_at a b k) (ca.agrees k) (cb.agrees k) e)

-- where some number is in both, no known bits clash
pub no_clash : (a b : Bits) (n : ℕ) → IsMade a b clash n → (x : ℕ) → Contains a x → Contains b x → n ≡ 0
no_clash a b n en x ca cb =
    let zero_fits : 0 < 2 ^ 64 = omega arith in
    same_below _ _ en.fits zero_fits
    (λ k below. en.bits k below ∙ clash_bit _ _ _ _ (bit x k) (bits_at a b k) (ca.agrees k) (cb.agrees k) ∙ sym (bit-zero k))

no_clash_at : (a b : Bits) (n : ℕ) → IsMade a b clash n → n ≡ 0 → (k : ℕ) → k < 64 → min ((bit a.value k + bit b.value k) % 2) (1 - max (bit a.unknown k) (bit b.unknown k)) ≡ 0
no_clash_at a b n en none k below = sym (en.bits k below) ∙ ap (λ m. bit m k) none ∙ bit-zero k

-- where no known bits clash, what the meet contains is in both
met_bit : (a b r : Bits) → IsMade a b meet_value r.value → IsMade a b meet_unknown r.unknown → (x : ℕ) → Contains r x → (k : ℕ) → k < 64 → min (bit a.unknown k) (bit b.unknown k) ≡ 0 → bit x k ≡ max (bit a.value k) (bit b.value k)
met_bit a b r ev em x c k below z = c.agrees k (em.bits k below ∙ z) ∙ ev.bits k below

pub meet_only : (a b r : Bits) (n : ℕ) → Fit a → Fit b → IsMade a b clash n → n ≡ 0 → IsMade a b meet_value r.value → IsMade a b meet_unknown r.unknown → (x : ℕ) → Contains r x → Contains a x × Contains b x
meet_only a b r n fa fb en none ev em x c = (
  record {
    fits = c.fits;
    agrees = λ k z.
        ⊎_elim
        (λ (below : k < 64). meet_only_bit _ _ _ _ _ (bits_at a b k) (no_clash_at a b n en none k below) (met_bit a b r ev em x c k below) z)
        (λ (above : 64 ≤ k). bit-above x k c.fits above ∙ sym (bit-above a.value k fa.value above))
        (cases_lt k 64);
  },
  record {
    fits = c.fits;
    agrees = λ k z.
        ⊎_elim
        (λ (below : k < 64). meet_only_right_bit _ _ _ _ _ (bits_at a b k) (no_clash_at a b n en none k below) (met_bit a b r ev em x c k below) z)
        (λ (above : 64 ≤ k). bit-above x k c.fits above ∙ sym (bit-above b.value k fb.value above))
        (cases_lt k 64);
  },
)

-- so both contain its value
pub met : (a b : Bits) (n : ℕ) → Fit a → Fit b → IsMade a b clash n → n ≡ 0 → (x : ℕ) × (Contains a x × Contains b x)
met a b n fa fb en none =
    let ev : IsMade a b meet_value (bit_or a.value b.value) = record { fits = or-fits _ _ fa.value fb.value; bits = λ k below. bit-or a.value b.value k } in
    let em : IsMade a b meet_unknown (bit_and a.unknown b.unknown) = record { fits = and-fits _ _ fa.unknown; bits = λ k below. bit-and a.unknown b.unknown k } in
    let r : Bits = record { value = bit_or a.value b.value; unknown = bit_and a.unknown b.unknown; disjoint = meet_apart a b _ _ ev em } in
    (r.value, meet_only a b r n fa fb en none ev em r.value (has_value r (fit r ev.fits em.fits)))

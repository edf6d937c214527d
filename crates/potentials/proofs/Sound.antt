-- The number that the rule gives is one that the form is at least.
use Rattle.std.proofs.Common.{◌≡◌, ℕ, ℤ, suc, pos, negsuc, ◌+◌, ◌-◌, ◌*◌, ◌≤◌, ◌+ℤ◌, ◌-ℤ◌, ◌*ℤ◌, ◌<ℤ◌, ◌≤ℤ◌, Bool, true, false, if◌then◌else◌, List, [], ◌∷◌, fold, Option, Some, None, refl, ap, subst, arith, int_lt, int_le}
use Rattle.std.proofs.lemmas.Int.{ints}
use Rattle.std.proofs.Math.Nat.{mul-le-mul_left}
use Rattle.span_context.specs.Context.{text_limit, link_limit}
use Rattle.potentials.specs.declared.Form.{Form}
use Rattle.potentials.specs.declared.Weighed.{Weighed}
use Rattle.potentials.specs.Values.{AreLengths, HasTail, IsOf, AreOf, at_lengths, all_weighed, value_at}
use Rattle.potentials.specs.Least.{at_value, paid_by_text, paid_by_link, by_link, by_text, without, at_length, least_of}

-- ---- products
falls : (weight : ℤ) (low high : ℕ) → weight <ℤ pos 0 → low ≤ high → (weight *ℤ pos high) ≤ℤ (weight *ℤ pos low)
falls (pos n) low high negative ordered = absurd (omega (arith, ints))
falls (negsuc n) low high negative ordered =
    let more : suc n * low ≤ suc n * high = mul-le-mul_left (suc n) ordered in omega (arith, ints)

rises : (weight : ℤ) (low high : ℕ) → pos 0 ≤ℤ weight → low ≤ high → (weight *ℤ pos low) ≤ℤ (weight *ℤ pos high)
rises (pos n) low high natural ordered =
    let more : n * low ≤ n * high = mul-le-mul_left n ordered in omega (arith, ints)
rises (negsuc n) low high natural ordered = absurd (omega (arith, ints))

split : (a b d long : ℕ) → a ≡ d + b → a * long ≡ d * long + b * long
split a b d long e = let whole : a * long ≡ (d + b) * long = ap (λ n. n * long) e in omega (arith, whole)

paid_of : (a b d x t long : ℕ) → a ≡ d + b → x + t ≤ long
    → (pos b *ℤ pos t +ℤ pos d *ℤ pos long) ≤ℤ (pos a *ℤ pos long -ℤ pos b *ℤ pos x)
paid_of a b d x t long e h =
    let whole : a * long ≡ d * long + b * long = split a b d long e in
    let less : b * (x + t) ≤ b * long = mul-le-mul_left b h in
    let parts : b * (x + t) ≡ b * x + b * t = omega arith in
    omega (arith, ints)

paid : (per weight : ℤ) (x t long : ℕ) → pos 0 ≤ℤ weight → weight ≤ℤ per → x + t ≤ long
    → (weight *ℤ pos t +ℤ (per -ℤ weight) *ℤ pos long) ≤ℤ (per *ℤ pos long -ℤ weight *ℤ pos x)
paid (pos a) (pos b) x t long natural enough h =
    let small : b ≤ a = omega (arith, ints) in
    let same : pos (a - b) ≡ pos a -ℤ pos b = omega (arith, ints) in
    subst (λ z. (pos b *ℤ pos t +ℤ z *ℤ pos long) ≤ℤ (pos a *ℤ pos long -ℤ pos b *ℤ pos x)) same
    (paid_of a b (a - b) x t long (omega arith) h)
paid (negsuc a) (pos b) x t long natural enough h = absurd (omega (arith, ints))
paid (pos a) (negsuc b) x t long natural enough h = absurd (omega (arith, ints))
paid (negsuc a) (negsuc b) x t long natural enough h = absurd (omega (arith, ints))

-- ---- sums, with products as they are
at_value_sum : (constant rest wx wv : ℤ) → wx ≤ℤ wv → ((constant -ℤ wv) +ℤ rest) ≤ℤ ((constant +ℤ rest) -ℤ wx)
at_value_sum constant rest wx wv h = omega (arith, ints)

text_sum : (constant wt dl pl kl wx : ℤ) → (wt +ℤ dl) ≤ℤ (pl -ℤ wx)
    → ((constant +ℤ wt) +ℤ (dl +ℤ kl)) ≤ℤ ((constant +ℤ (pl +ℤ kl)) -ℤ wx)
text_sum constant wt dl pl kl wx h = omega (arith, ints)

link_sum : (constant wt dl pl kl wx : ℤ) → (wt +ℤ dl) ≤ℤ (pl -ℤ wx)
    → ((constant +ℤ wt) +ℤ (kl +ℤ dl)) ≤ℤ ((constant +ℤ (kl +ℤ pl)) -ℤ wx)
link_sum constant wt dl pl kl wx h = omega (arith, ints)

chained : (a b c wx rest : ℤ) → a ≤ℤ (b -ℤ rest) → b ≤ℤ (c -ℤ wx) → a ≤ℤ (c -ℤ (wx +ℤ rest))
chained a b c wx rest h i = omega (arith, ints)

no_less : (a : ℤ) → a ≤ℤ (a -ℤ pos 0)
no_less a = omega (arith, ints)

lengths_sum : (constant s t pl kl values left : ℤ) → s ≤ℤ pl → t ≤ℤ kl → (constant +ℤ (pl +ℤ kl)) ≤ℤ (left -ℤ values)
    → (constant +ℤ (s +ℤ t)) ≤ℤ (left -ℤ values)
lengths_sum constant s t pl kl values left h i j = omega (arith, ints)

test_le : (a b : ℤ) → int_le a b ≡ true → a ≤ℤ b
test_le a b e = omega (arith, ints)

test_lt : (a b : ℤ) → int_lt a b ≡ true → a <ℤ b
test_lt a b e = omega (arith, ints)

test_not_lt : (a b : ℤ) → int_lt a b ≡ false → b ≤ℤ a
test_not_lt a b e = omega (arith, ints)

-- ---- a value
abbrev IsLess : Form → Form → ℤ → ℕ → ℕ → ℕ → Type 0
IsLess less form weight text link value =
    at_lengths less text link ≤ℤ (at_lengths form text link -ℤ weight *ℤ pos value)

high_less : (form : Form) (w : Weighed) (text link value : ℕ) → IsOf w text link value → pos 0 ≤ℤ w.weight
    → IsLess (at_value form w.weight w.high) form w.weight text link value
high_less form w text link value of natural =
    at_value_sum form.constant (form.per_byte *ℤ pos text +ℤ form.per_link_byte *ℤ pos link) (w.weight *ℤ pos value)
    (w.weight *ℤ pos w.high) (rises w.weight value w.high natural of.high)

link_less : (form : Form) (w : Weighed) (text link value : ℕ) → IsOf w text link value → pos 0 ≤ℤ w.weight
    → (tail : Option ℕ) → HasTail tail link value
    → IsLess (by_link form w tail) form w.weight text link value
link_less form w text link value of natural None has = high_less form w text link value of natural
link_less form w text link value of natural (Some tail) has = go (int_le w.weight form.per_link_byte) refl
  where
    go : (b : Bool) → int_le w.weight form.per_link_byte ≡ b
        → IsLess (if b then paid_by_link form w.weight tail else at_value form w.weight w.high) form w.weight text link value
    go true e =
        link_sum form.constant (w.weight *ℤ pos tail) ((form.per_link_byte -ℤ w.weight) *ℤ pos link)
        (form.per_link_byte *ℤ pos link) (form.per_byte *ℤ pos text) (w.weight *ℤ pos value)
        (paid form.per_link_byte w.weight value tail link natural (test_le w.weight form.per_link_byte e) has)
    go false e = high_less form w text link value of natural

text_less : (form : Form) (w : Weighed) (text link value : ℕ) → IsOf w text link value → pos 0 ≤ℤ w.weight
    → (tail : Option ℕ) → HasTail tail text value
    → IsLess (by_text form w tail) form w.weight text link value
text_less form w text link value of natural None has =
    link_less form w text link value of natural w.link_tail of.link_tail
text_less form w text link value of natural (Some tail) has = go (int_le w.weight form.per_byte) refl
  where
    go : (b : Bool) → int_le w.weight form.per_byte ≡ b
        → IsLess (if b then paid_by_text form w.weight tail else by_link form w w.link_tail) form w.weight text link value
    go true e =
        text_sum form.constant (w.weight *ℤ pos tail) ((form.per_byte -ℤ w.weight) *ℤ pos text)
        (form.per_byte *ℤ pos text) (form.per_link_byte *ℤ pos link) (w.weight *ℤ pos value)
        (paid form.per_byte w.weight value tail text natural (test_le w.weight form.per_byte e) has)
    go false e = link_less form w text link value of natural w.link_tail of.link_tail

value_less : (form : Form) (w : Weighed) (text link value : ℕ) → IsOf w text link value
    → IsLess (without form w) form w.weight text link value
unfolding without
value_less form w text link value of = go (int_lt w.weight (pos 0)) refl
  where
    go : (b : Bool) → int_lt w.weight (pos 0) ≡ b
        → IsLess (if b then at_value form w.weight w.low else by_text form w w.tail) form w.weight text link value
    go true e =
        at_value_sum form.constant (form.per_byte *ℤ pos text +ℤ form.per_link_byte *ℤ pos link)
        (w.weight *ℤ pos value) (w.weight *ℤ pos w.low)
        (falls w.weight w.low value (test_lt w.weight (pos 0) e) of.low)
    go false e = text_less form w text link value of (test_not_lt w.weight (pos 0) e) w.tail of.tail

-- ---- all values, and the lengths
values_less : (form : Form) (weighed : List Weighed) (text link : ℕ) (values : List ℕ) → AreOf weighed text link values
    → at_lengths (fold without form weighed) text link
    ≤ℤ (at_lengths form text link -ℤ all_weighed weighed values)
unfolding AreOf all_weighed
values_less form [] text link [] of = no_less (at_lengths form text link)
values_less form [] text link (value ∷ values) of = absurd of
values_less form (w ∷ weighed) text link [] of = absurd of
values_less form (w ∷ weighed) text link (value ∷ values) of =
    chained (at_lengths (fold without (without form w) weighed) text link) (at_lengths (without form w) text link)
    (at_lengths form text link) (w.weight *ℤ pos value) (all_weighed weighed values)
    (values_less (without form w) weighed text link values of.1) (value_less form w text link value of.0)

length_less : (per : ℤ) (least limit long : ℕ) → least ≤ long → long ≤ limit
    → at_length per least limit ≤ℤ (per *ℤ pos long)
length_less per least limit long enough few = go (int_lt per (pos 0)) refl
  where
    go : (b : Bool) → int_lt per (pos 0) ≡ b
        → (if b then per *ℤ pos limit else per *ℤ pos least) ≤ℤ (per *ℤ pos long)
    go true e = falls per long limit (test_lt per (pos 0) e) few
    go false e = rises per least long (test_not_lt per (pos 0) e) enough

pub sound : (form : Form) (weighed : List Weighed) (least_text least_link text link : ℕ) (values : List ℕ)
    → AreLengths least_text least_link text link → AreOf weighed text link values
    → least_of form weighed least_text least_link ≤ℤ value_at form weighed text link values
sound form weighed least_text least_link text link values lengths of =
    let left = fold without form weighed in
    lengths_sum left.constant (at_length left.per_byte least_text text_limit)
    (at_length left.per_link_byte least_link link_limit) (left.per_byte *ℤ pos text) (left.per_link_byte *ℤ pos link)
    (all_weighed weighed values) (at_lengths form text link)
    (length_less left.per_byte least_text text_limit text lengths.text_long lengths.text_short)
    (length_less left.per_link_byte least_link link_limit link lengths.link_long lengths.link_short)
    (values_less form weighed text link values of)

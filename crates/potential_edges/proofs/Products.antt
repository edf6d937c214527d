-- Products of whole numbers.
use Rattle.std.proofs.Common.{◌≡◌, ℕ, zero, suc, ℤ, pos, negsuc, ◌*◌, ◌≤◌, ◌+ℤ◌, ◌-ℤ◌, ◌*ℤ◌, ◌≤ℤ◌, ◌<ℤ◌, unsigned_abs, sym, ap, ◌∙◌, arith}
use Rattle.std.proofs.lemmas.Int.{ints}
use Rattle.std.proofs.Math.IntN.{zero-*ℤ, suc_ℤ-*ℤ, pred_ℤ-*ℤ, *ℤ_comm}
use Rattle.std.proofs.Math.Nat.{mul-le-mul_left}

shuffled : (a b x y : ℤ) → (a +ℤ b) +ℤ (x +ℤ y) ≡ (a +ℤ x) +ℤ (b +ℤ y)
shuffled a b x y = omega (arith, ints)

shuffled_less : (a b x y : ℤ) → (a +ℤ b) -ℤ (x +ℤ y) ≡ (a -ℤ x) +ℤ (b -ℤ y)
shuffled_less a b x y = omega (arith, ints)

spread_pos : (n : ℕ) (x y : ℤ) → pos n *ℤ (x +ℤ y) ≡ pos n *ℤ x +ℤ pos n *ℤ y
spread_pos zero x y =
    zero-*ℤ (x +ℤ y)
    ∙ sym (ap (λ z. z +ℤ pos zero *ℤ y) (zero-*ℤ x) ∙ ap (λ z. pos zero +ℤ z) (zero-*ℤ y))
spread_pos (suc n) x y =
    suc_ℤ-*ℤ (pos n) (x +ℤ y)
    ∙ ap (λ z. z +ℤ (x +ℤ y)) (spread_pos n x y)
    ∙ shuffled (pos n *ℤ x) (pos n *ℤ y) x y
    ∙ sym (ap (λ z. z +ℤ pos (suc n) *ℤ y) (suc_ℤ-*ℤ (pos n) x)
    ∙ ap (λ z. (pos n *ℤ x +ℤ x) +ℤ z) (suc_ℤ-*ℤ (pos n) y))

spread_negsuc : (n : ℕ) (x y : ℤ) → negsuc n *ℤ (x +ℤ y) ≡ negsuc n *ℤ x +ℤ negsuc n *ℤ y
spread_negsuc zero x y =
    pred_ℤ-*ℤ (pos zero) (x +ℤ y)
    ∙ ap (λ z. z -ℤ (x +ℤ y)) (spread_pos zero x y)
    ∙ shuffled_less (pos zero *ℤ x) (pos zero *ℤ y) x y
    ∙ sym (ap (λ z. z +ℤ negsuc zero *ℤ y) (pred_ℤ-*ℤ (pos zero) x)
    ∙ ap (λ z. (pos zero *ℤ x -ℤ x) +ℤ z) (pred_ℤ-*ℤ (pos zero) y))
spread_negsuc (suc n) x y =
    pred_ℤ-*ℤ (negsuc n) (x +ℤ y)
    ∙ ap (λ z. z -ℤ (x +ℤ y)) (spread_negsuc n x y)
    ∙ shuffled_less (negsuc n *ℤ x) (negsuc n *ℤ y) x y
    ∙ sym (ap (λ z. z +ℤ negsuc (suc n) *ℤ y) (pred_ℤ-*ℤ (negsuc n) x)
    ∙ ap (λ z. (negsuc n *ℤ x -ℤ x) +ℤ z) (pred_ℤ-*ℤ (negsuc n) y))

pub spread : (k x y : ℤ) → k *ℤ (x +ℤ y) ≡ k *ℤ x +ℤ k *ℤ y
spread (pos n) x y = spread_pos n x y
spread (negsuc n) x y = spread_negsuc n x y

pub spread_weight : (a b k : ℤ) → (a +ℤ b) *ℤ k ≡ a *ℤ k +ℤ b *ℤ k
spread_weight a b k =
    *ℤ_comm (a +ℤ b) k
    ∙ spread k a b
    ∙ ap (λ z. z +ℤ k *ℤ b) (*ℤ_comm k a)
    ∙ ap (λ z. a *ℤ k +ℤ z) (*ℤ_comm k b)

taken_away : (a b whole part rest : ℤ) → whole ≡ rest +ℤ part → rest ≡ whole -ℤ part
taken_away a b whole part rest e = omega (arith, ints)

both_back : (a b : ℤ) → (a -ℤ b) +ℤ b ≡ a
both_back a b = omega (arith, ints)

pub lessened_weight : (a b k : ℤ) → (a -ℤ b) *ℤ k ≡ a *ℤ k -ℤ b *ℤ k
lessened_weight a b k =
    taken_away a b (a *ℤ k) (b *ℤ k) ((a -ℤ b) *ℤ k)
    (ap (λ z. z *ℤ k) (sym (both_back a b)) ∙ spread_weight (a -ℤ b) b k)

-- a weight that isn't negative is least at the lower end, one that is at the upper
pub rises : (weight : ℤ) (low high : ℕ) → pos 0 ≤ℤ weight → low ≤ high → (weight *ℤ pos low) ≤ℤ (weight *ℤ pos high)
rises (pos n) low high natural ordered =
    let more : n * low ≤ n * high = mul-le-mul_left n ordered in omega (arith, ints)
rises (negsuc n) low high natural ordered = absurd (omega (arith, ints))

pub falls : (weight : ℤ) (low high : ℕ) → weight <ℤ pos 0 → low ≤ high → (weight *ℤ pos high) ≤ℤ (weight *ℤ pos low)
falls (pos n) low high negative ordered = absurd (omega (arith, ints))
falls (negsuc n) low high negative ordered =
    let more : suc n * low ≤ suc n * high = mul-le-mul_left (suc n) ordered in omega (arith, ints)

-- the same of whole numbers
times_none : (weight : ℤ) → weight *ℤ pos 0 ≡ pos 0
times_none weight = *ℤ_comm weight (pos 0) ∙ zero-*ℤ weight

no_less : (one other more none : ℤ) → other ≡ one +ℤ more → none ≡ pos 0 → none ≤ℤ more → one ≤ℤ other
no_less one other more none e f h = omega (arith, ints)

no_more : (one other more none : ℤ) → other ≡ one +ℤ more → none ≡ pos 0 → more ≤ℤ none → other ≤ℤ one
no_more one other more none e f h = omega (arith, ints)

apart_by : (x y : ℤ) → x ≤ℤ y → y ≡ x +ℤ pos (unsigned_abs (y -ℤ x))
apart_by x y h = omega (arith, ints)

times_apart : (weight x y : ℤ) → x ≤ℤ y
    → weight *ℤ y ≡ weight *ℤ x +ℤ weight *ℤ pos (unsigned_abs (y -ℤ x))
times_apart weight x y h =
    ap (λ z. weight *ℤ z) (apart_by x y h) ∙ spread weight x (pos (unsigned_abs (y -ℤ x)))

pub rises_by : (weight x y : ℤ) → pos 0 ≤ℤ weight → x ≤ℤ y → (weight *ℤ x) ≤ℤ (weight *ℤ y)
rises_by weight x y natural h =
    no_less (weight *ℤ x) (weight *ℤ y) (weight *ℤ pos (unsigned_abs (y -ℤ x))) (weight *ℤ pos 0)
    (times_apart weight x y h) (times_none weight) (rises weight 0 (unsigned_abs (y -ℤ x)) natural (omega arith))

pub falls_by : (weight x y : ℤ) → weight <ℤ pos 0 → x ≤ℤ y → (weight *ℤ y) ≤ℤ (weight *ℤ x)
falls_by weight x y negative h =
    no_more (weight *ℤ x) (weight *ℤ y) (weight *ℤ pos (unsigned_abs (y -ℤ x))) (weight *ℤ pos 0)
    (times_apart weight x y h) (times_none weight) (falls weight 0 (unsigned_abs (y -ℤ x)) negative (omega arith))

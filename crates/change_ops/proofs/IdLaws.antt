-- The order of ids is a strict total order, and the comparison answers what it says.
use Rattle.std.proofs.Common.{◌≡◌, ℕ, ◌<◌, ◌≤◌, ◌⊎◌, ⊎_elim, inl, inr, ap, sym, refl, subst, ◌∙◌, arith}
use Rattle.std.proofs.lemmas.Bool.{cases_lt}
use Rattle.std.specs.Ordering.{nat_cmp}
use Rattle.std.specs.Cmp.{nat_cmp_is}
use Rattle.std.specs.declared.cmp.Ordering.TheVariants as ordering
use Rattle.change_ops.specs.Ids.{OpId, Less, id_cmp, ComparesIds}

pub same_ids : (a b : OpId) → a.counter ≡ b.counter → a.node ≡ b.node → a ≡ b
same_ids a b e f =
    let mk : ℕ → ℕ → OpId = λ c n. record { counter = c; node = n } in
    ap (λ c. mk c a.node) e ∙ ap (λ n. mk b.counter n) f

pub less_irrefl : (a : OpId) → Less a a → ⊥
unfolding Less
less_irrefl a h = grind arith

pub less_trans : (a b c : OpId) → Less a b → Less b c → Less a c
unfolding Less
less_trans a b c h k = grind arith

pub less_cases : (a b : OpId) → Less a b ⊎ ((a ≡ b) ⊎ Less b a)
unfolding Less
less_cases a b =
    ⊎_elim
    (λ (h : a.counter < b.counter). inl (inl h))
    (λ (h : b.counter ≤ a.counter).
    ⊎_elim
    (λ (k : b.counter < a.counter). inr (inr (inl k)))
    (λ (k : a.counter ≤ b.counter).
    let e : a.counter ≡ b.counter = omega arith in
    ⊎_elim
    (λ (l : a.node < b.node). inl (inr (e, l)))
    (λ (l : b.node ≤ a.node).
    ⊎_elim
    (λ (m : b.node < a.node). inr (inr (inr (sym e, m))))
    (λ (m : a.node ≤ b.node). inr (inl (same_ids a b e (omega arith))))
    (cases_lt b.node a.node))
    (cases_lt a.node b.node))
    (cases_lt b.counter a.counter))
    (cases_lt a.counter b.counter)

less_is : (a b : OpId) → Less a b → id_cmp a b ≡ ordering.Less
unfolding Less
less_is a b (inl lt) = let one : ordering.Less ≡ nat_cmp a.counter b.counter = nat_cmp_is _ _ ordering.Less lt in rw (← one) refl
less_is a b (inr h) =
    let one : ordering.Equal ≡ nat_cmp a.counter b.counter = nat_cmp_is _ _ ordering.Equal h.0 in
    let two : ordering.Less ≡ nat_cmp a.node b.node = nat_cmp_is _ _ ordering.Less h.1 in
    rw (← one, ← two) refl

greater_is : (a b : OpId) → Less b a → id_cmp a b ≡ ordering.Greater
unfolding Less
greater_is a b (inl lt) = let one : ordering.Greater ≡ nat_cmp a.counter b.counter = nat_cmp_is _ _ ordering.Greater lt in rw (← one) refl
greater_is a b (inr h) =
    let one : ordering.Equal ≡ nat_cmp a.counter b.counter = nat_cmp_is _ _ ordering.Equal (sym h.0) in
    let two : ordering.Greater ≡ nat_cmp a.node b.node = nat_cmp_is _ _ ordering.Greater h.1 in
    rw (← one, ← two) refl

equal_is : (a b : OpId) → a ≡ b → id_cmp a b ≡ ordering.Equal
equal_is a b e =
    let one : ordering.Equal ≡ nat_cmp a.counter b.counter = nat_cmp_is _ _ ordering.Equal (ap (λ (i : OpId). i.counter) e) in
    let two : ordering.Equal ≡ nat_cmp a.node b.node = nat_cmp_is _ _ ordering.Equal (ap (λ (i : OpId). i.node) e) in
    rw (← one, ← two) refl

below_not_same : (a b : OpId) → Less a b → a ≡ b → ⊥
below_not_same a b h e = less_irrefl b (let P : OpId → Type 0 = λ i. Less i b in subst P e h)

pub compares_ids : (a b : OpId) → ComparesIds a b
compares_ids a b = elim (less_cases a b) [
  | inl h ↦ let e = less_is a b h in record { less = (λ _. h, λ _. e); equal = (λ f. absurd cc, λ same. absurd (below_not_same a b h same)); greater = (λ f. absurd cc, λ k. absurd (less_irrefl a (less_trans a b a h k))) }
  | inr (inl h) ↦ let e = equal_is a b h in record { less = (λ f. absurd cc, λ k. absurd (below_not_same a b k h)); equal = (λ _. h, λ _. e); greater = (λ f. absurd cc, λ k. absurd (below_not_same b a k (sym h))) }
  | inr (inr h) ↦ let e = greater_is a b h in record { less = (λ f. absurd cc, λ k. absurd (less_irrefl a (less_trans a b a k h))); equal = (λ f. absurd cc, λ same. absurd (below_not_same b a h (sym same))); greater = (λ _. h, λ _. e) }
]

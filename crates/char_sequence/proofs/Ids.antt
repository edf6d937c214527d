-- Ids are equal by their numbers, and are in a strict total order.
use Rattle.std.proofs.Common.{◌≡◌, ℕ, ◌<◌, ◌≤◌, true, false, inl, inr, ◌⊎◌, sym, ap, subst, refl, ◌∙◌, arith, ⊎_elim, ◌&&◌}
use Rattle.std.specs.Prelude.{nat_eq}
use Rattle.std.specs.Cmp.{Equal-is}
use Rattle.std.proofs.lemmas.Bool.{cases_lt, eq-eqb}
use Rattle.change_ops.specs.Ids.{Less, id_cmp}
use Rattle.change_ops.proofs.IdLaws.{compares_ids}
use Rattle.change_ops.specs.declared.id.OpId.{OpId}
use Rattle.char_sequence.specs.Index.{same_id}

pub same_ids : (a b : OpId) → a.counter ≡ b.counter → a.node ≡ b.node → a ≡ b
same_ids a b e f =
    let mk : ℕ → ℕ → OpId = λ c n. record { counter = c; node = n } in
    ap (λ c. mk c a.node) e ∙ ap (λ n. mk b.counter n) f

same_id_yes : (a b : OpId) → same_id a b ≡ true → a ≡ b
same_id_yes a b e = (compares_ids a b).equal.0 ((Equal-is (id_cmp a b)).0 e)

pub id_found : (a : OpId) → same_id a a ≡ true
id_found a = (Equal-is (id_cmp a a)).1 ((compares_ids a a).equal.1 refl)

-- the same by the numbers themselves
pub same_id_self : (a : OpId) → (nat_eq a.counter a.counter && nat_eq a.node a.node) ≡ true
same_id_self a = ap (λ b. b && nat_eq a.node a.node) (eq-eqb a.counter a.counter refl) ∙ eq-eqb a.node a.node refl

pub same_id_cases : (a b : OpId) → (a ≡ b) ⊎ (same_id a b ≡ false)
same_id_cases a b =
    elim (same_id a b) as (λ t. same_id a b ≡ t → (a ≡ b) ⊎ (same_id a b ≡ false)) [ true ↦ λ e. inl (same_id_yes a b e) | false ↦ λ e. inr e ] refl

pub less_irrefl : (a : OpId) → Less a a → ⊥
unfolding Less
less_irrefl a h = grind arith

pub less_trans : (a b c : OpId) → Less a b → Less b c → Less a c
unfolding Less
less_trans a b c h k = grind arith

pub less_cases : (a b : OpId) → Less a b ⊎ ((a ≡ b) ⊎ Less b a)
unfolding Less
less_cases a b =
    ⊎_elim
    (λ (h : a.counter < b.counter). inl (inl h))
    (λ (h : b.counter ≤ a.counter).
    ⊎_elim
    (λ (k : b.counter < a.counter). inr (inr (inl k)))
    (λ (k : a.counter ≤ b.counter).
    let e : a.counter ≡ b.counter = omega arith in
    ⊎_elim
    (λ (l : a.node < b.node). inl (inr (e, l)))
    (λ (l : b.node ≤ a.node).
    ⊎_elim
    (λ (m : b.node < a.node). inr (inr (inr (sym e, m))))
    (λ (m : a.node ≤ b.node). inr (inl (same_ids a b e (omega arith))))
    (cases_lt b.node a.node))
    (cases_lt a.node b.node))
    (cases_lt b.counter a.counter))
    (cases_lt a.counter b.counter)

pub less_by_counter : (a b : OpId) → a.counter < b.counter → Less a b
unfolding Less
less_by_counter a b h = inl h

-- what is not below a floor is above what is below it
pub less_floor : (a floor x : OpId) → Less a floor → (Less x floor → ⊥) → Less a x
less_floor a floor x low not_low =
    ⊎_elim
    (λ (h : Less a x). h)
    (λ (h : (a ≡ x) ⊎ Less x a).
    ⊎_elim
    (λ (same : a ≡ x). absurd (not_low (subst (λ z. Less z floor) same low)))
    (λ (less : Less x a). absurd (not_low (less_trans x a floor less low)))
    h)
    (less_cases a x)

-- a lower floor is one too
pub lower_floor : (x floor low : OpId) → (Less x floor → ⊥) → (Less floor low → ⊥) → Less x low → ⊥
lower_floor x floor low above not_low less =
    ⊎_elim
    (λ (h : Less x floor). above h)
    (λ (h : (x ≡ floor) ⊎ Less floor x).
    ⊎_elim
    (λ (same : x ≡ floor). not_low (subst (λ z. Less z low) same less))
    (λ (more : Less floor x). not_low (less_trans floor x low more less))
    h)
    (less_cases x floor)

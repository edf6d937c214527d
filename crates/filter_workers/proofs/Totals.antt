-- How the sum of what workers committed is taken.
use Rattle.std.proofs.Common.{◌≡◌, ℕ, ◌+◌, ◌<◌, ◌≤◌, Result, Ok, List, ◌∷◌, length, map, drop, get_or, IfOk, refl, ap, sym, ◌∙◌, subst, arith}
use Rattle.std.specs.List.{All}
use Rattle.std.proofs.lemmas.List.{drop_more, drop_all}
use Rattle.filter_workers.specs.Turns.{AddUp}

module _ {W E : Type 0} (ended : W → Result ℕ E) where
  -- the counts before this place add up to so many
  abbrev pub SumTo : List W → ℕ → ℕ → Type 0
  SumTo ws k sum = (n : ℕ) → AddUp (map ended (drop k ws)) n → AddUp (map ended ws) (sum + n)

  pub sum_more : (ws : List W) (k : ℕ) (w : W) (sum n : ℕ) → k < length ws → w ≡ get_or ws k w → ended w ≡ Ok n → SumTo ws k sum → SumTo ws (k + 1) (sum + n)
  sum_more ws k w sum n lt is ok before = λ m more.
      let rest = drop (k + 1) ws in
      let step : drop k ws ≡ w ∷ rest = drop_more ws k w lt ∙ ap (λ x. x ∷ rest) (sym is) in
      let first : AddUp (ended w ∷ map ended rest) (n + m) = subst (λ r. AddUp (r ∷ map ended rest) (n + m)) (sym ok) (m, refl, more) in
      let here : AddUp (map ended (drop k ws)) (n + m) = subst (λ l. AddUp (map ended l) (n + m)) (sym step) first in
      let same : sum + (n + m) ≡ sum + n + m = omega arith in
      subst (AddUp (map ended ws)) same (before (n + m) here)

  pub sum_all : (ws : List W) (k sum : ℕ) → length ws ≤ k → SumTo ws k sum → AddUp (map ended ws) sum
  sum_all ws k sum le before =
      let none : AddUp (map ended (drop k ws)) 0 = subst (λ l. AddUp (map ended l) 0) (sym (drop_all k ws le)) refl in
      let same : sum + 0 ≡ sum = omega arith in
      subst (AddUp (map ended ws)) same (before 0 none)

  -- the count at this place is below the bound of all
  pub few_here : (ws : List W) (k : ℕ) (w : W) (n most : ℕ) → k < length ws → w ≡ get_or ws k w → ended w ≡ Ok n → All (λ w. IfOk (ended w) (λ count. count < most)) ws → n < most
  few_here ws k w n most lt is ok all =
      let here : IfOk (ended w) (λ count. count < most) = subst (λ x. IfOk (ended x) (λ count. count < most)) (sym is) (all k w lt) in
      subst (λ r. IfOk r (λ count. count < most)) ok here

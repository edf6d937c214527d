-- Elements in the order of places of theirs: those between two places stand side by side.
use Rattle.std.proofs.Common.{◌≡◌, ◌∙◌, ℕ, ◌+◌, ◌-◌, ◌<◌, ◌≤◌, List, length, get_or, take, drop, ap, sym, subst, arith, length-drop, ⊎_elim}
use Rattle.std.specs.List.{Contains}
use Rattle.std.proofs.lemmas.Bool.{cases_lt}
use Rattle.std.proofs.lemmas.Grind.{common_steps}
use Rattle.std.proofs.lemmas.List.{get_or-take, get_or-drop, length-take-le}
use Rattle.mark_anchors.proofs.Lists.{item_at}

module _ {X : Type 0} (place_of : X → ℕ) (xs : List X) (a b first second : ℕ) (order : first ≤ second) (within : a ≤ length xs) (end : b ≤ length xs)
    (low : (k : ℕ) (d : X) → k < a → place_of (get_or xs k d) ≤ first) (high : (k : ℕ) (d : X) → b ≤ k → k < length xs → second < place_of (get_or xs k d)) where
  pub between_order : a ≤ b
  between_order =
      ⊎_elim
      (λ (less : b < a).
      let x = item_at xs b (omega arith) in
      let before : place_of (get_or xs b x.0) ≤ first = low b x.0 less in
      let behind : second < place_of (get_or xs b x.0) = high b x.0 (omega arith) (omega arith) in
      absurd (omega arith))
      (λ (le : a ≤ b). le)
      (cases_lt b a)

  pub between_holds : (x : X) → Contains xs x → first < place_of x → place_of x ≤ second → Contains (take (b - a) (drop a xs)) x
  between_holds x held after upto =
      let i : ℕ = held.0 in
      let there : i < length xs = held.1 in
      let is : get_or xs i x ≡ x = held.2 in
      let at : place_of (get_or xs i x) ≡ place_of x = ap place_of is in
      let le : a ≤ b = between_order in
      let begins : a ≤ i =
      ⊎_elim
      (λ (less : i < a). let before : place_of (get_or xs i x) ≤ first = low i x less in absurd (omega arith))
      (λ (ge : a ≤ i). ge)
      (cases_lt i a) in
      let ends : i < b =
      ⊎_elim
      (λ (less : i < b). less)
      (λ (ge : b ≤ i). let behind : second < place_of (get_or xs i x) = high i x ge there in absurd (omega arith))
      (cases_lt i b) in
      let size : length (drop a xs) ≡ length xs - a = length-drop a xs in
      let sized : length (take (b - a) (drop a xs)) ≡ b - a = length-take-le (b - a) (drop a xs) (omega arith) in
      let sum : a + (i - a) ≡ i = omega arith in
      (i - a, omega arith, get_or-take (b - a) (drop a xs) (i - a) x (omega arith) ∙ get_or-drop a xs (i - a) x ∙ ap (λ k. get_or xs k x) sum ∙ is)

-- what is among some of the list is among the list
pub contains_range : {X : Type 0} (xs : List X) (a b : ℕ) (x : X) → Contains (take (b - a) (drop a xs)) x → Contains xs x
contains_range xs a b x held =
    let i : ℕ = held.0 in
    let inside : i < length (take (b - a) (drop a xs)) = held.1 in
    let size : length (drop a xs) ≡ length xs - a = length-drop a xs in
    let few : length (take (b - a) (drop a xs)) ≤ b - a = grind (arith, common_steps) in
    let most : length (take (b - a) (drop a xs)) ≤ length (drop a xs) = grind (arith, common_steps) in
    (a + i, omega (arith, inside, size, most), sym (get_or-drop a xs i x) ∙ sym (get_or-take (b - a) (drop a xs) i x (omega (arith, inside, few))) ∙ held.2)

-- and its place is between the two
pub inside_range : {X : Type 0} (place_of : X → ℕ) (xs : List X) (a b first second : ℕ) → ((k : ℕ) (d : X) → a ≤ k → k < length xs → first < place_of (get_or xs k d)) → ((k : ℕ) (d : X) → k < b → place_of (get_or xs k d) ≤ second) → (x : X)
    → Contains (take (b - a) (drop a xs)) x → (first < place_of x) × (place_of x ≤ second)
inside_range {X} place_of xs a b first second behind upto x held =
    let i : ℕ = held.0 in
    let inside : i < length (take (b - a) (drop a xs)) = held.1 in
    let few : length (take (b - a) (drop a xs)) ≤ b - a = grind (arith, common_steps) in
    let most : length (take (b - a) (drop a xs)) ≤ length (drop a xs) = grind (arith, common_steps) in
    let size : length (drop a xs) ≡ length xs - a = length-drop a xs in
    let is : get_or xs (a + i) x ≡ x = sym (get_or-drop a xs i x) ∙ sym (get_or-take (b - a) (drop a xs) i x (omega (arith, inside, few))) ∙ held.2 in (
      subst (λ (z : X). first < place_of z) is (behind (a + i) x (omega arith) (omega (arith, inside, size, most))),
      subst (λ (z : X). place_of z ≤ second) is (upto (a + i) x (omega (arith, inside, few))),
    )

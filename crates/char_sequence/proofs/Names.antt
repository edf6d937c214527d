-- Chunks' names and their positions.
use Rattle.std.proofs.Common.{◌≡◌, ℕ, zero, suc, ◌+◌, ◌<◌, ◌≤◌, List, [], ◌∷◌, ◌++◌, Some, inl, inr, ◌⊎◌, length, map, sym, ap, refl, ◌∙◌, arith, ⊎_elim, length-append}
use Rattle.std.specs.List.{slice_get, insert}
use Rattle.std.specs.Prelude.{cond}
use Rattle.std.proofs.lemmas.Option.{same_Some, none-some, slice_get_within}
use Rattle.std.proofs.lemmas.Bool.{cases_lt, lt-ltb, le-ltb}
use Rattle.std.proofs.lemmas.List.{length-map}
use Rattle.std.proofs.lemmas.List.Edits.{length-insert}
use Rattle.char_sequence.specs.Chunks.{ArePositions, moved}
use Rattle.char_sequence.proofs.Lists.{inserted_cases, inserted_here}
use Rattle.char_sequence.proofs.Joined.{get_left, get_right}
use Rattle.char_sequence.proofs.Chunking.{inserted_before, inserted_behind}

-- ---- positions moved on
moved_before : (p at : ℕ) → at ≤ p → moved p at ≡ at
moved_before p at h = ap (λ b. cond b (at + 1) at) (le-ltb p at h)

moved_behind : (p at : ℕ) → p < at → moved p at ≡ suc at
moved_behind p at h = let next : at + 1 ≡ suc at = omega arith in ap (λ b. cond b (at + 1) at) (lt-ltb p at h) ∙ next

get_map : (f : ℕ → ℕ) (xs : List ℕ) (i x : ℕ) → slice_get xs i ≡ Some x → slice_get (map f xs) i ≡ Some (f x)
get_map f [] i x g = absurd (none-some x g)
get_map f (y ∷ ys) zero x g = ap (λ z. Some (f z)) (same_Some y x g)
get_map f (y ∷ ys) (suc i) x g = get_map f ys i x g

mapped : (f : ℕ → ℕ) (xs : List ℕ) (i y : ℕ) → slice_get (map f xs) i ≡ Some y → (x : ℕ) × (slice_get xs i ≡ Some x) × (f x ≡ y)
mapped f [] i y g = absurd (none-some y g)
mapped f (x ∷ xs) zero y g = (x, refl, same_Some (f x) y g)
mapped f (x ∷ xs) (suc i) y g = mapped f xs i y g

-- what stands in a list with one more behind its end
pushed_cases : (xs : List ℕ) (x i y : ℕ) → slice_get (xs ++ x ∷ []) i ≡ Some y → (slice_get xs i ≡ Some y) ⊎ ((i ≡ length xs) × (x ≡ y))
pushed_cases [] x zero y g = inr (refl, same_Some x y g)
pushed_cases [] x (suc i) y g = absurd (none-some y g)
pushed_cases (z ∷ zs) x zero y g = inl g
pushed_cases (z ∷ zs) x (suc i) y g =
    ⊎_elim
    (λ (old : slice_get zs i ≡ Some y). inl old)
    (λ (new : (i ≡ length zs) × (x ≡ y)). inr (ap suc new.0, new.1))
    (pushed_cases zs x i y g)

old_position : (p : ℕ) (positions : List ℕ) (n at to : ℕ) → slice_get positions n ≡ Some at → moved p at ≡ to → slice_get (map (moved p) positions ++ (p + 1) ∷ []) n ≡ Some to
old_position p positions n at to g is =
    let there = get_map (moved p) positions n at g ∙ ap Some is in
    get_left (map (moved p) positions) ((p + 1) ∷ []) n (slice_get_within (map (moved p) positions) n to there) ∙ there

pub positions_split : (names positions : List ℕ) (p m : ℕ) → ArePositions names positions → p < length names → m ≡ length names → ArePositions (insert names (p + 1) m) (map (moved p) positions ++ (p + 1) ∷ [])
positions_split names positions p m are within fresh =
    let low : p + 1 ≤ length names = omega (arith, within) in
    let size = length-map positions (moved p) in
    let many = are.as_many in
    let end : m ≡ length (map (moved p) positions) = omega (arith, size, many, fresh) in
    let grown = length-append (map (moved p) positions) ((p + 1) ∷ []) in
    let more = length-insert names (p + 1) m low in
    record {
      as_many = omega (arith, size, many, grown, more);
      found =
          λ i n g.
          ⊎_elim
          (λ (u : (i < p + 1) × (slice_get names i ≡ Some n)).
          let near = u.0 in
          old_position p positions n i i (are.found i n u.1) (moved_before p i (omega (arith, near))))
          (λ (u : ((i ≡ p + 1) × (m ≡ n)) ⊎ ((j : ℕ) × (i ≡ suc j) × (p + 1 ≤ j) × (slice_get names j ≡ Some n))).
          ⊎_elim
          (λ (v : (i ≡ p + 1) × (m ≡ n)).
          get_right (map (moved p) positions) ((p + 1) ∷ []) 0 n (let same = v.1 in omega (arith, same, end)) ∙ ap Some (sym v.0))
          (λ (v : (j : ℕ) × (i ≡ suc j) × (p + 1 ≤ j) × (slice_get names j ≡ Some n)).
          let far = v.2 in
          old_position p positions n v.0 i (are.found v.0 n v.3) (moved_behind p v.0 (omega (arith, far)) ∙ sym v.1))
          u)
          (inserted_cases names (p + 1) m i n low g);
      named =
          λ i n g.
          ⊎_elim
          (λ (old : slice_get (map (moved p) positions) n ≡ Some i).
          let r = mapped (moved p) positions n i old in
          let at = are.named r.0 n r.1 in
          ⊎_elim
          (λ (near : r.0 < p + 1).
          let same : i ≡ r.0 = sym r.2 ∙ moved_before p r.0 (omega (arith, near)) in
          ap (slice_get (insert names (p + 1) m)) same ∙ inserted_before names (p + 1) m r.0 low near ∙ at)
          (λ (far : p + 1 ≤ r.0).
          let same : i ≡ suc r.0 = sym r.2 ∙ moved_behind p r.0 (omega (arith, far)) in
          ap (slice_get (insert names (p + 1) m)) same ∙ inserted_behind names (p + 1) m r.0 low far ∙ at)
          (cases_lt r.0 (p + 1)))
          (λ (new : (n ≡ length (map (moved p) positions)) × (p + 1 ≡ i)).
          let same : m ≡ n = end ∙ sym new.0 in
          ap (slice_get (insert names (p + 1) m)) (sym new.1) ∙ inserted_here names (p + 1) m low ∙ ap Some same)
          (pushed_cases (map (moved p) positions) (p + 1) n i g);
    }

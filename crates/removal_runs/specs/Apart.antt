-- Things that lie in order, and the place of a key among them.
use Rattle.std.specs.Prelude.{◌≡◌, ℕ, ◌<◌, ◌≤◌, List, [], ◌∷◌, Some, Result, slice_get, length}
use Rattle.std.specs.Result.{MatchResult}

-- from `low` up to `high`, each begins where the one before it ends, or behind that
abbrev pub AreApart : {X : Type 0} → (X → ℕ) → (X → ℕ) → ℕ → List X → ℕ → Type 0
AreApart begin end low [] high = low ≤ high
AreApart begin end low (x ∷ xs) high = (low ≤ begin x) × (begin x < end x) × AreApart begin end (end x) xs high

-- the keys before the place are below this one, and those from it on are above it
pub record IsGap {X : Type 0} (key : X → ℕ) (xs : List X) (wanted place : ℕ) : Type 0 where
  pub within : place ≤ length xs
  pub below : (k : ℕ) (x : X) → k < place → slice_get xs k ≡ Some x → key x < wanted
  pub above : (k : ℕ) (x : X) → place ≤ k → slice_get xs k ≡ Some x → wanted < key x

-- the thing with the key stands at the place
pub record IsFound {X : Type 0} (key : X → ℕ) (xs : List X) (wanted place : ℕ) : Type 0 where
  pub thing : X
  pub at : slice_get xs place ≡ Some thing
  pub same : key thing ≡ wanted

-- where the key is, or where it would be inserted
abbrev pub IsPlaceOf : {X : Type 0} → (X → ℕ) → List X → ℕ → Result ℕ ℕ → Type 0
IsPlaceOf key xs wanted answer = MatchResult answer (IsFound key xs wanted) (IsGap key xs wanted)

-- so many begin at the number or before it, and they are the first ones
pub record HaveBegun {X : Type 0} (begin : X → ℕ) (xs : List X) (number count : ℕ) : Type 0 where
  pub within : count ≤ length xs
  pub first : (k : ℕ) (x : X) → k < count → slice_get xs k ≡ Some x → begin x ≤ number
  pub rest : (k : ℕ) (x : X) → count ≤ k → slice_get xs k ≡ Some x → number < begin x

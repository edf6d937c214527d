-- Ranks of slots: lower than the rank of each slot that leads to them. A slot without one has the rank 0.
use Rattle.std.specs.Prelude.{◌≡◌, ℕ, zero, suc, ◌+◌, ◌-◌, ◌<◌, ◌≤◌, List, [], ◌∷◌, length, slice_index}
use Rattle.semantics.specs.Step.{Program}
use Rattle.block_layout.specs.Loops.{Goes, IsWalk}

-- how many slots have none
abbrev pub unranked : List ℕ → ℕ
unranked [] = 0
unranked (zero ∷ ranks) = suc (unranked ranks)
unranked (suc rank ∷ ranks) = unranked ranks

-- so many slots have a rank of their own, at most that number, and lead to slots of lower ranks
pub record AreRanks (program : Program) (ranks : List ℕ) (count : ℕ) : Type 0 where
  pub long : length ranks ≡ length program
  pub most : (slot : ℕ) → slice_index ranks slot ≤ count
  pub given : count + unranked ranks ≡ length program
  pub once : (slot other : ℕ) → 0 < slice_index ranks slot → slice_index ranks slot ≡ slice_index ranks other
      → slot ≡ other
  pub down : (slot to : ℕ) → 0 < slice_index ranks slot → Goes program slot to
      → (0 < slice_index ranks to) × (slice_index ranks to < slice_index ranks slot)

-- no slot that meets this is without a rank
abbrev pub AreRanked : List ℕ → (ℕ → Type 0) → Type 0
AreRanked ranks Is = (to : ℕ) → Is to → 0 < slice_index ranks to

-- a slot has none
abbrev pub HasNone : List ℕ → ℕ → Type 0
HasNone ranks slot = (slot < length ranks) × (slice_index ranks slot ≡ 0)

-- a slot without a rank leads to one without
abbrev pub LeadsOn : Program → List ℕ → ℕ → Type 0
LeadsOn program ranks slot = HasNone ranks slot → (to : ℕ) × Goes program slot to × HasNone ranks to

-- so does each from this one on
abbrev pub AreOpenFrom : Program → List ℕ → ℕ → Type 0
AreOpenFrom program ranks begin = (slot : ℕ) → begin ≤ slot → LeadsOn program ranks slot

-- a walk from the first slot that ends where it was at an index before
pub record IsRound (program : Program) (path : List ℕ) (begin : ℕ) : Type 0 where
  pub walk : IsWalk program path
  pub first : slice_index path 0 ≡ 0
  pub before : begin + 1 < length path
  pub same : slice_index path begin ≡ slice_index path (length path - 1)

-- a walk from the first slot over slots without a rank to another one, and how long it was when it came to each before
pub record IsWalked (program : Program) (ranks path lengths : List ℕ) (slot : ℕ) : Type 0 where
  pub walk : IsWalk program path
  pub first : slice_index path 0 ≡ 0
  pub some : 0 < length path
  pub last : slice_index path (length path - 1) ≡ slot
  pub none : HasNone ranks slot
  pub long : length lengths ≡ length ranks
  pub were : (other : ℕ) → 0 < slice_index lengths other
      → (slice_index lengths other < length path) × (slice_index path (slice_index lengths other - 1) ≡ other)

-- The comments on a character, by the runs of its version.
use Rattle.std.specs.Prelude.{◌≡◌, ◌+◌, ◌↔◌, ℕ, List, [], Option, Some, None, count_by, length, nat_le, slice_get}
use Rattle.std.specs.Arc.{arc_slice_items}
use Rattle.std.specs.List.Sorted.{IsStrictlyIncreasing, IsNonDecreasingBy, IsPermutation}
use Rattle.std.specs.declared.sync.ArcSlice.{ArcSlice}
use Rattle.std.specs.declared.vec.Vec.{Vec}
use Rattle.mark_anchors.specs.CommentRuns.{AreOrderly, HasRun, numbers_at}
use Rattle.mark_anchors.specs.KeyMarks.{IsCountUpTo}
use Rattle.mark_anchors.specs.declared.comment_runs.CommentRun.{CommentRun}

-- the numbers of the shared runs that have the place
abbrev pub numbers_in : {A : Type 0} → Option (ArcSlice CommentRun A) → ℕ → List ℕ
numbers_in None place = []
numbers_in (Some runs) place = numbers_at (arc_slice_items runs) place

-- `count` of the runs have the place
abbrev pub AreCounted : List CommentRun → ℕ → ℕ → Type 0
AreCounted runs place count = count ≡ length (numbers_at runs place)

-- shared runs, of which `count` have the place, by rising numbers
pub record IsList {A : Type 0} (runs : Option (ArcSlice CommentRun A)) (place count : ℕ) : Type 0 where
  pub counted : count ≡ length (numbers_in runs place)
  pub rising : IsStrictlyIncreasing (numbers_in runs place)

abbrev pub begin_of : CommentRun → ℕ
begin_of run = run.from

abbrev pub end_of : CommentRun → ℕ
end_of run = run.to

-- the number of runs that have this place of theirs at the place or before it
abbrev pub count_up_to : (CommentRun → ℕ) → List CommentRun → ℕ → ℕ
count_up_to place_of runs place = count_by (λ run. nat_le (place_of run) place) runs

-- the runs in the order of these places of theirs
pub record AreSorted (place_of : CommentRun → ℕ) (runs sorted : List CommentRun) : Type 0 where
  pub ascending : IsNonDecreasingBy place_of sorted
  pub same : IsPermutation runs sorted

-- orderly runs, also in the order in which they begin, and in that in which they end
pub record IsTable (runs begins ends : List CommentRun) : Type 0 where
  pub orderly : AreOrderly runs
  pub beginning : AreSorted begin_of runs begins
  pub ending : AreSorted end_of runs ends

-- the places have the same comments
abbrev pub AreAlike : List CommentRun → ℕ → ℕ → Type 0
AreAlike runs first second = numbers_at runs first ≡ numbers_at runs second

-- the comment of the number holds at both places or at neither
abbrev pub IsSteady : List CommentRun → ℕ → ℕ → ℕ → Type 0
IsSteady runs n first second = HasRun runs n first ↔ HasRun runs n second

-- the runs of a vector
abbrev pub vec_runs : {A : Type 0} → Vec CommentRun A → List CommentRun
vec_runs runs = runs.items

-- none of the lists has a run
abbrev pub AreEmpty : {A : Type 0} → List (Vec CommentRun A) → Type 0
AreEmpty {A} lists = (i : ℕ) (l : Vec CommentRun A) → slice_get lists i ≡ Some l → vec_runs l ≡ []

-- each segment, between two cuts side by side, has runs with the numbers that all runs have at its places
pub record AreSegments {S : Type 0} (runs_of : S → List CommentRun) (runs : List CommentRun) (cuts : List ℕ)
    (segments : List S) : Type 0 where
  pub rising : IsStrictlyIncreasing cuts
  pub sized : length segments ≡ length cuts + 1
  pub same : (i place : ℕ) (s : S) → slice_get segments i ≡ Some s → IsCountUpTo cuts place i
      → numbers_at (runs_of s) place ≡ numbers_at runs place

-- How many characters stand before an anchor once more of them stand at a place.
use Rattle.std.specs.Prelude.{◌≡◌, ℕ, ◌+◌, ◌<◌, Bool, true, false, List, Some, length, slice_get}
use Rattle.mark_places.specs.MarkPlace.{MarkPlace}

-- `old` characters stood before the anchor, and `new` do once `count` more stand from `place` on: an anchor behind the
-- place moves, and one at the place if it gives way
pub record IsShifted (place count : ℕ) (gives_way : Bool) (old new : ℕ) : Type 0 where
  pub behind : place < old → new ≡ old + count
  pub moves : old ≡ place → gives_way ≡ true → new ≡ old + count
  pub stays : old ≡ place → gives_way ≡ false → new ≡ old
  pub before : old < place → new ≡ old

-- both places of the mark are shifted, and nothing else
pub record IsMarkShifted (place count : ℕ) (old new : MarkPlace) : Type 0 where
  pub start : IsShifted place count old.start_gives_way old.mark.start new.mark.start
  pub end : IsShifted place count old.end_gives_way old.mark.end new.mark.end
  pub index : new.mark.index ≡ old.mark.index
  pub id : new.mark.id ≡ old.mark.id
  pub key : new.mark.key ≡ old.mark.key
  pub start_same : new.start_gives_way ≡ old.start_gives_way
  pub end_same : new.end_gives_way ≡ old.end_gives_way

-- each mark is shifted
pub record AreShifted (place count : ℕ) (old new : List MarkPlace) : Type 0 where
  pub sized : length new ≡ length old
  pub shifted : (i : ℕ) (p q : MarkPlace) → slice_get old i ≡ Some p → slice_get new i ≡ Some q
      → IsMarkShifted place count p q

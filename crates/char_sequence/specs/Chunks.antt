-- Elements in chunks, and the index from ids to the chunks' names.
use Rattle.std.specs.Prelude.{◌≡◌, ◌⊎◌, ℕ, ◌+◌, ◌<◌, ◌≤◌, List, [], ◌∷◌, ◌++◌, Option, Some, None, length, take}
use Rattle.std.specs.Prelude.{slice_get, slice_index, slice_range, map, sum, cond, nat_lt}
use Rattle.change_ops.specs.Ids.{Less}
use Rattle.change_ops.specs.declared.id.OpId.{OpId}
use Rattle.char_sequence.specs.declared.sequence.Element.{Element}
use Rattle.char_sequence.specs.Order.{IsAt}
use Rattle.char_sequence.specs.Index.{HasId}
use Rattle.char_sequence.specs.Visible.{visible_text, visible_count}
use Rattle.char_sequence.specs.declared.place_table.ChunkStart.{ChunkStart}

-- the chunks' elements, chunk after chunk
abbrev pub joined : List (List Element) → List Element
joined [] = []
joined (chunk ∷ chunks) = chunk ++ joined chunks

-- the number of elements before the chunk at this position
abbrev pub start_of : List (List Element) → ℕ → ℕ
start_of chunks position = length (joined (take position chunks))

-- the elements stand in `count` chunks, each of 1 to 64 of them, of which the longest has `longest`, 0 where there is
-- none
pub record AreInChunks (elements : List Element) (count longest : ℕ) : Type 0 where
  pub chunks : List (List Element)
  pub whole : joined chunks ≡ elements
  pub counted : count ≡ length chunks
  pub each : (i : ℕ) (c : List Element) → slice_get chunks i ≡ Some c → (0 < length c) × (length c ≤ longest)
  pub limit : longest ≤ 64
  pub reached : (longest ≡ 0) ⊎ ((i : ℕ) × ((c : List Element) × (slice_get chunks i ≡ Some c) × (length c ≡ longest)))

-- from 1 to 64 elements, with memory for 64
pub record IsChunk (items : List Element) (capacity : ℕ) : Type 0 where
  pub some : 0 < length items
  pub few : length items ≤ 64
  pub room : 64 ≤ capacity

-- the text of the elements, with memory for 256 bytes
pub record IsTextOf (items : List Element) (text : List ℕ) (capacity : ℕ) : Type 0 where
  pub shown : text ≡ visible_text items
  pub room : 256 ≤ capacity

-- no element has a lesser id
abbrev pub IsFloor : List Element → OpId → Type 0
IsFloor items floor = (k : ℕ) (e : Element) → slice_get items k ≡ Some e → Less e.id floor → ⊥

-- the place among all elements that has `at` of the chunk's before it
pub record IsSpot (chunks : List (List Element)) (position at place : ℕ) : Type 0 where
  pub chunk : List Element
  pub here : slice_get chunks position ≡ Some chunk
  pub within : at ≤ length chunk
  pub is : place ≡ start_of chunks position + at

-- each chunk has a name, and the index has each element's id with the name of a chunk that has it
pub record IsIndexed (chunks : List (List Element)) (names : List ℕ) (index : OpId → Option ℕ) : Type 0 where
  pub counted : length names ≡ length chunks
  pub behind : (id : OpId) (n : ℕ) → index id ≡ Some n
      → (i : ℕ) × ((c : List Element) × (slice_get names i ≡ Some n) × (slice_get chunks i ≡ Some c) × HasId c id)
  pub listed : (i : ℕ) (c : List Element) → slice_get chunks i ≡ Some c → (k : ℕ) (e : Element) → slice_get c k ≡ Some e
      → index e.id ≡ None → ⊥

-- chunks, and for how many more of them there is room
pub record ChunkList : Type 0 where
  pub chunks : List (List Element)
  pub room : ℕ

-- names in the chunks' order, and for how many more of them there is room
pub record ChunkNames : Type 0 where
  pub names : List ℕ
  pub room : ℕ

-- by each name the position where it stands, and no name stands twice
pub record ArePositions (names positions : List ℕ) : Type 0 where
  pub as_many : length positions ≡ length names
  pub found : (i n : ℕ) → slice_get names i ≡ Some n → slice_get positions n ≡ Some i
  pub named : (i n : ℕ) → slice_get positions n ≡ Some i → slice_get names i ≡ Some n

-- a position once there is one more chunk behind another one
abbrev pub moved : ℕ → ℕ → ℕ
moved position at = cond (nat_lt position at) (at + 1) at

-- how many elements each chunk has, how many of them are visible, and for how many more chunks there is room
pub record ChunkCounts : Type 0 where
  pub lengths : List ℕ
  pub shown : List ℕ
  pub room : ℕ

-- they are those of the chunks
pub record AreCounts (chunks : List (List Element)) (counts : ChunkCounts) : Type 0 where
  pub long : counts.lengths ≡ map length chunks
  pub visible : counts.shown ≡ map visible_count chunks

-- a position by chunks of these lengths, with their sum before it, which is no greater than the place
pub record IsSumBefore (lengths : List ℕ) (place : ℕ) (at : ChunkStart) : Type 0 where
  pub within : at.position ≤ length lengths
  pub start : at.start ≡ sum (take at.position lengths)
  pub reached : at.start ≤ place

-- the number there is not 0, and all behind it are, up to the end
pub record IsLastSome (numbers : List ℕ) (end at : ℕ) : Type 0 where
  pub before : at < end
  pub some : 0 < slice_index numbers at
  pub none : sum (slice_range numbers (at + 1) end) ≡ 0

-- the number there is not 0, and all before it are, from the start on
pub record IsFirstSome (numbers : List ℕ) (start at : ℕ) : Type 0 where
  pub reached : start ≤ at
  pub some : 0 < slice_index numbers at
  pub none : sum (slice_range numbers start at) ≡ 0

-- the element of this id is in a chunk
pub record IsSpotOf (chunks : List (List Element)) (id : OpId) (position at : ℕ) : Type 0 where
  pub chunk : List Element
  pub here : slice_get chunks position ≡ Some chunk
  pub has : IsAt chunk id at

-- what the type of a list of chunks keeps
pub record IsKept (chunks : List (List Element)) (names : List ℕ) (index : OpId → Option ℕ) (count : ℕ) : Type 0 where
  pub indexed : IsIndexed chunks names index
  pub counted : count ≡ length (joined chunks)
  pub few : length (joined chunks) ≤ 262144

-- The places of elements by their ids, from where the chunk of each name stands.
use Rattle.std.specs.Prelude.{◌≡◌, ℕ, ◌+◌, ◌<◌, ◌≤◌, List, Option, Some, None, length, slice_get}
use Rattle.change_ops.specs.declared.id.OpId.{OpId}
use Rattle.char_sequence.specs.declared.sequence.Element.{Element}
use Rattle.char_sequence.specs.declared.place_table.ChunkStart.{ChunkStart}
use Rattle.char_sequence.specs.Index.{HasId}
use Rattle.char_sequence.specs.Chunks.{joined, start_of}

-- by each chunk's name its position, and how many elements stand before it
abbrev pub AreStarts : List (List Element) → List ℕ → List ChunkStart → Type 0
AreStarts chunks names starts =
    (position name : ℕ) → slice_get names position ≡ Some name
    → slice_get starts name ≡ Some (record { position = position; start = start_of chunks position })

-- a chunk that stands there has the id
pub record IsStartOf (chunks : List (List Element)) (id : OpId) (at : ChunkStart) : Type 0 where
  pub chunk : List Element
  pub here : slice_get chunks at.position ≡ Some chunk
  pub has : HasId chunk id
  pub start : at.start ≡ start_of chunks at.position

-- what the type of a table keeps
pub record IsPlaceTable (chunks : List (List Element)) (index : OpId → Option ℕ) (starts : List ChunkStart)
    (count : ℕ) : Type 0 where
  pub found : (id : OpId) (name : ℕ) → index id ≡ Some name
      → (at : ChunkStart) × (slice_get starts name ≡ Some at) × IsStartOf chunks id at
  pub missing : (id : OpId) → index id ≡ None → HasId (joined chunks) id → ⊥
  pub counted : count ≡ length (joined chunks)
  pub few : length (joined chunks) ≤ 262144

-- the place is in the chunk that stands there, or there is no chunk from there on
pub record IsChunkAt (chunks : List (List Element)) (place : ℕ) (at : ChunkStart) : Type 0 where
  pub within : at.position ≤ length chunks
  pub start : at.start ≡ start_of chunks at.position
  pub reached : at.start ≤ place
  pub ahead : at.position < length chunks → place < start_of chunks (at.position + 1)

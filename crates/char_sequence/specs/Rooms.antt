-- Room for one more element.
use Rattle.std.specs.Prelude.{◌≡◌, ℕ, ◌+◌, ◌<◌, ◌≤◌, List, [], Some, length, slice_get}
use Rattle.char_sequence.specs.declared.sequence.Element.{Element}
use Rattle.char_sequence.specs.declared.chunk_list.Room.{Room}
use Rattle.char_sequence.specs.declared.chunk_list.Room.TheVariants.{First, In}
use Rattle.char_sequence.specs.Chunks.{ChunkList, start_of}

-- room for an element at this place: memory for the first chunk, or a chunk that is not full
abbrev pub IsRoom : ChunkList → Room → ℕ → Type 0
IsRoom list (First blank) place = (list.chunks ≡ []) × (place ≡ 0) × (1 ≤ list.room)
IsRoom list (In spot) place =
    (chunk : List Element) × (slice_get list.chunks spot.position ≡ Some chunk) × (length chunk < 64)
    × (spot.at ≤ length chunk) × (place ≡ start_of list.chunks spot.position + spot.at)

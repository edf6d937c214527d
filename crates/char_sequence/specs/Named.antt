-- The name of each element's chunk, kept apart for each peer.
use Rattle.std.specs.Prelude.{◌≡◌, nat_eq, ℕ, ◌<◌, ◌≤◌, Bool, cond, List, [], ◌∷◌, Option, Some, None, length}
use Rattle.std.specs.Prelude.{slice_get}
use Rattle.std.specs.Ordering.{nat_cmp, is_eq}
use Rattle.std.specs.Map.{lookup}
use Rattle.change_ops.specs.declared.id.OpId.{OpId}
use Rattle.char_sequence.specs.declared.sequence.Element.{Element}

abbrev pub same_node : ℕ → ℕ → Bool
same_node a b = is_eq (nat_cmp a b)

-- counters of a peer's elements and the name of each one's chunk, and for how many more of them there is room
pub record PeerIndex : Type 0 where
  pub counters : List ℕ
  pub names : List ℕ
  pub room : ℕ

-- for each peer the place of its part, and the parts
pub record Index : Type 0 where
  pub places : List (ℕ × ℕ)
  pub peers : List PeerIndex

-- the name that stands beside the counter
abbrev pub name_among : List ℕ → List ℕ → ℕ → Option ℕ
name_among [] names counter = None
name_among (c ∷ counters) [] counter = None
name_among (c ∷ counters) (name ∷ names) counter =
    cond (nat_eq c counter) (Some name) (name_among counters names counter)

abbrev pub name_in : Option PeerIndex → ℕ → Option ℕ
name_in None counter = None
name_in (Some peer) counter = name_among peer.counters peer.names counter

abbrev pub name_at : List PeerIndex → Option ℕ → ℕ → Option ℕ
name_at peers None counter = None
name_at peers (Some place) counter = name_in (slice_get peers place) counter

-- the name of the chunk of the element with this id
abbrev pub name_of : Index → OpId → Option ℕ
name_of index id = name_at index.peers (lookup (same_node id.node) index.places) id.counter

abbrev pub IsRising : List ℕ → Type 0
IsRising numbers = (i j a b : ℕ) → i < j → slice_get numbers i ≡ Some a → slice_get numbers j ≡ Some b → a < b

-- the counters rise, and each has a name
pub record AreRising (counters names : List ℕ) : Type 0 where
  pub counted : length names ≡ length counters
  pub rising : IsRising counters

-- each peer's place has a part, and no two peers have one place
pub record HasPlaces (places : List (ℕ × ℕ)) (peers : List PeerIndex) : Type 0 where
  pub within : (node place : ℕ) → lookup (same_node node) places ≡ Some place → place < length peers
  pub apart : (a b place : ℕ) → lookup (same_node a) places ≡ Some place → lookup (same_node b) places ≡ Some place
      → a ≡ b

-- a peer's part stands at the place, and has room for so many more elements
pub record IsPeerPlace (index : Index) (node count place : ℕ) : Type 0 where
  pub at : lookup (same_node node) index.places ≡ Some place
  pub peer : PeerIndex
  pub here : slice_get index.peers place ≡ Some peer
  pub room : count ≤ peer.room

-- the counter is above those of all elements of the same peer
abbrev pub IsAboveAll : List Element → OpId → Type 0
IsAboveAll es id =
    (k : ℕ) (e : Element) → slice_get es k ≡ Some e → e.id.node ≡ id.node → e.id.counter < id.counter

-- Tables of places, as they are made and looked up in.
use Rattle.std.proofs.Common.{◌≡◌, ℕ, ◌+◌, ◌<◌, ◌≤◌, List, Option, Some, get_or, length, min, set, sym, ap, refl, ◌∙◌, subst, arith, ⊎_elim}
use Rattle.std.proofs.Math.ListN.{length-set}
use Rattle.std.specs.List.{slice_get}
use Rattle.std.proofs.lemmas.Option.{same_Some, slice_get_within}
use Rattle.std.proofs.lemmas.Bool.{cases_lt}
use Rattle.change_ops.specs.declared.id.OpId.{OpId}
use Rattle.char_sequence.specs.declared.sequence.Element.{Element}
use Rattle.char_sequence.specs.declared.place_table.ChunkStart.{ChunkStart}
use Rattle.char_sequence.specs.Order.{IsAt}
use Rattle.char_sequence.specs.Index.{HasId}
use Rattle.char_sequence.specs.Chunks.{joined, start_of, ArePositions, IsKept, IsSpotOf}
use Rattle.char_sequence.specs.PlaceTables.{AreStarts, IsStartOf, IsPlaceTable, IsChunkAt}
use Rattle.char_sequence.proofs.Lists.{slice_get_set_same, slice_get_set_other}
use Rattle.char_sequence.proofs.Joined.{start_after_chunk, start_end}
use Rattle.char_sequence.proofs.Chunking.{not_indexed_id, spot_place, here_at}

-- the chunks before this position stand in the table
pub record AreLaid (cs : List (List Element)) (names : List ℕ) (starts : List ChunkStart) (position start : ℕ) : Type 0 where
  pub size : length starts ≡ length names
  pub at : start ≡ start_of cs position
  pub laid : (i n : ℕ) → i < position → slice_get names i ≡ Some n → slice_get starts n ≡ Some (record { position = i; start = start_of cs i })

pub laid_none : (cs : List (List Element)) (names : List ℕ) (starts : List ChunkStart) → length starts ≡ length names → AreLaid cs names starts 0 0
laid_none cs names starts size = record {
  size = size;
  at = refl;
  laid = λ i n less g. absurd (omega arith);
}

pub laid_more : (cs : List (List Element)) (names : List ℕ) (index : OpId → Option ℕ) (count position name start len : ℕ) (c : List Element) (starts starts' : List ChunkStart) (positions : List ℕ) → IsKept cs names index count → ArePositions names positions → slice_get names position ≡ Some name → slice_get cs position ≡ Some c → len ≡ length c → starts' ≡ set starts name (record { position = position; start = start }) → AreLaid cs names starts position start → AreLaid cs names starts' (position + 1) (start + len)
laid_more cs names index count position name start len c starts starts' positions ok are named here size new was =
    let it : ChunkStart = record { position = position; start = start } in
    let low = slice_get_within positions name position (are.found position name named) in
    let as_many = are.as_many in
    let long = was.size in
    let within : name < length starts = omega (arith, low, as_many, long) in
    let after = start_after_chunk cs position c here in
    let before = was.at in
    record {
      size = ap length new ∙ length-set starts name it ∙ was.size;
      at = omega (arith, after, before, size);
      laid =
          λ i n less g.
          ap (λ z. slice_get z n) new
          ∙ ⊎_elim
          (λ (earlier : i < position).
          let off : n ≡ name → ⊥ = λ same. let one = same_Some i position (sym (are.found i name (g ∙ ap Some same)) ∙ are.found position name named) in omega (arith, one, earlier) in
          slice_get_set_other starts name n it off ∙ was.laid i n earlier g)
          (λ (later : position ≤ i).
          let one : i ≡ position = omega (arith, later, less) in
          let same : n ≡ name = same_Some n name (sym g ∙ ap (slice_get names) one ∙ named) in
          ap (slice_get (set starts name it)) same
          ∙ slice_get_set_same starts name it within
          ∙ ap (λ s. Some (record { position = position; start = s })) was.at
          ∙ ap (λ p. Some (record { position = p; start = start_of cs p })) (sym one))
          (cases_lt i position);
    }

pub laid_all : (cs : List (List Element)) (names : List ℕ) (starts : List ChunkStart) (position start : ℕ) → length names ≤ position → AreLaid cs names starts position start → AreStarts cs names starts
laid_all cs names starts position start end was =
    λ i n g.
    let low = slice_get_within names i n g in
    was.laid i n (omega (arith, low, end)) g

pub table_made : (cs : List (List Element)) (names : List ℕ) (index : OpId → Option ℕ) (count : ℕ) (starts : List ChunkStart) → IsKept cs names index count → AreStarts cs names starts → IsPlaceTable cs index starts count
table_made cs names index count starts ok laid = record {
  found =
      λ id n e.
      let r = ok.indexed.behind id n e in
      (record { position = r.0; start = start_of cs r.0 }, laid r.0 n r.1.1, record { chunk = r.1.0; here = r.1.2; has = r.1.3; start = refl });
  missing = λ id e. not_indexed_id cs names index ok.indexed id e;
  counted = ok.counted;
  few = ok.few;
}

-- ---- a look-up
pub name_within : (cs : List (List Element)) (index : OpId → Option ℕ) (starts : List ChunkStart) (count : ℕ) → IsPlaceTable cs index starts count → (id : OpId) (n : ℕ) → index id ≡ Some n → n < length starts
name_within cs index starts count ok id n e = let r = ok.found id n e in slice_get_within starts n r.0 r.1

pub start_found : (cs : List (List Element)) (index : OpId → Option ℕ) (starts : List ChunkStart) (count : ℕ) → IsPlaceTable cs index starts count → (id : OpId) (n : ℕ) (at : ChunkStart) → index id ≡ Some n → at ≡ get_or starts n at → IsStartOf cs id at
start_found cs index starts count ok id n at e is =
    let r = ok.found id n e in
    subst (IsStartOf cs id) (same_Some r.0 at (sym r.1 ∙ here_at starts n at (name_within cs index starts count ok id n e) is)) r.2

pub start_has : (cs : List (List Element)) (id : OpId) (at : ChunkStart) (d : List Element) → IsStartOf cs id at → slice_get cs at.position ≡ Some d → HasId d id
start_has cs id at d found here = subst (λ z. HasId z id) (same_Some found.chunk d (sym found.here ∙ here)) found.has

pub start_place : (cs : List (List Element)) (id : OpId) (at : ChunkStart) (d : List Element) (k : ℕ) → IsStartOf cs id at → slice_get cs at.position ≡ Some d → IsAt d id k → IsAt (joined cs) id (at.start + k)
start_place cs id at d k found here is =
    let spot : IsSpotOf cs id at.position k = record { chunk = d; here = here; has = is } in
    subst (λ n. IsAt (joined cs) id (n + k)) (sym found.start) (spot_place cs id at.position k spot)

-- ---- the chunk that a place is in
pub far_enough : (cs : List (List Element)) (place q : ℕ) (at : ChunkStart) → IsChunkAt cs place at → place ≤ length (joined cs) → q ≡ min (length cs) (at.position + 1) → place ≤ start_of cs q
far_enough cs place q at found within is =
    ⊎_elim
    (λ (inside : at.position < length cs).
    let ahead = found.ahead inside in
    let one : q ≡ at.position + 1 = omega (arith, is, inside) in
    let same = ap (start_of cs) one in
    omega (arith, ahead, same))
    (λ (past : length cs ≤ at.position).
    let far : length cs ≤ q = omega (arith, is, past) in
    let end = start_end cs q far in
    omega (arith, end, within))
    (cases_lt at.position (length cs))

-- The walk past greater ids, chunk after chunk.
use Rattle.std.proofs.Common.{◌≡◌, ℕ, ◌+◌, ◌-◌, ◌<◌, ◌≤◌, List, Some, length, sym, ap, refl, ◌∙◌, subst, arith, ⊎_elim}
use Rattle.std.specs.List.{slice_get}
use Rattle.std.proofs.lemmas.Option.{same_Some, slice_get_within}
use Rattle.std.proofs.lemmas.Bool.{cases_lt}
use Rattle.change_ops.specs.Ids.{Less}
use Rattle.change_ops.specs.declared.id.OpId.{OpId}
use Rattle.char_sequence.specs.declared.sequence.Element.{Element}
use Rattle.char_sequence.specs.Places.{IsPast, IsNext}
use Rattle.char_sequence.specs.Chunks.{joined, start_of, IsSpot}
use Rattle.char_sequence.proofs.Joined.{joined_get, start_after_chunk, start_end}

-- all from the start up to here have greater ids
pub record IsSoFar (cs : List (List Element)) (e : OpId) (start here : ℕ) : Type 0 where
  pub low : start ≤ here
  pub greater : (i : ℕ) (x : Element) → start ≤ i → i < here → slice_get (joined cs) i ≡ Some x → Less e x.id

pub so_far_none : (cs : List (List Element)) (e : OpId) (position at start : ℕ) → IsSpot cs position at start → IsSoFar cs e start (start_of cs position + at)
so_far_none cs e position at start spot =
    let is = spot.is in
    record {
      low = omega (arith, is);
      greater = λ i x from upto g. absurd (omega (arith, is));
    }

-- the elements of the chunk from this one on up to another one are those at the places between
between : (cs : List (List Element)) (position at to : ℕ) (c : List Element) (i : ℕ) (x : Element) → slice_get cs position ≡ Some c → to ≤ length c → start_of cs position + at ≤ i → i < start_of cs position + to → slice_get (joined cs) i ≡ Some x → (k : ℕ) × (at ≤ k) × (k < to) × (slice_get c k ≡ Some x)
between cs position at to c i x here within low high g =
    let k = i - start_of cs position in
    let there : start_of cs position + k ≡ i = omega arith in
    let less : k < length c = omega arith in
    (k, omega arith, omega arith, sym (joined_get cs position c k here less) ∙ ap (slice_get (joined cs)) there ∙ g)

-- the whole rest of a chunk is greater
pub so_far_chunk : (cs : List (List Element)) (e : OpId) (position at start : ℕ) (c : List Element) → slice_get cs position ≡ Some c → at ≤ length c → ((k : ℕ) (x : Element) → at ≤ k → slice_get c k ≡ Some x → Less e x.id) → IsSoFar cs e start (start_of cs position + at) → IsSoFar cs e start (start_of cs (position + 1) + 0)
so_far_chunk cs e position at start c here within all far =
    let next = start_after_chunk cs position c here in
    let low = far.low in
    record {
      low = omega (arith, next, low);
      greater =
          λ i x from upto g.
          ⊎_elim
          (λ (less : i < start_of cs position + at). far.greater i x from less g)
          (λ (more : start_of cs position + at ≤ i).
          let r = between cs position at (length c) c i x here (omega arith) more (omega (arith, next)) g in
          all r.0 x r.1 r.3)
          (cases_lt i (start_of cs position + at));
    }

-- it stops in this chunk
pub past_here : (cs : List (List Element)) (e : OpId) (position at start k : ℕ) (c : List Element) → slice_get cs position ≡ Some c → IsNext c e at k → IsSoFar cs e start (start_of cs position + at) → (place : ℕ) × IsSpot cs position k place × IsPast (joined cs) e start place
past_here cs e position at start k c here next far =
    let within : k < length c = slice_get_within c k next.at.0 next.at.1 in
    let low = far.low in
    let on : at ≤ k = next.low in (
      start_of cs position + k,
      record { chunk = c; here = here; within = omega arith; is = refl },
      record {
        low = omega arith;
        skipped =
            λ i x from upto g.
            ⊎_elim
            (λ (less : i < start_of cs position + at). far.greater i x from less g)
            (λ (more : start_of cs position + at ≤ i).
            let r = between cs position at k c i x here (omega arith) more upto g in
            next.skipped r.0 x r.1 r.2 r.3)
            (cases_lt i (start_of cs position + at));
        stops =
            λ x g less.
            let same : next.at.0 ≡ x = same_Some next.at.0 x (sym next.at.1 ∙ sym (joined_get cs position c k here within) ∙ g) in
            next.at.2 (subst (λ z. Less e z.id) (sym same) less);
      },
    )

-- it stops at the end
pub past_all : (cs : List (List Element)) (e : OpId) (position last start : ℕ) (c : List Element) → length cs ≤ position → last + 1 ≡ length cs → slice_get cs last ≡ Some c → IsSoFar cs e start (start_of cs position + 0) → (place : ℕ) × IsSpot cs last (length c) place × IsPast (joined cs) e start place
past_all cs e position last start c end before here far =
    let whole = start_end cs position end in
    let next = start_after_chunk cs last c here in
    let end' = start_end cs (last + 1) (omega arith) in
    let low = far.low in (
      start_of cs last + length c,
      record { chunk = c; here = here; within = omega arith; is = refl },
      record {
        low = omega (arith, whole, next, end', low);
        skipped = λ i x from upto g. far.greater i x from (omega (arith, whole, next, end')) g;
        stops =
            λ x g less.
            let within = slice_get_within (joined cs) (start_of cs last + length c) x g in
            omega (arith, within, next, end');
      },
    )

-- The places of marks, as characters are put into a text and removed from it.
use Rattle.std.proofs.Common.{◌≡◌, ℕ, ◌+◌, ◌<◌, ◌≤◌, ◌^◌, List, [], ◌∷◌, ◌++◌, true, Option, Some, length, sym, subst, ◌∙◌, arith, inl, ⊎_elim}
use Rattle.std.specs.List.{count_by, Contains}
use Rattle.std.proofs.lemmas.Bool.{cases_lt}
use Rattle.std.proofs.lemmas.List.Elements.{Contains-append_left, Contains-append_right, Contains-push}
use Rattle.change_ops.specs.Operations.{is_insert}
use Rattle.change_ops.specs.Runs.{inserts_from, next_id}
use Rattle.change_ops.specs.declared.size.Size.TheVariants.{Large}
use Rattle.change_ops.specs.declared.id.OpId.{OpId}
use Rattle.change_ops.specs.declared.operation.Op.{Op}
use Rattle.change_ops.specs.declared.operation.Op.TheVariants.{Insert}
use Rattle.char_sequence.specs.declared.sequence.Element.{Element}
use Rattle.char_sequence.specs.Acceptance.{Accepts}
use Rattle.char_sequence.specs.RunElements.{AcceptsRun}
use Rattle.char_sequence.specs.Tree.{Present}
use Rattle.mark_places.specs.Places.{AreMarkPlaces}
use Rattle.mark_places.specs.MarkPlace.{MarkPlace}
use Rattle.mark_places.proofs.Boundaries.{lies_hidden}
use Rattle.version_laws.proofs.Put.{ArePut, DiffersInOne}
use Rattle.change_history.specs.declared.parts.Parts.{Parts}
use Rattle.change_history.specs.Kept.{Keeps}
use Rattle.change_history.proofs.Edits.{inserts_counted}

-- Places that are shifted for the characters that were put into a text are those of the text with them.
pub places_put : (es later : List Element) (place count : ℕ) (operations : List Op) (old new : List MarkPlace) → ArePut es later place count
    → ((front run back : List Element) (operations : List Op) → length front ≡ place → length run ≡ count → AreMarkPlaces (front ++ back) operations old → AreMarkPlaces (front ++ (run ++ back)) operations new)
    → AreMarkPlaces es operations old → AreMarkPlaces later operations new
places_put es later place count operations old new put shifted places =
    subst (λ l. AreMarkPlaces l operations new) put.are
    (shifted put.front put.run put.back operations put.ahead put.size (subst (λ l. AreMarkPlaces l operations old) (sym put.were) places))

-- A removal or a revival moves none.
pub places_hidden : (es later : List Element) (operations : List Op) (places : List MarkPlace) → DiffersInOne es later → AreMarkPlaces es operations places → AreMarkPlaces later operations places
places_hidden es later operations places hidden held = subst (λ l. AreMarkPlaces l operations places) hidden.are (record {
  sized = held.sized;
  each = λ p there.
      let r = held.each p there in
      let is = r.2 in (
        r.0,
        r.1,
        record {
          placed = record {
            of_key = is.placed.of_key;
            id = is.placed.id;
            lies = lies_hidden es hidden.place hidden.was hidden.is hidden.here hidden.same r.0 p.mark.start p.mark.end is.placed.lies;
          };
          start = is.start;
          end = is.end;
        },
      );
  listed = held.listed;
})

-- ---- the characters that are put in
-- the inserted character is there
pub insert_present : (ops : List Op) (op : Op) (id : OpId) (parent : Option OpId) (c : ℕ) → op ≡ Insert id parent c → Present (ops ++ op ∷ []) id
insert_present ops op id parent c is = (parent, (c, subst (λ o. Contains (ops ++ op ∷ []) o) is (Contains-push ops op)))

-- the first character of a run is there
pub run_present : (cs : List ℕ) (ops : List Op) (id : OpId) (parent : Option OpId) → 0 < length cs → Present (ops ++ inserts_from id parent cs) id
unfolding inserts_from
run_present [] ops id parent some = absurd (omega arith)
run_present (c ∷ cs) ops id parent some =
    let rest = inserts_from (next_id id) (Some id) cs in
    (parent, (c, Contains-append_right ops (Insert id parent c ∷ rest) (Insert id parent c) (Contains-append_left (Insert id parent c ∷ []) rest (Insert id parent c) (Contains-push [] (Insert id parent c)))))

-- ---- the text stays short enough for its places to be numbers
pub text_counted : (ops : List Op) (parts : Parts) → Keeps ops parts → length parts.sequence.elements ≡ count_by is_insert ops
text_counted ops parts k = k.held.size ∙ inserts_counted ops

pub insert_fits : (ops : List Op) (op : Op) (parts : Parts) → is_insert op ≡ true → Keeps ops parts → Accepts Large ops op → length parts.sequence.elements + 1 < 2 ^ 30
insert_fits ops op parts insert k a =
    let size = text_counted ops parts k in
    ⊎_elim
    (λ (low : count_by is_insert ops < 262144). omega (arith, size))
    (λ (full : 262144 ≤ count_by is_insert ops). absurd (a.room (inl (insert, full))))
    (cases_lt (count_by is_insert ops) 262144)

pub run_fits : (ops : List Op) (id : OpId) (parent : Option OpId) (cs : List ℕ) (n : ℕ) (parts : Parts) → n ≤ length cs → Keeps ops parts → AcceptsRun Large ops id parent cs → length parts.sequence.elements + n < 2 ^ 30
run_fits ops id parent cs n parts low k a =
    let size = text_counted ops parts k in
    let room = a.room in
    omega (arith, size, room, low)

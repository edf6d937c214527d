-- Marks none of whose ends lies between two places.
use Rattle.std.proofs.Common.{◌≡◌, ◌↔◌, ℕ, ◌+◌, ◌-◌, ◌*◌, ◌/◌, ◌<◌, ◌≤◌, ◌^◌, ◌&&◌, ◌||◌, List, [], ◌∷◌, Bool, true, false, min, map, length, refl, sym, ap, subst, ◌∙◌, arith, ◌⊎◌, inl, inr, ⊎_elim, All}
use Rattle.std.specs.Prelude.{leb, ltb, not}
use Rattle.std.specs.List.{slice_get, flat_map, list_all, list_any, Contains}
use Rattle.std.proofs.lemmas.Bool.{cases_lt, lt-ltb, le-ltb, le-leb, lt-leb, and_left, and_right, and_parts, true≢false}
use Rattle.std.proofs.lemmas.Option.{same_Some, slice_get_within}
use Rattle.std.proofs.lemmas.List.Folds.{list_all-append}
use Rattle.std.proofs.lemmas.List.Elements.{All-head, All-tail}
use Rattle.change_ops.specs.declared.operation.Op.{Op}
use Rattle.char_sequence.specs.declared.sequence.Element.{Element}
use Rattle.mark_anchors.specs.Places.{Lies}
use Rattle.mark_anchors.specs.Ranges.{IsUniform}
use Rattle.mark_anchors.proofs.Lists.{contains_at}
use Rattle.mark_places.specs.MarkPlace.{MarkPlace}
use Rattle.mark_places.specs.Places.{AreMarkPlaces}
use Rattle.mark_places.specs.Ranks.{raised, mark_raised, placed, place_of, IsBelow}
use Rattle.mark_places.specs.Blocks.{ranked, IsWithin}
use Rattle.mark_places.specs.Uniform.{is_inside, is_whole, is_between, has_none_between}
use Rattle.mark_places.specs.declared.block.MarkName.{MarkName}
use Rattle.mark_places.specs.declared.range.PlaceRange.{PlaceRange}
use Rattle.mark_places.specs.declared.ranked.RankedMark.{RankedMark}
use Rattle.mark_places.proofs.Raising.{cons_cases}

-- a rank without its offset
offset_between : (offset from below rank : ℕ) → is_between from below (offset + rank) ≡ is_between (from - offset) (below - offset) rank
offset_between offset from below rank =
    ap (λ x. x && ltb (offset + rank) below) first ∙ ap (λ x. leb (from - offset) rank && x) last
  where
    first : leb from (offset + rank) ≡ leb (from - offset) rank
    first =
        ⊎_elim
        (λ (less : offset + rank < from). lt-leb from (offset + rank) less ∙ sym (lt-leb (from - offset) rank (omega arith)))
        (λ (more : from ≤ offset + rank). le-leb from (offset + rank) more ∙ sym (le-leb (from - offset) rank (omega arith)))
        (cases_lt (offset + rank) from)

    last : ltb (offset + rank) below ≡ ltb rank (below - offset)
    last =
        ⊎_elim
        (λ (less : offset + rank < below). lt-ltb (offset + rank) below less ∙ sym (lt-ltb rank (below - offset) (omega arith)))
        (λ (more : below ≤ offset + rank). le-ltb (offset + rank) below more ∙ sym (le-ltb rank (below - offset) (omega arith)))
        (cases_lt (offset + rank) below)

-- ---- a block
regrouped : (a b x y : Bool) → (not (a || b) && (not x && not y)) ≡ (not (a || x) && not (b || y))
regrouped true b x y = refl
regrouped false true true y = refl
regrouped false true false y = refl
regrouped false false x y = refl

-- the ends are looked at list by list
pub ranked_none : (offset from below : ℕ) (names : List MarkName) (starts ends : List ℕ) → length starts ≡ length names → length ends ≡ length names
    → list_all (has_none_between from below) (ranked offset names starts ends)
    ≡ (not (list_any (is_between (from - offset) (below - offset)) starts) && not (list_any (is_between (from - offset) (below - offset)) ends))
ranked_none offset from below [] [] [] s e = refl
ranked_none offset from below [] (x ∷ starts) ends s e = absurd (omega arith)
ranked_none offset from below [] [] (y ∷ ends) s e = absurd (omega arith)
ranked_none offset from below (n ∷ names) [] ends s e = absurd (omega arith)
ranked_none offset from below (n ∷ names) (x ∷ starts) [] s e = absurd (omega arith)
ranked_none offset from below (n ∷ names) (x ∷ starts) (y ∷ ends) s e =
    let P : ℕ → Bool = is_between (from - offset) (below - offset) in
    let rest = list_all (has_none_between from below) (ranked offset names starts ends) in
    ap (λ z. not (z || is_between from below (offset + y)) && rest) (offset_between offset from below x)
    ∙ ap (λ z. not (P x || z) && rest) (offset_between offset from below y)
    ∙ ap (λ z. not (P x || P y) && z) (ranked_none offset from below names starts ends (omega arith) (omega arith))
    ∙ regrouped (P x) (P y) (list_any P starts) (list_any P ends)

pub block_none : (offset from below from' below' : ℕ) (names : List MarkName) (starts ends firsts lasts : List ℕ) (marks : List RankedMark) → ranked offset names starts ends ≡ marks → length starts ≡ length names → length ends ≡ length names
    → from' ≡ from - offset → below' ≡ below - offset → firsts ≡ starts → lasts ≡ ends
    → list_all (has_none_between from below) marks ≡ (not (list_any (is_between from' below') firsts) && not (list_any (is_between from' below') lasts))
block_none offset from below from' below' names starts ends firsts lasts marks is s e low high same also =
    let P : ℕ → Bool = is_between (from - offset) (below - offset) in
    ap (list_all (has_none_between from below)) (sym is)
    ∙ ranked_none offset from below names starts ends s e
    ∙ ap (λ xs. not (list_any P xs) && not (list_any P ends)) (sym same)
    ∙ ap (λ xs. not (list_any P firsts) && not (list_any P xs)) (sym also)
    ∙ ap (λ (x : ℕ). not (list_any (is_between x (below - offset)) firsts) && not (list_any (is_between x (below - offset)) lasts)) (sym low)
    ∙ ap (λ (x : ℕ). not (list_any (is_between from' x) firsts) && not (list_any (is_between from' x) lasts)) (sym high)

-- all ends stand on one side
none_within : (from below least greatest rank : ℕ) → (greatest < from) ⊎ (below ≤ least) → least ≤ rank → rank ≤ greatest → is_between from below rank ≡ false
none_within from below least greatest rank side low high =
    ⊎_elim
    (λ (before : greatest < from). and_left (leb from rank) (ltb rank below) (lt-leb from rank (omega arith)))
    (λ (behind : below ≤ least). and_right (leb from rank) (ltb rank below) (le-ltb rank below (omega arith)))
    side

pub all_beside : (from below least greatest : ℕ) (marks : List RankedMark) → (greatest < from) ⊎ (below ≤ least) → All (IsWithin least greatest) marks → list_all (has_none_between from below) marks ≡ true
all_beside from below least greatest [] side all = refl
all_beside from below least greatest (m ∷ marks) side all =
    let w = All-head (IsWithin least greatest) m marks all in
    let rest = list_all (has_none_between from below) marks in
    ap (λ z. not (z || is_between from below m.end) && rest) (none_within from below least greatest m.start side w.0.0 w.0.1)
    ∙ ap (λ z. not z && rest) (none_within from below least greatest m.end side w.1.0 w.1.1)
    ∙ all_beside from below least greatest marks side (All-tail (IsWithin least greatest) m marks all)

-- ---- all blocks
pub all_joined : (p : RankedMark → Bool) (blocks : List (List RankedMark)) → list_all (λ b. list_all p b) blocks ≡ list_all p (flat_map (λ b. b) blocks)
all_joined p [] = refl
all_joined p (b ∷ blocks) = ap (λ z. list_all p b && z) (all_joined p blocks) ∙ sym (list_all-append p b (flat_map (λ b. b) blocks))

-- the bounds of the ranks are those of the places, before the shift
module _ (from by : ℕ) (range : PlaceRange) (first last low high : ℕ) (first_is : first ≡ 2 * min range.low (2 ^ 30) + 2) (last_is : last ≡ 2 * min range.high (2 ^ 30))
    (beginning : (rank : ℕ) → (raised from by rank < first) ↔ (rank < low)) (ending : (rank : ℕ) → (raised from by rank < last) ↔ (rank < high)) where
  inside_from : (rank : ℕ) → raised from by rank < 2 ^ 31 → leb low rank ≡ ltb range.low (raised from by rank / 2)
  inside_from rank fits =
      ⊎_elim
      (λ (less : rank < low).
      let is = (beginning rank).1 less in
      lt-leb low rank less ∙ sym (le-ltb range.low (raised from by rank / 2) (omega (arith, is))))
      (λ (more : low ≤ rank).
      ⊎_elim
      (λ (under : raised from by rank < first). let not_less = (beginning rank).0 under in absurd (omega (arith, not_less)))
      (λ (is : first ≤ raised from by rank). le-leb low rank more ∙ sym (lt-ltb range.low (raised from by rank / 2) (omega (arith, is))))
      (cases_lt (raised from by rank) first))
      (cases_lt rank low)

  inside_below : (rank : ℕ) → raised from by rank < 2 ^ 31 → ltb rank high ≡ ltb (raised from by rank / 2) range.high
  inside_below rank fits =
      ⊎_elim
      (λ (less : rank < high).
      let is = (ending rank).1 less in
      lt-ltb rank high less ∙ sym (lt-ltb (raised from by rank / 2) range.high (omega (arith, is))))
      (λ (more : high ≤ rank).
      ⊎_elim
      (λ (under : raised from by rank < last). let not_less = (ending rank).0 under in absurd (omega (arith, not_less)))
      (λ (is : last ≤ raised from by rank). le-ltb rank high more ∙ sym (le-ltb (raised from by rank / 2) range.high (omega (arith, is))))
      (cases_lt (raised from by rank) last))
      (cases_lt rank high)

  inside_same : (rank : ℕ) → raised from by rank < 2 ^ 31 → is_between low high rank ≡ is_inside range (raised from by rank / 2)
  inside_same rank fits =
      ap (λ x. x && ltb rank high) (inside_from rank fits) ∙ ap (λ x. ltb range.low (raised from by rank / 2) && x) (inside_below rank fits)

  whole_same : (m : RankedMark) → IsBelow (2 ^ 31) (mark_raised from by m) → has_none_between low high m ≡ is_whole range (placed (mark_raised from by m))
  whole_same m fits =
      ap (λ x. not (x || is_between low high m.end)) (inside_same m.start fits.0)
      ∙ ap (λ x. not (is_inside range (raised from by m.start / 2) || x)) (inside_same m.end fits.1)

  pub all_whole : (marks : List RankedMark) → All (λ m. IsBelow (2 ^ 31) (mark_raised from by m)) marks
      → list_all (has_none_between low high) marks ≡ list_all (λ (p : MarkPlace). is_whole range p.mark) (map place_of (map (mark_raised from by) marks))
  all_whole [] fits = refl
  all_whole (m ∷ marks) fits =
      let P : RankedMark → Type 0 = λ m. IsBelow (2 ^ 31) (mark_raised from by m) in
      ap (λ x. x && list_all (has_none_between low high) marks) (whole_same m (All-head P m marks fits))
      ∙ ap (λ x. is_whole range (placed (mark_raised from by m)) && x) (all_whole marks (All-tail P m marks fits))

-- ---- what it says of the text
not_inside : (range : PlaceRange) (place : ℕ) → is_inside range place ≡ false → (place ≤ range.low) ⊎ (range.high ≤ place)
not_inside range place none =
    ⊎_elim
    (λ (behind : range.low < place).
    ⊎_elim
    (λ (before : place < range.high).
    absurd (true≢false (sym (ap (λ x. x && ltb place range.high) (lt-ltb range.low place behind) ∙ lt-ltb place range.high before) ∙ none)))
    (λ (after : range.high ≤ place). inr after)
    (cases_lt place range.high))
    (λ (upto : place ≤ range.low). inl upto)
    (cases_lt range.low place)

neither : (x y : Bool) → not (x || y) ≡ true → (x ≡ false) × (y ≡ false)
neither true y is = absurd (true≢false (sym is))
neither false true is = absurd (true≢false (sym is))
neither false false is = (refl, refl)

all_at : (p : MarkPlace → Bool) (places : List MarkPlace) → list_all p places ≡ true → (place : MarkPlace) → Contains places place → p place ≡ true
all_at p [] all place held = absurd (omega (arith, held.1))
all_at p (q ∷ places) all place held =
    let parts = and_parts (p q) (list_all p places) all in
    ⊎_elim (λ (same : q ≡ place). subst (λ z. p z ≡ true) same parts.0) (λ (more : Contains places place). all_at p places parts.1 place more) (cons_cases q places place held)

pub uniform_from_whole : (es : List Element) (operations : List Op) (places : List MarkPlace) (range : PlaceRange) → list_all (λ (p : MarkPlace). is_whole range p.mark) places ≡ true → AreMarkPlaces es operations places
    → IsUniform es operations range.low range.high
uniform_from_whole es operations places range all are o held =
    let i = contains_at operations o held in
    let within : i.0 < length operations = slice_get_within operations i.0 o i.1 in
    let r = are.listed i.0 within in
    let p : MarkPlace = r.0 in
    let e = are.each p r.1 in
    let same : e.0 ≡ o = same_Some e.0 o (sym e.1 ∙ ap (slice_get operations) r.2 ∙ i.1) in
    let apart = neither (is_inside range p.mark.start) (is_inside range p.mark.end) (all_at (λ (p : MarkPlace). is_whole range p.mark) places all p r.1) in
    (p.mark.start, (p.mark.end, subst (λ z. Lies es z p.mark.start p.mark.end) same e.2.placed.lies, not_inside range p.mark.start apart.0, not_inside range p.mark.end apart.1))

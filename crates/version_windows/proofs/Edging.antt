-- The windows of ranges that begin and end with characters which a change leaves alone begin and end with what stands there.
use Rattle.std.proofs.Common.{◌≡◌, ℕ, zero, suc, ◌+◌, ◌-◌, ◌<◌, ◌≤◌, ◌⊎◌, List, [], ◌∷◌, ◌++◌, Some, None, inl, inr, length, take, get_or, refl, sym, ap, subst, ◌∙◌, arith, ⊎_elim, All, IsUtf8}
use Rattle.std.specs.List.{slice_get, Contains, count_by}
use Rattle.std.proofs.lemmas.Option.{same_Some, none-some, get_or_from_slice_get, slice_get_cases, slice_get_past, slice_get_within}
use Rattle.std.proofs.lemmas.List.{length-map, take_all}
use Rattle.std.proofs.lemmas.List.Elements.{All-head, All-tail}
use Rattle.change_ops.specs.declared.operation.Op.{Op}
use Rattle.change_ops.specs.declared.size.Size.{Size}
use Rattle.char_sequence.specs.declared.sequence.Element.{Element}
use Rattle.char_sequence.specs.Acceptance.{AcceptsAll}
use Rattle.char_sequence.specs.Order.{Shows}
use Rattle.mark_anchors.specs.Marks.{AreMarks}
use Rattle.mark_places.specs.MarkPlace.{MarkPlace}
use Rattle.mark_places.specs.Places.{AreMarkPlaces}
use Rattle.mark_places.specs.declared.range.PlaceRange.{PlaceRange}
use Rattle.mark_places.specs.PlaceRanges.{AreApart}
use Rattle.span_flatten.specs.Spans.{Span, AreSpans}
use Rattle.span_flatten.specs.Taken.{is_visible}
use Rattle.span_flatten.specs.Version.{IsWhole, spans_in}
use Rattle.version_laws.specs.Ranges.{AreChangedWithin, AreGapped, LiesOutside, TouchesOneOf}
use Rattle.version_laws.proofs.OldRanges.{low_found}
use Rattle.version_laws.proofs.Ranging.{within_apart}
use Rattle.version_laws.proofs.Staying.{AreParted, first_left, last_left, parted_start, same_places}
use Rattle.version_glyphs.specs.declared.replacement.Replacement.{Replacement}
use Rattle.version_glyphs.specs.Glyphs.{Glyph, AreMaximal, glyphs}
use Rattle.version_glyphs.specs.Replacements.{AreEdged, AreReplacements, IsEdged, formats}
use Rattle.version_glyphs.proofs.Edged.{back_edge, front_edge, kept_format, visible_behind, visible_more}
use Rattle.version_glyphs.proofs.Made.{texts_in}
use Rattle.version_glyphs.proofs.Meeting.{glyphs_counted}
use Rattle.version_windows.specs.Edges.{HasKeptEdges, IsKeptAt}
use Rattle.version_windows.specs.Neighbors.{HasFormatOf, HasNeighbor, IsLikeNeighbor}
use Rattle.version_windows.proofs.Changing.{ended, gapped_rest}

abbrev visible : List Element → ℕ
visible es = count_by is_visible es

-- the ranges begin behind the text's start
abbrev IsBehindStart : List PlaceRange → Type 0
IsBehindStart [] = Unit {0}
IsBehindStart (n ∷ ns) = 0 < n.low

behind_first : (n : PlaceRange) (ns : List PlaceRange) → AreGapped (n ∷ ns) → IsBehindStart ns
behind_first n [] gapped = tt
behind_first n (m ∷ ns) gapped = let gap : n.high < m.low = gapped.0 in omega arith

-- one window more in front
edged_more : (characters : List Glyph) (w : Replacement) (ws : List Replacement) → IsEdged characters w → (0 < length ws → w.to < length characters) → AreEdged characters ws → AreEdged characters (w ∷ ws)
edged_more characters w [] one behind rest = one
edged_more characters w (x ∷ ws) one behind rest = (one, behind (omega arith), rest)

module _ {size : Size} (ops added marks : List Op) (old new : List Element) (inner : List PlaceRange) (shows : Shows old ops) (all : AcceptsAll size ops added) (later : Shows new (ops ++ added))
    (held : AreMarks (ops ++ added) marks) (touched : (o : Op) → Contains added o → TouchesOneOf (ops ++ added) new inner o) (now : List Span) (maximal : AreMaximal now) (spans : AreSpans ops now) where
  counted : length (glyphs now) ≡ visible old
  counted = glyphs_counted ops old shows now maximal spans

  -- ---- the first of several ranges
  module _ (o n : PlaceRange) (os ns : List PlaceRange) (a b : ℕ) (changed : AreChangedWithin old new (o ∷ os) (n ∷ ns) a b)
      (apart : AreApart (n ∷ ns) b (length new)) (gapped : AreGapped (n ∷ ns)) (kept : HasKeptEdges new inner n)
      (starts : AreParted old new a b) where
    same_end : slice_get old o.high ≡ slice_get new n.high
    same_end = (ended old new os ns n o.high changed.3 apart.2 gapped).1

    ends : AreParted old new o.high n.high
    ends = same_places ops added old new inner shows later touched o.high n.high same_end

    within : n.high ≤ length new
    within = within_apart ns n.high (length new) apart.2

    -- a range that begins with an element has one
    some : (e : Element) → slice_get new n.low ≡ Some e → n.low < n.high
    some e g =
        ⊎_elim
        (λ (end : n.high ≡ length new). let inside : n.low < length new = slice_get_within new n.low e g in omega arith)
        (λ (last : (last : ℕ) × (n.high ≡ last + 1) × (n.low ≤ last) × IsKeptAt new inner last). omega (arith, last.1, last.2))
        kept.back

    -- where the element that the range begins with stood
    left : (e : Element) (g : slice_get new n.low ≡ Some e) → LiesOutside inner n.low → (slice_get old o.low ≡ Some e) × (o.low < o.high)
    left e g out = first_left ops added old new inner shows later touched o n os ns a b changed apart starts ends e g out (some e g)

    -- nothing stands behind a range that ends where the text does
    past_end : n.high ≡ length new → visible (take o.high old) ≡ visible old
    past_end end =
        let nothing : slice_get old o.high ≡ None = same_end ∙ slice_get_past new n.high (omega arith) in
        ⊎_elim
        (λ (there : (x : Element) × (o.high < length old) × (slice_get old o.high ≡ Some x) × (get_or old o.high x ≡ x)). absurd (none-some there.0 (sym nothing ∙ there.2)))
        (λ (past : (length old ≤ o.high) × (slice_get old o.high ≡ None)). ap visible (take_all o.high old past.0))
        (slice_get_cases old o.high).1

    -- something visible stands behind what stands before it
    more : IsBehindStart (n ∷ ns) → visible (take a old) < length (glyphs now)
    more behind =
        ⊎_elim
        (λ (none : n.low ≡ 0). absurd (omega arith))
        (λ (at : IsKeptAt new inner n.low).
        subst (λ k. visible (take a old) < k) (sym counted) (visible_behind old a o.low at.0 (left at.0 at.1 at.3).0 at.2 changed.0))
        kept.front

    -- the element at the place of the last one of the range, if the range ends before the text does
    last_format : n.high < length new → (at : ℕ) × (n.low ≤ at) × (at < n.high) × (0 < visible (take o.high old)) × HasFormatOf (glyphs now) new marks (visible (take o.high old) - 1) at
    last_format ahead =
        ⊎_elim
        (λ (end : n.high ≡ length new). absurd (omega arith))
        (λ (last : (last : ℕ) × (n.high ≡ last + 1) × (n.low ≤ last) × IsKeptAt new inner last).
        let at : IsKeptAt new inner last.0 = last.3 in
        let was = last_left ops added old new inner shows later touched o n os ns a b changed apart starts ends last.0 at.0 last.1 at.1 at.3 last.2 in
        let more : visible (take o.high old) ≡ visible (take was.0 old) + 1 = ap (λ k. visible (take k old)) was.3 ∙ visible_more old was.0 at.0 was.1 at.2 in
        let place : visible (take o.high old) - 1 ≡ visible (take was.0 old) = omega arith in
        let format = kept_format ops added marks old new inner shows all later held touched now maximal spans was.0 last.0 at.0 was.1 at.1 at.2 at.3 in
        let below : last.0 < n.high = omega (arith, last.1) in
        let some : 0 < visible (take o.high old) = omega arith in
        (last.0, last.2, below, some, (format.0, ap (slice_get (formats (glyphs now))) place ∙ format.1, format.2)))
        kept.back

    -- the format of one of its edges stands where that stood, unless the range is the whole text
    neighbor : (places : List MarkPlace) → AreMarkPlaces new marks places → IsLikeNeighbor places (length new) n → HasNeighbor (glyphs now) old new marks o n
    neighbor places placed like = record {
      uniform = like.uniform new marks placed;
      first =
          λ behind.
          ⊎_elim
          (λ (none : n.low ≡ 0). absurd (omega arith))
          (λ (at : IsKeptAt new inner n.low).
          let was = left at.0 at.1 at.3 in
          (some at.0 at.1, kept_format ops added marks old new inner shows all later held touched now maximal spans o.low n.low at.0 was.0 at.1 at.2 at.3))
          kept.front;
      last =
          λ begins.
          ⊎_elim
          (λ (behind : 0 < n.low). absurd (omega arith))
          (λ (ahead : n.high < length new). let edge = last_format ahead in (edge.0, edge.2, edge.3, edge.4))
          like.inside;
    }

    -- ---- the first of several windows
    module _ (w : Replacement) (ws : List Replacement) (are : AreReplacements old new marks (o ∷ os) (n ∷ ns) (w ∷ ws)) where
      texts : All (λ s. IsUtf8 s.text) (spans_in w.window.text w.window.rows)
      texts =
          let whole : IsWhole w.window.text w.window.rows = are.3 in
          texts_in w.window.text w.window.rows are.4 whole.limits.ordered whole.limits.starts whole.limits.ends

      one_edged : (a ≡ 0) ⊎ IsBehindStart (n ∷ ns) → IsEdged (glyphs now) w
      one_edged start = record {
        front =
            λ past.
            ⊎_elim
            (λ (none : n.low ≡ 0).
            ⊎_elim
            (λ (first : a ≡ 0).
            let low = low_found old new o n os ns a b changed apart in
            let is_first : o.low ≡ 0 = omega arith in
            let nothing : visible (take o.low old) ≡ 0 = ap (λ k. visible (take k old)) is_first in
            absurd (omega (arith, are.0)))
            (λ (behind : 0 < n.low). absurd (omega arith))
            start)
            (λ (at : IsKeptAt new inner n.low).
            let was = left at.0 at.1 at.3 in
            front_edge ops added marks old new inner shows all later held touched now maximal spans o n w are.0 are.1 are.2 texts at.0 was.0 was.1 at.1 at.2 at.3 (some at.0 at.1))
            kept.front;
        back =
            λ behind.
            ⊎_elim
            (λ (end : n.high ≡ length new). let none = past_end end in absurd (omega (arith, are.1, counted, length-map (glyphs now) (λ (g : Glyph). g.format))))
            (λ (last : (last : ℕ) × (n.high ≡ last + 1) × (n.low ≤ last) × IsKeptAt new inner last).
            let at : IsKeptAt new inner last.0 = last.3 in
            let was = last_left ops added old new inner shows later touched o n os ns a b changed apart starts ends last.0 at.0 last.1 at.1 at.3 last.2 in
            back_edge ops added marks old new inner shows all later held touched now maximal spans o n w are.0 are.1 are.2 texts was.0 last.0 at.0 was.1 was.2 was.3 at.1 at.2 at.3 last.2 last.1 within)
            kept.back;
      }

  -- ---- all ranges
  edged_from : (os ns : List PlaceRange) (ws : List Replacement) (a b : ℕ) → AreChangedWithin old new os ns a b → AreReplacements old new marks os ns ws → AreApart ns b (length new) → AreGapped ns
      → All (HasKeptEdges new inner) ns → AreParted old new a b → (a ≡ 0) ⊎ IsBehindStart ns
      → AreEdged (glyphs now) ws × (IsBehindStart ns → 0 < length ws → visible (take a old) < length (glyphs now))
  edged_from [] [] [] a b changed are apart gapped kept starts start = (tt, λ behind some. absurd (omega arith))
  edged_from [] [] (w ∷ ws) a b changed are apart gapped kept starts start = absurd are
  edged_from [] (n ∷ ns) ws a b changed are apart gapped kept starts start = absurd changed
  edged_from (o ∷ os) [] ws a b changed are apart gapped kept starts start = absurd changed
  edged_from (o ∷ os) (n ∷ ns) [] a b changed are apart gapped kept starts start = absurd are
  edged_from (o ∷ os) (n ∷ ns) (w ∷ ws) a b changed are apart gapped kept starts start =
      let first : HasKeptEdges new inner n = All-head (HasKeptEdges new inner) n ns kept in
      let behind : IsBehindStart ns = behind_first n ns gapped in
      let rest =
      edged_from os ns ws o.high n.high changed.3 are.5 apart.2 (gapped_rest n ns gapped) (All-tail (HasKeptEdges new inner) n ns kept)
      (ends o n os ns a b changed apart gapped first starts) (inr behind) in (
        edged_more (glyphs now) w ws (one_edged o n os ns a b changed apart gapped first starts w ws are start)
            (λ some. subst (λ k. k < length (glyphs now)) (sym are.1) (rest.1 behind some)) rest.0,
        λ past some. more o n os ns a b changed apart gapped first starts past,
      )

  -- the windows of all ranges
  pub windows_edged : (olds ranges : List PlaceRange) (windows : List Replacement) → AreChangedWithin old new olds ranges 0 0 → AreReplacements old new marks olds ranges windows
      → AreApart ranges 0 (length new) → AreGapped ranges → All (HasKeptEdges new inner) ranges → AreEdged (glyphs now) windows
  windows_edged olds ranges windows changed are apart gapped kept =
      (edged_from olds ranges windows 0 0 changed are apart gapped kept (parted_start old new) (inl refl)).0

  -- ---- ranges that are like neighbors
  neighbors_from : (os ns : List PlaceRange) (a b : ℕ) → AreChangedWithin old new os ns a b → AreApart ns b (length new) → AreGapped ns → All (HasKeptEdges new inner) ns → AreParted old new a b
      → (k : ℕ) (o n : PlaceRange) → slice_get os k ≡ Some o → slice_get ns k ≡ Some n → (places : List MarkPlace) → AreMarkPlaces new marks places → IsLikeNeighbor places (length new) n → HasNeighbor (glyphs now) old new marks o n
  neighbors_from [] ns a b changed apart gapped kept starts k o n g h places placed like = absurd (none-some o g)
  neighbors_from (p ∷ os) [] a b changed apart gapped kept starts k o n g h places placed like = absurd (none-some n h)
  neighbors_from (p ∷ os) (m ∷ ns) a b changed apart gapped kept starts zero o n g h places placed like =
      let old_is : p ≡ o = same_Some p o g in
      let new_is : m ≡ n = same_Some m n h in
      let first : HasKeptEdges new inner m = All-head (HasKeptEdges new inner) m ns kept in
      subst (λ (x : PlaceRange). HasNeighbor (glyphs now) old new marks x n) old_is
      (subst (λ (y : PlaceRange). HasNeighbor (glyphs now) old new marks p y) new_is
      (neighbor p m os ns a b changed apart gapped first starts places placed (subst (IsLikeNeighbor places (length new)) (sym new_is) like)))
  neighbors_from (p ∷ os) (m ∷ ns) a b changed apart gapped kept starts (suc k) o n g h places placed like =
      let first : HasKeptEdges new inner m = All-head (HasKeptEdges new inner) m ns kept in
      neighbors_from os ns p.high m.high changed.3 apart.2 (gapped_rest m ns gapped) (All-tail (HasKeptEdges new inner) m ns kept)
      (ends p m os ns a b changed apart gapped first starts) k o n g h places placed like

  -- each of all ranges has a neighbor
  pub have_neighbors : (olds ranges : List PlaceRange) → AreChangedWithin old new olds ranges 0 0 → AreApart ranges 0 (length new) → AreGapped ranges → All (HasKeptEdges new inner) ranges
      → (places : List MarkPlace) → AreMarkPlaces new marks places → All (IsLikeNeighbor places (length new)) ranges
      → (k : ℕ) (o n : PlaceRange) → slice_get olds k ≡ Some o → slice_get ranges k ≡ Some n → HasNeighbor (glyphs now) old new marks o n
  have_neighbors olds ranges changed apart gapped kept places placed like k o n g h =
      let is : get_or ranges k n ≡ n = get_or_from_slice_get ranges k n n h in
      neighbors_from olds ranges 0 0 changed apart gapped kept (parted_start old new) k o n g h places placed
      (subst (IsLikeNeighbor places (length new)) is (like k n (slice_get_within ranges k n h)))

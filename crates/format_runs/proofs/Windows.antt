-- Runs with those of a window replaced.
use Rattle.std.proofs.Common.{◌≡◌, ℕ, zero, suc, ◌+◌, ◌-◌, ◌<◌, ◌≤◌, inl, inr, List, [], ◌++◌, length, take, drop, get_or, refl, sym, ap, subst, ◌∙◌, arith, length-append, append_assoc, sum_by}
use Rattle.std.specs.List.{slice_range}
use Rattle.std.proofs.lemmas.Bool.{cases_lt}
use Rattle.std.proofs.lemmas.List.{drop_all, drop-append-le, length-drop, length-take-le, take_all, take-append-le}
use Rattle.std.proofs.Math.Seq.{drop-append-add, take-append-add}
use Rattle.mark_anchors.specs.Formatting.{Format}
use Rattle.piece_tree.specs.Nodes.{pieces_of}
use Rattle.piece_tree.specs.Spots.{IsReached}
use Rattle.piece_tree.specs.declared.piece.Measure.TheVariants.{Characters}
use Rattle.piece_tree.specs.declared.spot.Spot.{Spot}
use Rattle.format_runs.specs.Runs.{AreApart, AreMaximal, Run, character_count, formats_of, run_size}
use Rattle.format_runs.proofs.Formats.{formats_append, length_formats}
use Rattle.format_runs.proofs.Apart.{apart_back, apart_behind, apart_drop, apart_from_none, apart_longer, apart_none, apart_parts, apart_take, maximal_back, maximal_front, maximal_joined}
use Rattle.format_runs.proofs.Pieces.{all_around, count_more, count_rises, counted_around, sum_characters}
use Rattle.format_runs.proofs.Slices.{slice_from_start, slice_to_end, slice_within}

-- ---- places in pieces
-- the place is within the piece of this index, before which so many characters stand
pub record IsAt (ps : List (List Run)) (index start place : ℕ) : Type 0 where
  pub counted : start ≡ character_count (pieces_of (take index ps))
  pub up_to : start ≤ place
  pub reached : place ≤ start + character_count (get_or ps index [])

-- what is known of a spot
pub spot_counted : (ps : List (List Run)) (place : ℕ) (spot : Spot) → IsReached run_size Characters ps place spot
    → spot.characters ≡ character_count (pieces_of (take spot.index ps))
spot_counted ps place spot r = r.characters ∙ sum_characters (take spot.index ps)

pub spot_before : (ps : List (List Run)) (place : ℕ) (spot : Spot) → IsReached run_size Characters ps place spot → 0 < spot.index → spot.characters < place
spot_before ps place spot r some = let h : sum_by (run_size Characters) (take spot.index ps) < place = r.before some in omega (arith, r.characters)

pub spot_reached : (ps : List (List Run)) (place : ℕ) (spot : Spot) → IsReached run_size Characters ps place spot → spot.index < length ps
    → place ≤ spot.characters + character_count (get_or ps spot.index [])
spot_reached ps place spot r inside =
    let h : place ≤ sum_by (run_size Characters) (take (spot.index + 1) ps) = r.reached inside in
    omega (arith, h, count_more ps spot.index inside, spot_counted ps place spot r, sum_characters (take (spot.index + 1) ps))

spot_past : (ps : List (List Run)) (place : ℕ) (spot : Spot) → IsReached run_size Characters ps place spot → length ps ≤ spot.index
    → spot.characters ≡ character_count (pieces_of ps)
spot_past ps place spot r past = spot_counted ps place spot r ∙ ap (λ l. character_count (pieces_of l)) (take_all spot.index ps past)

spot_low : (ps : List (List Run)) (place : ℕ) (spot : Spot) (k : ℕ) → k ≡ spot.index → IsReached run_size Characters ps (place + 1) spot → spot.characters ≤ place
spot_low ps place spot zero e r =
    let none : character_count (pieces_of (take spot.index ps)) ≡ 0 = ap (λ n. character_count (pieces_of (take n ps))) (sym e) in
    omega (arith, spot_counted ps (place + 1) spot r)
spot_low ps place spot (suc k) e r = let h : spot.characters < place + 1 = spot_before ps (place + 1) spot r (omega arith) in omega arith

pub first_is_at : (ps : List (List Run)) (place : ℕ) (spot : Spot) → place ≤ character_count (pieces_of ps)
    → IsReached run_size Characters ps place spot → IsAt ps spot.index spot.characters place
first_is_at ps place spot within r = record {
  counted = spot_counted ps place spot r;
  up_to = low spot.index refl;
  reached = elim (cases_lt spot.index (length ps)) [
    | inr past ↦ omega (arith, within, spot_past ps place spot r past)
    | inl inside ↦ spot_reached ps place spot r inside
  ];
}
  where
    low : (k : ℕ) → k ≡ spot.index → spot.characters ≤ place
    low zero e =
        let none : character_count (pieces_of (take spot.index ps)) ≡ 0 = ap (λ n. character_count (pieces_of (take n ps))) (sym e) in
        omega (arith, spot_counted ps place spot r)
    low (suc k) e = let h : spot.characters < place = spot_before ps place spot r (omega arith) in omega arith

pub last_is_at : (ps : List (List Run)) (place : ℕ) (spot : Spot) → place ≤ character_count (pieces_of ps)
    → IsReached run_size Characters ps (place + 1) spot → IsAt ps spot.index spot.characters place
last_is_at ps place spot within r = record {
  counted = spot_counted ps (place + 1) spot r;
  up_to = spot_low ps place spot spot.index refl r;
  reached = elim (cases_lt spot.index (length ps)) [
    | inr past ↦ omega (arith, within, spot_past ps (place + 1) spot r past)
    | inl inside ↦ let h : place + 1 ≤ spot.characters + character_count (get_or ps spot.index []) = spot_reached ps (place + 1) spot r inside in omega arith
  ];
}

-- a place before the end lies in a piece
pub spot_inside : (ps : List (List Run)) (place : ℕ) (spot : Spot) → place < character_count (pieces_of ps)
    → IsReached run_size Characters ps (place + 1) spot → spot.index < length ps
spot_inside ps place spot less r = elim (cases_lt spot.index (length ps)) [
  | inr past ↦ absurd (let low : spot.characters ≤ place = spot_low ps place spot spot.index refl r in omega (arith, less, spot_past ps (place + 1) spot r past))
  | inl inside ↦ inside
]

-- ---- the formats before a place and behind it
pub formats_around : (ps : List (List Run)) (k : ℕ)
    → formats_of (pieces_of ps) ≡ formats_of (pieces_of (take k ps)) ++ (formats_of (get_or ps k []) ++ formats_of (pieces_of (drop (k + 1) ps)))
formats_around ps k =
    ap formats_of (all_around ps k) ∙ formats_append (pieces_of (take k ps)) (get_or ps k [] ++ pieces_of (drop (k + 1) ps))
    ∙ ap (λ l. formats_of (pieces_of (take k ps)) ++ l) (formats_append (get_or ps k []) (pieces_of (drop (k + 1) ps)))

pub taken : (ps : List (List Run)) (k a place : ℕ) → IsAt ps k a place
    → take place (formats_of (pieces_of ps)) ≡ formats_of (pieces_of (take k ps)) ++ take (place - a) (formats_of (get_or ps k []))
taken ps k a place at =
    let before : List Format = formats_of (pieces_of (take k ps)) in
    let own : List Format = formats_of (get_or ps k []) in
    let rest : List Format = formats_of (pieces_of (drop (k + 1) ps)) in
    let size : length before ≡ a = length_formats (pieces_of (take k ps)) ∙ sym at.counted in
    let long : length own ≡ character_count (get_or ps k []) = length_formats (get_or ps k []) in
    let sum : place ≡ length before + (place - a) = omega (arith, at.up_to) in
    ap (λ l. take place l) (formats_around ps k) ∙ ap (λ n. take n (before ++ (own ++ rest))) sum
    ∙ take-append-add before (own ++ rest) (place - a)
    ∙ ap (λ l. before ++ l) (take-append-le (place - a) own rest (omega (arith, at.reached)))

pub dropped : (ps : List (List Run)) (k a place : ℕ) → IsAt ps k a place
    → drop place (formats_of (pieces_of ps)) ≡ drop (place - a) (formats_of (get_or ps k [])) ++ formats_of (pieces_of (drop (k + 1) ps))
dropped ps k a place at =
    let before : List Format = formats_of (pieces_of (take k ps)) in
    let own : List Format = formats_of (get_or ps k []) in
    let rest : List Format = formats_of (pieces_of (drop (k + 1) ps)) in
    let size : length before ≡ a = length_formats (pieces_of (take k ps)) ∙ sym at.counted in
    let long : length own ≡ character_count (get_or ps k []) = length_formats (get_or ps k []) in
    let sum : place ≡ length before + (place - a) = omega (arith, at.up_to) in
    ap (λ l. drop place l) (formats_around ps k) ∙ ap (λ n. drop n (before ++ (own ++ rest))) sum
    ∙ drop-append-add before (own ++ rest) (place - a)
    ∙ drop-append-le (place - a) own rest (omega (arith, at.reached))

-- ---- a window
-- what is made for a window from one place to another, in place of the pieces from one index to another
pub record IsMade (ps : List (List Run)) (from to first start last until : ℕ) (rows : List Format) (fresh : List Run) : Type 0 where
  pub maximal : AreMaximal (pieces_of ps)
  pub at_first : IsAt ps first start from
  pub at_last : IsAt ps last until to
  pub order : from ≤ to
  pub inside : first ≤ length ps
  pub begun : 0 < first → start < from
  pub unended : last < length ps → to < until + character_count (get_or ps last [])
  pub made : AreMaximal fresh
  pub spelt : formats_of fresh ≡ take (from - start) (formats_of (get_or ps first [])) ++ (rows ++ drop (to - until) (formats_of (get_or ps last [])))

module _ (ps : List (List Run)) (from to first start last until : ℕ) (rows : List Format) (fresh : List Run) (m : IsMade ps from to first start last until rows fresh) where
  abbrev before : List Run
  before = pieces_of (take first ps)

  abbrev after : List Run
  after = pieces_of (drop (last + 1) ps)

  abbrev head : List Format
  head = take (from - start) (formats_of (get_or ps first []))

  abbrev tail : List Format
  tail = drop (to - until) (formats_of (get_or ps last []))

  pub window_formats : formats_of (pieces_of (take first ps) ++ (fresh ++ pieces_of (drop (last + 1) ps)))
      ≡ take from (formats_of (pieces_of ps)) ++ (rows ++ drop to (formats_of (pieces_of ps)))
  window_formats =
      let behind : List Format = tail ++ formats_of after in
      formats_append before (fresh ++ after)
      ∙ ap (λ l. formats_of before ++ l) (formats_append fresh after ∙ ap (λ l. l ++ formats_of after) m.spelt
      ∙ append_assoc head (rows ++ tail) (formats_of after) ∙ ap (λ l. head ++ l) (append_assoc rows tail (formats_of after)))
      ∙ sym (append_assoc (formats_of before) head (rows ++ behind))
      ∙ ap (λ l. l ++ (rows ++ behind)) (sym (taken ps first start from m.at_first))
      ∙ ap (λ l. take from (formats_of (pieces_of ps)) ++ (rows ++ l)) (sym (dropped ps last until to m.at_last))

  abbrev first_rest : List Run
  first_rest = get_or ps first [] ++ pieces_of (drop (first + 1) ps)

  whole_first : AreMaximal (before ++ first_rest)
  whole_first = subst AreMaximal (all_around ps first) m.maximal

  whole_last : AreMaximal ((pieces_of (take last ps) ++ get_or ps last []) ++ after)
  whole_last =
      subst AreMaximal (all_around ps last ∙ sym (append_assoc (pieces_of (take last ps)) (get_or ps last []) after)) m.maximal

  after_maximal : AreMaximal after
  after_maximal = maximal_back (pieces_of (take last ps) ++ get_or ps last []) after whole_last

  apart_after : AreApart (formats_of fresh) (formats_of after)
  apart_after = elim (cases_lt last (length ps)) [
    | inr past ↦
        subst (λ (l : List Format). AreApart (formats_of fresh) l) (sym (ap (λ l. formats_of (pieces_of l)) (drop_all (last + 1) ps (omega arith))))
        (apart_none (formats_of fresh))
    | inl inside ↦
        let own : List Format = formats_of (get_or ps last []) in
        let less : to < until + character_count (get_or ps last []) = m.unended inside in
        let long : length own ≡ character_count (get_or ps last []) = length_formats (get_or ps last []) in
        let was : AreApart (formats_of (pieces_of (take last ps)) ++ own) (formats_of after) =
        subst (λ (l : List Format). AreApart l (formats_of after)) (formats_append (pieces_of (take last ps)) (get_or ps last []))
        (apart_parts (pieces_of (take last ps) ++ get_or ps last []) after whole_last) in
        let here : AreApart tail (formats_of after) =
        apart_drop (to - until) own (formats_of after) (omega (arith, m.at_last.up_to)) (apart_back (formats_of (pieces_of (take last ps))) own (formats_of after) was) in
        subst (λ (l : List Format). AreApart l (formats_of after)) (append_assoc head rows tail ∙ sym m.spelt)
        (apart_behind (head ++ rows) tail (formats_of after) (omega (arith, m.at_last.up_to, length-drop (to - until) own)) here)
  ]

  behind_maximal : AreMaximal (fresh ++ after)
  behind_maximal = maximal_joined fresh after m.made after_maximal apart_after

  apart_before : (k : ℕ) → k ≡ first → AreApart (formats_of before) (formats_of (fresh ++ after))
  apart_before zero e =
      subst (λ (n : ℕ). AreApart (formats_of (pieces_of (take n ps))) (formats_of (fresh ++ after))) e (apart_from_none (formats_of (fresh ++ after)))
  apart_before (suc k) e =
      let own : List Format = formats_of (get_or ps first []) in
      let rest : List Format = formats_of (pieces_of (drop (first + 1) ps)) in
      let less : start < from = m.begun (omega arith) in
      let long : length own ≡ character_count (get_or ps first []) = length_formats (get_or ps first []) in
      let all : formats_of first_rest ≡ own ++ rest = formats_append (get_or ps first []) (pieces_of (drop (first + 1) ps)) in
      let short : from - start ≤ length own = omega (arith, m.at_first.reached) in
      let some : 0 < length head = omega (arith, length-take-le (from - start) own short) in
      let same : take (from - start) (formats_of first_rest) ≡ head = ap (λ l. take (from - start) l) all ∙ take-append-le (from - start) own rest short in
      let here : AreApart (formats_of before) head =
      subst (λ (l : List Format). AreApart (formats_of before) l) same
      (apart_take (formats_of before) (formats_of first_rest) (from - start) (omega arith) (apart_parts before first_rest whole_first)) in
      let whole : head ++ ((rows ++ tail) ++ formats_of after) ≡ formats_of (fresh ++ after) =
      sym (formats_append fresh after ∙ ap (λ l. l ++ formats_of after) m.spelt ∙ append_assoc head (rows ++ tail) (formats_of after)) in
      subst (λ (l : List Format). AreApart (formats_of before) l) whole (apart_longer (formats_of before) head ((rows ++ tail) ++ formats_of after) some here)

  pub window_maximal : AreMaximal (pieces_of (take first ps) ++ (fresh ++ pieces_of (drop (last + 1) ps)))
  window_maximal = maximal_joined before (fresh ++ after) (maximal_front before first_rest whole_first) behind_maximal (apart_before first refl)

  -- the window ends behind the piece before that in which it begins
  pub window_order : first ≤ last + 1
  window_order = elim (cases_lt (last + 1) first) [
    | inr le ↦ le
    | inl past ↦ absurd (
        let less : to < until + character_count (get_or ps last []) = m.unended (omega (arith, m.inside)) in
        omega (
          arith,
          m.order,
          m.at_first.counted,
          m.at_first.up_to,
          m.at_last.counted,
          count_more ps last (omega (arith, m.inside)),
          count_rises ps (last + 1) first (omega arith),
        ))
  ]

  pub window_count : to ≤ character_count (pieces_of ps)
      → character_count (pieces_of (take first ps) ++ (fresh ++ pieces_of (drop (last + 1) ps))) + to ≡ from + length rows + character_count (pieces_of ps)
  window_count within =
      let all : List Format = formats_of (pieces_of ps) in
      let size : length all ≡ character_count (pieces_of ps) = length_formats (pieces_of ps) in
      let taking : length (take from all) ≡ from = length-take-le from all (omega (arith, m.order)) in
      omega (
        arith,
        size,
        taking,
        length-drop to all,
        sym (length_formats (pieces_of (take first ps) ++ (fresh ++ pieces_of (drop (last + 1) ps)))) ∙ ap length window_formats
            ∙ length-append (take from all) (rows ++ drop to all) ∙ ap (λ n. length (take from all) + n) (length-append rows (drop to all)),
      )

-- what the calls before it make for a window
pub window_made : (ps : List (List Run)) (from to : ℕ) (first last : Spot) (rows : List Format) (front back head joined behind whole : List Run)
    → AreMaximal (pieces_of ps) → from ≤ to → to ≤ character_count (pieces_of ps)
    → IsReached run_size Characters ps from first → IsReached run_size Characters ps (to + 1) last
    → front ≡ get_or ps first.index [] → back ≡ get_or ps last.index []
    → formats_of head ≡ slice_range (formats_of front) 0 (from - first.characters)
    → formats_of joined ≡ formats_of head ++ rows
    → formats_of behind ≡ slice_range (formats_of back) (to - last.characters) (character_count (pieces_of ps))
    → formats_of whole ≡ formats_of joined ++ formats_of behind
    → AreMaximal whole
    → IsMade ps from to first.index first.characters last.index last.characters rows whole
window_made ps from to first last rows front back head joined behind whole m order within r s in_front in_back h j b w made = record {
  maximal = m;
  at_first = first_is_at ps from first (omega arith) r;
  at_last = last_is_at ps to last within s;
  order = order;
  inside = r.within;
  begun = λ some. spot_before ps from first r some;
  unended = λ inside. let reached : to + 1 ≤ last.characters + character_count (get_or ps last.index []) = spot_reached ps (to + 1) last s inside in omega arith;
  made = made;
  spelt =
      let start : List Format = take (from - first.characters) (formats_of (get_or ps first.index [])) in
      let end : List Format = drop (to - last.characters) (formats_of (get_or ps last.index [])) in
      let own : List Format = formats_of (get_or ps last.index []) in
      let long : length own ≤ character_count (pieces_of ps) = omega (arith, length_formats (get_or ps last.index []), counted_around ps last.index) in
      let begins : formats_of head ≡ start =
      h ∙ ap (λ (l : List Run). slice_range (formats_of l) 0 (from - first.characters)) in_front ∙ slice_from_start (formats_of (get_or ps first.index [])) (from - first.characters) in
      let ends : formats_of behind ≡ end =
      b ∙ ap (λ (l : List Run). slice_range (formats_of l) (to - last.characters) (character_count (pieces_of ps))) in_back
      ∙ slice_to_end own (to - last.characters) (character_count (pieces_of ps)) long in
      w ∙ ap (λ l. l ++ formats_of behind) (j ∙ ap (λ l. l ++ rows) begins) ∙ append_assoc start rows (formats_of behind) ∙ ap (λ l. start ++ (rows ++ l)) ends;
}

-- characters within one piece
pub within_piece : (ps : List (List Run)) (k start place end : ℕ) (f : List Format) → start ≡ character_count (pieces_of (take k ps)) → start ≤ place
    → end ≤ start + character_count (get_or ps k []) → slice_range (formats_of (get_or ps k [])) (place - start) (end - start) ≡ f
    → slice_range (formats_of (pieces_of ps)) place end ≡ f
within_piece ps k start place end f counted low high e =
    let before : List Format = formats_of (pieces_of (take k ps)) in
    let own : List Format = formats_of (get_or ps k []) in
    let size : length before ≡ start = length_formats (pieces_of (take k ps)) ∙ sym counted in
    let long : length own ≡ character_count (get_or ps k []) = length_formats (get_or ps k []) in
    ap (λ l. slice_range l place end) (formats_around ps k)
    ∙ slice_within before own (formats_of (pieces_of (drop (k + 1) ps))) place end (omega arith) (omega arith)
    ∙ ap (λ n. slice_range own (place - n) (end - n)) size ∙ e

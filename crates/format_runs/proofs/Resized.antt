-- One run of a piece with another number of characters.
use Rattle.std.proofs.Common.{◌≡◌, ℕ, ◌+◌, ◌-◌, ◌<◌, ◌≤◌, inl, inr, List, [], ◌∷◌, ◌++◌, Some, All, length, take, drop, replicate, get_or, refl, sym, ap, subst, ◌∙◌, arith, length-append, append_assoc}
use Rattle.std.specs.List.{slice_get}
use Rattle.std.proofs.lemmas.Option.{get_or_from_slice_get, same_Some, slice_get-get_or}
use Rattle.std.proofs.lemmas.List.{append-nil, drop-append-le, drop-replicate, length-replicate, replicate-append-replicate, take-append-le, take-replicate}
use Rattle.std.proofs.lemmas.List.Elements.{All-cons}
use Rattle.std.proofs.lemmas.List.Sums.{sum_by-cons}
use Rattle.std.proofs.Math.Seq.{drop-append-add, take-append-add}
use Rattle.mark_anchors.specs.Formatting.{Format}
use Rattle.span_flatten.specs.declared.version.Row.{Row}
use Rattle.span_flatten.specs.Edges.{KeepEdges}
use Rattle.piece_tree.specs.Nodes.{AreShort, pieces_of}
use Rattle.format_runs.specs.Runs.{AreMaximal, AreRuns, HasWindow, Run, character_count, formats_in, formats_of, of_size, run_size, runs_in}
use Rattle.format_runs.proofs.Apart.{get_behind}
use Rattle.format_runs.proofs.Edges.{first_row, get_run, last_row}
use Rattle.format_runs.proofs.Formats.{count_append, formats_append, length_formats}
use Rattle.format_runs.proofs.Pieces.{all_around, piece_small}
use Rattle.format_runs.proofs.Putting.{put_counted, put_few, put_kept, put_pieces, put_rooted, put_short}
use Rattle.format_runs.proofs.Slices.{count_more, runs_around}

all_one : {X : Type 0} (P : X → Type 0) (x : X) → P x → All P (x ∷ [])
all_one P x p = All-cons P x [] p (λ k d less. absurd (omega arith))

-- a run stays apart from those beside it
maximal_sized : (xs : List Run) (r : Run) (ys : List Run) (n : ℕ) → 0 < n → AreMaximal (xs ++ r ∷ ys) → AreMaximal (xs ++ of_size r n ∷ ys)
maximal_sized [] r ys n some m = (some, m.1, m.2)
maximal_sized (x ∷ []) r ys n some m =
    (m.0, (λ next g same. m.1 r refl (same ∙ ap (λ (s : Run). s.format) (sym (same_Some (of_size r n) next g)))), maximal_sized [] r ys n some m.2)
maximal_sized (x ∷ w ∷ xs) r ys n some m = (m.0, m.1, maximal_sized (w ∷ xs) r ys n some m.2)

count_around : (xs : List Run) (r : Run) (ys : List Run) → character_count (xs ++ r ∷ ys) ≡ character_count xs + (r.characters + character_count ys)
count_around xs r ys =
    count_append xs (r ∷ ys) ∙ ap (λ n. character_count xs + n) (sum_by-cons (λ (run : Run). run.characters) r ys)

module _ (xs : List Run) (r : Run) (ys : List Run) where
  abbrev whole : List Format
  whole = formats_of (xs ++ r ∷ ys)

  abbrev before : List Format
  before = formats_of xs

  abbrev own : List Format
  own = replicate r.characters r.format

  abbrev behind : List Format
  behind = formats_of ys

  parts : whole ≡ before ++ (own ++ behind)
  parts = formats_append xs (r ∷ ys)

  run_taken : (place : ℕ) → character_count xs ≤ place → place ≤ character_count xs + r.characters
      → take place whole ≡ before ++ replicate (place - character_count xs) r.format
  run_taken place low high =
      let k : ℕ = place - character_count xs in
      let size : length before ≡ character_count xs = length_formats xs in
      let long : length own ≡ r.characters = length-replicate r.characters r.format in
      let sum : place ≡ length before + k = omega arith in
      ap (λ l. take place l) parts ∙ ap (λ n. take n (before ++ (own ++ behind))) sum ∙ take-append-add before (own ++ behind) k
      ∙ ap (λ l. before ++ l) (take-append-le k own behind (omega arith) ∙ take-replicate k r.characters r.format (omega arith))

  run_dropped : (place : ℕ) → character_count xs ≤ place → place ≤ character_count xs + r.characters
      → drop place whole ≡ replicate ((character_count xs + r.characters) - place) r.format ++ behind
  run_dropped place low high =
      let k : ℕ = place - character_count xs in
      let size : length before ≡ character_count xs = length_formats xs in
      let long : length own ≡ r.characters = length-replicate r.characters r.format in
      let sum : place ≡ length before + k = omega arith in
      let rest : r.characters - k ≡ (character_count xs + r.characters) - place = omega arith in
      ap (λ l. drop place l) parts ∙ ap (λ n. drop n (before ++ (own ++ behind))) sum ∙ drop-append-add before (own ++ behind) k
      ∙ drop-append-le k own behind (omega arith)
      ∙ ap (λ l. l ++ behind) (drop-replicate k r.characters r.format ∙ ap (λ n. replicate n r.format) rest)

  sized_formats : (from to count n : ℕ) → character_count xs ≤ from → from ≤ to → to ≤ character_count xs + r.characters
      → n ≡ (r.characters - (to - from)) + count
      → formats_of (xs ++ of_size r n ∷ ys) ≡ take from whole ++ (replicate count r.format ++ drop to whole)
  sized_formats from to count n low order high e =
      let f : Format = r.format in
      let a : ℕ = from - character_count xs in
      let b : ℕ = (character_count xs + r.characters) - to in
      let sum : n ≡ a + (count + b) = omega arith in
      let rest : List Format = replicate count f ++ (replicate b f ++ behind) in
      formats_append xs (of_size r n ∷ ys)
      ∙ ap (λ l. before ++ (l ++ behind))
      (ap (λ k. replicate k f) sum ∙ sym (replicate-append-replicate a (count + b) f) ∙ ap (λ l. replicate a f ++ l) (sym (replicate-append-replicate count b f)))
      ∙ ap (λ l. before ++ l)
      (append_assoc (replicate a f) (replicate count f ++ replicate b f) behind ∙ ap (λ l. replicate a f ++ l) (append_assoc (replicate count f) (replicate b f) behind))
      ∙ sym (append_assoc before (replicate a f) rest)
      ∙ ap (λ l. l ++ rest) (sym (run_taken from low (omega arith)))
      ∙ ap (λ l. take from whole ++ (replicate count f ++ l)) (sym (run_dropped to (omega arith) high))

  format_within : (place : ℕ) → character_count xs ≤ place → place < character_count xs + r.characters → slice_get whole place ≡ Some r.format
  format_within place low high =
      let j : ℕ = place - character_count xs in
      let at : place ≡ length before + j = omega (arith, length_formats xs) in
      ap (λ l. slice_get l place) parts ∙ ap (slice_get (before ++ (own ++ behind))) at ∙ get_behind before (own ++ behind) j
      ∙ get_run r.format r.characters behind j (omega arith)

-- the run of an index in a piece
pub run_in : (ps : List (List Run)) (k j : ℕ) (p own : List Run) (r : Run) → slice_get ps k ≡ Some p → own ≡ p → j < length (get_or ps k []) → r ≡ get_or own j r
    → slice_get (get_or ps k []) j ≡ Some r
run_in ps k j p own r g h less is =
    let same : get_or ps k [] ≡ own = get_or_from_slice_get ps k p [] g ∙ sym h in
    ap (λ l. slice_get l j) same ∙ slice_get-get_or own j r (omega (arith, ap length same)) ∙ ap (λ (s : Run). Some s) (sym is)

-- what is known of pieces with one in place of another, whose run has another number of characters
pub record IsResized (ps made : List (List Run)) (k from to count : ℕ) (r : Run) : Type 0 where
  pub few : k + length made + (length ps - (k + 1)) ≤ 2097152
  pub short : AreShort run_size (take k ps ++ (made ++ drop (k + 1) ps))
  pub kept : AreRuns (take k ps ++ (made ++ drop (k + 1) ps))
  pub rooted : k + length made + (length ps - (k + 1)) ≤ length (pieces_of ps) + 48
  pub counted : length (pieces_of (take k ps ++ (made ++ drop (k + 1) ps))) ≤ length (pieces_of ps) + 48
  pub formats : formats_of (pieces_of (take k ps ++ (made ++ drop (k + 1) ps)))
      ≡ take from (formats_of (pieces_of ps)) ++ (replicate count r.format ++ drop to (formats_of (pieces_of ps)))

module _ (ps : List (List Run)) (k start j from to : ℕ) (w : HasWindow ps k start j from to) (r : Run) (is : slice_get (get_or ps k []) j ≡ Some r) where
  abbrev piece : List Run
  piece = get_or ps k []

  abbrev front : List Run
  front = pieces_of (take k ps) ++ take j piece

  abbrev back : List Run
  back = drop (j + 1) piece ++ pieces_of (drop (k + 1) ps)

  run_is : r ≡ get_or piece j r
  run_is = sym (get_or_from_slice_get piece j r r is)

  around_run : pieces_of ps ≡ front ++ r ∷ back
  around_run =
      all_around ps k
      ∙ ap (λ l. pieces_of (take k ps) ++ (l ++ pieces_of (drop (k + 1) ps))) (runs_around piece j r w.has.within run_is)
      ∙ ap (λ l. pieces_of (take k ps) ++ l) (append_assoc (take j piece) (r ∷ drop (j + 1) piece) (pieces_of (drop (k + 1) ps)))
      ∙ sym (append_assoc (pieces_of (take k ps)) (take j piece) (r ∷ back))

  begun : character_count front ≤ from
  begun = omega (arith, w.up_to, w.counted, w.has.begun, count_append (pieces_of (take k ps)) (take j piece))

  unended : to ≤ character_count front + r.characters
  unended =
      omega (
        arith,
        w.some,
        w.up_to,
        w.counted,
        w.has.unended,
        count_append (pieces_of (take k ps)) (take j piece),
        count_more piece j r w.has.within run_is,
      )

  -- no more characters are taken than the run has
  pub window_fits : to - from ≤ r.characters
  window_fits = omega (arith, begun, unended, w.some)

  pub run_short : r.characters ≤ character_count (pieces_of ps)
  run_short = omega (arith, ap character_count around_run, count_around front r back)

  -- the window's characters have the run's format
  pub window_format : (place : ℕ) → from ≤ place → place < to → slice_get (formats_of (pieces_of ps)) place ≡ Some r.format
  window_format place low high =
      ap (λ (l : List Run). slice_get (formats_of l) place) around_run
      ∙ format_within front r back place (omega (arith, begun)) (omega (arith, unended))

  module _ (count n : ℕ) (e : n ≡ (r.characters - (to - from)) + count) (some : 0 < count) (kept : AreRuns ps)
      (short : character_count (pieces_of ps) + count ≤ 2097152) where
    abbrev sized : List Run
    sized = take j piece ++ of_size r n ∷ drop (j + 1) piece

    put_run : pieces_of (take k ps) ++ (sized ++ pieces_of (drop (k + 1) ps)) ≡ front ++ of_size r n ∷ back
    put_run =
        ap (λ l. pieces_of (take k ps) ++ l) (append_assoc (take j piece) (of_size r n ∷ drop (j + 1) piece) (pieces_of (drop (k + 1) ps)))
        ∙ sym (append_assoc (pieces_of (take k ps)) (take j piece) (of_size r n ∷ back))

    sized_maximal : AreMaximal (pieces_of (take k ps) ++ (sized ++ pieces_of (drop (k + 1) ps)))
    sized_maximal =
        subst AreMaximal (sym put_run) (maximal_sized front r back n (omega (arith, e, some)) (subst AreMaximal around_run kept.maximal))

    sized_short : character_count (pieces_of (take k ps) ++ (sized ++ pieces_of (drop (k + 1) ps))) ≤ 2097152
    sized_short =
        omega (
          arith,
          e,
          short,
          window_fits,
          ap character_count around_run,
          count_around front r back,
          ap character_count put_run,
          count_around front (of_size r n) back,
        )

    pub sized_length : length sized ≡ length piece
    sized_length =
        length-append (take j piece) (of_size r n ∷ drop (j + 1) piece) ∙ sym (length-append (take j piece) (r ∷ drop (j + 1) piece))
        ∙ ap length (sym (runs_around piece j r w.has.within run_is))

    pub sized_small : length sized ≤ 48
    sized_small = omega (arith, sized_length, piece_small ps k kept.small)

    pub sized_few : character_count sized ≤ 2097152
    sized_few =
        omega (
          arith,
          sized_short,
          count_append (pieces_of (take k ps)) (sized ++ pieces_of (drop (k + 1) ps)),
          count_append sized (pieces_of (drop (k + 1) ps)),
        )

    pub resized_made : (made : List (List Run)) → made ≡ sized ∷ [] → IsResized ps made k from to count r
    resized_made made one =
        let flat : pieces_of made ≡ sized = ap pieces_of one ∙ append-nil sized in
        let within : k + 1 ≤ length ps = omega (arith, w.inside) in
        let fresh : All (λ (p : List Run). 0 < length p) made =
        subst (λ (l : List (List Run)). All (λ (p : List Run). 0 < length p) l) (sym one) (all_one (λ (p : List Run). 0 < length p) sized (omega (arith, sized_length, w.has.within))) in
        let small : All (λ (p : List Run). length p ≤ 48) made =
        subst (λ (l : List (List Run)). All (λ (p : List Run). length p ≤ 48) l) (sym one) (all_one (λ (p : List Run). length p ≤ 48) sized sized_small) in
        record {
          few = put_few ps made k (k + 1) sized (omega arith) within kept.filled fresh flat kept.small small sized_maximal sized_short;
          short = put_short ps made k (k + 1) sized (omega arith) within kept.filled fresh flat kept.small small sized_maximal sized_short;
          kept = put_kept ps made k (k + 1) sized (omega arith) within kept.filled fresh flat kept.small small sized_maximal sized_short;
          rooted =
              omega (
                arith,
                sized_small,
                put_rooted ps made k (k + 1) sized (omega arith) within kept.filled fresh flat kept.small small sized_maximal sized_short,
              );
          counted =
              omega (
                arith,
                sized_small,
                ap length (put_pieces ps made k (k + 1) sized (omega arith) within kept.filled fresh flat kept.small small sized_maximal sized_short),
                put_counted ps made k (k + 1) sized (omega arith) within kept.filled fresh flat kept.small small sized_maximal sized_short,
              );
          formats =
              ap formats_of (put_pieces ps made k (k + 1) sized (omega arith) within kept.filled fresh flat kept.small small sized_maximal sized_short ∙ put_run)
              ∙ sized_formats front r back from to count n begun (omega (arith, w.some)) unended e
              ∙ ap (λ (l : List Run). take from (formats_of l) ++ (replicate count r.format ++ drop to (formats_of l))) (sym around_run);
        }

-- ---- the row that is put
pub one_row : (rows : List Row) (row : Row) → length rows ≡ 1 → row ≡ get_or rows 0 row → rows ≡ row ∷ []
one_row [] row e is = absurd (omega arith)
one_row (x ∷ []) row e is = ap (λ (y : Row). y ∷ []) (sym is)
one_row (x ∷ y ∷ rows) row e is = absurd (omega arith)

pub formats_one : (row : Row) → formats_in (row ∷ []) ≡ replicate row.characters row.format
formats_one row = append-nil (replicate row.characters row.format)

-- it begins or ends with what stands there, so that it has the run's format
pub row_format : (ps : List (List Run)) (k start j from to : ℕ) (w : HasWindow ps k start j from to) (r : Run) → slice_get (get_or ps k []) j ≡ Some r
    → (rows : List Row) (row : Row) → rows ≡ row ∷ [] → AreMaximal (runs_in rows) → KeepEdges (formats_of (pieces_of ps)) from to (formats_in rows) → r.format ≡ row.format
row_format ps k start j from to w r is rows row one maximal keep = elim w.others [
  | inl front ↦
      let known = keep.front front in
      same_Some r.format known.1.0 (sym (window_format ps k start j from to w r is from (omega arith) w.some) ∙ known.1.1)
      ∙ first_row rows [] row known.1.0 maximal one known.1.2
  | inr back ↦
      let known = keep.back (omega (arith, back, length_formats (pieces_of ps))) in
      same_Some r.format known.1.0 (sym (window_format ps k start j from to w r is (to - 1) (omega (arith, w.some)) (omega (arith, w.some))) ∙ known.1.1)
      ∙ last_row rows [] row known.1.0 maximal one known.1.2
]

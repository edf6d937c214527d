-- Where a window begins and ends: inside a run or between two.
use Rattle.std.proofs.Common.{◌≡◌, ℕ, zero, suc, ◌+◌, ◌-◌, ◌<◌, ◌≤◌, List, [], ◌∷◌, ◌++◌, Some, length, take, drop, replicate, get_or, refl, sym, ap, subst, ◌∙◌, arith, length-append, append_assoc}
use Rattle.std.specs.List.{slice_get, slice_range}
use Rattle.std.proofs.lemmas.Option.{get_or_from_slice_get, same_Some, slice_get_within}
use Rattle.std.proofs.lemmas.List.{drop_all, drop-append-le, length-drop, length-take, length-take-le, map-append, take_all, take-append-drop, take-append-le}
use Rattle.mark_anchors.specs.Formatting.{Format}
use Rattle.span_flatten.specs.declared.version.Row.{Row}
use Rattle.span_flatten.specs.Edges.{KeepEdges}
use Rattle.piece_tree.specs.Nodes.{pieces_of}
use Rattle.format_runs.specs.Runs.{AreAlike, AreApart, AreMaximal, IsBetween, IsInside, IsLast, Run, character_count, formats_in, formats_of, runs_in}
use Rattle.format_runs.proofs.Formats.{count_append, formats_append, formats_rows, length_formats}
use Rattle.format_runs.proofs.Apart.{apart_back, apart_parts, get_behind, head_at, last_format, maximal_back}
use Rattle.format_runs.proofs.Pieces.{all_around}
use Rattle.format_runs.proofs.Slices.{runs_around}
use Rattle.format_runs.proofs.Windows.{IsAt, dropped, formats_around, taken}

-- ---- formats by their places
get_front : (xs ys : List Format) (j : ℕ) → j < length xs → slice_get (xs ++ ys) j ≡ slice_get xs j
get_front [] ys j less = absurd (omega arith)
get_front (x ∷ xs) ys zero less = refl
get_front (x ∷ xs) ys (suc j) less = get_front xs ys j (omega arith)

pub get_run : (f : Format) (n : ℕ) (rest : List Format) (j : ℕ) → j < n → slice_get (replicate n f ++ rest) j ≡ Some f
get_run f zero rest j less = absurd (omega arith)
get_run f (suc n) rest zero less = refl
get_run f (suc n) rest (suc j) less = get_run f n rest j (omega arith)

get_take : (xs : List Format) (n j : ℕ) → j < n → n ≤ length xs → slice_get (take n xs) j ≡ slice_get xs j
get_take xs n j less le =
    let size : length (take n xs) ≡ n = length-take-le n xs le in
    sym (ap (λ l. slice_get l j) (sym (take-append-drop n xs)) ∙ get_front (take n xs) (drop n xs) j (omega arith))

get_drop : (xs : List Format) (n : ℕ) → n ≤ length xs → slice_get (drop n xs) 0 ≡ slice_get xs n
get_drop xs n le =
    let size : length (take n xs) ≡ n = length-take-le n xs le in
    let at : n ≡ length (take n xs) + 0 = omega arith in
    sym (ap (λ l. slice_get l n) (sym (take-append-drop n xs)) ∙ ap (slice_get (take n xs ++ drop n xs)) at ∙ get_behind (take n xs) (drop n xs) 0)

get_one : (xs : List Format) (place : ℕ) (f : Format) → place < length xs → slice_range xs place (place + 1) ≡ replicate 1 f → slice_get xs place ≡ Some f
get_one xs place f less e =
    let n : (place + 1) - place ≡ 1 = omega arith in
    sym (get_drop xs place (omega arith)) ∙ sym (get_take (drop place xs) 1 0 (omega arith) (omega (arith, length-drop place xs)))
    ∙ ap (λ l. slice_get l 0) (sym (ap (λ k. take k (drop place xs)) n) ∙ e)

-- ---- rows
pub first_row : (rows others : List Row) (row : Row) (f : Format) → AreMaximal (runs_in rows) → rows ≡ row ∷ others → slice_get (formats_in rows) 0 ≡ Some f → f ≡ row.format
first_row rows others row f m is e =
    let maximal : AreMaximal (runs_in (row ∷ others)) = subst (λ (l : List Row). AreMaximal (runs_in l)) is m in
    same_Some f row.format (sym e ∙ ap (λ l. slice_get (formats_in l) 0) is ∙ head_at row.format row.characters (formats_in others) maximal.0)

pub last_row : (rows others : List Row) (row : Row) (f : Format) → AreMaximal (runs_in rows) → rows ≡ others ++ row ∷ [] → IsLast (formats_in rows) f → f ≡ row.format
last_row rows others row f m is e =
    let run : Run = record { format = row.format; characters = row.characters } in
    let runs : runs_in rows ≡ runs_in others ++ run ∷ [] =
    ap runs_in is ∙ map-append (λ (r : Row). let s : Run = record { format = r.format; characters = r.characters } in s) others (row ∷ []) in
    let maximal : AreMaximal (runs_in others ++ run ∷ []) = subst AreMaximal runs m in
    sym (last_format (runs_in others) run f (maximal_back (runs_in others) (run ∷ []) maximal).0
    (subst (λ (l : List Format). IsLast l f) (sym (formats_rows rows) ∙ ap formats_of runs) e))

-- ---- inside a run and between two
-- the characters before a place inside a run and at it have its format
inside_alike : (runs : List Run) (place : ℕ) (r : IsInside runs place)
    → (slice_get (formats_of runs) (place - 1) ≡ Some r.run.format) × (slice_get (formats_of runs) place ≡ Some r.run.format)
inside_alike runs place r =
    let before : List Format = formats_of (take r.index runs) in
    let n : ℕ = r.run.characters in
    let rest : List Format = formats_of (drop (r.index + 1) runs) in
    let own : List Format = replicate n r.run.format ++ rest in
    let size : length before ≡ character_count (take r.index runs) = length_formats (take r.index runs) in
    let parts : formats_of runs ≡ before ++ own =
    ap formats_of (runs_around runs r.index r.run (slice_get_within runs r.index r.run r.is) (sym (get_or_from_slice_get runs r.index r.run r.run r.is)))
    ∙ formats_append (take r.index runs) (r.run ∷ drop (r.index + 1) runs) in
    let get : (j : ℕ) → length before ≤ j → j < length before + n → slice_get (formats_of runs) j ≡ Some r.run.format =
    λ j low high.
    let at : j ≡ length before + (j - length before) = omega arith in
    ap (λ l. slice_get l j) parts ∙ ap (slice_get (before ++ own)) at ∙ get_behind before own (j - length before) ∙ get_run r.run.format n rest (j - length before) (omega arith) in
    (get (place - 1) (omega (arith, r.begun, r.unended)) (omega (arith, r.begun, r.unended)), get place (omega (arith, r.begun)) (omega (arith, r.unended)))

-- the character at a place in a piece
get_at : (ps : List (List Run)) (k start place j : ℕ) → start ≡ character_count (pieces_of (take k ps)) → place ≡ start + j
    → j < length (formats_of (get_or ps k [])) → slice_get (formats_of (pieces_of ps)) place ≡ slice_get (formats_of (get_or ps k [])) j
get_at ps k start place j counted is less =
    let before : List Format = formats_of (pieces_of (take k ps)) in
    let own : List Format = formats_of (get_or ps k []) in
    let rest : List Format = formats_of (pieces_of (drop (k + 1) ps)) in
    let at : place ≡ length before + j = omega (arith, length_formats (pieces_of (take k ps)), counted, is) in
    ap (λ l. slice_get l place) (formats_around ps k) ∙ ap (slice_get (before ++ (own ++ rest))) at ∙ get_behind before (own ++ rest) j ∙ get_front own rest j less

pub get_one_at : (ps : List (List Run)) (k start place : ℕ) (f : Format) → IsAt ps k start place → (place - start) + 1 ≤ character_count (get_or ps k [])
    → slice_range (formats_of (get_or ps k [])) (place - start) ((place - start) + 1) ≡ replicate 1 f → slice_get (formats_of (pieces_of ps)) place ≡ Some f
get_one_at ps k start place f at within e =
    let own : List Format = formats_of (get_or ps k []) in
    let less : place - start < length own = omega (arith, within, length_formats (get_or ps k [])) in
    get_at ps k start place (place - start) at.counted (omega (arith, at.up_to)) less ∙ get_one own (place - start) f less e

-- formats are apart where a run begins
between_apart : (ps : List (List Run)) (k start place : ℕ) → AreMaximal (pieces_of ps) → IsAt ps k start place → IsBetween (get_or ps k []) (place - start)
    → AreApart (take place (formats_of (pieces_of ps))) (drop place (formats_of (pieces_of ps)))
between_apart ps k start place maximal at b =
    let before : List Run = pieces_of (take k ps) in
    let own : List Run = get_or ps k [] in
    let after : List Run = pieces_of (drop (k + 1) ps) in
    let j : ℕ = b.index in
    let first : List Run = before ++ take j own in
    let second : List Run = drop j own ++ after in
    let xs : List Format = formats_of first in
    let ys : List Format = formats_of second in
    let parts : pieces_of ps ≡ first ++ second =
    all_around ps k ∙ ap (λ l. before ++ (l ++ after)) (sym (take-append-drop j own)) ∙ ap (λ l. before ++ l) (append_assoc (take j own) (drop j own) after)
    ∙ sym (append_assoc before (take j own) second) in
    let size : length xs ≡ place = omega (arith, length_formats first, count_append before (take j own), b.starts, at.counted, at.up_to) in
    let formats : formats_of (pieces_of ps) ≡ xs ++ ys = ap formats_of parts ∙ formats_append first second in
    let takes : take place (formats_of (pieces_of ps)) ≡ xs =
    ap (λ l. take place l) formats ∙ take-append-le place xs ys (omega arith) ∙ take_all place xs (omega arith) in
    let drops : drop place (formats_of (pieces_of ps)) ≡ ys =
    ap (λ l. drop place l) formats ∙ drop-append-le place xs ys (omega arith) ∙ ap (λ l. l ++ ys) (drop_all place xs (omega arith)) in
    subst (λ (l : List Format). AreApart l (drop place (formats_of (pieces_of ps)))) (sym takes)
    (subst (λ (l : List Format). AreApart xs l) (sym drops) (apart_parts first second (subst AreMaximal parts maximal)))

-- ---- a window that keeps its edges
module _ (ps : List (List Run)) (from to : ℕ) (rows : List Format) (keep : KeepEdges (formats_of (pieces_of ps)) from to rows) (k start : ℕ) where
  abbrev all : List Format
  all = formats_of (pieces_of ps)

  abbrev own : List Format
  own = formats_of (get_or ps k [])

  -- where `from` cuts a run, the window goes on with its format
  pub front_alike : (head : List Format) → IsAt ps k start from → head ≡ take (from - start) own → IsInside (get_or ps k []) (from - start) → AreAlike head rows
  front_alike head at is inside =
      let p : ℕ = from - start in
      let f : Format = inside.run.format in
      let two = inside_alike (get_or ps k []) p inside in
      let some : 0 < p = omega (arith, inside.begun) in
      let less : p < length own = slice_get_within own p f two.1 in
      let here : slice_get all from ≡ slice_get own p = get_at ps k start from p at.counted (omega (arith, at.up_to)) less in
      let known = keep.front (omega arith) in
      let same : f ≡ known.1.0 = same_Some f known.1.0 (sym two.1 ∙ sym here ∙ known.1.1) in
      let size : length head ≡ p = ap length is ∙ length-take-le p own (omega arith) in
      let end : length head - 1 ≡ p - 1 = omega arith in
      record {
        format = f;
        last = ap (λ l. slice_get l (length head - 1)) is ∙ ap (slice_get (take p own)) end ∙ get_take own p (p - 1) (omega arith) (omega arith) ∙ two.0;
        first = known.1.2 ∙ ap (λ (g : Format). Some g) (sym same);
      }

  -- where a run begins at `from`, the one before it has another format than the window
  pub front_apart : (head : List Format) → AreMaximal (pieces_of ps) → IsAt ps k start from → head ≡ take (from - start) own
      → IsBetween (get_or ps k []) (from - start) → AreApart head rows
  front_apart head maximal at is between i x y last g h =
      let p : ℕ = from - start in
      let before : List Format = formats_of (pieces_of (take k ps)) in
      let split : AreApart (take from all) (drop from all) = between_apart ps k start from maximal at between in
      let here : AreApart (take p own) (drop from all) =
      apart_back before (take p own) (drop from all) (subst (λ (l : List Format). AreApart l (drop from all)) (taken ps k start from at) split) in
      let size : length head ≤ p = omega (arith, ap length is, length-take p own) in
      let known = keep.front (omega (arith, last)) in
      let less : from < length all = slice_get_within all from known.1.0 known.1.1 in
      let next : slice_get (drop from all) 0 ≡ Some y = get_drop all from (omega arith) ∙ known.1.1 ∙ sym known.1.2 ∙ h in
      here i x y (last ∙ ap length is) (ap (λ l. slice_get l i) (sym is) ∙ g) next

  -- where `to` cuts a run, what is left of it has the format that the window ends with
  pub back_alike : (head joined behind : List Format) → IsAt ps k start to → joined ≡ head ++ rows → behind ≡ drop (to - start) own
      → IsInside (get_or ps k []) (to - start) → AreAlike joined behind
  back_alike head joined behind at is rest inside =
      let q : ℕ = to - start in
      let f : Format = inside.run.format in
      let two = inside_alike (get_or ps k []) q inside in
      let some : 0 < q = omega (arith, inside.begun) in
      let less : q < length own = slice_get_within own q f two.1 in
      let here : slice_get all to ≡ slice_get own q = get_at ps k start to q at.counted (omega (arith, at.up_to)) less in
      let known = keep.back (slice_get_within all to f (here ∙ two.1)) in
      let before : slice_get all (to - 1) ≡ slice_get own (q - 1) = get_at ps k start (to - 1) (q - 1) at.counted (omega (arith, at.up_to)) (omega arith) in
      let same : f ≡ known.1.0 = same_Some f known.1.0 (sym two.0 ∙ sym before ∙ known.1.1) in
      let any : length rows - 1 < length rows = slice_get_within rows (length rows - 1) known.1.0 known.1.2 in
      let end : length joined - 1 ≡ length head + (length rows - 1) = omega (arith, ap length is, length-append head rows) in
      record {
        format = f;
        last = ap (λ l. slice_get l (length joined - 1)) is ∙ ap (slice_get (head ++ rows)) end ∙ get_behind head rows (length rows - 1) ∙ known.1.2
            ∙ ap (λ (g : Format). Some g) (sym same);
        first = ap (λ l. slice_get l 0) rest ∙ get_drop own q (omega arith) ∙ two.1;
      }

  -- where a run begins at `to`, it has another format than the window ends with
  pub back_apart : (head joined behind : List Format) → AreMaximal (pieces_of ps) → IsAt ps k start to → joined ≡ head ++ rows
      → behind ≡ drop (to - start) own → IsBetween (get_or ps k []) (to - start) → AreApart joined behind
  back_apart head joined behind maximal at is rest between i x y last g h =
      let q : ℕ = to - start in
      let after : List Format = formats_of (pieces_of (drop (k + 1) ps)) in
      let split : AreApart (take to all) (drop to all) = between_apart ps k start to maximal at between in
      let begins : slice_get (drop q own) 0 ≡ Some y = ap (λ l. slice_get l 0) (sym rest) ∙ h in
      let next : slice_get (drop to all) 0 ≡ Some y =
      ap (λ l. slice_get l 0) (dropped ps k start to at) ∙ get_front (drop q own) after 0 (slice_get_within (drop q own) 0 y begins) ∙ begins in
      let left : 0 < length (drop to all) = slice_get_within (drop to all) 0 y next in
      let less : to < length all = omega (arith, length-drop to all) in
      let known = keep.back less in
      let any : length rows - 1 < length rows = slice_get_within rows (length rows - 1) known.1.0 known.1.2 in
      let end : i ≡ length head + (length rows - 1) = omega (arith, last, ap length is, length-append head rows) in
      let ends : slice_get rows (length rows - 1) ≡ Some x =
      sym (get_behind head rows (length rows - 1)) ∙ ap (slice_get (head ++ rows)) (sym end) ∙ ap (λ l. slice_get l i) (sym is) ∙ g in
      let size : length (take to all) ≡ to = length-take-le to all (omega arith) in
      let ending : slice_get all (to - 1) ≡ Some x = known.1.1 ∙ sym known.1.2 ∙ ends in
      split (to - 1) x y (omega (arith, known.0)) (get_take all to (to - 1) (omega (arith, known.0)) (omega arith) ∙ ending) next

-- Pieces of a text, by their characters.
use Rattle.std.proofs.Common.{◌≡◌, ◌⊎◌, inl, inr, ℕ, zero, suc, ◌+◌, ◌-◌, ◌<◌, ◌≤◌, List, [], ◌∷◌, ◌++◌, Some, length, take, drop, get_or, refl, sym, ap, subst, ◌∙◌, arith, length-append, All, encode_utf8_all, sum_by}
use Rattle.std.specs.List.{slice_get, slice_range}
use Rattle.std.specs.Str.{chars}
use Rattle.std.proofs.lemmas.Grind.{flat_map-append}
use Rattle.std.proofs.lemmas.Option.{get_or_from_slice_get, same_Some, slice_get_within}
use Rattle.std.proofs.lemmas.List.{take-append-drop, take-append-le, drop-drop, drop-append-le, length-drop, length-take-le, drop_all}
use Rattle.std.proofs.lemmas.List.Elements.{All-head, All-tail}
use Rattle.std.proofs.lemmas.List.Sums.{sum_by-cons}
use Rattle.std.proofs.lemmas.Str.{chars-append, encodes-append, length-le-encodes, IsUtf8-append, IsUtf8-nil}
use Rattle.std.proofs.Math.Seq.{drop-append-add, drop-append_seam, drop-cons, take-add}
use Rattle.piece_tree.specs.declared.piece.Measure.TheVariants.{Parts, Characters}
use Rattle.piece_tree.specs.declared.spot.Spot.{Spot}
use Rattle.piece_tree.specs.Nodes.{AreShort, pieces_of}
use Rattle.piece_tree.specs.Spots.{IsReached}
use Rattle.piece_tree.proofs.Lists.{length_more}
use Rattle.text_pieces.proofs.Texts.{chars_none}
use Rattle.text_pieces.specs.Texts.{AreCharacters, IsExtract, IsPiece, extracted, text_size}

pub pieces_append : (ps qs : List (List ℕ)) → pieces_of (ps ++ qs) ≡ pieces_of ps ++ pieces_of qs
pieces_append ps qs = flat_map-append (λ (p : List ℕ). p) ps qs

-- ---- sizes
pub sum_characters : (ps : List (List ℕ)) → sum_by (text_size Characters) ps ≡ length (pieces_of ps)
sum_characters [] = refl
sum_characters (p ∷ ps) =
    sum_by-cons (text_size Characters) p ps ∙ ap (λ n. length p + n) (sum_characters ps) ∙ sym (length-append p (pieces_of ps))

pub sum_bytes : (ps : List (List ℕ)) → sum_by (text_size Parts) ps ≡ length (encode_utf8_all (pieces_of ps))
sum_bytes [] = refl
sum_bytes (p ∷ ps) =
    sum_by-cons (text_size Parts) p ps ∙ ap (λ n. length (encode_utf8_all p) + n) (sum_bytes ps)
    ∙ sym (ap length (encodes-append p (pieces_of ps)) ∙ length-append (encode_utf8_all p) (encode_utf8_all (pieces_of ps)))

pub pieces_short : (ps : List (List ℕ)) → length (encode_utf8_all (pieces_of ps)) ≤ 2097152 → AreShort text_size ps
pieces_short ps short = record {
  parts = omega (arith, sum_bytes ps);
  characters = omega (arith, sum_characters ps, length-le-encodes (pieces_of ps));
}

pub pieces_few : (ps : List (List ℕ)) → All IsPiece ps → length ps ≤ length (pieces_of ps)
pieces_few [] all = omega arith
pieces_few (p ∷ ps) all =
    let first : IsPiece p = All-head IsPiece p ps all in
    let rest = pieces_few ps (All-tail IsPiece p ps all) in
    omega (arith, first.some, length-append p (pieces_of ps))

pub pieces_spelt : (ps : List (List ℕ)) → All IsPiece ps → AreCharacters (pieces_of ps)
pieces_spelt [] all = ([], IsUtf8-nil, chars_none)
pieces_spelt (p ∷ ps) all =
    let first : AreCharacters p = (All-head IsPiece p ps all).spelt in
    let rest : AreCharacters (pieces_of ps) = pieces_spelt ps (All-tail IsPiece p ps all) in (
      first.0 ++ rest.0,
      IsUtf8-append first.0 rest.0 first.1 rest.1,
      chars-append first.0 rest.0 first.1 ∙ ap (λ l. l ++ chars rest.0) first.2 ∙ ap (λ l. p ++ l) rest.2,
    )

pub less_or_past : (i n : ℕ) → (i < n) ⊎ (n ≤ i)
less_or_past i zero = inr (omega arith)
less_or_past zero (suc n) = inl (omega arith)
less_or_past (suc i) (suc n) = elim (less_or_past i n) [ inl h ↦ inl (omega arith) | inr h ↦ inr (omega arith) ]

-- ---- the piece at a place
pub drop_at_get : {X : Type 0} (xs : List X) (k : ℕ) (x : X) → slice_get xs k ≡ Some x → drop k xs ≡ x ∷ drop (k + 1) xs
drop_at_get {X} xs k x is =
    let lt : k < length xs = slice_get_within xs k x is in
    let on : suc k ≡ k + 1 = omega arith in
    drop-cons xs k x lt ∙ ap (λ (y : X). y ∷ drop (suc k) xs) (get_or_from_slice_get xs k x x is) ∙ ap (λ (n : ℕ). x ∷ drop n xs) on

pub split_at : (ps : List (List ℕ)) (k : ℕ) (p : List ℕ) → slice_get ps k ≡ Some p → pieces_of (drop k ps) ≡ p ++ pieces_of (drop (k + 1) ps)
split_at ps k p is = ap (λ (l : List (List ℕ)). pieces_of l) (drop_at_get ps k p is)

slice_front : (xs ys : List ℕ) (i j : ℕ) → j ≤ length xs → slice_range xs i j ≡ slice_range (xs ++ ys) i j
slice_front xs ys i j le = elim (less_or_past i (length xs)) [
  | inl h ↦
      let fits : j - i ≤ length (drop i xs) = omega (arith, length-drop i xs) in
      sym (ap (take (j - i)) (drop-append-le i xs ys (omega arith)) ∙ take-append-le (j - i) (drop i xs) ys fits)
  | inr h ↦
      let none : j - i ≡ 0 = omega arith in
      ap (λ (n : ℕ). take n (drop i xs)) none ∙ sym (ap (λ (n : ℕ). take n (drop i (xs ++ ys))) none)
]

slice_size : (xs part : List ℕ) (i j : ℕ) → part ≡ slice_range xs i j → i ≤ j → j ≤ length xs → length part ≡ j - i
slice_size xs part i j cut order le = ap length cut ∙ length-take-le (j - i) (drop i xs) (omega (arith, length-drop i xs))

pub parted : (ps : List (List ℕ)) (k : ℕ) → pieces_of ps ≡ pieces_of (take k ps) ++ pieces_of (drop k ps)
parted ps k = ap (λ (l : List (List ℕ)). pieces_of l) (sym (take-append-drop k ps)) ∙ pieces_append (take k ps) (drop k ps)

pub drop_from : (ps : List (List ℕ)) (k start from : ℕ) → start ≡ length (pieces_of (take k ps)) → start ≤ from
    → drop from (pieces_of ps) ≡ drop (from - start) (pieces_of (drop k ps))
drop_from ps k start from e le =
    let on : from ≡ length (pieces_of (take k ps)) + (from - start) = omega arith in
    ap (λ (n : ℕ). drop n (pieces_of ps)) on ∙ ap (drop (length (pieces_of (take k ps)) + (from - start))) (parted ps k)
    ∙ drop-append-add (pieces_of (take k ps)) (pieces_of (drop k ps)) (from - start)

-- ---- an extract, taken piece by piece
-- of what stands from `before` on, so many characters are those up to `end` and the others
take_parted : (xs : List ℕ) (before left end : ℕ) → before ≤ end → end ≤ before + left
    → take left (drop before xs) ≡ slice_range xs before end ++ take (left - (end - before)) (drop end xs)
take_parted xs before left end order within =
    let size : ℕ = end - before in
    let on : left ≡ size + (left - size) = omega arith in
    let at : end ≡ before + size = omega arith in
    ap (λ (n : ℕ). take n (drop before xs)) on ∙ take-add size (left - size) (drop before xs)
    ∙ ap (λ (l : List ℕ). take size (drop before xs) ++ take (left - size) l) (drop-drop size before xs ∙ ap (λ (n : ℕ). drop n xs) (sym at))

pub record IsTaken (ps : List (List ℕ)) (index before left next_index next_before end : ℕ) (part : List ℕ) : Type 0 where
  pub parts : extracted ps index before left ≡ part ++ extracted ps next_index next_before (left - (end - before))
  pub rest : IsExtract ps next_index next_before (left - (end - before))
  pub size : length part ≡ end - before

pub taken_within : (ps : List (List ℕ)) (index before left end : ℕ) (piece part : List ℕ) → IsExtract ps index before left
    → slice_get ps index ≡ Some piece → before ≤ end → end < length piece → end ≤ before + left → part ≡ slice_range piece before end
    → IsTaken ps index before left index end end part
taken_within ps index before left end piece part e is order within most cut =
    let rest : List ℕ = pieces_of (drop (index + 1) ps) in
    let whole : pieces_of (drop index ps) ≡ piece ++ rest = split_at ps index piece is in
    let here : part ≡ slice_range (pieces_of (drop index ps)) before end = cut ∙ slice_front piece rest before end (omega arith) ∙ ap (λ (l : List ℕ). slice_range l before end) (sym whole) in
    record {
      parts = take_parted (pieces_of (drop index ps)) before left end order most ∙ ap (λ (l : List ℕ). l ++ take (left - (end - before)) (drop end (pieces_of (drop index ps)))) (sym here);
      rest = record {
        filled = e.filled;
        within = omega (arith, e.within);
        begins = λ next some at. subst (λ (l : List ℕ). end < length l) (same_Some piece next (sym is ∙ at)) within;
      };
      size = slice_size piece part before end cut order (omega arith);
    }

pub taken_all : (ps : List (List ℕ)) (index before left end : ℕ) (piece part : List ℕ) → IsExtract ps index before left
    → slice_get ps index ≡ Some piece → before ≤ end → end ≡ length piece → end ≤ before + left → part ≡ slice_range piece before end
    → IsTaken ps index before left (index + 1) 0 end part
taken_all ps index before left end piece part e is order whole_piece most cut =
    let rest : List ℕ = pieces_of (drop (index + 1) ps) in
    let whole : pieces_of (drop index ps) ≡ piece ++ rest = split_at ps index piece is in
    let here : part ≡ slice_range (pieces_of (drop index ps)) before end = cut ∙ slice_front piece rest before end (omega arith) ∙ ap (λ (l : List ℕ). slice_range l before end) (sym whole) in
    let past : drop end (pieces_of (drop index ps)) ≡ rest = ap (drop end) whole ∙ ap (λ (n : ℕ). drop n (piece ++ rest)) whole_piece ∙ drop-append_seam piece rest in
    let count : length (pieces_of (drop index ps)) ≡ length piece + length rest = ap length whole ∙ length-append piece rest in
    record {
      parts = take_parted (pieces_of (drop index ps)) before left end order most
          ∙ ap (λ (l : List ℕ). l ++ take (left - (end - before)) (drop end (pieces_of (drop index ps)))) (sym here)
          ∙ ap (λ (l : List ℕ). part ++ take (left - (end - before)) l) past;
      rest = record {
        filled = e.filled;
        within = omega (arith, e.within);
        begins = λ next some at. subst (λ (l : List ℕ). 0 < length l) (get_or_from_slice_get ps (index + 1) next next at) (e.filled (index + 1) next (slice_get_within ps (index + 1) next at)).some;
      };
      size = slice_size piece part before end cut order (omega arith);
    }

pub none_left : (ps : List (List ℕ)) (index before left : ℕ) → left ≡ 0 → extracted ps index before left ≡ []
none_left ps index before left e = ap (λ (n : ℕ). take n (drop before (pieces_of (drop index ps)))) e

-- what is left lies in a piece
pub some_piece : (ps : List (List ℕ)) (index before left : ℕ) → IsExtract ps index before left → 0 < left → index < length ps
some_piece ps index before left e some = elim (less_or_past index (length ps)) [
  | inl h ↦ h
  | inr h ↦
      let none : pieces_of (drop index ps) ≡ [] = ap (λ (l : List (List ℕ)). pieces_of l) (drop_all index ps h) in
      absurd (omega (arith, e.within, ap length none))
]

-- ---- a part of a text
low_start : (ps : List (List ℕ)) (from index start : ℕ) → start ≡ length (pieces_of (take index ps)) → (0 < index → start < from + 1) → start ≤ from
low_start ps from zero start is before = omega (arith, is)
low_start ps from (suc i) start is before = let h : start < from + 1 = before (omega arith) in omega arith

pub record IsPart (ps : List (List ℕ)) (from to : ℕ) (spot : Spot) : Type 0 where
  pub extract : IsExtract ps spot.index (from - spot.characters) (to - from)
  pub is : extracted ps spot.index (from - spot.characters) (to - from) ≡ slice_range (pieces_of ps) from to

pub part_at : (ps : List (List ℕ)) (from to : ℕ) (spot : Spot) → All IsPiece ps → IsReached text_size Characters ps (from + 1) spot
    → from ≤ to → to ≤ length (pieces_of ps) → IsPart ps from to spot
part_at ps from to spot filled r order within =
    let start : spot.characters ≡ length (pieces_of (take spot.index ps)) = r.characters ∙ sum_characters (take spot.index ps) in
    let low : spot.characters ≤ from = low_start ps from spot.index spot.characters start (λ some. let h = r.before some in omega (arith, sum_characters (take spot.index ps))) in
    let count : length (pieces_of ps) ≡ length (pieces_of (take spot.index ps)) + length (pieces_of (drop spot.index ps)) =
    ap length (parted ps spot.index) ∙ length-append (pieces_of (take spot.index ps)) (pieces_of (drop spot.index ps)) in
    record {
      extract = record {
        filled = filled;
        within = omega arith;
        begins = λ piece some is.
            let lt : spot.index < length ps = slice_get_within ps spot.index piece is in
            let ends : from + 1 ≤ sum_by (text_size Characters) (take (spot.index + 1) ps) = r.reached lt in
            let size : length (get_or ps spot.index []) ≡ length piece = ap length (get_or_from_slice_get ps spot.index piece [] is) in
            omega (arith, sum_characters (take (spot.index + 1) ps), length_more ps spot.index lt);
      };
      is = ap (take (to - from)) (sym (drop_from ps spot.index spot.characters from start low));
    }

-- ---- what stands behind a place
-- past a piece
pub drop_past : (ps : List (List ℕ)) (k n : ℕ) (p : List ℕ) → slice_get ps k ≡ Some p → length p ≤ n
    → drop n (pieces_of (drop k ps)) ≡ drop (n - length p) (pieces_of (drop (k + 1) ps))
drop_past ps k n p is le =
    let on : n ≡ length p + (n - length p) = omega arith in
    ap (drop n) (split_at ps k p is) ∙ ap (λ (i : ℕ). drop i (p ++ pieces_of (drop (k + 1) ps))) on ∙ drop-append-add p (pieces_of (drop (k + 1) ps)) (n - length p)

pub size_past : (ps : List (List ℕ)) (k : ℕ) (p : List ℕ) → slice_get ps k ≡ Some p → length (pieces_of (drop k ps)) ≡ length p + length (pieces_of (drop (k + 1) ps))
size_past ps k p is = ap length (split_at ps k p is) ∙ length-append p (pieces_of (drop (k + 1) ps))

-- a piece has a first character
pub has_first : (ps : List (List ℕ)) (k : ℕ) (p : List ℕ) → All IsPiece ps → slice_get ps k ≡ Some p → 0 < length p
has_first ps k p all is =
    subst (λ (l : List ℕ). 0 < length l) (get_or_from_slice_get ps k p p is) (all k p (slice_get_within ps k p is)).some

-- and few bytes
pub piece_few : (ps : List (List ℕ)) (k : ℕ) (p : List ℕ) → All IsPiece ps → slice_get ps k ≡ Some p → length (encode_utf8_all p) ≤ 256
piece_few ps k p all is =
    subst (λ (l : List ℕ). length (encode_utf8_all l) ≤ 256) (get_or_from_slice_get ps k p p is) (all k p (slice_get_within ps k p is)).few

-- an extract in two, of which the second begins at a place that lies so many characters behind where the first does
pub extract_parted : (xs ys : List ℕ) (before count left next : ℕ) → count ≤ left → drop next ys ≡ drop (before + count) xs
    → take left (drop before xs) ≡ take count (drop before xs) ++ take (left - count) (drop next ys)
extract_parted xs ys before count left next le same =
    let on : left ≡ count + (left - count) = omega arith in
    ap (λ (n : ℕ). take n (drop before xs)) on ∙ take-add count (left - count) (drop before xs)
    ∙ ap (λ (l : List ℕ). take count (drop before xs) ++ take (left - count) l) (drop-drop count before xs ∙ sym same)

pub rest_within : (xs ys : List ℕ) (before count left next : ℕ) → count ≤ left → before + left ≤ length xs → next ≤ length ys
    → drop next ys ≡ drop (before + count) xs → next + (left - count) ≤ length ys
rest_within xs ys before count left next le within inside same =
    omega (arith, ap length same, length-drop next ys, length-drop (before + count) xs)

-- A window in pieces of a text.
use Rattle.std.proofs.Common.{◌≡◌, inl, inr, ℕ, zero, suc, ◌+◌, ◌-◌, ◌*◌, ◌<◌, ◌≤◌, List, [], ◌∷◌, ◌++◌, length, take, drop, get_or, refl, sym, ap, ◌∙◌, arith, length-append, All, encode_utf8_all, sum_by}
use Rattle.std.proofs.lemmas.List.{append-nil, drop_all, nil_from_length, take_all}
use Rattle.std.proofs.lemmas.List.Elements.{All-append, All-drop, All-take}
use Rattle.std.proofs.lemmas.Str.{length-le-encodes}
use Rattle.std.proofs.Math.Seq.{take-add}
use Rattle.piece_tree.specs.declared.piece.Measure.TheVariants.{Characters}
use Rattle.piece_tree.specs.declared.spot.Spot.{Spot}
use Rattle.piece_tree.specs.Nodes.{AreShort, pieces_of}
use Rattle.piece_tree.specs.Spots.{IsReached}
use Rattle.piece_tree.proofs.Lists.{length_more}
use Rattle.piece_tree.proofs.Windows.{IsSpot, window_flat}
use Rattle.text_pieces.specs.Texts.{AreAllLarge, AreLarge, IsPiece, text_size}
use Rattle.text_pieces.proofs.Large.{large_around, large_few}
use Rattle.text_pieces.proofs.Pieces.{less_or_past, pieces_append, pieces_few, pieces_short, sum_characters}

low_start : (ps : List (List ℕ)) (place index start : ℕ) → start ≡ length (pieces_of (take index ps)) → (0 < index → start < place) → start ≤ place
low_start ps place zero start is before = omega (arith, is)
low_start ps place (suc i) start is before = let h : start < place = before (omega arith) in omega arith

-- the place lies in the piece of the spot
pub spot_is : (ps : List (List ℕ)) (place : ℕ) (spot : Spot) → IsReached text_size Characters ps place spot → 0 < length ps
    → place ≤ length (pieces_of ps) → IsSpot ps place spot.index spot.characters
spot_is ps place spot r some le =
    let start : spot.characters ≡ length (pieces_of (take spot.index ps)) = r.characters ∙ sum_characters (take spot.index ps) in
    let before : 0 < spot.index → spot.characters < place = λ more. let h = r.before more in omega (arith, sum_characters (take spot.index ps)) in
    let within : spot.index < length ps = elim (less_or_past spot.index (length ps)) [
      | inl h ↦ h
      | inr h ↦
          let whole : length (pieces_of (take spot.index ps)) ≡ length (pieces_of ps) = ap (λ (l : List (List ℕ)). length (pieces_of l)) (take_all spot.index ps h) in
          let low : spot.characters < place = before (omega arith) in
          absurd (omega arith)
    ] in
    let ends : place ≤ sum_by (text_size Characters) (take (spot.index + 1) ps) = r.reached within in
    record {
      within = within;
      start_is = start;
      up_to = low_start ps place spot.index spot.characters start before;
      before = before;
      reached = omega (arith, sum_characters (take (spot.index + 1) ps), length_more ps spot.index within);
    }

upto_rises : (ps : List (List ℕ)) (a b : ℕ) → a ≤ b → length (pieces_of (take a ps)) ≤ length (pieces_of (take b ps))
upto_rises ps a b le =
    let on : b ≡ a + (b - a) = omega arith in
    let parts : pieces_of (take b ps) ≡ pieces_of (take a ps) ++ pieces_of (take (b - a) (drop a ps)) =
    ap (λ (n : ℕ). pieces_of (take n ps)) on ∙ ap (λ (l : List (List ℕ)). pieces_of l) (take-add a (b - a) ps) ∙ pieces_append (take a ps) (take (b - a) (drop a ps)) in
    omega (arith, ap length parts, length-append (pieces_of (take a ps)) (pieces_of (take (b - a) (drop a ps))))

-- a later place lies in no earlier piece
pub spots_rise : (ps : List (List ℕ)) (from to i start j until : ℕ) → IsSpot ps from i start → IsSpot ps to j until → from ≤ to → i ≤ j
spots_rise ps from to i start j until a b le = elim (less_or_past j i) [
  | inl h ↦
      let low : start < from = a.before (omega arith) in
      absurd (omega (arith, a.start_is, b.reached, b.start_is, length_more ps j b.within, upto_rises ps (j + 1) i (omega arith)))
  | inr h ↦ h
]

-- the pieces of a text in place of those from `first` up to `end`
pub record IsPut (all : List (List ℕ)) (whole : List ℕ) : Type 0 where
  pub flat : pieces_of all ≡ whole
  pub filled : All IsPiece all
  pub large : AreLarge all
  pub few : length all ≤ 2097152
  pub short : AreShort text_size all
  pub narrow : 64 * length all ≤ length (encode_utf8_all whole) + 64

pub text_put : (ps made : List (List ℕ)) (text : List ℕ) (first end : ℕ) → All IsPiece ps → AreLarge ps → All IsPiece made → AreLarge made
    → (end < length ps → AreAllLarge made) → (0 < first → first < length ps) → pieces_of made ≡ text
    → length (encode_utf8_all (pieces_of (take first ps) ++ (text ++ pieces_of (drop end ps)))) ≤ 2097152
    → IsPut (take first ps ++ (made ++ drop end ps)) (pieces_of (take first ps) ++ (text ++ pieces_of (drop end ps)))
text_put ps made text first end filled large filled_made large_made all begins is short =
    let whole : List ℕ = pieces_of (take first ps) ++ (text ++ pieces_of (drop end ps)) in
    let every : All IsPiece (take first ps ++ (made ++ drop end ps)) =
    All-append IsPiece (take first ps) (made ++ drop end ps) (All-take IsPiece first ps filled) (All-append IsPiece made (drop end ps) filled_made (All-drop IsPiece end ps filled)) in
    let wide : AreLarge (take first ps ++ (made ++ drop end ps)) = large_around ps made first end large begins large_made all in
    let flat : pieces_of (take first ps ++ (made ++ drop end ps)) ≡ whole =
    pieces_append (take first ps) (made ++ drop end ps)
    ∙ ap (λ (l : List ℕ). pieces_of (take first ps) ++ l) (pieces_append made (drop end ps) ∙ ap (λ (l : List ℕ). l ++ pieces_of (drop end ps)) is) in
    let same : length (encode_utf8_all (pieces_of (take first ps ++ (made ++ drop end ps)))) ≡ length (encode_utf8_all whole) =
    ap (λ (l : List ℕ). length (encode_utf8_all l)) flat in
    record {
      flat = flat;
      filled = every;
      large = wide;
      few = omega (arith, pieces_few (take first ps ++ (made ++ drop end ps)) every, length-le-encodes (pieces_of (take first ps ++ (made ++ drop end ps))));
      short = pieces_short (take first ps ++ (made ++ drop end ps)) (omega arith);
      narrow = omega (arith, large_few (take first ps ++ (made ++ drop end ps)) wide);
    }

-- what a window touches, with what stands before and behind it
pub window_whole : (ps : List (List ℕ)) (touched text new : List ℕ) (from to i start j until end : ℕ)
    → IsSpot ps from i start → IsSpot ps to j until
    → touched ++ pieces_of (drop end ps) ≡ text ++ pieces_of (drop (j + 1) ps)
    → text ≡ take (from - start) (get_or ps i []) ++ (new ++ drop (to - until) (get_or ps j []))
    → pieces_of (take i ps) ++ (touched ++ pieces_of (drop end ps)) ≡ take from (pieces_of ps) ++ (new ++ drop to (pieces_of ps))
window_whole ps touched text new from to i start j until end a b is made =
    let front : List ℕ = take (from - start) (get_or ps i []) in
    let back : List ℕ = drop (to - until) (get_or ps j []) in
    let one : List (List ℕ) = text ∷ [] in
    let none : List ℕ = [] in
    let flat_one : pieces_of one ≡ front ++ (new ++ (back ++ none)) = append-nil text ∙ made ∙ ap (λ (l : List ℕ). front ++ (new ++ l)) (sym (append-nil back)) in
    ap (λ (l : List ℕ). pieces_of (take i ps) ++ l) is
    ∙ sym (pieces_append (take i ps) (one ++ drop (j + 1) ps))
    ∙ window_flat ps one new none from to i start j until (j + 1) a b flat_one refl

-- where there are no pieces
pub first_whole : (ps : List (List ℕ)) (new : List ℕ) (from to : ℕ) → length ps ≡ 0
    → pieces_of (take 0 ps) ++ (new ++ pieces_of (drop 0 ps)) ≡ take from (pieces_of ps) ++ (new ++ drop to (pieces_of ps))
first_whole ps new from to none =
    let nil : List ℕ = [] in
    let no_pieces : pieces_of ps ≡ nil = ap (λ (l : List (List ℕ)). pieces_of l) (nil_from_length ps none) in
    let no_front : take from (pieces_of ps) ≡ nil = ap (take from) no_pieces ∙ take_all from nil (omega arith) in
    let no_back : drop to (pieces_of ps) ≡ nil = ap (drop to) no_pieces ∙ drop_all to nil (omega arith) in
    ap (λ (l : List ℕ). new ++ l) (no_pieces ∙ sym no_back) ∙ ap (λ (l : List ℕ). l ++ (new ++ drop to (pieces_of ps))) (sym no_front)

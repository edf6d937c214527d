-- Runs in pieces.
use Rattle.std.proofs.Common.{◌≡◌, ℕ, zero, suc, ◌+◌, ◌-◌, ◌<◌, ◌≤◌, inl, inr, List, [], ◌∷◌, ◌++◌, Some, All, length, take, drop, get_or, refl, sym, ap, subst, ◌∙◌, arith, length-append, append_assoc, sum_by}
use Rattle.std.specs.List.{slice_get}
use Rattle.std.proofs.lemmas.Option.{get_or_from_slice_get, slice_get_within}
use Rattle.std.proofs.lemmas.Bool.{cases_lt}
use Rattle.std.proofs.lemmas.List.{append-nil, drop_all, drop_more, get_or_past, take-append-drop, take_all}
use Rattle.std.proofs.Math.Seq.{take-add}
use Rattle.std.proofs.lemmas.List.Elements.{All-get_or}
use Rattle.std.proofs.lemmas.List.Sums.{sum_by-cons}
use Rattle.piece_tree.specs.Nodes.{pieces_of}
use Rattle.piece_tree.specs.Spots.{IsReached}
use Rattle.piece_tree.specs.declared.piece.Measure.TheVariants.{Parts, Characters}
use Rattle.piece_tree.specs.declared.spot.Spot.{Spot}
use Rattle.piece_tree.proofs.Lists.{length_more, pieces_append, pieces_more}
use Rattle.format_runs.specs.Runs.{AreMaximal, Run, character_count, run_size}
use Rattle.format_runs.proofs.Formats.{count_append}
use Rattle.format_runs.proofs.Apart.{maximal_back, maximal_front}

pub sum_parts : (ps : List (List Run)) → sum_by (run_size Parts) ps ≡ length (pieces_of ps)
sum_parts [] = refl
sum_parts (p ∷ ps) = sum_by-cons (run_size Parts) p ps ∙ ap (λ n. length p + n) (sum_parts ps) ∙ sym (length-append p (pieces_of ps))

pub sum_characters : (ps : List (List Run)) → sum_by (run_size Characters) ps ≡ character_count (pieces_of ps)
sum_characters [] = refl
sum_characters (p ∷ ps) =
    sum_by-cons (run_size Characters) p ps ∙ ap (λ n. character_count p + n) (sum_characters ps) ∙ sym (count_append p (pieces_of ps))

-- the pieces around one of them
around : (ps : List (List Run)) (k : ℕ) → k < length ps → pieces_of ps ≡ pieces_of (take k ps) ++ (get_or ps k [] ++ pieces_of (drop (k + 1) ps))
around ps k lt =
    ap pieces_of (sym (take-append-drop k ps) ∙ ap (λ l. take k ps ++ l) (drop_more ps k [] lt))
    ∙ pieces_append (take k ps) (get_or ps k [] ∷ drop (k + 1) ps)

-- the pieces around any index
pub all_around : (ps : List (List Run)) (k : ℕ) → pieces_of ps ≡ pieces_of (take k ps) ++ (get_or ps k [] ++ pieces_of (drop (k + 1) ps))
all_around ps k = elim (cases_lt k (length ps)) [
  | inr past ↦
      let none : pieces_of (take k ps) ++ (get_or ps k [] ++ pieces_of (drop (k + 1) ps)) ≡ pieces_of ps ++ ([] ++ []) =
      ap (λ l. pieces_of l ++ (get_or ps k [] ++ pieces_of (drop (k + 1) ps))) (take_all k ps past)
      ∙ ap (λ l. pieces_of ps ++ (l ++ pieces_of (drop (k + 1) ps))) (get_or_past ps k [] past)
      ∙ ap (λ l. pieces_of ps ++ ([] ++ pieces_of l)) (drop_all (k + 1) ps (omega arith)) in
      sym (none ∙ append-nil (pieces_of ps))
  | inl inside ↦ around ps k inside
]

pub counted_around : (ps : List (List Run)) (k : ℕ)
    → character_count (pieces_of ps) ≡ character_count (pieces_of (take k ps)) + (character_count (get_or ps k []) + character_count (pieces_of (drop (k + 1) ps)))
counted_around ps k =
    ap character_count (all_around ps k) ∙ count_append (pieces_of (take k ps)) (get_or ps k [] ++ pieces_of (drop (k + 1) ps))
    ∙ ap (λ n. character_count (pieces_of (take k ps)) + n) (count_append (get_or ps k []) (pieces_of (drop (k + 1) ps)))

-- the characters of the first pieces
pub count_more : (ps : List (List Run)) (k : ℕ) → k < length ps
    → character_count (pieces_of (take (k + 1) ps)) ≡ character_count (pieces_of (take k ps)) + character_count (get_or ps k [])
count_more ps k lt = ap character_count (pieces_more ps k lt) ∙ count_append (pieces_of (take k ps)) (get_or ps k [])

pub count_rises : (ps : List (List Run)) (k n : ℕ) → k ≤ n → character_count (pieces_of (take k ps)) ≤ character_count (pieces_of (take n ps))
count_rises ps k n le =
    let parts : take n ps ≡ take k ps ++ take (n - k) (drop k ps) =
    let sum : n ≡ k + (n - k) = omega arith in
    ap (λ j. take j ps) sum ∙ take-add k (n - k) ps in
    let sums : character_count (pieces_of (take n ps)) ≡ character_count (pieces_of (take k ps)) + character_count (pieces_of (take (n - k) (drop k ps))) =
    ap (λ l. character_count (pieces_of l)) parts ∙ ap character_count (pieces_append (take k ps) (take (n - k) (drop k ps)))
    ∙ count_append (pieces_of (take k ps)) (pieces_of (take (n - k) (drop k ps))) in
    omega arith

pub piece_maximal : (ps : List (List Run)) (k : ℕ) → AreMaximal (pieces_of ps) → AreMaximal (get_or ps k [])
piece_maximal ps k m =
    maximal_front (get_or ps k []) (pieces_of (drop (k + 1) ps))
    (maximal_back (pieces_of (take k ps)) (get_or ps k [] ++ pieces_of (drop (k + 1) ps)) (subst AreMaximal (all_around ps k) m))

-- each piece has a run, so that there are at least as many of these
pub few_pieces : (ps : List (List Run)) → All (λ p. 0 < length p) ps → length ps ≤ length (pieces_of ps)
few_pieces [] filled = omega arith
few_pieces (p ∷ ps) filled =
    let first : 0 < length p = filled 0 p (omega arith) in
    let rest : length ps ≤ length (pieces_of ps) = few_pieces ps (λ k d less. filled (suc k) d (omega arith)) in
    omega (arith, length-append p (pieces_of ps))

-- no piece is longer than each of them may be, and none stands behind the last one
pub piece_small : (ps : List (List Run)) (k : ℕ) → All (λ p. length p ≤ 48) ps → length (get_or ps k []) ≤ 48
piece_small ps k small = elim (cases_lt k (length ps)) [
  | inr past ↦ omega (arith, ap length (get_or_past ps k [] past))
  | inl inside ↦ All-get_or (λ (p : List Run). length p ≤ 48) ps k [] inside small
]

-- pieces that are kept have no more runs than all
pub pieces_kept : (ps : List (List Run)) (from to : ℕ) → from ≤ to
    → length (pieces_of (take from ps)) + length (pieces_of (drop to ps)) ≤ length (pieces_of ps)
pieces_kept ps from to order =
    let sum : to ≡ from + (to - from) = omega arith in
    let parts : take to ps ≡ take from ps ++ take (to - from) (drop from ps) = ap (λ j. take j ps) sum ∙ take-add from (to - from) ps in
    let front : length (pieces_of (take to ps)) ≡ length (pieces_of (take from ps)) + length (pieces_of (take (to - from) (drop from ps))) =
    ap (λ l. length (pieces_of l)) parts ∙ ap length (pieces_append (take from ps) (take (to - from) (drop from ps)))
    ∙ length-append (pieces_of (take from ps)) (pieces_of (take (to - from) (drop from ps))) in
    let all : length (pieces_of ps) ≡ length (pieces_of (take to ps)) + length (pieces_of (drop to ps)) =
    ap (λ l. length (pieces_of l)) (sym (take-append-drop to ps)) ∙ ap length (pieces_append (take to ps) (drop to ps))
    ∙ length-append (pieces_of (take to ps)) (pieces_of (drop to ps)) in
    omega arith

-- the runs of a piece in front of those behind it
pub piece_and_rest : (ps : List (List Run)) (k : ℕ) (p : List Run) (old new : List Run) → slice_get ps k ≡ Some p → new ≡ old ++ p
    → new ++ pieces_of (drop (k + 1) ps) ≡ old ++ pieces_of (drop k ps)
piece_and_rest ps k p old new g e =
    let rest : List Run = pieces_of (drop (k + 1) ps) in
    ap (λ l. l ++ rest) e ∙ append_assoc old p rest ∙ ap (λ q. old ++ (q ++ rest)) (sym (get_or_from_slice_get ps k p [] g))
    ∙ ap (λ l. old ++ pieces_of l) (sym (drop_more ps k [] (slice_get_within ps k p g)))

-- ---- the run of an index
-- what is known of the spot of an index: the piece, and how many runs stand before it
pub record IsIn (ps : List (List Run)) (piece before index : ℕ) : Type 0 where
  pub inside : piece < length ps
  pub counted : before ≡ length (pieces_of (take piece ps))
  pub low : before ≤ index
  pub high : index < before + length (get_or ps piece [])

pub index_is_in : (ps : List (List Run)) (index : ℕ) (spot : Spot) → index < length (pieces_of ps)
    → IsReached run_size Parts ps (index + 1) spot → IsIn ps spot.index spot.parts index
index_is_in ps index spot less r = record {
  inside = inside spot.index refl;
  counted = counted;
  low = low spot.index refl;
  high =
      let within : index + 1 ≤ sum_by (run_size Parts) (take (spot.index + 1) ps) = r.reached (inside spot.index refl) in
      omega (arith, within, sum_parts (take (spot.index + 1) ps), length_more ps spot.index (inside spot.index refl), counted);
}
  where
    counted : spot.parts ≡ length (pieces_of (take spot.index ps))
    counted = r.parts ∙ sum_parts (take spot.index ps)

    low : (k : ℕ) → k ≡ spot.index → spot.parts ≤ index
    low zero e =
        let none : length (pieces_of (take spot.index ps)) ≡ 0 = ap (λ n. length (pieces_of (take n ps))) (sym e) in
        omega (arith, counted)
    low (suc k) e = let h : sum_by (run_size Parts) (take spot.index ps) < index + 1 = r.before (omega arith) in omega (arith, r.parts)

    inside : (k : ℕ) → k ≡ spot.index → spot.index < length ps
    inside k e = elim (cases_lt spot.index (length ps)) [
      | inl h ↦ h
      | inr past ↦ absurd (let all : length (pieces_of (take spot.index ps)) ≡ length (pieces_of ps) = ap (λ l. length (pieces_of l)) (take_all spot.index ps past) in omega (arith, low spot.index refl, counted, less))
    ]

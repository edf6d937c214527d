-- The run over a place, found in the piece that has it.
use Rattle.std.proofs.Common.{◌≡◌, ℕ, ◌+◌, ◌-◌, ◌<◌, ◌≤◌, inl, inr, List, [], ◌++◌, Some, length, take, drop, get_or, ap, ◌∙◌, arith, length-append}
use Rattle.std.specs.List.{slice_get}
use Rattle.std.proofs.lemmas.Bool.{cases_lt}
use Rattle.std.proofs.lemmas.List.{take_all, take-take}
use Rattle.std.proofs.lemmas.List.Sums.{sum_by-take-le}
use Rattle.piece_tree.specs.Nodes.{pieces_of}
use Rattle.piece_tree.proofs.Lists.{take_pieces}
use Rattle.format_runs.specs.Runs.{Run, IsOver, character_count, formats_of}
use Rattle.format_runs.proofs.Edges.{get_one_at}
use Rattle.format_runs.proofs.Formats.{count_append}
use Rattle.format_runs.proofs.Pieces.{all_around}
use Rattle.format_runs.proofs.Slices.{count_more, over_run}
use Rattle.format_runs.proofs.Windows.{IsAt}

-- all runs end at the end or before it
pub over_all : (runs : List Run) (place index : ℕ) → character_count runs ≤ place → index ≡ length runs → IsOver runs place index
over_all runs place index past is = record {
  within = omega arith;
  begun = omega (arith, ap character_count (take_all index runs (omega arith)));
  unended = λ less. absurd (omega arith);
}

-- a run is over each place before the end
pub over_inside : (runs : List Run) (place j : ℕ) → IsOver runs place j → place < character_count runs → j < length runs
over_inside runs place j over less = elim (cases_lt j (length runs)) [
  | inl h ↦ h
  | inr past ↦ absurd (omega (arith, over.begun, ap character_count (take_all j runs past)))
]

-- the run over a later place isn't an earlier one
pub over_rises : (runs : List Run) (p q i j : ℕ) → p ≤ q → IsOver runs p i → IsOver runs q j → i ≤ j
over_rises runs p q i j le a b = elim (cases_lt j i) [
  | inr h ↦ h
  | inl less ↦ absurd (
      let same : take (j + 1) (take i runs) ≡ take (j + 1) runs = take-take (j + 1) i runs (omega arith) in
      omega (
        arith,
        a.begun,
        b.unended (omega (arith, a.within)),
        ap character_count same,
        sum_by-take-le (λ (r : Run). r.characters) (take i runs) (j + 1),
      ))
]

pub over_piece : (ps : List (List Run)) (k before start place j : ℕ) → k < length ps → before ≡ length (pieces_of (take k ps)) → IsAt ps k start place
    → place < start + character_count (get_or ps k []) → IsOver (get_or ps k []) (place - start) j → IsOver (pieces_of ps) place (before + j)
over_piece ps k before start place j inside counted at less over = record {
  within = omega (arith, over.within, counted, size);
  begun = omega (arith, over.begun, at.counted, at.up_to, taken j over.within);
  unended = λ _. omega (arith, unended, at.counted, at.up_to, same, taken (j + 1) (omega (arith, more)));
}
  where
    own : List Run
    own = get_or ps k []

    size : length (pieces_of ps) ≡ length (pieces_of (take k ps)) + (length own + length (pieces_of (drop (k + 1) ps)))
    size =
        ap length (all_around ps k) ∙ length-append (pieces_of (take k ps)) (own ++ pieces_of (drop (k + 1) ps))
        ∙ ap (λ n. length (pieces_of (take k ps)) + n) (length-append own (pieces_of (drop (k + 1) ps)))

    taken : (i : ℕ) → i ≤ length own → character_count (take (before + i) (pieces_of ps)) ≡ character_count (pieces_of (take k ps)) + character_count (take i own)
    taken i le =
        let sum : before + i ≡ length (pieces_of (take k ps)) + i = omega (arith, counted) in
        ap character_count (take_pieces ps k i (before + i) inside le sum) ∙ count_append (pieces_of (take k ps)) (take i own)

    -- the place lies in the piece, so that one of its runs ends behind it
    more : j < length own
    more = over_inside own (place - start) j over (omega (arith, at.up_to))

    unended : place - start < character_count (take (j + 1) own)
    unended = over.unended more

    same : character_count (take ((before + j) + 1) (pieces_of ps)) ≡ character_count (take (before + (j + 1)) (pieces_of ps))
    same = let sum : (before + j) + 1 ≡ before + (j + 1) = omega arith in ap (λ n. character_count (take n (pieces_of ps))) sum

-- the character at a place has the format of the run over it
pub format_over : (ps : List (List Run)) (k start place j : ℕ) (r : Run) → IsAt ps k start place → place < start + character_count (get_or ps k [])
    → IsOver (get_or ps k []) (place - start) j → r ≡ get_or (get_or ps k []) j r → slice_get (formats_of (pieces_of ps)) place ≡ Some r.format
format_over ps k start place j r at less over is =
    let own : List Run = get_or ps k [] in
    let inside : j < length own = over_inside own (place - start) j over (omega (arith, at.up_to)) in
    get_one_at ps k start place r.format at (omega (arith, at.up_to))
    (over_run own j r (place - start) 1 inside is over.begun (omega (arith, over.unended inside, count_more own j r inside is)))

use Rattle.std.proofs.Common.{◌≡◌, ◌++◌, ◌∷◌, ◌+◌, ◌-◌, [], ℕ, List, Some, drop, get_or, length, replicate, take, arith, sym, ap, subst, ◌∙◌}
use Rattle.std.specs.List.{slice_get}
use Rattle.std.proofs.lemmas.Option.{get_or_from_slice_get, same_Some}
use Rattle.mark_anchors.specs.Formatting.{Format}
use Rattle.piece_tree.specs.Nodes.{pieces_of}
use Rattle.format_runs.specs.Runs.{AreRuns, HasWindow, Run, character_count, formats_of, of_size}
use Rattle.format_runs.proofs.Apart.{few_runs}
use Rattle.format_runs.proofs.Pieces.{few_pieces}
use Rattle.format_runs.proofs.Resized.{IsResized, resized_made, run_in, run_short, sized_few, sized_small, window_fits}
use Rattle.format_runs.proofs.runs.resized.Goals as goal

pub overflow_sub-characters-2 : goal.overflow_sub-characters-2
overflow_sub-characters-2 c =
    let ps : List (List Run) = c.args.pieces.now in
    let k : ℕ = c.args.spot.piece in
    let j : ℕ = c.args.spot.run in
    let w : HasWindow ps k c.args.spot.start j c.args.from c.args.to = c.requires.window in
    let r : Run = c.index-runs-spot.result in
    let is : slice_get (get_or ps k []) j ≡ Some r = run_in ps k j c.piece.result.now c.runs-runs.result.now r c.piece.ensures c.runs-runs.ensures w.has.within c.index-runs-spot.is in
    omega (arith, c.characters.ensures, window_fits ps k c.args.spot.start j c.args.from c.args.to w r is)

pub overflow_add-characters : goal.overflow_add-characters
overflow_add-characters c =
    let ps : List (List Run) = c.args.pieces.now in
    let k : ℕ = c.args.spot.piece in
    let j : ℕ = c.args.spot.run in
    let w : HasWindow ps k c.args.spot.start j c.args.from c.args.to = c.requires.window in
    let r : Run = c.index-runs-spot.result in
    let is : slice_get (get_or ps k []) j ≡ Some r = run_in ps k j c.piece.result.now c.runs-runs.result.now r c.piece.ensures c.runs-runs.ensures w.has.within c.index-runs-spot.is in
    omega (arith, c.characters.ensures, c.requires.short, run_short ps k c.args.spot.start j c.args.from c.args.to w r is)

pub sized-requires : goal.sized-requires
sized-requires c =
    let ps : List (List Run) = c.args.pieces.now in
    let k : ℕ = c.args.spot.piece in
    omega (arith, c.requires.window.has.within, ap length (get_or_from_slice_get ps k c.piece.result.now [] c.piece.ensures ∙ sym c.runs-runs.ensures))

pub new-requires-clause-few : goal.new-requires-clause-few
new-requires-clause-few c =
    let ps : List (List Run) = c.args.pieces.now in
    let k : ℕ = c.args.spot.piece in
    let j : ℕ = c.args.spot.run in
    let w : HasWindow ps k c.args.spot.start j c.args.from c.args.to = c.requires.window in
    let r : Run = c.index-runs-spot.result in
    let is : slice_get (get_or ps k []) j ≡ Some r = run_in ps k j c.piece.result.now c.runs-runs.result.now r c.piece.ensures c.runs-runs.ensures w.has.within c.index-runs-spot.is in
    let n : ℕ = c.characters.result - (c.args.to - c.args.from) + c.args.count in
    let size : n ≡ (r.characters - (c.args.to - c.args.from)) + c.args.count = ap (λ (m : ℕ). m - (c.args.to - c.args.from) + c.args.count) c.characters.ensures in
    let own : get_or ps k [] ≡ c.runs-runs.result.now = get_or_from_slice_get ps k c.piece.result.now [] c.piece.ensures ∙ sym c.runs-runs.ensures in
    let next : c.in_ok-next.next.items ≡ take j (get_or ps k []) ++ of_size r n ∷ drop (j + 1) (get_or ps k []) =
    c.in_ok-next.ensures r (ap (λ (l : List Run). slice_get l j) (sym own) ∙ is) ∙ ap (λ (l : List Run). take j l ++ of_size r n ∷ drop (j + 1) l) (sym own) in
    omega (arith, ap length next, sized_small ps k c.args.spot.start j c.args.from c.args.to w r is c.args.count n size c.requires.some c.requires.kept c.requires.short)

pub new-requires-clause-short : goal.new-requires-clause-short
new-requires-clause-short c =
    let ps : List (List Run) = c.args.pieces.now in
    let k : ℕ = c.args.spot.piece in
    let j : ℕ = c.args.spot.run in
    let w : HasWindow ps k c.args.spot.start j c.args.from c.args.to = c.requires.window in
    let r : Run = c.index-runs-spot.result in
    let is : slice_get (get_or ps k []) j ≡ Some r = run_in ps k j c.piece.result.now c.runs-runs.result.now r c.piece.ensures c.runs-runs.ensures w.has.within c.index-runs-spot.is in
    let n : ℕ = c.characters.result - (c.args.to - c.args.from) + c.args.count in
    let size : n ≡ (r.characters - (c.args.to - c.args.from)) + c.args.count = ap (λ (m : ℕ). m - (c.args.to - c.args.from) + c.args.count) c.characters.ensures in
    let own : get_or ps k [] ≡ c.runs-runs.result.now = get_or_from_slice_get ps k c.piece.result.now [] c.piece.ensures ∙ sym c.runs-runs.ensures in
    let next : c.in_ok-next.next.items ≡ take j (get_or ps k []) ++ of_size r n ∷ drop (j + 1) (get_or ps k []) =
    c.in_ok-next.ensures r (ap (λ (l : List Run). slice_get l j) (sym own) ∙ is) ∙ ap (λ (l : List Run). take j l ++ of_size r n ∷ drop (j + 1) l) (sym own) in
    omega (arith, ap character_count next, sized_few ps k c.args.spot.start j c.args.from c.args.to w r is c.args.count n size c.requires.some c.requires.kept c.requires.short)

pub returns-in_err-piece-clause-spent : goal.returns-in_err-piece-clause-spent
returns-in_err-piece-clause-spent c =
    let ps : List (List Run) = c.args.pieces.now in
    let k : ℕ = c.args.spot.piece in
    let j : ℕ = c.args.spot.run in
    let w : HasWindow ps k c.args.spot.start j c.args.from c.args.to = c.requires.window in
    let r : Run = c.index-runs-spot.result in
    let is : slice_get (get_or ps k []) j ≡ Some r = run_in ps k j c.piece.result.now c.runs-runs.result.now r c.piece.ensures c.runs-runs.ensures w.has.within c.index-runs-spot.is in
    let n : ℕ = c.characters.result - (c.args.to - c.args.from) + c.args.count in
    let size : n ≡ (r.characters - (c.args.to - c.args.from)) + c.args.count = ap (λ (m : ℕ). m - (c.args.to - c.args.from) + c.args.count) c.characters.ensures in
    let own : get_or ps k [] ≡ c.runs-runs.result.now = get_or_from_slice_get ps k c.piece.result.now [] c.piece.ensures ∙ sym c.runs-runs.ensures in
    let next : c.in_ok-next.next.items ≡ take j (get_or ps k []) ++ of_size r n ∷ drop (j + 1) (get_or ps k []) =
    c.in_ok-next.ensures r (ap (λ (l : List Run). slice_get l j) (sym own) ∙ is) ∙ ap (λ (l : List Run). take j l ++ of_size r n ∷ drop (j + 1) l) (sym own) in
    omega (arith, ap length next, sized_small ps k c.args.spot.start j c.args.from c.args.to w r is c.args.count n size c.requires.some c.requires.kept c.requires.short, c.new.ensures.paid)

pub overflow_add-spot : goal.overflow_add-spot
overflow_add-spot c =
    omega (arith, c.requires.window.inside, few_pieces c.args.pieces.now c.requires.kept.filled, few_runs (pieces_of c.args.pieces.now) c.requires.kept.maximal, c.requires.short)

pub with_window-requires-clause-few : goal.with_window-requires-clause-few
with_window-requires-clause-few c =
    let ps : List (List Run) = c.args.pieces.now in
    let k : ℕ = c.args.spot.piece in
    let j : ℕ = c.args.spot.run in
    let w : HasWindow ps k c.args.spot.start j c.args.from c.args.to = c.requires.window in
    let r : Run = c.index-runs-spot.result in
    let is : slice_get (get_or ps k []) j ≡ Some r = run_in ps k j c.piece.result.now c.runs-runs.result.now r c.piece.ensures c.runs-runs.ensures w.has.within c.index-runs-spot.is in
    let n : ℕ = c.characters.result - (c.args.to - c.args.from) + c.args.count in
    let size : n ≡ (r.characters - (c.args.to - c.args.from)) + c.args.count = ap (λ (m : ℕ). m - (c.args.to - c.args.from) + c.args.count) c.characters.ensures in
    let own : get_or ps k [] ≡ c.runs-runs.result.now = get_or_from_slice_get ps k c.piece.result.now [] c.piece.ensures ∙ sym c.runs-runs.ensures in
    let next : c.in_ok-next.next.items ≡ take j (get_or ps k []) ++ of_size r n ∷ drop (j + 1) (get_or ps k []) =
    c.in_ok-next.ensures r (ap (λ (l : List Run). slice_get l j) (sym own) ∙ is) ∙ ap (λ (l : List Run). take j l ++ of_size r n ∷ drop (j + 1) l) (sym own) in
    let made : IsResized ps (c.in_ok-piece.piece ∷ []) k c.args.from c.args.to c.args.count r =
    resized_made ps k c.args.spot.start j c.args.from c.args.to w r is c.args.count n size c.requires.some c.requires.kept c.requires.short (c.in_ok-piece.piece ∷ []) (ap (λ (l : List Run). l ∷ []) (c.in_ok-piece.ensures.piece ∙ next)) in
    made.few

pub with_window-requires-clause-short : goal.with_window-requires-clause-short
with_window-requires-clause-short c =
    let ps : List (List Run) = c.args.pieces.now in
    let k : ℕ = c.args.spot.piece in
    let j : ℕ = c.args.spot.run in
    let w : HasWindow ps k c.args.spot.start j c.args.from c.args.to = c.requires.window in
    let r : Run = c.index-runs-spot.result in
    let is : slice_get (get_or ps k []) j ≡ Some r = run_in ps k j c.piece.result.now c.runs-runs.result.now r c.piece.ensures c.runs-runs.ensures w.has.within c.index-runs-spot.is in
    let n : ℕ = c.characters.result - (c.args.to - c.args.from) + c.args.count in
    let size : n ≡ (r.characters - (c.args.to - c.args.from)) + c.args.count = ap (λ (m : ℕ). m - (c.args.to - c.args.from) + c.args.count) c.characters.ensures in
    let own : get_or ps k [] ≡ c.runs-runs.result.now = get_or_from_slice_get ps k c.piece.result.now [] c.piece.ensures ∙ sym c.runs-runs.ensures in
    let next : c.in_ok-next.next.items ≡ take j (get_or ps k []) ++ of_size r n ∷ drop (j + 1) (get_or ps k []) =
    c.in_ok-next.ensures r (ap (λ (l : List Run). slice_get l j) (sym own) ∙ is) ∙ ap (λ (l : List Run). take j l ++ of_size r n ∷ drop (j + 1) l) (sym own) in
    let made : IsResized ps (c.in_ok-piece.piece ∷ []) k c.args.from c.args.to c.args.count r =
    resized_made ps k c.args.spot.start j c.args.from c.args.to w r is c.args.count n size c.requires.some c.requires.kept c.requires.short (c.in_ok-piece.piece ∷ []) (ap (λ (l : List Run). l ∷ []) (c.in_ok-piece.ensures.piece ∙ next)) in
    made.short

pub returns-in_err-pieces-clause-spent : goal.returns-in_err-pieces-clause-spent
returns-in_err-pieces-clause-spent c =
    let ps : List (List Run) = c.args.pieces.now in
    let k : ℕ = c.args.spot.piece in
    let j : ℕ = c.args.spot.run in
    let w : HasWindow ps k c.args.spot.start j c.args.from c.args.to = c.requires.window in
    let r : Run = c.index-runs-spot.result in
    let is : slice_get (get_or ps k []) j ≡ Some r = run_in ps k j c.piece.result.now c.runs-runs.result.now r c.piece.ensures c.runs-runs.ensures w.has.within c.index-runs-spot.is in
    let n : ℕ = c.characters.result - (c.args.to - c.args.from) + c.args.count in
    let size : n ≡ (r.characters - (c.args.to - c.args.from)) + c.args.count = ap (λ (m : ℕ). m - (c.args.to - c.args.from) + c.args.count) c.characters.ensures in
    let own : get_or ps k [] ≡ c.runs-runs.result.now = get_or_from_slice_get ps k c.piece.result.now [] c.piece.ensures ∙ sym c.runs-runs.ensures in
    let next : c.in_ok-next.next.items ≡ take j (get_or ps k []) ++ of_size r n ∷ drop (j + 1) (get_or ps k []) =
    c.in_ok-next.ensures r (ap (λ (l : List Run). slice_get l j) (sym own) ∙ is) ∙ ap (λ (l : List Run). take j l ++ of_size r n ∷ drop (j + 1) l) (sym own) in
    let made : IsResized ps (c.in_ok-piece.piece ∷ []) k c.args.from c.args.to c.args.count r =
    resized_made ps k c.args.spot.start j c.args.from c.args.to w r is c.args.count n size c.requires.some c.requires.kept c.requires.short (c.in_ok-piece.piece ∷ []) (ap (λ (l : List Run). l ∷ []) (c.in_ok-piece.ensures.piece ∙ next)) in
    omega (arith, ap length next, sized_small ps k c.args.spot.start j c.args.from c.args.to w r is c.args.count n size c.requires.some c.requires.kept c.requires.short, c.new.ensures.paid, made.rooted, c.with_window.ensures.spent)

pub invariant_of-result : goal.invariant_of-result
invariant_of-result c =
    let ps : List (List Run) = c.args.pieces.now in
    let k : ℕ = c.args.spot.piece in
    let j : ℕ = c.args.spot.run in
    let w : HasWindow ps k c.args.spot.start j c.args.from c.args.to = c.requires.window in
    let r : Run = c.index-runs-spot.result in
    let is : slice_get (get_or ps k []) j ≡ Some r = run_in ps k j c.piece.result.now c.runs-runs.result.now r c.piece.ensures c.runs-runs.ensures w.has.within c.index-runs-spot.is in
    let n : ℕ = c.characters.result - (c.args.to - c.args.from) + c.args.count in
    let size : n ≡ (r.characters - (c.args.to - c.args.from)) + c.args.count = ap (λ (m : ℕ). m - (c.args.to - c.args.from) + c.args.count) c.characters.ensures in
    let own : get_or ps k [] ≡ c.runs-runs.result.now = get_or_from_slice_get ps k c.piece.result.now [] c.piece.ensures ∙ sym c.runs-runs.ensures in
    let next : c.in_ok-next.next.items ≡ take j (get_or ps k []) ++ of_size r n ∷ drop (j + 1) (get_or ps k []) =
    c.in_ok-next.ensures r (ap (λ (l : List Run). slice_get l j) (sym own) ∙ is) ∙ ap (λ (l : List Run). take j l ++ of_size r n ∷ drop (j + 1) l) (sym own) in
    let made : IsResized ps (c.in_ok-piece.piece ∷ []) k c.args.from c.args.to c.args.count r =
    resized_made ps k c.args.spot.start j c.args.from c.args.to w r is c.args.count n size c.requires.some c.requires.kept c.requires.short (c.in_ok-piece.piece ∷ []) (ap (λ (l : List Run). l ∷ []) (c.in_ok-piece.ensures.piece ∙ next)) in
    subst AreRuns (sym c.in_ok-pieces.ensures.pieces) made.kept

pub returns-clause-formats : goal.returns-clause-formats
returns-clause-formats c =
    let ps : List (List Run) = c.args.pieces.now in
    let k : ℕ = c.args.spot.piece in
    let j : ℕ = c.args.spot.run in
    let w : HasWindow ps k c.args.spot.start j c.args.from c.args.to = c.requires.window in
    let r : Run = c.index-runs-spot.result in
    let is : slice_get (get_or ps k []) j ≡ Some r = run_in ps k j c.piece.result.now c.runs-runs.result.now r c.piece.ensures c.runs-runs.ensures w.has.within c.index-runs-spot.is in
    let n : ℕ = c.characters.result - (c.args.to - c.args.from) + c.args.count in
    let size : n ≡ (r.characters - (c.args.to - c.args.from)) + c.args.count = ap (λ (m : ℕ). m - (c.args.to - c.args.from) + c.args.count) c.characters.ensures in
    let own : get_or ps k [] ≡ c.runs-runs.result.now = get_or_from_slice_get ps k c.piece.result.now [] c.piece.ensures ∙ sym c.runs-runs.ensures in
    let next : c.in_ok-next.next.items ≡ take j (get_or ps k []) ++ of_size r n ∷ drop (j + 1) (get_or ps k []) =
    c.in_ok-next.ensures r (ap (λ (l : List Run). slice_get l j) (sym own) ∙ is) ∙ ap (λ (l : List Run). take j l ++ of_size r n ∷ drop (j + 1) l) (sym own) in
    let made : IsResized ps (c.in_ok-piece.piece ∷ []) k c.args.from c.args.to c.args.count r =
    resized_made ps k c.args.spot.start j c.args.from c.args.to w r is c.args.count n size c.requires.some c.requires.kept c.requires.short (c.in_ok-piece.piece ∷ []) (ap (λ (l : List Run). l ∷ []) (c.in_ok-piece.ensures.piece ∙ next)) in
    λ run same.
    let format : r.format ≡ run.format = ap (λ (s : Run). s.format) (same_Some r run (sym is ∙ same)) in
    ap (λ (l : List (List Run)). formats_of (pieces_of l)) c.in_ok-pieces.ensures.pieces ∙ made.formats
    ∙ ap (λ (f : Format). take c.args.from (formats_of (pieces_of ps)) ++ (replicate c.args.count f ++ drop c.args.to (formats_of (pieces_of ps)))) format

pub returns-clause-count : goal.returns-clause-count
returns-clause-count c =
    let ps : List (List Run) = c.args.pieces.now in
    let k : ℕ = c.args.spot.piece in
    let j : ℕ = c.args.spot.run in
    let w : HasWindow ps k c.args.spot.start j c.args.from c.args.to = c.requires.window in
    let r : Run = c.index-runs-spot.result in
    let is : slice_get (get_or ps k []) j ≡ Some r = run_in ps k j c.piece.result.now c.runs-runs.result.now r c.piece.ensures c.runs-runs.ensures w.has.within c.index-runs-spot.is in
    let n : ℕ = c.characters.result - (c.args.to - c.args.from) + c.args.count in
    let size : n ≡ (r.characters - (c.args.to - c.args.from)) + c.args.count = ap (λ (m : ℕ). m - (c.args.to - c.args.from) + c.args.count) c.characters.ensures in
    let own : get_or ps k [] ≡ c.runs-runs.result.now = get_or_from_slice_get ps k c.piece.result.now [] c.piece.ensures ∙ sym c.runs-runs.ensures in
    let next : c.in_ok-next.next.items ≡ take j (get_or ps k []) ++ of_size r n ∷ drop (j + 1) (get_or ps k []) =
    c.in_ok-next.ensures r (ap (λ (l : List Run). slice_get l j) (sym own) ∙ is) ∙ ap (λ (l : List Run). take j l ++ of_size r n ∷ drop (j + 1) l) (sym own) in
    let made : IsResized ps (c.in_ok-piece.piece ∷ []) k c.args.from c.args.to c.args.count r =
    resized_made ps k c.args.spot.start j c.args.from c.args.to w r is c.args.count n size c.requires.some c.requires.kept c.requires.short (c.in_ok-piece.piece ∷ []) (ap (λ (l : List Run). l ∷ []) (c.in_ok-piece.ensures.piece ∙ next)) in
    omega (arith, made.counted, ap (λ (l : List (List Run)). length (pieces_of l)) c.in_ok-pieces.ensures.pieces)

pub returns-clause-spent : goal.returns-clause-spent
returns-clause-spent c =
    let ps : List (List Run) = c.args.pieces.now in
    let k : ℕ = c.args.spot.piece in
    let j : ℕ = c.args.spot.run in
    let w : HasWindow ps k c.args.spot.start j c.args.from c.args.to = c.requires.window in
    let r : Run = c.index-runs-spot.result in
    let is : slice_get (get_or ps k []) j ≡ Some r = run_in ps k j c.piece.result.now c.runs-runs.result.now r c.piece.ensures c.runs-runs.ensures w.has.within c.index-runs-spot.is in
    let n : ℕ = c.characters.result - (c.args.to - c.args.from) + c.args.count in
    let size : n ≡ (r.characters - (c.args.to - c.args.from)) + c.args.count = ap (λ (m : ℕ). m - (c.args.to - c.args.from) + c.args.count) c.characters.ensures in
    let own : get_or ps k [] ≡ c.runs-runs.result.now = get_or_from_slice_get ps k c.piece.result.now [] c.piece.ensures ∙ sym c.runs-runs.ensures in
    let next : c.in_ok-next.next.items ≡ take j (get_or ps k []) ++ of_size r n ∷ drop (j + 1) (get_or ps k []) =
    c.in_ok-next.ensures r (ap (λ (l : List Run). slice_get l j) (sym own) ∙ is) ∙ ap (λ (l : List Run). take j l ++ of_size r n ∷ drop (j + 1) l) (sym own) in
    let made : IsResized ps (c.in_ok-piece.piece ∷ []) k c.args.from c.args.to c.args.count r =
    resized_made ps k c.args.spot.start j c.args.from c.args.to w r is c.args.count n size c.requires.some c.requires.kept c.requires.short (c.in_ok-piece.piece ∷ []) (ap (λ (l : List Run). l ∷ []) (c.in_ok-piece.ensures.piece ∙ next)) in
    omega (arith, ap length next, sized_small ps k c.args.spot.start j c.args.from c.args.to w r is c.args.count n size c.requires.some c.requires.kept c.requires.short, c.new.ensures.paid, made.rooted, c.with_window.ensures.spent)

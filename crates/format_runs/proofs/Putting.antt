-- Pieces with others in place of some.
use Rattle.std.proofs.Common.{◌≡◌, ℕ, ◌+◌, ◌-◌, ◌<◌, ◌≤◌, List, ◌++◌, All, length, take, drop, min, sym, ap, subst, ◌∙◌, arith, length-append}
use Rattle.std.proofs.lemmas.List.{drop_min, length-drop, length-take-le}
use Rattle.std.proofs.lemmas.List.Elements.{All-append, All-drop, All-take}
use Rattle.piece_tree.specs.Nodes.{AreShort, pieces_of}
use Rattle.piece_tree.proofs.Lists.{pieces_append}
use Rattle.format_runs.specs.Runs.{AreMaximal, AreRuns, Run, character_count, run_size}
use Rattle.format_runs.proofs.Apart.{few_runs}
use Rattle.format_runs.proofs.Pieces.{few_pieces, pieces_kept, sum_characters, sum_parts}

module _ (ps made : List (List Run)) (from to : ℕ) (runs : List Run) (order : from ≤ to) (within : to ≤ length ps)
    (filled : All (λ p. 0 < length p) ps) (fresh : All (λ p. 0 < length p) made) (flat : pieces_of made ≡ runs)
    (small : All (λ p. length p ≤ 48) ps) (small_fresh : All (λ p. length p ≤ 48) made)
    (maximal : AreMaximal (pieces_of (take from ps) ++ (runs ++ pieces_of (drop to ps))))
    (short : character_count (pieces_of (take from ps) ++ (runs ++ pieces_of (drop to ps))) ≤ 2097152) where
  abbrev all : List (List Run)
  all = take from ps ++ (made ++ drop to ps)

  pub put_pieces : pieces_of all ≡ pieces_of (take from ps) ++ (runs ++ pieces_of (drop to ps))
  put_pieces =
      pieces_append (take from ps) (made ++ drop to ps)
      ∙ ap (λ l. pieces_of (take from ps) ++ l) (pieces_append made (drop to ps) ∙ ap (λ l. l ++ pieces_of (drop to ps)) flat)

  pub put_kept : AreRuns all
  put_kept = record {
    filled =
        All-append (λ (p : List Run). 0 < length p) (take from ps) (made ++ drop to ps) (All-take (λ (p : List Run). 0 < length p) from ps filled)
        (All-append (λ (p : List Run). 0 < length p) made (drop to ps) fresh (All-drop (λ (p : List Run). 0 < length p) to ps filled));
    small =
        All-append (λ (p : List Run). length p ≤ 48) (take from ps) (made ++ drop to ps) (All-take (λ (p : List Run). length p ≤ 48) from ps small)
        (All-append (λ (p : List Run). length p ≤ 48) made (drop to ps) small_fresh (All-drop (λ (p : List Run). length p ≤ 48) to ps small));
    maximal = subst AreMaximal (sym put_pieces) maximal;
  }

  few : length (pieces_of all) ≤ 2097152
  few = omega (arith, few_runs (pieces_of all) put_kept.maximal, ap character_count put_pieces, short)

  pub put_short : AreShort run_size all
  put_short = record {
    parts = omega (arith, sum_parts all, few);
    characters = omega (arith, sum_characters all, ap character_count put_pieces, short);
  }

  pub put_few : from + length made + (length ps - to) ≤ 2097152
  put_few =
      omega (
        arith,
        order,
        within,
        few,
        few_pieces all put_kept.filled,
        length-append (take from ps) (made ++ drop to ps),
        length-append made (drop to ps),
        length-take-le from ps (omega (arith, order, within)),
        length-drop to ps,
      )

  -- each piece has a run, so that the root has no more of them than there are runs
  pub put_rooted : from + length made + (length ps - to) ≤ length (pieces_of ps) + length runs
  put_rooted = omega (arith, order, within, few_pieces ps filled, few_pieces made fresh, ap length flat)

  pub put_counted : length (pieces_of (take from ps) ++ (runs ++ pieces_of (drop to ps))) ≤ length (pieces_of ps) + length runs
  put_counted =
      omega (
        arith,
        pieces_kept ps from to order,
        length-append (pieces_of (take from ps)) (runs ++ pieces_of (drop to ps)),
        length-append runs (pieces_of (drop to ps)),
      )

-- what stands from the least of two places on
pub drop_least : {X : Type 0} (xs : List X) (n k : ℕ) → k ≡ min (length xs) n → drop k xs ≡ drop n xs
drop_least xs n k e = let least : k ≡ min n (length xs) = omega arith in ap (λ j. drop j xs) least ∙ drop_min n xs

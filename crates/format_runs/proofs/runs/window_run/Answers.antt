use Rattle.std.proofs.Common.{◌≡◌, ◌<◌, ◌-◌, ◌⊎◌, [], inl, inr, ℕ, List, get_or, arith, sym, ap, subst, ◌∙◌}
use Rattle.std.proofs.lemmas.Option.{get_or_from_slice_get}
use Rattle.piece_tree.specs.Nodes.{pieces_of}
use Rattle.piece_tree.specs.declared.spot.Spot.{Spot}
use Rattle.format_runs.specs.Runs.{HasCharacters, Run, character_count}
use Rattle.format_runs.proofs.Pieces.{counted_around, sum_characters}
use Rattle.format_runs.proofs.Windows.{IsAt, last_is_at, spot_inside}
use Rattle.format_runs.proofs.runs.window_run.Goals.{else-from-eq0-via-then-from-eq0+else-to-size, else-from-eq0-via-else-from-eq0}
use Rattle.format_runs.proofs.runs.window_run.Goals as goal

pub piece-requires : goal.piece-requires
piece-requires c = spot_inside c.args.pieces.now c.args.from c.spot-spot.result (omega (arith, c.requires, c.if-from-to.false)) c.spot-spot.ensures

pub index_having-requires : goal.index_having-requires
index_having-requires c =
    let ps : List (List Run) = c.args.pieces.now in
    let k : ℕ = c.spot-spot.result.index in
    let own : get_or ps k [] ≡ c.runs-runs.result.now = get_or_from_slice_get ps k c.piece.result.now [] c.piece.ensures ∙ sym c.runs-runs.ensures in
    omega (arith, c.keeps.ensures.short.characters, sum_characters ps, counted_around ps k, ap character_count own)

pub returns-clause-window : goal.returns-clause-window
returns-clause-window c =
    let ps : List (List Run) = c.args.pieces.now in
    let from : ℕ = c.args.from in
    let to : ℕ = c.args.to in
    let spot : Spot = c.spot-spot.result in
    let some : from < to = omega (arith, c.if-from-to.false) in
    let less : from < character_count (pieces_of ps) = omega (arith, c.requires, some) in
    let own : get_or ps spot.index [] ≡ c.runs-runs.result.now = get_or_from_slice_get ps spot.index c.piece.result.now [] c.piece.ensures ∙ sym c.runs-runs.ensures in
    let at : IsAt ps spot.index spot.characters from = last_is_at ps from spot (omega (arith, less)) c.spot-spot.ensures in
    let others : (0 < from) ⊎ (to < character_count (pieces_of ps)) = elim c.else-from-eq0.branch [
      | else-from-eq0-via-then-from-eq0+else-to-size w ↦ inr (omega (arith, c.requires, w.if-to-size.false, w.size.ensures, sum_characters ps))
      | else-from-eq0-via-else-from-eq0 w ↦ inl (omega (arith, w.if-from-eq0.false))
    ] in
    record {
      inside = spot_inside ps from spot less c.spot-spot.ensures;
      counted = at.counted;
      up_to = at.up_to;
      some = some;
      has = subst (λ (l : List Run). HasCharacters l c.in_ok-run.run' (from - spot.characters) (to - from)) (sym own) c.in_ok-run.ensures;
      others = others;
    }

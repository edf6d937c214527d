use Rattle.std.proofs.Common.{◌≡◌, ◌<◌, ◌≤◌, ◌+◌, ◌-◌, ℕ, List, [], Some, get_or, arith, sym, ap, subst, ◌∙◌}
use Rattle.std.specs.List.{slice_get}
use Rattle.std.proofs.lemmas.Option.{get_or_from_slice_get}
use Rattle.piece_tree.specs.Nodes.{pieces_of}
use Rattle.piece_tree.specs.declared.spot.Spot.{Spot}
use Rattle.format_runs.specs.Runs.{Run, IsOver, character_count, formats_of}
use Rattle.format_runs.proofs.Over.{format_over, over_inside}
use Rattle.format_runs.proofs.Pieces.{counted_around, sum_characters}
use Rattle.format_runs.proofs.Windows.{IsAt, last_is_at, spot_inside, spot_reached}
use Rattle.format_runs.proofs.runs.SharedRuns.run_at.Goals as goal

pub piece-requires : goal.piece-requires
piece-requires c =
    spot_inside c.self.inside.pieces c.args.place c.spot-spot.result
    (omega (arith, c.if-place-character_count.false, c.character_count.ensures, ap character_count c.self.view_is)) c.spot-spot.ensures

pub ended-requires : goal.ended-requires
ended-requires c =
    let ps : List (List Run) = c.self.inside.pieces in
    let k : ℕ = c.spot-spot.result.index in
    let own : get_or ps k [] ≡ c.runs-runs.result.now = get_or_from_slice_get ps k c.piece.result.now [] c.piece.ensures ∙ sym c.runs-runs.ensures in
    omega (arith, c.keeps.ensures.short.characters, sum_characters ps, counted_around ps k, ap character_count own)

pub bounds-runs-ended : goal.bounds-runs-ended
bounds-runs-ended c =
    let ps : List (List Run) = c.self.inside.pieces in
    let spot : Spot = c.spot-spot.result in
    let k : ℕ = spot.index in
    let place : ℕ = c.args.place in
    let less : place < character_count (pieces_of ps) = omega (arith, c.if-place-character_count.false, c.character_count.ensures, ap character_count c.self.view_is) in
    let own : get_or ps k [] ≡ c.runs-runs.result.now = get_or_from_slice_get ps k c.piece.result.now [] c.piece.ensures ∙ sym c.runs-runs.ensures in
    let at : IsAt ps k spot.characters place = last_is_at ps place spot (omega (arith, less)) c.spot-spot.ensures in
    let reached : place + 1 ≤ spot.characters + character_count (get_or ps k []) =
    spot_reached ps (place + 1) spot c.spot-spot.ensures (spot_inside ps place spot less c.spot-spot.ensures) in
    over_inside c.runs-runs.result.now (place - spot.characters) c.ended.result c.ended.ensures (omega (arith, reached, at.up_to, ap character_count own))

pub returns : goal.returns
returns c =
    let ps : List (List Run) = c.self.inside.pieces in
    let spot : Spot = c.spot-spot.result in
    let k : ℕ = spot.index in
    let place : ℕ = c.args.place in
    let run : Run = c.index-runs-ended.result in
    let less : place < character_count (pieces_of ps) = omega (arith, c.if-place-character_count.false, c.character_count.ensures, ap character_count c.self.view_is) in
    let own : get_or ps k [] ≡ c.runs-runs.result.now = get_or_from_slice_get ps k c.piece.result.now [] c.piece.ensures ∙ sym c.runs-runs.ensures in
    let at : IsAt ps k spot.characters place = last_is_at ps place spot (omega (arith, less)) c.spot-spot.ensures in
    let reached : place + 1 ≤ spot.characters + character_count (get_or ps k []) =
    spot_reached ps (place + 1) spot c.spot-spot.ensures (spot_inside ps place spot less c.spot-spot.ensures) in
    let over : IsOver (get_or ps k []) (place - spot.characters) c.ended.result =
    subst (λ (l : List Run). IsOver l (place - spot.characters) c.ended.result) (sym own) c.ended.ensures in
    subst (λ (l : List Run). slice_get (formats_of l) place ≡ Some run.format) c.self.view_is
    (format_over ps k spot.characters place c.ended.result run at (omega (arith, reached)) over
    (c.index-runs-ended.is ∙ ap (λ (l : List Run). get_or l c.ended.result run) (sym own)))

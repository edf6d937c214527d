use Rattle.std.proofs.Common.{◌≡◌, ◌<◌, ◌+◌, ◌-◌, ℕ, List, [], length, take, get_or, arith, sym, ap, subst, ◌∙◌}
use Rattle.std.proofs.lemmas.Option.{get_or_from_slice_get}
use Rattle.piece_tree.specs.Nodes.{pieces_of}
use Rattle.piece_tree.specs.declared.spot.Spot.{Spot}
use Rattle.format_runs.specs.Runs.{Run, IsOver, character_count}
use Rattle.format_runs.proofs.Over.{over_all, over_piece}
use Rattle.format_runs.proofs.Pieces.{counted_around, sum_characters, sum_parts}
use Rattle.format_runs.proofs.Windows.{IsAt, last_is_at, spot_inside, spot_reached}
use Rattle.format_runs.proofs.runs.SharedRuns.index_over.Goals as goal

pub returns-then-place-character_count : goal.returns-then-place-character_count
returns-then-place-character_count c =
    over_all c.args.self.now c.args.place c.count.result (omega (arith, c.if-place-character_count.true, c.character_count.ensures)) c.count.ensures

pub piece-requires : goal.piece-requires
piece-requires c =
    spot_inside c.self.inside.pieces c.args.place c.spot-spot.result
    (omega (arith, c.if-place-character_count.false, c.character_count.ensures, ap character_count c.self.view_is)) c.spot-spot.ensures

pub ended-requires : goal.ended-requires
ended-requires c =
    let ps : List (List Run) = c.self.inside.pieces in
    let k : ℕ = c.spot-spot.result.index in
    let own : get_or ps k [] ≡ c.runs-runs.result.now = get_or_from_slice_get ps k c.piece.result.now [] c.piece.ensures ∙ sym c.runs-runs.ensures in
    omega (arith, c.keeps.ensures.short.characters, sum_characters ps, counted_around ps k, ap character_count own)

pub returns : goal.returns
returns c =
    let ps : List (List Run) = c.self.inside.pieces in
    let spot : Spot = c.spot-spot.result in
    let k : ℕ = spot.index in
    let place : ℕ = c.args.place in
    let own : get_or ps k [] ≡ c.runs-runs.result.now = get_or_from_slice_get ps k c.piece.result.now [] c.piece.ensures ∙ sym c.runs-runs.ensures in
    let less : place < character_count (pieces_of ps) = omega (arith, c.if-place-character_count.false, c.character_count.ensures, ap character_count c.self.view_is) in
    let inside : k < length ps = spot_inside ps place spot less c.spot-spot.ensures in
    let at : IsAt ps k spot.characters place = last_is_at ps place spot (omega (arith, less)) c.spot-spot.ensures in
    let before : spot.parts ≡ length (pieces_of (take k ps)) = c.spot-spot.ensures.parts ∙ sum_parts (take k ps) in
    let over : IsOver (get_or ps k []) (place - spot.characters) c.ended.result =
    subst (λ (l : List Run). IsOver l (place - spot.characters) c.ended.result) (sym own) c.ended.ensures in
    subst (λ (l : List Run). IsOver l place (spot.parts + c.ended.result)) c.self.view_is
    (over_piece ps k spot.parts spot.characters place c.ended.result inside before at (omega (arith, spot_reached ps (place + 1) spot c.spot-spot.ensures inside)) over)

use Rattle.std.proofs.Common.{◌≡◌, ℕ, ◌-◌, ◌+◌, ◌≤◌, List, [], rules, replicate, get_or, arith, sym, ap, subst, ◌∙◌}
use Rattle.std.specs.List.{slice_range}
use Rattle.std.proofs.lemmas.Option.{get_or_from_slice_get}
use Rattle.mark_anchors.specs.Formatting.{Format}
use Rattle.piece_tree.specs.declared.spot.Spot.{Spot}
use Rattle.format_runs.specs.Runs.{Run, character_count, formats_of}
use Rattle.format_runs.proofs.Pieces.{counted_around, sum_characters}
use Rattle.format_runs.proofs.Windows.{IsAt, last_is_at, spot_inside, within_piece}
use Rattle.format_runs.proofs.runs.SharedRuns.shows_at.Goals as goal

pub overflow_add-place : goal.overflow_add-place
overflow_add-place c =
    omega (arith, c.requires, c.keeps.ensures.short.characters, sum_characters c.self.inside.pieces, ap character_count c.self.view_is)

pub piece-requires : goal.piece-requires
piece-requires c =
    spot_inside c.self.inside.pieces c.args.place c.spot-spot.result (omega (arith, c.requires, ap character_count c.self.view_is)) c.spot-spot.ensures

pub run_over-requires : goal.run_over-requires
run_over-requires c =
    let ps : List (List Run) = c.self.inside.pieces in
    let k : ℕ = c.spot-spot.result.index in
    let own : get_or ps k [] ≡ c.runs-runs.result.now = get_or_from_slice_get ps k c.piece.result.now [] c.piece.ensures ∙ sym c.runs-runs.ensures in
    omega (arith, c.keeps.ensures.short.characters, sum_characters ps, counted_around ps k, ap character_count own)

pub returns-clause-within : goal.returns-clause-within
returns-clause-within c =
    let ps : List (List Run) = c.self.inside.pieces in
    let spot : Spot = c.spot-spot.result in
    let k : ℕ = spot.index in
    let own : get_or ps k [] ≡ c.runs-runs.result.now = get_or_from_slice_get ps k c.piece.result.now [] c.piece.ensures ∙ sym c.runs-runs.ensures in
    let at : IsAt ps k spot.characters c.args.place = last_is_at ps c.args.place spot (omega (arith, c.requires, ap character_count c.self.view_is)) c.spot-spot.ensures in
    let within : (c.args.place - spot.characters) + c.args.row.now.characters ≤ character_count c.runs-runs.result.now = c.in-Some.ensures.within in
    λ shown. omega (arith, within, at.up_to, at.counted, counted_around ps k, ap character_count own, ap character_count c.self.view_is)

pub returns-clause-shown : goal.returns-clause-shown
returns-clause-shown c =
    let ps : List (List Run) = c.self.inside.pieces in
    let spot : Spot = c.spot-spot.result in
    let k : ℕ = spot.index in
    let place : ℕ = c.args.place in
    let count : ℕ = c.args.row.now.characters in
    let own : get_or ps k [] ≡ c.runs-runs.result.now = get_or_from_slice_get ps k c.piece.result.now [] c.piece.ensures ∙ sym c.runs-runs.ensures in
    let at : IsAt ps k spot.characters place = last_is_at ps place spot (omega (arith, c.requires, ap character_count c.self.view_is)) c.spot-spot.ensures in
    let within : (place - spot.characters) + count ≤ character_count c.runs-runs.result.now = c.in-Some.ensures.within in
    let end : (place - spot.characters) + count ≡ (place + count) - spot.characters = omega (arith, at.up_to) in
    let shown : slice_range (formats_of c.runs-runs.result.now) (place - spot.characters) ((place - spot.characters) + count) ≡ replicate count c.in-Some.run'.now.format = c.in-Some.ensures.shown in
    λ same.
    let format : c.in-Some.run'.now.format ≡ c.args.row.now.format = search rules in
    subst (λ (l : List Run). slice_range (formats_of l) place (place + count) ≡ replicate count c.args.row.now.format) c.self.view_is
    (within_piece ps k spot.characters place (place + count) (replicate count c.args.row.now.format) at.counted at.up_to
    (omega (arith, within, at.up_to, ap character_count own))
    (ap (λ (l : List Run). slice_range (formats_of l) (place - spot.characters) ((place + count) - spot.characters)) own
    ∙ ap (λ n. slice_range (formats_of c.runs-runs.result.now) (place - spot.characters) n) (sym end) ∙ shown ∙ ap (λ (f : Format). replicate count f) format))

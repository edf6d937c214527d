use Rattle.std.proofs.Common.{◌≡◌, ◌++◌, ◌∷◌, [], ℕ, List, Some, drop, get_or, replicate, take, sym, ap, subst, ◌∙◌}
use Rattle.std.specs.List.{slice_get}
use Rattle.std.proofs.lemmas.Option.{slice_get-get_or}
use Rattle.std.proofs.lemmas.Result.{IfOk-weaker}
use Rattle.mark_anchors.specs.Formatting.{Format}
use Rattle.piece_tree.specs.Nodes.{pieces_of}
use Rattle.span_flatten.specs.Edges.{KeepEdges}
use Rattle.span_flatten.specs.declared.version.Row.{Row}
use Rattle.format_runs.specs.Runs.{HasWindow, Run, formats_in, formats_of}
use Rattle.format_runs.proofs.Resized.{formats_one, one_row, row_format}
use Rattle.format_runs.proofs.runs.SharedRuns.with_window.Goals as goal

pub returns-in-Some-clause-formats : goal.returns-in-Some-clause-formats
returns-in-Some-clause-formats c =
    let ps : List (List Run) = c.self.inside.pieces in
    let k : ℕ = c.in-Some.spot.piece in
    let j : ℕ = c.in-Some.spot.run in
    let from : ℕ = c.args.from in
    let to : ℕ = c.args.to in
    let rows : List Row = c.args.rows.now in
    let row : Row = c.index-rows-0.result in
    let w : HasWindow ps k c.in-Some.spot.start j from to = c.in-Some.ensures.window in
    let none : Run = record { format = row.format; characters = 0 } in
    let r : Run = get_or (get_or ps k []) j none in
    let is : slice_get (get_or ps k []) j ≡ Some r = slice_get-get_or (get_or ps k []) j none w.has.within in
    let one : rows ≡ row ∷ [] = one_row rows row c.in-Some.ensures.one c.index-rows-0.is in
    let keep : KeepEdges (formats_of (pieces_of ps)) from to (formats_in rows) =
    subst (λ (l : List Run). KeepEdges (formats_of l) from to (formats_in rows)) (sym c.self.view_is) c.requires.edges in
    let format : r.format ≡ row.format = row_format ps k c.in-Some.spot.start j from to w r is rows row one c.requires.maximal keep in
    let put : replicate (get_or rows 0 row).characters r.format ≡ formats_in rows =
    ap (λ (other : Row). replicate other.characters r.format) (sym c.index-rows-0.is) ∙ ap (λ (f : Format). replicate row.characters f) format
    ∙ sym (formats_one row) ∙ ap formats_in (sym one) in
    IfOk-weaker c.resized.result _ _
    (λ _ e. e ∙ ap (λ (l : List Format). take from (formats_of (pieces_of ps)) ++ (l ++ drop to (formats_of (pieces_of ps)))) put
    ∙ ap (λ (l : List Run). take from (formats_of l) ++ (formats_in rows ++ drop to (formats_of l))) c.self.view_is)
    (c.resized.ensures.formats r is)

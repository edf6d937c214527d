use Rattle.std.proofs.Common.{◌++◌, List, ap, ◌∙◌}
use Rattle.format_runs.specs.Runs.{Run}
use Rattle.format_runs.proofs.Pieces.{piece_and_rest}
use Rattle.format_runs.proofs.runs.fill.Goals as goal

pub returns-clause-same : goal.returns-clause-same
returns-clause-same c =
    piece_and_rest c.args.pieces.now c.args.index c.piece.result.now c.args.runs.now.items c.share_all.new.runs.items c.piece.ensures
    (c.in_ok-share_all.ensures ∙ ap (λ (l : List Run). c.args.runs.now.items ++ l) c.runs.ensures)

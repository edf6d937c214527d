use Rattle.std.proofs.Common.{◌∙◌, List, ap, rules}
use Rattle.format_runs.specs.Runs.{Run, formats_in, formats_of}
use Rattle.version_pieces.proofs.Along.{put_same}
use Rattle.version_pieces.proofs.spans.runs_with.Goals as goal

pub returns-then-shows-clause-formats : goal.returns-then-shows-clause-formats
returns-then-shows-clause-formats c =
    ap (λ (l : List Run). formats_of l) c.in_ok-same.ensures
    ∙ put_same (formats_of c.args.runs.now) (formats_in c.args.rows.now) c.args.from c.args.to c.requires.order (c.if-shows.ensures (search rules))

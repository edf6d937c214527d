use Rattle.std.proofs.Common.{◌∙◌, sym, rules}
use Rattle.std.specs.Str.{chars}
use Rattle.version_pieces.proofs.Along.{put_same}
use Rattle.version_pieces.proofs.spans.text_with.Goals as goal

pub returns-then-is-clause-text : goal.returns-then-is-clause-text
returns-then-is-clause-text c =
    c.in_ok-same.ensures
    ∙ put_same c.args.text.now (chars c.args.new.now) c.args.from c.args.to c.requires.order (sym c.between.ensures ∙ c.if-is.ensures (search rules))

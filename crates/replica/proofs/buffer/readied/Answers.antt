use Rattle.std.proofs.Common.{refl, ◌∙◌}
use Rattle.replica.proofs.buffer.readied.Goals as goal

pub returns : goal.returns
returns c =
    let spelled = c.in_ok-text.ensures in
    (refl, c.in_ok-copy.ensures c.args.change.now spelled.0 (c.as_str.ensures ∙ spelled.1), spelled.1)

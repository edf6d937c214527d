use Rattle.std.proofs.lemmas.Str.Pattern.{strip_prefix_char}
use Rattle.change_ops.proofs.Signs.{behind_sign}
use Rattle.change_ops.proofs.numbers.after_sign.Goals as goal

pub returns : goal.returns
returns c =
    behind_sign c.args.sign c.args.word.now c.strip_prefix.result (strip_prefix_char c.args.sign c.args.word.now c.strip_prefix.result c.strip_prefix.ensures.cases c.requires)

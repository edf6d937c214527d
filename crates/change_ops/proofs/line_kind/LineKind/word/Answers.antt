use Rattle.std.proofs.Common.{[], sym}
use Rattle.std.proofs.lemmas.Option.{get_or_from_slice_get}
use Rattle.change_ops.specs.LineKinds.{kind_words}
use Rattle.change_ops.proofs.line_kind.LineKind.word.Goals as goal

pub returns : goal.returns
unfolding kind_words
returns c = sym (get_or_from_slice_get kind_words c.args.self c.word_in.result.now [] (rw c.place.ensures.value at c.word_in.ensures))

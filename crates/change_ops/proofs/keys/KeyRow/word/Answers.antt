use Rattle.std.proofs.Common.{[], sym}
use Rattle.std.proofs.lemmas.Option.{get_or_from_slice_get}
use Rattle.change_ops.specs.Keys.{words}
use Rattle.change_ops.proofs.keys.KeyRow.word.Goals as goal

pub returns : goal.returns
unfolding words
returns c = sym (get_or_from_slice_get words c.args.self c.word_in.result.now [] (rw c.row.ensures.value at c.word_in.ensures))

use Rattle.std.proofs.Common.{sym}
use Rattle.std.proofs.lemmas.Option.{get_or_from_slice_get}
use Rattle.change_ops.specs.Keys.{types}
use Rattle.change_ops.specs.declared.keys.ValueType.TheVariants.{Nothing}
use Rattle.change_ops.proofs.keys.KeyRow.value_type.Goals as goal

pub returns : goal.returns
unfolding types
returns c = sym (get_or_from_slice_get types c.args.self c.type_in.result Nothing (rw c.row.ensures.value at c.type_in.ensures))

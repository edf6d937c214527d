use Rattle.std.proofs.Common.{◌≡◌, ◌++◌}
use Rattle.std.specs.Prelude.{map}
use Rattle.std.specs.Vec.Iter.{into_iter_items}
use Rattle.hub_commands.specs.Tested.{tried_on}
use Rattle.hub_commands.proofs.filter_test.tried.Given as goal

abbrev pub invariant-loop-case : goal.invariant-loop-case
invariant-loop-case l =
    l.all.items ++ map (tried_on l.fn.filter) (into_iter_items l.case-iterator) ≡ map (tried_on l.fn.filter) l.fn.cases.items

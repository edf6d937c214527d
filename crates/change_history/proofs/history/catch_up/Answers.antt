use Rattle.std.proofs.Common.{◌≡◌, ◌∙◌, ◌-◌, List, Some, length, take, sym}
use Rattle.std.specs.List.{slice_get}
use Rattle.change_ops.specs.Changes.{Change}
use Rattle.change_history.specs.Accepted.{operations_of}
use Rattle.change_history.specs.Kept.{CanCatchUp}
use Rattle.change_history.proofs.Chronicle.{last_accepted, caught_up_none, caught_up_result}
use Rattle.change_history.proofs.history.catch_up.Goals as goal

pub apply_all-requires : goal.apply_all-requires
apply_all-requires c =
    let changes : List Change = c.requires.0 in
    let can : CanCatchUp changes c.args.last.now c.args.parts.now = c.requires.1 in
    (operations_of (take (length changes - 1) changes), can.kept, last_accepted changes c.in-Some.change c.lines.result.now can.accepted (sym can.is ∙ c.in-Some.is) c.lines.ensures.value)

pub returns-in-Some : goal.returns-in-Some
returns-in-Some c = λ changes can.
    let here : slice_get changes (length changes - 1) ≡ Some c.in-Some.change = sym can.is ∙ c.in-Some.is in
    caught_up_result changes c.in-Some.change c.lines.result.now c.apply_all.new.parts c.apply_all.result here c.lines.ensures.value
    (c.apply_all.ensures (operations_of (take (length changes - 1) changes)) can.kept (last_accepted changes c.in-Some.change c.lines.result.now can.accepted here c.lines.ensures.value))

pub returns-in-None : goal.returns-in-None
returns-in-None c = λ changes can. caught_up_none changes c.args.parts.now (sym can.is ∙ c.in-None.is) can.kept

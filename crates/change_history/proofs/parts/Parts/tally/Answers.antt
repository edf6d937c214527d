use Rattle.std.proofs.Common.{refl, ap, ◌∙◌, length}
use Rattle.std.proofs.lemmas.List.Sums.{length-filter}
use Rattle.change_ops.specs.Operations.{is_mark}
use Rattle.change_history.proofs.Counting.{tally_begun}
use Rattle.change_history.proofs.Edits.{inserts_counted}
use Rattle.change_history.proofs.parts.Parts.tally.Goals as goal

pub returns : goal.returns
returns c = λ ops k.
    tally_begun ops c.args.node c.last.result _ (c.last.ensures ops k.newest) refl c.unwrap_or.ensures
    (c.len.ensures.value ∙ k.held.size ∙ inserts_counted ops)
    (ap length (c.operations.ensures ∙ k.marks) ∙ length-filter is_mark ops)
    c.new.ensures.items c.new-2.ensures

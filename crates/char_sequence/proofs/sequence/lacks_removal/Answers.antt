use Rattle.std.proofs.Common.{◌≡◌, sym, subst, ◌∙◌}
use Rattle.std.proofs.lemmas.Option.{same_Some}
use Rattle.char_sequence.specs.Tree.{IsRemoval}
use Rattle.char_sequence.proofs.Reviving.{lost_removal, removal_gone, removal_stands}
use Rattle.char_sequence.proofs.sequence.lacks_removal.Goals as goal

pub returns-in-Some-clause-yes : goal.returns-in-Some-clause-yes
returns-in-Some-clause-yes c =
    λ ops h t.
    let removal = c.in-Some.removal in
    lost_removal ops c.args.op.now c.args.removals.now removal h ((c.named_removal.ensures removal).1 c.in-Some.is)
    (removal_gone c.args.removals.now removal c.target_of.result c.is_none.result c.target_of.ensures.cases c.is_none.ensures t)

pub returns-in-Some-clause-no : goal.returns-in-Some-clause-no
returns-in-Some-clause-no c =
    λ ops h f r names.
    let removal = c.in-Some.removal in
    let same : removal ≡ r = same_Some removal r (sym c.in-Some.is ∙ (c.named_removal.ensures r).0 names) in
    subst (λ z. IsRemoval ops z) same
    (removal_stands ops c.args.removals.now removal c.target_of.result c.is_none.result h c.target_of.ensures.cases c.is_none.ensures f)

use Rattle.std.proofs.Common.{inr, sym, subst, ◌∙◌}
use Rattle.std.proofs.lemmas.Bool.{false≢true}
use Rattle.std.proofs.lemmas.Option.{same_Some, none-some}
use Rattle.char_sequence.proofs.Steps.{not_true}
use Rattle.char_sequence.specs.Tree.{IsRemoval}
use Rattle.std.proofs.Common.{◌++◌}
use Rattle.change_history.proofs.Counting.{not_false}
use Rattle.change_history.proofs.parts.Parts.lacks_removal.Goals as goal

pub returns-in-Some-clause-yes : goal.returns-in-Some-clause-yes
returns-in-Some-clause-yes c = λ ops own node k t missing.
    inr (c.in-Some.removal, (c.named_removal.ensures c.in-Some.removal).1 c.in-Some.is, λ there. false≢true (sym (not_true _ missing) ∙ (c.has_removal.ensures ops own node k t).1 there))

pub returns-in-Some-clause-no : goal.returns-in-Some-clause-no
returns-in-Some-clause-no c = λ ops own node k t there r names.
    let same = same_Some c.in-Some.removal r (sym c.in-Some.is ∙ (c.named_removal.ensures r).0 names) in
    subst (λ z. IsRemoval (ops ++ own) z) same ((c.has_removal.ensures ops own node k t).0 (not_false _ there))

pub returns-in-None-clause-no : goal.returns-in-None-clause-no
returns-in-None-clause-no c = λ ops own node k t there r names. absurd (none-some r (sym c.in-None.is ∙ (c.named_removal.ensures r).0 names))

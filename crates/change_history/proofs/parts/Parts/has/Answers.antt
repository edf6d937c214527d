use Rattle.std.proofs.Common.{sym, ◌∙◌}
use Rattle.std.proofs.lemmas.Bool.{false≢true}
use Rattle.change_history.proofs.Counting.{present_right, present_either}
use Rattle.change_history.proofs.parts.Parts.has.Goals as goal

pub returns-then-has : goal.returns-then-has
returns-then-has c = λ ops own node k t. (λ there. present_right ops own c.args.id ((c.has.ensures ops own node t).0 there), λ there. c.if-has.true)

pub returns-else-has : goal.returns-else-has
returns-else-has c = λ ops own node k t.
    present_either ops own c.args.id c.has-else-has.result (λ there. false≢true (sym c.if-has.false ∙ (c.has.ensures ops own node t).1 there)) (c.has-else-has.ensures ops k.shows)

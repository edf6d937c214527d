use Rattle.change_history.proofs.tally.Tally.has_removal.Goals as goal

pub returns : goal.returns
returns c = λ ops own node t. (λ yes'. (t.removed c.args.removal).1 (c.has.ensures.0 yes'), λ there. c.has.ensures.1 ((t.removed c.args.removal).0 there))

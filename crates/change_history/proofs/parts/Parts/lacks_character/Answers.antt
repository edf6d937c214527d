use Rattle.std.proofs.Common.{◌≡◌, Some, ⊎_elim, inl}
use Rattle.char_sequence.proofs.Steps.{not_true}
use Rattle.change_history.proofs.Counting.{not_false}
use Rattle.change_history.proofs.parts.Parts.lacks_character.Goals as goal

pub returns-then-not-is_there-clause-yes : goal.returns-then-not-is_there-clause-yes
returns-then-not-is_there-clause-yes c = λ ops own node k t missing.
    let one = c.is_there.ensures.no ops own node k t c.if-not-is_there.true in
    inl (one.0, c.named-first.ensures.first one.0 one.1, one.2)

pub returns-else-not-is_there-clause-yes : goal.returns-else-not-is_there-clause-yes
returns-else-not-is_there-clause-yes c = λ ops own node k t missing.
    let one = c.is_there-else-not-is_there.ensures.no ops own node k t (not_true _ missing) in
    inl (one.0, c.named-first.ensures.second one.0 one.1, one.2)

pub returns-else-not-is_there-clause-no : goal.returns-else-not-is_there-clause-no
returns-else-not-is_there-clause-no c = λ ops own node k t there x names.
    ⊎_elim
    (λ (e : c.named-first.result.first ≡ Some x). c.is_there.ensures.yes ops own node k t c.if-not-is_there.false x e)
    (λ (e : c.named-first.result.second ≡ Some x). c.is_there-else-not-is_there.ensures.yes ops own node k t (not_false _ there) x e)
    (c.named-first.ensures.names x names)

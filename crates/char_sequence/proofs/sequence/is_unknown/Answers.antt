use Rattle.char_sequence.proofs.sequence.is_unknown.Goals as goal

pub returns-then-lacks_character-clause-yes : goal.returns-then-lacks_character-clause-yes
returns-then-lacks_character-clause-yes c = λ ops text h t. c.lacks_character.ensures.yes ops text t

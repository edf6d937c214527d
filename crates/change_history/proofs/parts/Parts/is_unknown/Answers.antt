use Rattle.change_history.proofs.parts.Parts.is_unknown.Goals as goal

pub returns-else-lacks_character-clause-characters : goal.returns-else-lacks_character-clause-characters
returns-else-lacks_character-clause-characters c = λ ops own node k t there. c.lacks_character.ensures.no ops own node k t c.if-lacks_character.false

use Rattle.change_history.proofs.parts.Parts.same_set_same_spans.Goals as goal

pub returns : goal.returns
returns c = λ ops others spans more kept same first second. c.same_set_same_spans.ensures ops others spans more kept.shows same first second

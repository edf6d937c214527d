use Rattle.std.proofs.Common.{◌≡◌, Some, None, get_or, sym, ◌∙◌, rules}
use Rattle.std.proofs.lemmas.List.{get_or_read}
use Rattle.bpf_words.specs.Words.{program_of}
use Rattle.known_ways.proofs.Wholes.{before_some, before_none}
use Rattle.known_ways.proofs.knowledge.Knowledge.tracked_before.Goals as goal

pub returns-in-Some : goal.returns-in-Some
returns-in-Some c = λ each within.
    let self = c.args.self.now in
    let held : get_or self.states.items c.args.slot None ≡ Some c.in-Some.state =
    sym (get_or_read self.states.items c.args.slot c.index.result.now within c.index.ensures None) ∙ c.in-Some.is in
    before_some self.profile (program_of self.words.now) c.args.slot (get_or self.states.items c.args.slot None) c.in-Some.state held c.is_whole.ensures (each c.args.slot within)

pub returns-in-None : goal.returns-in-None
returns-in-None c = λ each within.
    let self = c.args.self.now in
    let held : get_or self.states.items c.args.slot None ≡ None = search rules in
    before_none self.profile (program_of self.words.now) c.args.slot (get_or self.states.items c.args.slot None) held (each c.args.slot within)

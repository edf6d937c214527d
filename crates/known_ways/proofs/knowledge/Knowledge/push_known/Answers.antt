use Rattle.std.proofs.Common.{◌≡◌, ◌++◌, List, Some, IfOk, refl, subst}
use Rattle.std.specs.List.{slice_get}
use Rattle.std.proofs.lemmas.Option.{slice_get_within}
use Rattle.bpf_words.specs.Words.{program_of}
use Rattle.verifier.specs.declared.refusal.StructureFault.TheVariants.{WriteR10}
use Rattle.tracked_state.specs.Tracked.{tracked_of}
use Rattle.verifier.specs.Decides.{known_before}
use Rattle.known_ways.specs.Ways.{Way, ways_at}
use Rattle.known_ways.specs.Told.{ways_seen}
use Rattle.known_ways.proofs.Edges.{by_known, no_run, grown_by_none}
use Rattle.known_ways.proofs.knowledge.Knowledge.push_known.Goals as goal

pub returns-in-Some : goal.returns-in-Some
returns-in-Some c = λ each within.
    let self = c.args.self.now in
    let program = program_of self.words.now in
    let known = known_before self.profile program c.args.from in
    subst (λ (ws : List Way). IfOk c.push_passed.result (λ _. ways_seen c.push_passed.new.ways.items ≡ ways_seen c.args.ways.now.items ++ ws))
    (by_known self.profile program c.args.slot c.args.from c.args.insn.now known (tracked_of c.in-Some.before.now) c.requires.stands (c.in-Some.ensures each within)) c.push_passed.ensures

pub returns-in-None : goal.returns-in-None
returns-in-None c = λ each within.
    let self = c.args.self.now in
    let program = program_of self.words.now in
    let known = known_before self.profile program c.args.from in
    let old = ways_seen c.args.ways.now.items in
    grown_by_none old old (ways_at self.profile c.args.slot c.args.from (slice_get program c.args.from) known) refl
    (no_run self.profile program c.args.slot c.args.from c.args.insn.now known c.requires.stands (c.in-None.ensures each within))

pub push_passed-requires-clause-spares : goal.push_passed-requires-clause-spares
push_passed-requires-clause-spares c =
    let self = c.args.self.now in
    let within = slice_get_within (program_of self.words.now) c.args.from (Some c.args.insn.now) c.requires.stands in
    self.structured c.args.from c.args.insn.now within c.requires.stands WriteR10

use Rattle.std.proofs.Common.{◌<◌, length, refl, arith}
use Rattle.std.specs.List.{slice_get}
use Rattle.bpf_words.specs.Words.{program_of}
use Rattle.verifier.specs.Decides.{known_before}
use Rattle.known_ways.specs.Ways.{ways_at}
use Rattle.known_ways.specs.Told.{ways_seen}
use Rattle.known_ways.proofs.Edges.{no_insn, grown_by_none}
use Rattle.known_ways.proofs.knowledge.Knowledge.push_from.Goals as goal

pub returns-in-None : goal.returns-in-None
returns-in-None c = λ each within.
    let self = c.args.self.now in
    let program = program_of self.words.now in
    let known = known_before self.profile program c.args.from in
    let old = ways_seen c.args.ways.now.items in
    let here : c.args.from < length program = omega (arith, within, self.within) in
    grown_by_none old old (ways_at self.profile c.args.slot c.args.from (slice_get program c.args.from) known) refl
    (no_insn self.profile program c.args.slot c.args.from known (c.in-None.ensures.stands here))

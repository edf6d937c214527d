use Rattle.std.proofs.Common.{◌≡◌, ◌-◌}
use Rattle.bpf_words.specs.Words.{program_of}
use Rattle.abstract_state.specs.Situation.{situation_of}
use Rattle.need_trails.specs.Trail.{first_neighbor}
use Rattle.need_trails.proofs.copies.first_neighbor.Given as goal

abbrev pub invariant-loop-register : goal.invariant-loop-register
invariant-loop-register l =
    first_neighbor l.knowledge.profile (program_of l.knowledge.words.now) (situation_of l.state) l.slot l.number l.need (10 - l.register)
    ≡ first_neighbor l.knowledge.profile (program_of l.knowledge.words.now) (situation_of l.state) l.slot l.number l.need 10

use Rattle.std.proofs.Common.{◌≡◌, ◌+◌, ◌-◌, ◌∙◌, sym, suc, arith}
use Rattle.bpf_words.specs.Words.{program_of}
use Rattle.abstract_state.specs.Situation.{situation_of}
use Rattle.need_trails.specs.Trail.{first_neighbor}
use Rattle.need_trails.proofs.Going.{neighbor_left, or_found, or_none, neighbor_none}
use Rattle.need_trails.proofs.copies.first_neighbor.Goals as goal

pub returns-then-is_some : goal.returns-then-is_some
returns-then-is_some c =
    let profile = c.args.knowledge.now.profile in
    let program = program_of c.args.knowledge.now.words.now in
    let s = situation_of c.args.state.now in
    let more : 10 - c.loop-register.register ≡ suc (10 - (c.loop-register.register + 1)) = omega (arith, c.loop-register-test.true) in
    let here : 9 - (10 - (c.loop-register.register + 1)) ≡ c.loop-register.register = omega (arith, c.loop-register-test.true) in
    or_found c.in_ok-neighbor.neighbor (first_neighbor profile program s c.args.slot c.args.number c.args.need (10 - (c.loop-register.register + 1))) _
    (neighbor_left profile program s c.args.slot c.args.number c.args.need c.loop-register.register (10 - (c.loop-register.register + 1)) (10 - c.loop-register.register) c.in_ok-neighbor.neighbor _ more here c.in_ok-neighbor.ensures c.loop-register.invariant)
    (sym c.is_some.ensures ∙ c.if-is_some.true)

pub loop-register-preserved : goal.loop-register-preserved
loop-register-preserved c =
    let profile = c.args.knowledge.now.profile in
    let program = program_of c.args.knowledge.now.words.now in
    let s = situation_of c.args.state.now in
    let more : 10 - c.loop-register.register ≡ suc (10 - (c.loop-register.register + 1)) = omega (arith, c.loop-register-test.true) in
    let here : 9 - (10 - (c.loop-register.register + 1)) ≡ c.loop-register.register = omega (arith, c.loop-register-test.true) in
    or_none c.in_ok-neighbor.neighbor (first_neighbor profile program s c.args.slot c.args.number c.args.need (10 - (c.loop-register.register + 1))) _
    (neighbor_left profile program s c.args.slot c.args.number c.args.need c.loop-register.register (10 - (c.loop-register.register + 1)) (10 - c.loop-register.register) c.in_ok-neighbor.neighbor _ more here c.in_ok-neighbor.ensures c.loop-register.invariant)
    (sym c.is_some.ensures ∙ c.if-is_some.false)

pub returns : goal.returns
returns c =
    let none : 10 - c.loop-register.register ≡ 0 = omega (arith, c.loop-register-test.false) in
    neighbor_none c.args.knowledge.now.profile (program_of c.args.knowledge.now.words.now) (situation_of c.args.state.now) c.args.slot c.args.number c.args.need (10 - c.loop-register.register) _ none c.loop-register.invariant

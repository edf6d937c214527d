use Rattle.std.proofs.Common.{◌≤◌, ◌/◌, length, ◌∙◌, subst, sym, arith}
use Rattle.bpf_words.specs.Words.{program_of}
use Rattle.bpf_words.proofs.Second.{length-program_of}
use Rattle.known_ways.specs.Told.{BeginsWith}
use Rattle.known_ways.proofs.Words.{begins_alike}
use Rattle.known_ways.proofs.Gathering.{known_words}
use Rattle.known_ways.proofs.before.states_ended.Goals as goal

pub states_first-requires : goal.states_first-requires
states_first-requires c =
    let begins : BeginsWith c.args.last c.args.words.now c.in-Ok.ended = subst (BeginsWith c.args.last c.args.words.now) (sym (c.in-Ok.ensures.value.0 ∙ c.deref.ensures.value)) c.in_ok-bytes.ensures in
    omega (arith, begins.long, length-program_of c.in-Ok.ended)

pub returns-in-Ok-clause-known : goal.returns-in-Ok-clause-known
returns-in-Ok-clause-known c =
    let begins : BeginsWith c.args.last c.args.words.now c.in-Ok.ended = subst (BeginsWith c.args.last c.args.words.now) (sym (c.in-Ok.ensures.value.0 ∙ c.deref.ensures.value)) c.in_ok-bytes.ensures in
    let within : c.args.last ≤ length c.args.words.now / 8 = omega (arith, c.requires, length-program_of c.args.words.now) in
    known_words c.args.profile (program_of c.in-Ok.ended) (program_of c.args.words.now) (λ v. v.items) c.args.last c.states_first.result (begins_alike c.args.last c.args.words.now c.in-Ok.ended begins within)
    c.states_first.ensures.size c.states_first.ensures.known

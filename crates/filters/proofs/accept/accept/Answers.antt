use Rattle.std.proofs.Common.{◌≡◌, ℕ, ◌≤◌, length, sym, subst, arith}
use Rattle.bpf_words.specs.Words.{program_of}
use Rattle.span_context.specs.declared.profile.Profile.TheVariants.{Three}
use Rattle.filters.specs.declared.rules.RuleSet.{RuleSet}
use Rattle.filters.specs.declared.rules.RuleSet.TheVariants.{Straight}
use Rattle.filters.specs.Accepted.{IsAccepted}
use Rattle.filters.proofs.Ends.{accepted_straight, whenever}
use Rattle.filters.proofs.accept.accept.Goals as goal

pub returns-in-None-clause-accepted : goal.returns-in-None-clause-accepted
returns-in-None-clause-accepted c =
    let program = program_of c.args.words.now in
    let few : length program ≤ 4096 = omega (arith, c.len-slots.ensures.value, c.len-slots.ensures.few) in
    whenever c.accept_straight-in-None.result (λ _. IsAccepted (Straight Three) program) (λ _. IsAccepted c.args.rules program)
    (λ filter accepted. subst (λ (rules : RuleSet). IsAccepted rules program) (sym c.in-Looping.is)
    (accepted_straight program few accepted)) c.accept_straight-in-None.ensures.accepted

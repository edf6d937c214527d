use Rattle.std.proofs.Common.{◌≡◌, ◌↔◌, ◌+◌, ◌+ℤ◌, ℤ, pos, IsOk, FitsSigned, w32, subst, ◌∙◌, rules}
use Rattle.std.proofs.lemmas.Int.{to_z-of_z}
use Rattle.std.proofs.lemmas.Bool.{false≢true}
use Rattle.bpf_words.specs.Flow.{jump_of}
use Rattle.loop_check.specs.Rules.{loop_rules}
use Rattle.loop_check.specs.Meanings.{meanings}
use Rattle.loop_check.specs.Leads.{LeadsOn}
use Rattle.loop_check.proofs.Among.{same_some, not_both}
use Rattle.loop_check.proofs.leads.jump_to.Goals as goal

pub returns-in-Some-clause-rule : goal.returns-in-Some-clause-rule
returns-in-Some-clause-rule c = λ distance jumps.
    let same : c.in-Some.distance ≡ distance = same_some c.in-Some.distance distance (c.in-Some.ensures ∙ jumps) in
    let fits : FitsSigned w32 c.in-Some.distance = search rules in
    subst (λ (z : ℤ). IsOk c.jump_by.result
    ↔ LeadsOn loop_rules c.args.labels.now c.args.from.now c.args.insn.now (pos (c.args.slot + 1) +ℤ z) c.args.behind.now)
    (to_z-of_z w32 c.in-Some.distance fits ∙ same) c.jump_by.ensures.rule

pub returns-in-Some-clause-sound : goal.returns-in-Some-clause-sound
returns-in-Some-clause-sound c = λ distance jumps ok.
    let same : c.in-Some.distance ≡ distance = same_some c.in-Some.distance distance (c.in-Some.ensures ∙ jumps) in
    let fits : FitsSigned w32 c.in-Some.distance = search rules in
    subst (λ (z : ℤ).
    LeadsOn meanings c.args.labels.now c.args.from.now c.args.insn.now (pos (c.args.slot + 1) +ℤ z) c.args.behind.now)
    (to_z-of_z w32 c.in-Some.distance fits ∙ same) (c.jump_by.ensures.sound ok)

pub returns-in-None-clause-rule : goal.returns-in-None-clause-rule
returns-in-None-clause-rule c = λ distance jumps.
    absurd (not_both (jump_of c.args.insn.now) distance c.in-None.ensures jumps)

pub returns-in-None-clause-sound : goal.returns-in-None-clause-sound
returns-in-None-clause-sound c = λ distance jumps ok. absurd (false≢true ok)

use Rattle.std.proofs.Common.{◌≡◌, ◌↔◌, ◌+◌, ◌+ℤ◌, ℤ, pos, true, false, IsOk, to_z, of_z, w32, sym, ap, subst, ◌∙◌}
use Rattle.std.proofs.lemmas.Bool.{false≢true}
use Rattle.std.proofs.lemmas.Int.{to_z-of_z}
use Rattle.loop_check.specs.Rules.{loop_rules}
use Rattle.loop_check.specs.Meanings.{meanings}
use Rattle.loop_check.specs.Leads.{LeadsOn}
use Rattle.loop_check.proofs.Leading.{leads_nowhere}
use Rattle.loop_check.proofs.leads.jump_by.Goals as goal

pub returns-in-Some-clause-rule : goal.returns-in-Some-clause-rule
returns-in-Some-clause-rule c =
    let back : to_z w32 (of_z w32 c.args.distance) ≡ c.args.distance = to_z-of_z w32 c.args.distance c.ranges.distance in
    subst (λ (to : ℤ). IsOk c.lead_to.result
    ↔ LeadsOn loop_rules c.args.labels.now c.args.from.now c.args.insn.now to c.args.behind.now)
    (c.in-Some.ensures ∙ ap (λ (z : ℤ). pos (c.args.slot + 1) +ℤ z) back) c.lead_to.ensures.rule

pub returns-in-Some-clause-sound : goal.returns-in-Some-clause-sound
returns-in-Some-clause-sound c = λ ok.
    let back : to_z w32 (of_z w32 c.args.distance) ≡ c.args.distance = to_z-of_z w32 c.args.distance c.ranges.distance in
    subst (λ (to : ℤ). LeadsOn meanings c.args.labels.now c.args.from.now c.args.insn.now to c.args.behind.now)
    (c.in-Some.ensures ∙ ap (λ (z : ℤ). pos (c.args.slot + 1) +ℤ z) back) (c.lead_to.ensures.sound ok)

pub returns-in-None-clause-rule : goal.returns-in-None-clause-rule
returns-in-None-clause-rule c =
    let back : to_z w32 (of_z w32 c.args.distance) ≡ c.args.distance = to_z-of_z w32 c.args.distance c.ranges.distance in
    leads_nowhere loop_rules c.args.labels.now c.args.from.now c.args.insn.now
    (pos (c.args.slot + 1) +ℤ c.args.distance) c.args.behind.now (false ≡ true) false≢true
    (λ place label there found.
    c.in-None.ensures place (there ∙ ap (λ (z : ℤ). pos (c.args.slot + 1) +ℤ z) (sym back)))

pub returns-in-None-clause-sound : goal.returns-in-None-clause-sound
returns-in-None-clause-sound c = λ ok. absurd (false≢true ok)

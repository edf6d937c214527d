use Rattle.std.proofs.Common.{◌↔◌, ◌+◌, ℕ, pos, Option, IsOk, sym, subst}
use Rattle.bpf_words.specs.Flow.{slots_of}
use Rattle.tracked_state.specs.declared.state.TrackedState.{TrackedState}
use Rattle.loop_check.specs.Rules.{loop_rules}
use Rattle.loop_check.specs.Meanings.{meanings}
use Rattle.loop_check.specs.Leads.{LeadsOn, LeadsIf}
use Rattle.loop_check.proofs.leads.fall_on.Goals as goal

pub returns-in-Some-clause-rule : goal.returns-in-Some-clause-rule
returns-in-Some-clause-rule c =
    subst (λ (o : Option TrackedState). IsOk c.lead_to.result
    ↔ LeadsIf loop_rules c.args.labels.now c.args.from.now c.args.insn.now
    (pos (c.args.slot + slots_of c.args.insn.now)) o) (sym c.in-Some.is)
    (subst (λ (n : ℕ). IsOk c.lead_to.result
    ↔ LeadsOn loop_rules c.args.labels.now c.args.from.now c.args.insn.now (pos (c.args.slot + n)) c.in-Some.state)
    c.slots.ensures.value c.lead_to.ensures.rule)

pub returns-in-Some-clause-sound : goal.returns-in-Some-clause-sound
returns-in-Some-clause-sound c = λ ok.
    subst (λ (o : Option TrackedState).
    LeadsIf meanings c.args.labels.now c.args.from.now c.args.insn.now (pos (c.args.slot + slots_of c.args.insn.now)) o)
    (sym c.in-Some.is)
    (subst (λ (n : ℕ).
    LeadsOn meanings c.args.labels.now c.args.from.now c.args.insn.now (pos (c.args.slot + n)) c.in-Some.state)
    c.slots.ensures.value (c.lead_to.ensures.sound ok))

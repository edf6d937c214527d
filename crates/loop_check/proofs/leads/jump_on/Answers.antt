use Rattle.std.proofs.Common.{◌↔◌, ◌+◌, ◌+ℤ◌, pos, Option, IsOk, sym, subst}
use Rattle.tracked_state.specs.declared.state.TrackedState.{TrackedState}
use Rattle.loop_check.specs.Rules.{loop_rules}
use Rattle.loop_check.specs.Meanings.{meanings}
use Rattle.loop_check.specs.Leads.{LeadsIf}
use Rattle.loop_check.proofs.leads.jump_on.Goals as goal

pub returns-in-Some-clause-rule : goal.returns-in-Some-clause-rule
returns-in-Some-clause-rule c = λ distance jumps.
    subst (λ (o : Option TrackedState). IsOk c.jump_to.result
    ↔ LeadsIf loop_rules c.args.labels.now c.args.from.now c.args.insn.now (pos (c.args.slot + 1) +ℤ distance) o)
    (sym c.in-Some.is) (c.jump_to.ensures.rule distance jumps)

pub returns-in-Some-clause-sound : goal.returns-in-Some-clause-sound
returns-in-Some-clause-sound c = λ distance jumps ok.
    subst (λ (o : Option TrackedState).
    LeadsIf meanings c.args.labels.now c.args.from.now c.args.insn.now (pos (c.args.slot + 1) +ℤ distance) o)
    (sym c.in-Some.is) (c.jump_to.ensures.sound distance jumps ok)

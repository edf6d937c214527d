use Rattle.std.proofs.Common.{◌≡◌, pos, true, false, IsOk}
use Rattle.std.proofs.lemmas.Bool.{false≢true}
use Rattle.loop_check.specs.Rules.{loop_rules}
use Rattle.loop_check.specs.Meanings.{meanings}
use Rattle.loop_check.proofs.Leading.{leads_as, leads_there, leads_nowhere, none_there}
use Rattle.loop_check.proofs.leads.lead_to.Goals as goal

pub returns-in-Some-clause-rule : goal.returns-in-Some-clause-rule
returns-in-Some-clause-rule c =
    leads_as loop_rules c.args.labels.now c.args.from.now c.args.insn.now c.args.slot c.args.behind.now
    c.in-Some.label.now (IsOk c.enter.result) c.in-Some.ensures c.enter.ensures.rule

pub returns-in-Some-clause-sound : goal.returns-in-Some-clause-sound
returns-in-Some-clause-sound c = λ ok.
    leads_there meanings c.args.labels.now c.args.from.now c.args.insn.now c.args.slot c.args.behind.now
    c.in-Some.label.now c.in-Some.ensures (c.enter.ensures.sound ok)

pub returns-in-None-clause-rule : goal.returns-in-None-clause-rule
returns-in-None-clause-rule c =
    leads_nowhere loop_rules c.args.labels.now c.args.from.now c.args.insn.now (pos c.args.slot) c.args.behind.now
    (false ≡ true) false≢true (none_there c.args.labels.now c.args.slot c.in-None.ensures)

pub returns-in-None-clause-sound : goal.returns-in-None-clause-sound
returns-in-None-clause-sound c = λ ok. absurd (false≢true ok)

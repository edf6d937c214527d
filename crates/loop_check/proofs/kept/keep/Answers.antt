use Rattle.std.proofs.Common.{IsTrue, refl, subst}
use Rattle.bpf_words.specs.Words.{program_of}
use Rattle.loop_labels.specs.Rules.{IsKeptBy}
use Rattle.loop_check.specs.Labels.{labelled, labels_of}
use Rattle.loop_check.specs.Rules.{lent, loop_rules}
use Rattle.loop_check.specs.Meanings.{meanings}
use Rattle.loop_check.specs.Leads.{GoesBy}
use Rattle.loop_check.proofs.Keeping.{keeps, if_ok}
use Rattle.std.proofs.lemmas.Bool.{false≢true}
use Rattle.loop_check.specs.Always.{GoesAlways}
use Rattle.loop_check.proofs.Completing.{same_insn}
use Rattle.loop_check.proofs.kept.keep.Goals as goal

pub go_on-requires : goal.go_on-requires
go_on-requires c = c.in-Some.ensures.1

pub returns-clause-rule : goal.returns-clause-rule
returns-clause-rule c =
    let program = program_of c.args.words.now in
    let all = c.args.labels.now in
    let label = c.args.label.now in
    if_ok c.go_on.result (GoesBy loop_rules all c.args.slot label c.in-Some.insn)
    (IsKeptBy loop_rules program (labels_of all) (labelled c.args.slot label))
    (λ goes. keeps loop_rules program all c.args.slot label c.in-Some.insn c.in-Some.ensures.0
    (record { own = refl; positive = c.is_positive.ensures.rule.0 c.if-not-is_positive.false }) goes)
    c.go_on.ensures.rule

pub returns-clause-sound : goal.returns-clause-sound
returns-clause-sound c =
    let program = program_of c.args.words.now in
    let all = c.args.labels.now in
    let label = c.args.label.now in
    if_ok c.go_on.result (GoesBy meanings all c.args.slot label c.in-Some.insn)
    (IsKeptBy meanings program (labels_of all) (labelled c.args.slot label))
    (λ goes. keeps meanings program all c.args.slot label c.in-Some.insn c.in-Some.ensures.0
    (λ bytes s span held.
    c.is_positive.ensures.sound c.if-not-is_positive.false (lent bytes span) s (held span).state) goes)
    c.go_on.ensures.sound

pub returns-in_default-clause-complete : goal.returns-in_default-clause-complete
returns-in_default-clause-complete c = λ keeps. absurd (c.in_default.ensures keeps.insn keeps.starts)

pub returns-then-not-is_positive-clause-complete : goal.returns-then-not-is_positive-clause-complete
returns-then-not-is_positive-clause-complete c = λ keeps.
    absurd (false≢true (subst IsTrue c.if-not-is_positive.true (c.is_positive.ensures.rule.1 keeps.positive)))

pub returns-clause-complete : goal.returns-clause-complete
returns-clause-complete c = λ keeps.
    c.go_on.ensures.complete
    (subst (GoesAlways c.args.labels.now c.args.slot c.args.label.now)
    (same_insn (program_of c.args.words.now) c.args.slot keeps.insn c.in-Some.insn keeps.starts c.in-Some.ensures.0)
    keeps.goes)

use Rattle.std.proofs.Common.{refl, ap}
use Rattle.bpf_words.specs.Flow.{jump_of}
use Rattle.loop_check.proofs.Going.{branch_goes, branch_goes_soundly}
use Rattle.std.proofs.lemmas.Bool.{false≢true}
use Rattle.tracked_state.specs.Tracked.{tracked_of}
use Rattle.loop_states.specs.Rules.{branched}
use Rattle.loop_check.proofs.Completing.{branch_always, branch_stops, stops_as, ways_taken, ways_untaken}
use Rattle.loop_check.proofs.kept.compare.Goals as goal

pub returns-clause-rule : goal.returns-clause-rule
returns-clause-rule c =
    let jumps = ap jump_of c.in-Branch.is in
    branch_goes c.args.labels.now c.args.slot c.args.from.now c.args.insn.now c.in-Branch.width c.in-Branch.comparison
    c.in-Branch.left c.in-Branch.right _ c.in_ok-edges.edges c.in-Branch.is c.in_ok-edges.ensures.rule
    ((c.in_ok-jump_on.ensures.rule _ jumps).0 refl) (c.in_ok-fall_on.ensures.rule.0 refl)

pub returns-clause-sound : goal.returns-clause-sound
returns-clause-sound c =
    let jumps = ap jump_of c.in-Branch.is in
    branch_goes_soundly c.args.labels.now c.args.slot c.args.from.now c.args.insn.now c.in-Branch.width
    c.in-Branch.comparison c.in-Branch.left c.in-Branch.right _ c.in_ok-edges.edges c.in-Branch.is
    c.in_ok-edges.ensures.taken c.in_ok-edges.ensures.untaken (c.in_ok-jump_on.ensures.sound _ jumps refl)
    (c.in_ok-fall_on.ensures.sound refl)

pub returns-in_err-edges-clause-complete : goal.returns-in_err-edges-clause-complete
returns-in_err-edges-clause-complete c = λ always.
    let from = c.args.from.now in
    let by = branch_always c.args.labels.now c.args.slot from c.args.insn.now c.in-Branch.width c.in-Branch.comparison
    c.in-Branch.left c.in-Branch.right _ c.in-Branch.is always in
    stops_as c.from_residual.result c.in_err-edges.field-0.0 c.from_residual.ensures.1
    (branch_stops (branched c.in-Branch.width c.in-Branch.comparison c.in-Branch.left c.in-Branch.right
    (tracked_of from.state)) by.ways c.in_err-edges.field-0.0 by.granted c.in_err-edges.ensures.rule)

pub returns-in_err-jump_on-clause-complete : goal.returns-in_err-jump_on-clause-complete
returns-in_err-jump_on-clause-complete c = λ always.
    let from = c.args.from.now in
    let jumps = ap jump_of c.in-Branch.is in
    let by = branch_always c.args.labels.now c.args.slot from c.args.insn.now c.in-Branch.width c.in-Branch.comparison
    c.in-Branch.left c.in-Branch.right _ c.in-Branch.is always in
    absurd (false≢true ((c.in_err-jump_on.ensures.rule _ jumps).1
    (by.taken c.in_ok-edges.edges.taken
    (ways_taken (branched c.in-Branch.width c.in-Branch.comparison c.in-Branch.left c.in-Branch.right
    (tracked_of from.state)) by.ways c.in_ok-edges.edges by.granted c.in_ok-edges.ensures.rule))))

pub returns-in_err-fall_on-clause-complete : goal.returns-in_err-fall_on-clause-complete
returns-in_err-fall_on-clause-complete c = λ always.
    let from = c.args.from.now in
    let by = branch_always c.args.labels.now c.args.slot from c.args.insn.now c.in-Branch.width c.in-Branch.comparison
    c.in-Branch.left c.in-Branch.right _ c.in-Branch.is always in
    absurd (false≢true (c.in_err-fall_on.ensures.rule.1
    (by.untaken c.in_ok-edges.edges.untaken
    (ways_untaken (branched c.in-Branch.width c.in-Branch.comparison c.in-Branch.left c.in-Branch.right
    (tracked_of from.state)) by.ways c.in_ok-edges.edges by.granted c.in_ok-edges.ensures.rule))))

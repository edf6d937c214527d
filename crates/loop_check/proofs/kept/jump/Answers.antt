use Rattle.loop_check.proofs.Landing.{jump_far}
use Rattle.loop_check.proofs.Going.{jump_goes, jump_goes_soundly, jump_leads}
use Rattle.loop_check.proofs.Completing.{jump_always}
use Rattle.loop_check.proofs.kept.jump.Goals as goal

pub returns-clause-rule : goal.returns-clause-rule
returns-clause-rule c =
    let (distance, jumps) = jump_far c.args.insn.now c.requires.jumps in
    let all = c.args.labels.now in
    let from = c.args.from.now in
    let rule = c.jump_to.ensures.rule distance jumps in (
      λ ok. jump_goes all c.args.slot from c.args.insn.now distance c.requires.jumps jumps (rule.0 ok),
      λ goes. rule.1 (jump_leads all c.args.slot from c.args.insn.now distance c.requires.jumps jumps goes),
    )

pub returns-clause-sound : goal.returns-clause-sound
returns-clause-sound c = λ ok.
    let (distance, jumps) = jump_far c.args.insn.now c.requires.jumps in
    jump_goes_soundly c.args.labels.now c.args.slot c.args.from.now c.args.insn.now distance c.requires.jumps jumps
    (c.jump_to.ensures.sound distance jumps ok)

pub returns-clause-complete : goal.returns-clause-complete
returns-clause-complete c = λ always.
    let (distance, jumps) = jump_far c.args.insn.now c.requires.jumps in
    let rule = c.jump_to.ensures.rule distance jumps in
    rule.1
    (jump_always c.args.labels.now c.args.slot c.args.from.now c.args.insn.now distance c.requires.jumps jumps always)

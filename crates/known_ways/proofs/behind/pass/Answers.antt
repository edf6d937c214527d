use Rattle.std.proofs.Common.{Result, IfOk, sym, subst}
use Rattle.abstract_state.specs.declared.refusal.Refusal.{Refusal}
use Rattle.abstract_state.specs.Situation.{situation_of}
use Rattle.abstract_state.specs.Stepping.{stepped as step_of}
use Rattle.tracked_state.specs.Rules.{TrackedWays, exit, followed_marking}
use Rattle.tracked_state.specs.Tracked.{tracked_of}
use Rattle.verifier.specs.Decides.{granted, led}
use Rattle.verifier.proofs.Passing.{straight}
use Rattle.verifier.proofs.Deciding.{leads_jump, leads_long, leads_exit, leads_straight, leads_branch}
use Rattle.known_ways.specs.Told.{IsBehind}
use Rattle.known_ways.proofs.Edges.{behind_jump, behind_exit, behind_straight}
use Rattle.known_ways.proofs.behind.pass.Goals as goal

pub returns-in-Jump : goal.returns-in-Jump
returns-in-Jump c = λ slot.
    let t = tracked_of c.args.before.now in
    behind_jump (led c.args.profile slot c.args.insn.now t) c.jumped.result t (leads_jump c.args.profile slot c.args.insn.now _ t c.in-Jump.is) c.jumped.ensures.next c.jumped.ensures.jumped

pub returns-in-JumpLong : goal.returns-in-JumpLong
returns-in-JumpLong c = λ slot.
    let t = tracked_of c.args.before.now in
    behind_jump (led c.args.profile slot c.args.insn.now t) c.jumped-in-JumpLong.result t (leads_long c.args.profile slot c.args.insn.now _ t c.in-JumpLong.is) c.jumped-in-JumpLong.ensures.next c.jumped-in-JumpLong.ensures.jumped

pub returns-in-Exit : goal.returns-in-Exit
returns-in-Exit c = λ slot.
    let t = tracked_of c.args.before.now in
    behind_exit (led c.args.profile slot c.args.insn.now t) c.nowhere.result (exit t) (leads_exit c.args.profile slot c.args.insn.now t c.in-Exit.is) c.nowhere.ensures.next c.nowhere.ensures.jumped

pub returns-in-Branch : goal.returns-in-Branch
returns-in-Branch c = λ slot.
    let t = tracked_of c.args.before.now in
    subst (λ (rule : Result TrackedWays Refusal). IfOk c.compare.result (λ behind. IsBehind behind (granted rule)))
    (sym (leads_branch c.args.profile slot c.args.insn.now c.in-Branch.width c.in-Branch.comparison c.in-Branch.left c.in-Branch.right _ t c.in-Branch.is)) c.compare.ensures

pub returns-in_default : goal.returns-in_default
returns-in_default c = λ slot.
    let t = tracked_of c.args.before.now in
    behind_straight (followed_marking slot c.args.insn.now t) (step_of c.args.profile c.args.insn.now (situation_of c.args.before.now.state)) (led c.args.profile slot c.args.insn.now t) c.stepped.result
    (leads_straight c.args.profile slot c.args.insn.now t (straight c.args.insn.now c.in_default.not-Jump c.in_default.not-JumpLong c.in_default.not-Branch c.in_default.not-Exit))
    c.stepped.ensures.next c.stepped.ensures.jumped

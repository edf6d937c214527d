use Rattle.std.proofs.Common.{List, ap, sym, ◌∙◌, subst}
use Rattle.std.proofs.lemmas.Result.{err_from_is_err_and}
use Rattle.replica.specs.Messages.{Message}
use Rattle.replica.specs.Buffers.{buffered, IsBuffered}
use Rattle.replica.proofs.Opening.{opened, joined, joins}
use Rattle.replica.proofs.buffer.Buffer.hold.Goals as goal

pub invariant_of-self : goal.invariant_of-self
invariant_of-self c = (subst (λ (ms : List Message). IsBuffered (buffered c.self.inside.history ms)) (sym c.in_err-push.ensures.items) c.self.invariant.0, c.self.invariant.1)

pub invariant_of-self-2 : goal.invariant_of-self-2
invariant_of-self-2 c =
    let o = opened c.args.self.now c.self.inside.history c.self.inside.held.items c.self.inside.known c.self.view_is c.self.invariant in
    (joined c.args.self.now c.self.inside.history c.self.inside.held.items c.push.new.self.items c.self.inside.known c.args.message o c.previous-previous.ensures.sound c.requires c.in_ok-push.ensures.items, c.self.invariant.1)

pub returns-in_err-push : goal.returns-in_err-push
returns-in_err-push c =
    let p = err_from_is_err_and c.from_residual.result c.from_residual.ensures.1 in
    rw p.1 (ap (λ (ms : List Message). buffered c.self.inside.history ms) c.in_err-push.ensures.items ∙ c.self.view_is)

pub returns : goal.returns
returns c = joins c.args.self.now c.self.inside.history c.self.inside.held.items c.push.new.self.items c.args.message c.self.view_is c.in_ok-push.ensures.items

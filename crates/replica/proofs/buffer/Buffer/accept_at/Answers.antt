use Rattle.std.proofs.Common.{ap, sym, ◌∙◌}
use Rattle.std.proofs.lemmas.Result.{err_from_is_err_and}
use Rattle.change_ops.specs.Spelling.{change_text}
use Rattle.replica.proofs.Opening.{opened, accepts, keeps_accepting, refuses}
use Rattle.replica.proofs.buffer.Buffer.accept_at.Goals as goal

pub accept_spelled-requires : goal.accept_spelled-requires
accept_spelled-requires c = record { spelled = c.in_ok-ready.ensures.text ∙ ap change_text (sym c.in_ok-ready.ensures.change) }

pub returns-in_err-accept_spelled : goal.returns-in_err-accept_spelled
returns-in_err-accept_spelled c =
    let o = opened c.args.self.now c.self.inside.history c.self.inside.held.items c.self.inside.known c.self.view_is c.self.invariant in
    let p = err_from_is_err_and c.from_residual-in_err-accept_spelled.result c.from_residual-in_err-accept_spelled.ensures.1 in
    rw (p.1, p.2) (refuses c.args.self.now c.self.inside.history c.self.inside.held.items c.self.inside.known c.args.index c.in_ok-ready.ready o c.in_ok-ready.ensures c.accept_spelled.new.self c.in_err-accept_spelled.field-0.0 c.in_err-accept_spelled.ensures.0 c.in_err-accept_spelled.ensures.1)

pub invariant_of-self-2 : goal.invariant_of-self-2
invariant_of-self-2 c =
    let o = opened c.args.self.now c.self.inside.history c.self.inside.held.items c.self.inside.known c.self.view_is c.self.invariant in
    keeps_accepting c.args.self.now c.self.inside.history c.self.inside.held.items c.self.inside.known c.args.index c.in_ok-ready.ready o c.in_ok-ready.ensures c.accept_spelled.new.self c.remove-accepted.new.self.items c.in_ok-accept_spelled.ensures.0 c.remove-accepted.ensures.items

pub returns : goal.returns
returns c =
    let o = opened c.args.self.now c.self.inside.history c.self.inside.held.items c.self.inside.known c.self.view_is c.self.invariant in
    accepts c.args.self.now c.self.inside.history c.self.inside.held.items c.self.inside.known c.args.index c.in_ok-ready.ready o c.in_ok-ready.ensures c.accept_spelled.new.self c.remove-accepted.new.self.items c.in_ok-accept_spelled.ensures.0 c.remove-accepted.ensures.items

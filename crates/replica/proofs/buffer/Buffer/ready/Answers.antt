use Rattle.std.proofs.lemmas.Result.{err_from_is_err_and}
use Rattle.replica.proofs.Waiting.{blocked_unready, is_ready}
use Rattle.replica.proofs.buffer.Buffer.ready.Goals as goal

pub returns-in_err-known : goal.returns-in_err-known
returns-in_err-known c =
    let p = err_from_is_err_and c.from_residual.result c.from_residual.ensures.1 in
    rw (p.1, p.2) (blocked_unready c.args.self.now c.args.index c.held_at-message.result.now c.in_err-known.field-0.0 c.held_at-message.ensures.at c.in_err-known.ensures)

pub returns : goal.returns
returns c = is_ready c.args.self.now c.args.index c.held_at-message.result.now c.change.result.now c.in_ok-known.known c.in_ok-ready.ready c.held_at-message.ensures.at c.in_ok-known.ensures c.change.ensures c.in_ok-ready.ensures.0 c.in_ok-ready.ensures.1 c.in_ok-ready.ensures.2

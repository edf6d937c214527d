use Rattle.std.proofs.Common.{◌≤◌, ℕ, ◌+◌, ap, arith}
use Rattle.hub_commands.proofs.Accepting.{number_fits, unread_there, unaccepted_there}
use Rattle.hub_commands.proofs.spans.take_change.Goals as goal

pub overflow_add-number : goal.overflow_add-number
overflow_add-number c =
    let few : c.len-number.result ≤ 65536 = number_fits c.args.history.now.size c.len-number.result c.len-number.ensures.most in
    omega (arith, few)

pub returns-in-Err-clause-taken : goal.returns-in-Err-clause-taken
returns-in-Err-clause-taken c =
    unread_there c.args.history.now.size c.args.history.now.changes c.args.text.now (c.len-number.result + 1) c.in-Err.error c.unread.result (ap (λ (n : ℕ). n + 1) c.len-number.ensures.value) c.in-Err.ensures.refused c.unread.ensures

pub returns-in-Err-accept-clause-taken : goal.returns-in-Err-accept-clause-taken
returns-in-Err-accept-clause-taken c =
    unaccepted_there c.args.history.now.size c.args.history.now.changes c.args.text.now c.in-Ok.read.1.now c.in-Ok.read.0 (c.len-number.result + 1) c.in-Err-accept.error c.unaccepted.result (ap (λ (n : ℕ). n + 1) c.len-number.ensures.value) c.in-Ok.ensures.spelled c.in-Err-accept.ensures.1
    c.unaccepted.ensures

use Rattle.std.proofs.Common.{IsTrue, subst}
use Rattle.session_lines.proofs.Settled.{settles, same_error, no_error}
use Rattle.session_lines.proofs.request.is_settled.Goals as goal
use Rattle.session_lines.proofs.request.is_settled.Goals.{in-Ok, in-Err}

pub returns : goal.returns
returns c = λ yes.
    elim c.match-read_change.branch [
      | in-Ok w ↦ settles c.read_change.result c.args.text.now c.read_change.ensures.first (λ e. no_error _ _ _ w.in-Ok.is e) (λ e. no_error _ _ _ w.in-Ok.is e)
      | in-Err w ↦
          let named = subst IsTrue w.result-is yes in
          settles c.read_change.result c.args.text.now c.read_change.ensures.first
          (λ e. w.names_line.ensures.cut named (same_error _ _ _ w.in-Err.is e)) (λ e. w.names_line.ensures.memory named (same_error _ _ _ w.in-Err.is e))
    ]

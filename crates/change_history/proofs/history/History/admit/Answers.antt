use Rattle.std.proofs.Common.{◌<◌, ℕ, List, MatchResult, length, arith, sym, subst}
use Rattle.change_ops.specs.Lines.{ops_of_lines}
use Rattle.change_ops.specs.declared.line.Line.{Line}
use Rattle.change_ops.specs.Sizes.{most_changes}
use Rattle.change_history.specs.Chronicle.{Chronicle}
use Rattle.change_history.specs.Accepted.{operations_of, IsAccepted, IsRefused}
use Rattle.change_history.specs.Tally.{AreOf}
use Rattle.change_history.proofs.Chronicle.{admitted_or_refused}
use Rattle.change_history.proofs.Counting.{own_lines}
use Rattle.change_history.proofs.history.History.admit.Goals as goal

pub admit_all-requires-clause-kept : goal.admit_all-requires-clause-kept
admit_all-requires-clause-kept c = (operations_of c.self.inside.changes, c.self.invariant.0.kept)

pub admit_all-requires-clause-own : goal.admit_all-requires-clause-own
admit_all-requires-clause-own c =
    let change = c.args.change.now in
    subst (λ (p : ℕ × List Line). AreOf p.0 (ops_of_lines p.1)) (λ i. (sym c.node.ensures.value i, sym c.lines.ensures.value i)) (own_lines change.form change.node change.lines c.lines.ensures.limits.lines)

pub returns : goal.returns
returns c =
    let few : length c.self.inside.changes < most_changes c.self.inside.size = omega arith in
    subst (λ (h : Chronicle). MatchResult c.admit_all.result (λ _. IsAccepted h.size h.changes c.args.change.now) (IsRefused h.size h.changes c.args.change.now)) c.self.view_is
    (admitted_or_refused c.self.inside.size c.self.inside.changes c.args.change.now c.lines.result.now c.admit_all.result few c.lines.ensures.value (c.admit_all.ensures (operations_of c.self.inside.changes) c.self.invariant.0.kept))

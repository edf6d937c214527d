use Rattle.std.proofs.Common.{◌≡◌, ℕ, List, [], IfOk, length, ap, sym, ◌∙◌, subst}
use Rattle.change_ops.specs.declared.operation.Op.{Op}
use Rattle.span_flatten.specs.Version.{IsVersion}
use Rattle.change_history.specs.Accepted.{operations_of}
use Rattle.replica.specs.Readiness.{operations_in}
use Rattle.replica.specs.Buffers.{Buffered}
use Rattle.replica.proofs.Accepting.{operations_behind, length_behind}
use Rattle.replica.proofs.buffer.Buffer.version.Goals as goal

pub returns : goal.returns
returns c =
    let changes = c.self.inside.history.changes in
    let same : operations_in c.args.self.now.accepted ≡ operations_of changes = ap (λ (b : Buffered). operations_in b.accepted) (sym c.self.view_is) ∙ operations_behind changes in
    let many : length c.args.self.now.accepted ≡ length changes = ap (λ (b : Buffered). length b.accepted) (sym c.self.view_is) ∙ length_behind [] changes in
    subst (λ (ops : List Op). IfOk c.version.result (IsVersion ops (length c.args.self.now.accepted))) (sym same)
    (subst (λ (n : ℕ). IfOk c.version.result (IsVersion (operations_of changes) n)) (sym many) c.version.ensures)

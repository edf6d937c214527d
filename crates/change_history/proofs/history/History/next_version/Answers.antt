use Rattle.std.proofs.Common.{◌≡◌, ◌+◌, ◌++◌, ◌∷◌, [], ℕ, List, length, ap, subst}
use Rattle.change_ops.specs.Changes.{Change}
use Rattle.change_ops.specs.declared.line.Line.{Line}
use Rattle.change_ops.specs.declared.operation.Op.{Op}
use Rattle.span_flatten.specs.Version.{IsVersion}
use Rattle.change_history.specs.Chronicle.{Chronicle}
use Rattle.change_history.specs.Accepted.{operations_of}
use Rattle.change_history.specs.Kept.{Keeps, IsDraft}
use Rattle.change_history.proofs.Following.{are_next, lines_drafted, all_operations}
use Rattle.change_history.proofs.history.History.next_version.Goals as goal

pub next_version-requires : goal.next_version-requires
next_version-requires c =
    let changes : List Change = c.args.self.now.changes in
    let change : Change = c.requires.drafted.0 in
    let drafted : IsDraft c.args.self.now.size changes change c.args.draft.now = c.requires.drafted.1 in
    let kept : Keeps (operations_of changes) c.self.inside.parts = subst (λ (h : Chronicle). Keeps (operations_of h.changes) c.self.inside.parts) c.self.view_is c.self.invariant.0.kept in
    (operations_of changes, are_next changes change c.args.previous.now c.lines-lines.result.now c.args.draft.now c.self.inside.parts kept c.requires.previous drafted (lines_drafted c.lines-lines.result.now c.args.draft.now drafted c.lines-lines.ensures.value))

pub returns-clause-is : goal.returns-clause-is
returns-clause-is c = λ change drafted.
    let changes : List Change = c.args.self.now.changes in
    let lines : List Line = c.lines-lines.result.now in
    let same : lines ≡ change.lines = lines_drafted lines c.args.draft.now drafted c.lines-lines.ensures.value in
    let kept : Keeps (operations_of changes) c.self.inside.parts = subst (λ (h : Chronicle). Keeps (operations_of h.changes) c.self.inside.parts) c.self.view_is c.self.invariant.0.kept in
    let number : c.len.result + 1 ≡ length changes + 1 = ap (λ n. n + 1) c.len.ensures.value in
    subst (λ (n : ℕ). IsVersion (operations_of (changes ++ change ∷ [])) n c.in_ok-next.next.version) number
    (subst (λ (ops : List Op). IsVersion ops (c.len.result + 1) c.in_ok-next.next.version) (all_operations changes change lines same)
    (c.in_ok-next.ensures.is (operations_of changes) (are_next changes change c.args.previous.now lines c.args.draft.now c.self.inside.parts kept c.requires.previous drafted same)))

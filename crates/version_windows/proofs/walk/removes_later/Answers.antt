use Rattle.std.proofs.Common.{◌≡◌, ◌+◌, Some, sym, ◌∙◌, arith}
use Rattle.std.proofs.lemmas.Bool.{eqb-true}
use Rattle.std.proofs.lemmas.Option.{same_Some}
use Rattle.change_ops.specs.declared.id.OpId.{OpId}
use Rattle.version_windows.proofs.walk.removes_later.Goals as goal

pub returns-then-node : goal.returns-then-node
returns-then-node c =
    λ yes ops held x removed.
    let first : OpId = c.args.first in
    let target : OpId = c.in-Some.target in
    let found : c.removed_by.result ≡ Some x = c.removed_by.ensures.only x ((held.removes c.args.removal x).0 removed) in
    let same : x ≡ target = same_Some x target (sym found ∙ c.in-Some.is) in
    let is = eqb-true c.counter.result (c.counter-then-node.result + c.args.by) yes in
    let own = c.counter.ensures.value in
    let other = c.counter-then-node.ensures.value in
    let counter : target.counter ≡ first.counter + c.args.by = omega (arith, is, own, other) in
    let node : target.node ≡ first.node = sym c.node.ensures.value ∙ c.if-node.true ∙ c.node-in-Some.ensures.value in
    same ∙ (λ i. record { counter = counter i; node = node i })

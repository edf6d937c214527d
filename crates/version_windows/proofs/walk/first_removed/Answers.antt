use Rattle.std.proofs.Common.{◌≡◌, ℕ, ◌<◌, ◌≤◌, sym, subst, arith, ⊎_elim}
use Rattle.std.specs.List.{Contains}
use Rattle.std.proofs.lemmas.Bool.{cases_lt}
use Rattle.change_ops.specs.IdRuns.{later_id}
use Rattle.change_ops.specs.declared.id.OpId.{OpId}
use Rattle.change_ops.specs.declared.operation.Op.TheVariants.{Remove}
use Rattle.version_windows.proofs.walk.first_removed.Goals as goal

pub loop-index-init : goal.loop-index-init
loop-index-init c = λ ops held k x less removed. absurd (omega arith)

pub loop-index-preserved : goal.loop-index-preserved
loop-index-preserved c =
    λ ops held k x less removed.
    let index : ℕ = c.loop-index.index in
    let first : OpId = c.in_ok-first.first in
    let removal : OpId = c.first-removal.result in
    ⊎_elim
    (λ (earlier : k < index). c.loop-index.invariant ops held k x earlier removed)
    (λ (last : index ≤ k).
    let here : k ≡ index = omega arith in
    let mine = subst (λ n. Contains ops (Remove (later_id removal n) x)) here removed in
    let named = subst (λ r. Contains ops (Remove r x)) (sym c.later.ensures) mine in
    subst (λ n. x ≡ later_id first n) (sym here) (c.removes_later.ensures c.if-not-removes_later.false ops held x named))
    (cases_lt k index)

pub returns : goal.returns
returns c =
    λ ops held k x less removed.
    let count = c.count-count.ensures.value in
    let all = c.loop-index-test.false in
    c.loop-index.invariant ops held k x (omega (arith, less, count, all))
    (subst (λ r. Contains ops (Remove (later_id r k) x)) (sym c.first-removal.ensures) removed)

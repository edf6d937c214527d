use Rattle.std.proofs.Common.{◌≡◌, ℕ, ◌+◌, ◌-◌, Some, false, subst, arith}
use Rattle.change_ops.specs.declared.id.OpId.{OpId}
use Rattle.char_sequence.specs.Index.{same_id}
use Rattle.char_sequence.specs.Named.{name_of, IsPeerPlace}
use Rattle.char_sequence.proofs.RunSteps.{entered_more}
use Rattle.char_sequence.proofs.runs.push_run.Goals as goal

pub loop-by-preserved : goal.loop-by-preserved
loop-by-preserved c =
    let so_far = c.loop-by.invariant in
    let is = c.later.ensures in
    let left : c.args.count - c.loop-by.by ≡ c.args.count - (c.loop-by.by + 1) + 1 = omega arith in
    let here = subst (λ z. name_of c.push.new.self z ≡ Some c.args.name) is c.push.ensures.named in
    let others = subst (λ z. (q : OpId) → same_id z q ≡ false → name_of c.push.new.self q ≡ name_of c.loop-by.index q) is c.push.ensures.kept in
    let room = subst (λ (z : OpId). (n : ℕ) → IsPeerPlace c.loop-by.index z.node (n + 1) c.args.place → IsPeerPlace c.push.new.self z.node n c.args.place) is c.push.ensures.room in (
      entered_more _ (name_of c.loop-by.index) (name_of c.push.new.self) c.args.id c.loop-by.by c.args.name so_far.0 here others,
      room (c.args.count - (c.loop-by.by + 1)) (subst (λ n. IsPeerPlace c.loop-by.index c.args.id.node n c.args.place) left so_far.1),
    )

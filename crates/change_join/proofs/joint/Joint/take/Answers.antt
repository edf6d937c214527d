use Rattle.std.proofs.Common.{◌+◌, ℕ, length, arith, ap, ◌∙◌}
use Rattle.change_join.specs.Joined.{wider}
use Rattle.change_join.proofs.Both.{few_lines}
use Rattle.change_join.proofs.Joints.{taken}
use Rattle.change_join.proofs.joint.Joint.take.Goals as goal

pub overflow_add-self : goal.overflow_add-self
overflow_add-self c =
    let is = c.requires.1 in
    let most = is.limits.few in
    omega (arith, is.operations, most, c.count_of.ensures.limit)

pub overflow_add-self-2 : goal.overflow_add-self-2
overflow_add-self-2 c =
    let is = c.requires.1 in
    let most = is.limits.meant in
    omega (arith, is.meant, most, c.operation_count.ensures.limit)

pub overflow_add-self-3 : goal.overflow_add-self-3
overflow_add-self-3 c =
    let is = c.requires.1 in
    let one = few_lines c.requires.0 is.limits in
    let other = few_lines c.args.next.now c.lines.ensures.limits in
    omega (arith, is.lines, one, other, ap length c.lines.ensures.value)

pub returns : goal.returns
returns c =
    taken c.write_lines.result c.args.self.now c.args.next.now c.wider-self.result _ _ _ c.write_lines.new.out c.lines.ensures.limits (c.wider-self.ensures ∙ ap (wider c.args.self.now.form) c.form.ensures)
    (ap (λ (n : ℕ). c.args.self.now.operations + n) c.count_of.ensures.value) (ap (λ (n : ℕ). c.args.self.now.meant + n) c.operation_count.ensures.value) (ap (λ (n : ℕ). c.args.self.now.lines + n) (ap length c.lines.ensures.value)) c.write_lines.ensures

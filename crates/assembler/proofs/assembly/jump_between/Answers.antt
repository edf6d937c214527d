use Rattle.std.proofs.Common.{◌≡◌, ℕ, ◌≤◌, ◌^◌, pos, negsuc, ◌-◌, ◌-ℤ◌, arith, ap, ◌∙◌}
use mir.Val.{to_z, of_z}
use mir.Syntax.{w64}
use Rattle.std.proofs.lemmas.Int.{ints, to_z-of_z}
use Rattle.assembler_lines.specs.Statements.{jump_by}
use Rattle.assembler.proofs.Resolving.{back_same}
use Rattle.assembler.proofs.assembly.jump_between.Goals as goal

minus_back : (b : ℕ) → b ≤ 2 ^ 31 → to_z w64 (of_z w64 (to_z w64 (of_z w64 (pos 0 -ℤ to_z w64 b)) -ℤ pos 1)) ≡ negsuc b
minus_back b h = grind (arith, ints, to_z-of_z)

pub returns-then-back-limit : goal.returns-then-back-limit
returns-then-back-limit c =
    let far = c.args.here - c.args.target in
    let same : c.jump_by-then-back-limit.result ≡ jump_by c.args.jump (negsuc far) = c.jump_by-then-back-limit.ensures ∙ ap (jump_by c.args.jump) (minus_back far (omega arith)) in
    rw same (back_same c.args.jump c.args.here c.args.target c.if-target-here.false (omega arith))

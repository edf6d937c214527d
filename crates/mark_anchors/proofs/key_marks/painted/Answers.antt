use Rattle.std.proofs.Common.{◌≡◌, ◌+◌, ◌-◌, ◌<◌, ℕ, List, Option, Some, None, length, replicate, ap, ◌∙◌, subst, rules, arith}
use Rattle.std.specs.List.{slice_get}
use Rattle.std.proofs.lemmas.List.{length-replicate}
use Rattle.mark_anchors.specs.KeyMarks.{ArePaintedFrom}
use Rattle.mark_anchors.proofs.Lists.{read_at}
use Rattle.mark_anchors.proofs.Jumps.{none_at, over_none, jumps_from_free}
use Rattle.mark_anchors.proofs.Painting.{painted_none, painted_all}
use Rattle.mark_anchors.proofs.key_marks.painted.Goals as goal

pub loop-number-init : goal.loop-number-init
loop-number-init c =
    let jumps : List ℕ = c.in_ok-jumps.jumps.items in
    let numbers : List (Option ℕ) = c.in_ok-numbers.numbers.items in
    let n : ℕ = length c.args.places.now in
    let items : numbers ≡ replicate n None = c.in_ok-numbers.ensures.items_if_clones_equal (search rules) in
    let sized : length numbers ≡ n = ap length items ∙ length-replicate n None in
    let none : (j : ℕ) → j < length numbers → slice_get numbers j ≡ Some None = λ j less. none_at numbers n j items less in
    let count : length jumps ≡ n + 1 = c.in_ok-jumps.ensures.sized in
    record {
      over = over_none jumps numbers (jumps_from_free jumps c.in_ok-jumps.ensures.free) (omega arith) c.in_ok-jumps.ensures.free none;
      painted = painted_none c.args.places.now c.args.marks.now numbers sized none;
    }

pub loop-number-preserved : goal.loop-number-preserved
loop-number-preserved c =
    let k : ℕ = c.loop-number.number - 1 in
    let next : c.loop-number.number ≡ k + 1 = omega arith in
    let within : k < length c.args.marks.now = omega arith in
    record {
      over = c.paint.ensures.over;
      painted =
          c.paint.ensures.painted c.args.marks.now (read_at c.args.marks.now k c.index-marks-number.result c.index-marks-number.is within)
          (subst (λ n. ArePaintedFrom c.args.places.now c.args.marks.now n c.loop-number.numbers.items) next c.loop-number.invariant.painted);
    }

pub returns : goal.returns
returns c =
    let none : c.loop-number.number ≡ 0 = omega arith in
    painted_all c.args.places.now c.args.marks.now c.loop-number.numbers.items c.requires.sorted
    (subst (λ n. ArePaintedFrom c.args.places.now c.args.marks.now n c.loop-number.numbers.items) none c.loop-number.invariant.painted)

use Rattle.std.proofs.Common.{◌≡◌, ◌+◌, ◌<◌, ◌≤◌, ℕ, List, Option, Some, length, set, arith}
use Rattle.mark_anchors.specs.KeyMarks.{AreJumpsOver}
use Rattle.mark_anchors.proofs.Jumps.{over_still, over_more}
use Rattle.mark_anchors.proofs.Painting.{filled_on, filled_more, painted_more}
use Rattle.mark_anchors.proofs.key_marks.paint.Goals as goal

pub next_free-index-requires-in-loop-index-clause-jumps : goal.next_free-index-requires-in-loop-index-clause-jumps
next_free-index-requires-in-loop-index-clause-jumps c =
    (over_more c.loop-index.jumps.items c.loop-index.numbers.items c.loop-index.index c.args.number c.loop-index.invariant.over (omega arith)).past

pub loop-index-preserved : goal.loop-index-preserved
loop-index-preserved c =
    let jumps : List ℕ = c.loop-index.jumps.items in
    let old : List (Option ℕ) = c.args.numbers.now.items in
    let numbers : List (Option ℕ) = c.loop-index.numbers.items in
    let index : ℕ = c.loop-index.index in
    let from : ℕ = c.count_below-from.result in
    let to : ℕ = c.count_below-to.result in
    let number : ℕ = c.args.number in
    let was = c.loop-index.invariant in
    let next = c.next_free-index-in-loop-index in
    let same : length numbers ≡ length old = was.filled.sized in
    let inside : index < length numbers = omega arith in
    let put : AreJumpsOver (set jumps index (index + 1)) (set numbers index (Some number)) = over_more jumps numbers index number was.over inside in
    let over : AreJumpsOver next.new.jumps.items (set numbers index (Some number)) = over_still (set jumps index (index + 1)) next.new.jumps.items (set numbers index (Some number)) put next.ensures.jumps next.ensures.sized next.ensures.same in
    let low : index + 1 ≤ next.result = next.ensures.free.0 in
    record {
      low = let l : from ≤ index = was.low in omega arith;
      over = over;
      free = (next.ensures.same next.result).0 next.ensures.free.1;
      filled =
          filled_on (set jumps index (index + 1)) old (set numbers index (Some number)) from (index + 1) next.result to number put next.ensures.free.2 low
          (filled_more jumps old numbers from index to number was.over was.free c.loop-index-test.true was.low inside was.filled);
    }

pub returns-clause-painted : goal.returns-clause-painted
returns-clause-painted c =
    λ marks at painted.
    painted_more c.args.places.now marks c.args.numbers.now.items c.loop-index.numbers.items c.count_below-from.result c.loop-index.index c.count_below-to.result c.args.number c.args.mark.now at c.count_below-from.ensures.below c.count_below-to.ensures.below c.loop-index.invariant.filled (omega arith) painted

use Rattle.std.proofs.Common.{◌≡◌, ◌+◌, ◌<◌, ℕ, Vec, Global, length, refl, arith}
use Rattle.std.specs.List.{range_with_len}
use Rattle.std.proofs.lemmas.Iterator.{YieldsList-from_range, items_from_collect}
use Rattle.std.proofs.lemmas.Result.{IfOk-weaker}
use Rattle.mark_anchors.specs.KeyMarks.{IsFree}
use Rattle.mark_anchors.proofs.Jumps.{free_from_range}
use Rattle.mark_anchors.proofs.key_marks.jumps_over.Goals as goal

pub returns-clause-free : goal.returns-clause-free
returns-clause-free c =
    let n : ℕ = length c.args.places.now + 1 in
    IfOk-weaker c.collect.result (λ (v : Vec ℕ Global). v.items ≡ range_with_len 0 n) (λ (v : Vec ℕ Global). (j : ℕ) → j < length v.items → IsFree v.items j)
    (λ v is. free_from_range v.items n is)
    (items_from_collect c.collect.result c.collect.ensures.ran (YieldsList-from_range 0 n n refl (omega arith)))

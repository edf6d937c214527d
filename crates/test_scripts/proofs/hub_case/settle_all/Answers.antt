use Rattle.std.proofs.Common.{◌≡◌, ◌+◌, ◌++◌, ◌∷◌, [], map, ap, ◌∙◌, arith}
use Rattle.std.specs.Vec.Iter.{into_iter_items}
use Rattle.test_scripts.specs.Parts.{all_parts}
use Rattle.test_scripts.proofs.Parts.{all_cons, all_push}
use Rattle.test_scripts.proofs.hub_case.settle_all.Goals as goal

pub loop-worker-preserved : goal.loop-worker-preserved
loop-worker-preserved g c =
    let share = c.in-Some.worker.share in
    let rest = into_iter_items c.next.new.self in
    let steps : into_iter_items c.loop-worker.worker-iterator ≡ c.in-Some.worker ∷ rest = c.in-Some.ensures.steps.0 in
    let pushed : c.push.new.self.items ≡ c.loop-worker.shares.items ++ share ∷ [] = c.in_ok-push.ensures.items in
    let fewer : all_parts (map (λ w. w.share) (into_iter_items c.loop-worker.worker-iterator)) ≡ share.parts + all_parts (map (λ w. w.share) rest) =
    ap (λ all. all_parts (map (λ w. w.share) all)) steps ∙ all_cons share (map (λ w. w.share) rest) in
    let more : all_parts c.push.new.self.items ≡ all_parts c.loop-worker.shares.items + share.parts = ap all_parts pushed ∙ all_push c.loop-worker.shares.items share in
    omega (arith, fewer, more, c.loop-worker.invariant)

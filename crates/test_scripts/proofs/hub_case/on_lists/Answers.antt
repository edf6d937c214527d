use Rattle.std.proofs.Common.{◌≡◌, ◌+◌, ◌++◌, length, take, drop, map, ap, arith}
use Rattle.test_scripts.specs.Parts.{all_parts}
use Rattle.test_scripts.proofs.Parts.{back, idle_parts}
use Rattle.test_scripts.proofs.hub_case.on_lists.Goals as goal

pub settle_all-requires : goal.settle_all-requires
settle_all-requires g c =
    let shares = c.play_machine.new.shares in
    let workers = c.play_machine.new.workers in
    let left = c.workers_of.new.shares in
    let ours = c.in_ok-workers.workers in
    let idle : all_parts c.spare_of.new.shares.items ≡ length c.spare_of.new.shares.items = idle_parts g.N.Naming.size c.spare_of.new.shares.items c.in-Some.ensures.idle in
    let count : length c.spare_of.new.shares.items + 1 ≡ c.args.shares = omega (arith, c.in_ok-hub.ensures.0, c.in-Some.ensures.len) in
    let shares_len : length shares ≡ left.len = omega arith in
    let workers_len : length workers ≡ ours.len = omega arith in
    let shares_back : all_parts (take left.len (shares ++ drop (length shares) left.items)) ≡ all_parts shares = ap all_parts (back shares (drop (length shares) left.items) left.len shares_len) in
    let workers_back : all_parts (map (λ w. w.share) (take ours.len (workers ++ drop (length workers) ours.items))) ≡ all_parts (map (λ w. w.share) workers) =
    ap (λ all. all_parts (map (λ w. w.share) all)) (back workers (drop (length workers) ours.items) ours.len workers_len) in
    let shares_lent : all_parts c.as_mut_slice.result.now ≡ all_parts left.items = cc c.as_mut_slice.ensures.value in
    let workers_lent : all_parts (map (λ w. w.share) c.as_mut_slice-2.result.now) ≡ all_parts (map (λ w. w.share) ours.items) = cc c.as_mut_slice-2.ensures.value in
    let shares_kept : all_parts shares ≡ all_parts c.as_mut_slice.result.now = c.play_machine.ensures.named in
    let workers_kept : all_parts (map (λ w. w.share) workers) ≡ all_parts (map (λ w. w.share) c.as_mut_slice-2.result.now) = c.play_machine.ensures.workers in
    omega (arith, shares_back, workers_back, shares_lent, workers_lent, shares_kept, workers_kept, c.in_ok-workers.ensures.parts, idle, count)

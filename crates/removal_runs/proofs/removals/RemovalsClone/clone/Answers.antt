use Rattle.std.proofs.Common.{◌≡◌, List, sym, ap, subst, rules}
use Rattle.std.specs.Map.{lookup}
use Rattle.std.specs.BTreeMap.{is_at}
use Rattle.change_ops.specs.Ids.{id_cmp}
use Rattle.change_ops.specs.declared.id.OpId.{OpId}
use Rattle.removal_runs.specs.Open.{Removals, AreCounted}
use Rattle.removal_runs.proofs.Opening.{counted_same, zip_same}
use Rattle.removal_runs.proofs.removals.RemovalsClone.clone.Goals as goal

pub invariant_of-result : goal.invariant_of-result
invariant_of-result c =
    let removals : c.in_ok-removals.removals ≡ c.self.inside.removals = search rules in
    let back : c.in_ok-back.back ≡ c.self.inside.back = search rules in
    let entries : c.in_ok-counts.counts.entries ≡ c.self.inside.counts.entries = zip_same _ _ c.in_ok-counts.ensures.cases in
    subst (λ rs. AreCounted (record { removals = rs; back = c.in_ok-back.back }) c.in_ok-counts.counts) (sym removals)
    (subst (λ b. AreCounted (record { removals = c.self.inside.removals; back = b }) c.in_ok-counts.counts) (sym back)
    (counted_same _ c.self.inside.counts c.in_ok-counts.counts c.self.invariant (λ x. ap (lookup (is_at (id_cmp x))) entries)))

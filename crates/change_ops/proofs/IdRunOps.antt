-- The operations of a run of removals and of one of revivals.
use Rattle.std.proofs.Common.{◌≡◌, ℕ, zero, suc, ◌<◌, length, Some, refl, ap, ◌∙◌, sym, arith}
use Rattle.std.specs.List.{slice_get}
use Rattle.change_ops.specs.Ids.{OpId}
use Rattle.change_ops.specs.Runs.{next_id}
use Rattle.change_ops.specs.IdRuns.{later_id, removals_from, revivals_from}
use Rattle.change_ops.specs.declared.operation.Op.TheVariants.{Remove, Revive}
use Rattle.change_ops.proofs.RunInserts.{later_none, later_next}

pub removals_count : (count : ℕ) (id target : OpId) → length (removals_from id target count) ≡ count
unfolding removals_from
removals_count zero id target = refl
removals_count (suc count) id target = ap suc (removals_count count (next_id id) (next_id target))

pub revivals_count : (count : ℕ) (id removal : OpId) → length (revivals_from id removal count) ≡ count
unfolding revivals_from
revivals_count zero id removal = refl
revivals_count (suc count) id removal = ap suc (revivals_count count (next_id id) (next_id removal))

pub removal_of : (count : ℕ) (id target : OpId) (i : ℕ) → i < count → slice_get (removals_from id target count) i ≡ Some (Remove (later_id id i) (later_id target i))
unfolding removals_from
removal_of zero id target i lt = absurd (omega arith)
removal_of (suc count) id target zero lt = (λ k. Some (Remove (sym (later_none id) k) (sym (later_none target) k)))
removal_of (suc count) id target (suc i) lt = removal_of count (next_id id) (next_id target) i (omega arith) ∙ (λ k. Some (Remove (later_next id i k) (later_next target i k)))

pub revival_of : (count : ℕ) (id removal : OpId) (i : ℕ) → i < count → slice_get (revivals_from id removal count) i ≡ Some (Revive (later_id id i) (later_id removal i))
unfolding revivals_from
revival_of zero id removal i lt = absurd (omega arith)
revival_of (suc count) id removal zero lt = (λ k. Some (Revive (sym (later_none id) k) (sym (later_none removal) k)))
revival_of (suc count) id removal (suc i) lt = revival_of count (next_id id) (next_id removal) i (omega arith) ∙ (λ k. Some (Revive (later_next id i k) (later_next removal i k)))

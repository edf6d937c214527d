-- A run of removals or of revivals: consecutive ids of a peer's operations, and as many consecutive ids that they name.
use Rattle.std.specs.Prelude.{ℕ, zero, suc, ◌+◌, ◌^◌, nat_le, ◌&&◌, Bool, List, [], ◌∷◌}
use Rattle.change_ops.specs.Ids.{OpId, within_limits}
use Rattle.change_ops.specs.Runs.{next_id}
use Rattle.change_ops.specs.declared.operation.Op.{Op}
use Rattle.change_ops.specs.declared.operation.Op.TheVariants.{Remove, Revive}

-- the id of the first operation, the first id that they name, and how many they are
pub record IdRun : Type 0 where
  pub id : OpId
  pub first : OpId
  pub count : ℕ

-- the id of the same peer whose counter is greater by `by`
abbrev pub later_id : OpId → ℕ → OpId
later_id id by = record { counter = id.counter + by; node = id.node }

-- this number of removals: the first with the id and of the target, each next with the next id and of the next target
unfoldable pub removals_from : OpId → OpId → ℕ → List Op
removals_from id target zero = []
removals_from id target (suc count) = Remove id target ∷ removals_from (next_id id) (next_id target) count

-- the same of revivals
unfoldable pub revivals_from : OpId → OpId → ℕ → List Op
revivals_from id removal zero = []
revivals_from id removal (suc count) = Revive id removal ∷ revivals_from (next_id id) (next_id removal) count

abbrev pub removals_of : IdRun → List Op
removals_of run = removals_from run.id run.first run.count

abbrev pub revivals_of : IdRun → List Op
revivals_of run = revivals_from run.id run.first run.count

-- 2 to 65,535 operations, of which the last has a counter below 2^48 and names one below it
abbrev pub id_run_within : IdRun → Bool
id_run_within run =
    (within_limits run.id && within_limits run.first)
    && (nat_le 2 run.count && nat_le run.count 65535
    && nat_le (run.id.counter + run.count) (2 ^ 48) && nat_le (run.first.counter + run.count) (2 ^ 48))

-- What a sequence holds of a set of operations.
use Rattle.std.specs.Prelude.{◌≡◌, ◌↔◌, ℕ, List, true, length, count_by, Contains}
use Rattle.std.specs.Ordering.{nat_cmp}
use Rattle.std.specs.FinMap.{FinMap}
use Rattle.change_ops.specs.Operations.{is_insert}
use Rattle.change_ops.specs.declared.id.OpId.{OpId}
use Rattle.change_ops.specs.declared.operation.Op.{Op}
use Rattle.change_ops.specs.declared.operation.Op.TheVariants.{Remove, Revive}
use Rattle.removal_runs.specs.Open.{Removals, Removes}
use Rattle.char_sequence.specs.declared.sequence.Element.{Element}
use Rattle.char_sequence.specs.Order.{Shows}
use Rattle.char_sequence.specs.Tree.{IsTakenBack}
use Rattle.char_sequence.specs.Newest.{IsNewest}

-- what is seen of a sequence
pub record Sequence : Type 0 where
  pub elements : List Element
  pub newest : FinMap nat_cmp ℕ
  pub removals : Removals

-- the removals, and those that are taken back, are those of the operations
pub record HoldsRemovals (removals : Removals) (ops : List Op) : Type 0 where
  pub removes : (r x : OpId) → Contains ops (Remove r x) ↔ Removes removals r x
  pub back : (r : OpId) → IsTakenBack ops r ↔ Contains removals.back r

-- the sequence was handed these operations, and no others
pub record Holds (c : Sequence) (ops : List Op) : Type 0 where
  pub shows : Shows c.elements ops
  pub newest : IsNewest ops c.newest
  pub size : length c.elements ≡ count_by is_insert ops
  pub removals : HoldsRemovals c.removals ops

-- the part of the operations has all their inserts, removals and revivals, as what a sequence is handed while marks are
-- kept apart
pub record HasInserts (all part : List Op) : Type 0 where
  pub within : (o : Op) → Contains part o → Contains all o
  pub inserts : (o : Op) → is_insert o ≡ true → Contains all o → Contains part o
  pub removes : (r x : OpId) → Contains all (Remove r x) → Contains part (Remove r x)
  pub revives : (v r : OpId) → Contains all (Revive v r) → Contains part (Revive v r)
  pub count : count_by is_insert part ≡ count_by is_insert all

-- The mark operations among a set of operations.
use Rattle.std.specs.Prelude.{◌≡◌, ◌≤◌, ℕ, true, List, Some, Contains, length, slice_get}
use Rattle.change_ops.specs.Operations.{id_of, is_mark}
use Rattle.change_ops.specs.declared.operation.Op.{Op}

-- the list has the mark operations among the operations, and no other
pub record AreMarks (ops marks : List Op) : Type 0 where
  pub held : (o : Op) → Contains marks o → Contains ops o
  pub marking : (o : Op) → Contains marks o → is_mark o ≡ true
  pub listed : (o : Op) → Contains ops o → is_mark o ≡ true → Contains marks o

-- at most 16,384 operations, no two of one id
pub record AreKept (marks : List Op) : Type 0 where
  pub limit : length marks ≤ 16384
  pub unique : (i j : ℕ) (o p : Op) → slice_get marks i ≡ Some o → slice_get marks j ≡ Some p → id_of o ≡ id_of p
      → i ≡ j

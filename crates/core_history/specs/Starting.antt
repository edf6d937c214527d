-- What is seen of a history before it begins.
use Rattle.std.specs.Prelude.{ℕ}
use Rattle.subscriber_queues.specs.Queue.{Line as TableId}

-- the name of its ledger, the parts of this, and which history it is
pub record Start : Type 0 where
  pub name : ℕ
  pub parts : ℕ
  pub table : TableId

-- What a clause sees of a token.
use Rattle.std.specs.Prelude.{ℕ}

-- a token: the index in the list, and the value that is there for good
pub record Token (T : Type 0) : Type 0 where
  pub index : ℕ
  pub value : T

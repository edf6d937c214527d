-- Nothing sent.
use Rattle.std.proofs.Common.{[], Option, None, Some, inl, refl}
use Rattle.feeds.specs.Orderly.{IsOrderly}
use Rattle.feeds.specs.Promise.{Promise, IsPromised}

-- no item at all is a beginning of the batches of any program on no version
pub orderly_none : IsOrderly []
orderly_none = record { program = record { index = 0; value = [] }; start = 0; versions = []; rest = []; rises = _; is = refl }

-- and keeps any promise
pub promised_none : (promise : Option Promise) → IsPromised promise []
promised_none None = tt
promised_none (Some p) = inl refl

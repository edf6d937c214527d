use Rattle.std.specs.Prelude.{Option, Some, None, IfSome}
use Rattle.abstract_state.specs.Estimate.{Estimate}
use Rattle.abstract_state.specs.Transfer.{transferred}
use Rattle.estimate_order.specs.Order.{IsNumber}
use Rattle.estimate_order.proofs.Inside.{IsNumberIn}
use Rattle.estimate_order.proofs.Results.{transferred_number}
use Rattle.estimate_order.proofs.results_are_numbers.Goals as goal

-- std's word for it
where_some : (o : Option Estimate) → IsNumberIn o → IfSome o IsNumber
where_some None number = tt
where_some (Some a) number = number

pub returns : goal.returns
returns c = λ profile operation width a b an bn. where_some (transferred profile operation width a b) (transferred_number profile operation width a b an bn)

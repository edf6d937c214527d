-- Lists of items in order.
use Rattle.std.proofs.Common.{List, ◌++◌, sym, ◌∙◌, append_assoc}
use Rattle.feeds.specs.Batches.{Item}
use Rattle.feeds.specs.Orderly.{IsOrderly}

-- a beginning of an orderly list is orderly
pub orderly_front : (xs ys : List Item) → IsOrderly (xs ++ ys) → IsOrderly xs
orderly_front xs ys o =
    record { program = o.program; start = o.start; versions = o.versions; rest = ys ++ o.rest; rises = o.rises; is = sym (append_assoc xs ys o.rest) ∙ o.is }

-- Programs that are the same.
use Rattle.std.proofs.Common.{◌≡◌, sym, subst}
use Rattle.filters.specs.Filters.{IsFilter}
use Rattle.semantics.specs.Step.{Program}

-- what is safe is so under another name
pub safe_as : (one other : Program) → one ≡ other → IsFilter other → IsFilter one
safe_as one other same safe = subst (λ program. IsFilter program) (sym same) safe

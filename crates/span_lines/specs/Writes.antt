-- What a call that answers something wrote.
use Rattle.std.specs.Prelude.{List, ℕ, Result, IfOk}
use Rattle.std.specs.Fmt.{HasWritten, IsPlainFormatter}
use Rattle.std.specs.declared.fmt.Formatter.{Formatter}

-- where the call answered, these bytes stand behind what was written before it
abbrev pub AddsOnOk : {W A E : Type 0} → (W → List ℕ → W → Type 0) → Formatter W → Result A E → List ℕ → Formatter W
    → Type 0
AddsOnOk gives old result bs new = IsPlainFormatter old → IfOk result (λ _. HasWritten gives old bs new)

-- Where the reading of an input's changes stops, with want of memory.
use Rattle.std.specs.Prelude.{◌≡◌, ℕ, List, [], ◌∷◌, ◌++◌}
use Rattle.change_ops.specs.Changes.{Change}
use Rattle.change_ops.specs.declared.size.Size.{Size}
use Rattle.change_ops.specs.Spelling.{Spells}
use Rattle.change_history.specs.Accepted.{IsAccepted}
use Rattle.hub_commands.specs.SpansReply.{IsStopped}
use Rattle.refusals.specs.declared.reason.ChangeReason.{ChangeReason}
use Rattle.hub_commands.specs.declared.spans.Stop.{Stop}
use Rattle.hub_commands.specs.declared.spans.Stop.TheVariants as stop

-- what holds where memory was wanting, or of the reason
abbrev pub MatchStop : Stop → Type 0 → (ChangeReason → Type 0) → Type 0
MatchStop stop.Memory Wanting Because = Wanting
MatchStop (stop.Refused reason) Wanting Because = Because reason

-- a stop at the front of a text, after these changes
abbrev pub StopsAt : Size → List Change → List ℕ → Stop → Type 0
StopsAt size changes text why = MatchStop why (Unit {0}) (IsStopped size changes text)

-- the change at the front of a text is taken in; this follows it
pub record Takes (size : Size) (old : List Change) (text : List ℕ) (new : List Change) (rest : List ℕ) : Type 0 where
  pub change : Change
  pub spells : Spells text change rest
  pub accepted : IsAccepted size old change
  pub more : new ≡ old ++ change ∷ []

-- What a caller's share of a core's history counts.
use Rattle.std.specs.Prelude.{◌≡◌, ℕ, Bool, true, false, Ok}
use Rattle.hub_core.specs.declared.run.Reply.TheVariants as reply
use Rattle.call_history.specs.Calls.{Holds, AreOwn, own_count}
use Rattle.core_history.specs.declared.entry.Call.TheVariants as call
use Rattle.core_history.specs.declared.entry.Entry.TheVariants as entry
use Rattle.core_history.specs.Runs.{CoreEntry}

-- the entry is of a change that was accepted
abbrev pub is_accepted : {S : Type 0} → CoreEntry S → Bool
is_accepted (entry.Called (call.Submit change) (reply.Submitted (Ok version))) = true
is_accepted _ = false

-- how many of a token's own calls are changes that were accepted
abbrev pub accepted_count : {S : Type 0} → Holds (CoreEntry S) → ℕ
accepted_count v = own_count is_accepted v

-- the token's own calls stand within what it has seen, each there once, and so many of them are accepted changes
pub record Counts {S : Type 0} (count : ℕ) (v : Holds (CoreEntry S)) : Type 0 where
  pub own : AreOwn v
  pub accepted : count ≡ own_count is_accepted v

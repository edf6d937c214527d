-- What is left of a session's own limits.
use Rattle.std.specs.Prelude.{ℕ, ◌-◌, nat_le, ◌&&◌, Bool, true, Option, None, Some}
use Rattle.hub_requests.specs.declared.limits.SessionLimits.{SessionLimits}

-- whether a limit of which so much is left has room for this much more; where there is no limit, it has
abbrev pub has_room : Option ℕ → ℕ → Bool
has_room None more = true
has_room (Some left) more = nat_le more left

-- and what is left of it then
abbrev pub less : Option ℕ → ℕ → Option ℕ
less None more = None
less (Some left) more = Some (left - more)

-- whether one change more may be accepted whose text has `bytes` bytes, and what is left after it
abbrev pub takes_change : SessionLimits → ℕ → Bool
takes_change left bytes = has_room left.changes 1 && has_room left.bytes bytes

abbrev pub after_change : SessionLimits → ℕ → SessionLimits
after_change left bytes = record left { changes = less left.changes 1; bytes = less left.bytes bytes }

-- the same of one subscriber more
abbrev pub takes_subscriber : SessionLimits → Bool
takes_subscriber left = has_room left.subscribers 1

abbrev pub after_subscriber : SessionLimits → SessionLimits
after_subscriber left = record left { subscribers = less left.subscribers 1 }

-- What a session may submit, and what is done with its changes.
use Rattle.std.specs.Prelude.{◌≡◌, ◌⊎◌, ℕ, ◌+◌, ◌≤◌, List, Bool, Option, None, Some, Result, Ok, Err, IsTrue, IsFalse}
use Rattle.std.specs.Prelude.{length}
use Rattle.std.specs.Prelude.{⊤, true, false}
use Rattle.change_ops.specs.Changes.{Change}
use Rattle.change_ops.specs.declared.size.Size.{Size}
use Rattle.change_ops.specs.Spelling.{change_text}
use Rattle.change_ops.specs.declared.refusal.ChangeError.TheVariants as reading
use Rattle.change_counters.specs.Counters.{greatest_counter, line_above}
use Rattle.change_history.specs.Accepted.{operations_of}
use Rattle.change_history.specs.declared.refusal.SubmitError.{SubmitError}
use Rattle.change_history.specs.declared.refusal.SubmitError.TheVariants as submit
use Rattle.change_keeping.specs.Kept.{Kept, IsStored, IsUnkept}
use Rattle.hub_requests.specs.Limits.{takes_change, after_change}
use Rattle.hub_requests.specs.declared.limits.SessionLimits.{SessionLimits}
use Rattle.hub_requests.specs.declared.limits.SessionOptions.{SessionOptions}
use Rattle.core_history.specs.Shares.{accepted_count}
use Rattle.core_history.specs.Hubs.{Seen}
use Rattle.ingest_workers.specs.Calls.{IsLook}
use Rattle.ingest_workers.specs.Holdings.{Ingests}
use Rattle.refusals.specs.declared.reason.Reason.{Reason}
use Rattle.refusals.specs.declared.reason.Reason.TheVariants as reason
use Rattle.session_lines.specs.declared.reply.Reply.{Reply}
use Rattle.session_lines.specs.declared.reply.Reply.TheVariants as reply

-- the line of a change with the first operation whose counter is more than this jump above those of all operations of
-- these changes
abbrev pub jump_line : ℕ → List Change → Change → Option ℕ
jump_line jump changes change = line_above (greatest_counter (operations_of changes) + jump) change

-- the share looked, and the change had no such line; without a limit it doesn't look
abbrev pub IsInReach : Size → Seen → Seen → Option ℕ → Change → Type 0
IsInReach size v w None change = w ≡ v
IsInReach size v w (Some jump) change = IsLook size v (λ s. jump_line jump s.changes change ≡ None) w

-- it looked, and this was the line
abbrev pub LeapsAt : Size → Seen → Seen → Option ℕ → Change → ℕ → Type 0
LeapsAt size v w None change line = ⊥
LeapsAt size v w (Some jump) change line = IsLook size v (λ s. jump_line jump s.changes change ≡ Some line) w

-- whether what is left to the session has room for the change, by the bytes of its text
abbrev pub has_share : SessionLimits → Change → Bool
has_share left change = takes_change left (length (change_text change))

-- the session may submit the change
abbrev pub IsAdmitted : Size → Seen → Seen → Option ℕ → Change → SessionLimits → Type 0
IsAdmitted size v w jump change left = IsInReach size v w jump change × IsTrue (has_share left change)

-- with a store, the change has this number among those that are kept
abbrev pub IsKeptIf : Kept → Bool → ℕ → Change → Type 0
IsKeptIf kept true number change = IsStored kept number (change_text change)
IsKeptIf kept false number change = ⊤

-- why the session may not submit it: a counter is too far above all accepted ones; the session has no room left for
-- it, which is told as a full history is; no memory was found for its text, whose bytes are looked at only where they
-- have a limit; or the document's memory has a limit, and may not be enough
abbrev pub IsNotAdmitted : Size → Seen → Seen → SessionOptions → Change → SessionLimits → Reason → Type 0
IsNotAdmitted size v w options change left (reason.Unread (reading.Limit line)) =
    LeapsAt size v w options.counter_jump change line
IsNotAdmitted size v w options change left (reason.Unaccepted error) =
    IsInReach size v w options.counter_jump change × IsFalse (has_share left change) × (error ≡ submit.HistoryFull)
IsNotAdmitted size v w options change left reason.OutOfMemory =
    IsInReach size v w options.counter_jump change × ((¬ (left.bytes ≡ None)) ⊎ (¬ (options.memory ≡ None)))
IsNotAdmitted size v w options change left _ = ⊥

-- the hub refused it, by the one call that was made; with a store, what keeps its changes did, and no call was made
abbrev pub IsRefusedBy : Size → Seen → Seen → Kept → Bool → Change → SubmitError → Type 0
IsRefusedBy size v w kept true change error = IsUnkept kept (change_text change) error × (w ≡ v)
IsRefusedBy size v w kept false change error = Ingests size v change (Err error) w

-- the hub was told of a change that is kept, and did not show it, or under another number than the store's: then
-- nothing is acknowledged any more
abbrev pub IsMisshown : Size → Seen → Seen → Change → Type 0
IsMisshown size v w change = (shown : Result ℕ SubmitError) × Ingests size v change shown w

-- why a change that the session may submit was not accepted: it was refused, or what keeps changes failed
abbrev pub IsNotAccepted : Size → Seen → Seen → Kept → Bool → Change → Reason → Type 0
IsNotAccepted size v w kept stores change (reason.Unaccepted error) = IsRefusedBy size v w kept stores change error
IsNotAccepted size v w kept stores change reason.StoreFailed =
    IsTrue stores × ((w ≡ v) ⊎ IsMisshown size v w change)
IsNotAccepted size v w kept stores change _ = ⊥

abbrev pub IsNotSubmitted : Size → Seen → Seen → Kept → Bool → SessionOptions → Change → SessionLimits → Reason → Type 0
IsNotSubmitted size v w kept stores options change left why =
    IsNotAdmitted size v w options change left why
    ⊎ ((u : Seen) × IsAdmitted size v u options.counter_jump change left
    × IsNotAccepted size u w kept stores change why)

-- a change is submitted to the hub, which is of this size, by the one call that the share makes, and its number told,
-- which is no less than the number of the share's own accepted changes; with a store it is kept before; or it is
-- refused, and what the session has stays
abbrev pub Submits : Size → Seen → Seen → Kept → Bool → SessionOptions → Change → SessionLimits → Reply → SessionLimits
    → Type 0
Submits size v w kept stores options change left (reply.Version number) left' =
    (u : Seen) × IsAdmitted size v u options.counter_jump change left × Ingests size u change (Ok number) w
    × (accepted_count w ≤ number) × (left' ≡ after_change left (length (change_text change)))
    × IsKeptIf kept stores number change
Submits size v w kept stores options change left (reply.Refused why) left' =
    (left' ≡ left) × IsNotSubmitted size v w kept stores options change left why
Submits size v w kept stores options change left _ left' = ⊥

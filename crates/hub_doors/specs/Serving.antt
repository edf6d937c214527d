-- What is known of a server's hub at its end.
use Rattle.std.specs.Prelude.{◌≡◌, ℕ, Bool, Result, Ok, Err, Option, List, [], ◌∷◌, All, ⊤}
use Rattle.change_ops.specs.Changes.{Change}
use Rattle.change_ops.specs.declared.size.Size.{Size}
use Rattle.hub_requests.specs.declared.limits.SessionOptions.{SessionOptions}
use Rattle.change_keeping.specs.Kept.{Kept}
use Rattle.core_history.specs.Runs.{Recorded}
use Rattle.subscriber_queues.specs.Queue.{QueueSink}
use Rattle.core_history.specs.Hubs.{Seen}
use Rattle.ingest_workers.specs.Holdings.{IsIdle, Settles}
use Rattle.hub_restoring.specs.Restoring.{AreIngested}
use Rattle.hub_sessions.specs.Sessions.{begins, IsSession}
use Rattle.hub_sessions.specs.declared.conversation.SessionFault.{SessionFault}
use Rattle.hub_doors.specs.declared.server.ServeError.{ServeError}
use Rattle.hub_doors.specs.declared.server.ServeError.TheVariants as serve

-- a session: whether its changes are kept, what it may do, how it ended, what it read, and what its writer had before
-- and after it, as far as the connection tells
pub record Session : Type 0 where
  pub stores : Bool
  pub options : SessionOptions
  pub ended : Result ⊤ SessionFault
  pub left : Option (List ℕ)
  pub old : Option (List ℕ)
  pub new : Option (List ℕ)

-- these sessions were held by one share, one after another, and it made no other call
abbrev pub AreSessions : Size → Kept → Seen → List Session → Seen → Type 0
AreSessions size kept v [] w = w ≡ v
AreSessions size kept v (one ∷ more) w =
    (u : Seen) × IsSession one.ended (begins size kept one.stores v one.options) one.left one.old u one.new
    × AreSessions size kept u more w

-- a share of a new hub, by which changes may have been accepted again that a store kept
abbrev pub IsBegun : Size → Seen → Type 0
IsBegun size w = (v : Seen) × (before : List Change) × IsIdle size v × AreIngested size v before w

-- and then sessions were held
abbrev pub IsOfSessions : Size → Kept → Seen → Type 0
IsOfSessions size kept w =
    (u : Seen) × (sessions : List Session) × IsBegun size u × AreSessions size kept u sessions w

-- the promise of the whole hub: there is one history, which is a run of its core from its start; each of its entries
-- but the start is, once, a call of one of these shares; and what each share did are sessions, one after another, each
-- of whose replies are those to its own calls, in order, and what it looked at were states that this history led to
abbrev pub IsServed : Size → Kept → Type 0
IsServed size kept =
    (found : Recorded QueueSink) × (shares : List Seen) × (count : ℕ) × Settles size found shares count
    × All (IsOfSessions size kept) shares

-- how serving ended: unless no session was held, the hub came to its end
abbrev pub Serves : Size → Kept → Result ⊤ ServeError → Type 0
Serves size kept (Ok done) = IsServed size kept
Serves size kept (Err (serve.Connection why)) = IsServed size kept
Serves size kept (Err serve.Kept) = IsServed size kept
Serves size kept (Err why) = ⊤

-- why no session was held
abbrev pub IsUnserved : ServeError → Type 0
IsUnserved (serve.Connection why) = ⊥
IsUnserved serve.Kept = ⊥
IsUnserved why = ⊤

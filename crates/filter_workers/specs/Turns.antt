-- What workers do, as calls of their shares of a hub's one history.
use Rattle.std.specs.Prelude.{◌≡◌, ⊤, ℕ, zero, suc, ◌<◌, ◌≤◌, ◌+◌, ◌*◌, ◌⊎◌, Bool, true, false, Result, Ok, Err}
use Rattle.std.specs.Prelude.{Option, Some, None, List, [], ◌∷◌, ◌++◌, All, Contains, length, map, sum, count_by}
use Rattle.change_ops.specs.declared.size.Size.{Size}
use Rattle.block_layout.specs.Meaning.{IsForward}
use Rattle.feeds.specs.Batches.{Job}
use Rattle.hub_core.specs.Machine.{Misses}
use Rattle.hub_core.specs.declared.error.CommitError.{CommitError}
use Rattle.hub_core.specs.declared.error.CommitError.TheVariants as commit
use Rattle.hub_core.specs.declared.error.NoSubscriber.{NoSubscriber}
use Rattle.hub_core.specs.declared.run.Reply.TheVariants as reply
use Rattle.core_history.specs.declared.entry.Call.TheVariants as call
use Rattle.core_history.specs.declared.entry.Entry.TheVariants as entry
use Rattle.core_history.specs.Runs.{called}
use Rattle.core_history.specs.Hubs.{HubEntry, Seen}
use Rattle.ingest_workers.specs.Calls.{IsLook, Makes, WasSo}
use Rattle.filter_workers.specs.declared.work.TurnEnd.{TurnEnd}
use Rattle.filter_workers.specs.declared.work.TurnEnd.TheVariants.{Committed, Refused}

-- a job was handed out, or there was none
abbrev pub takes : Option Job → HubEntry
takes job = called call.TakeJob (reply.Handed job)

-- the batch of a job was brought, and held or refused
abbrev pub commits : Job → Result (Unit {0}) CommitError → HubEntry
commits job r = called (call.Commit job) (reply.Committed r)

-- a subscriber was sent what could be sent
abbrev pub pumps : ℕ → Result ℕ NoSubscriber → HubEntry
pumps subscriber sent = called (call.Pump subscriber) (reply.Pumped sent)

-- what a subscriber doesn't hold may be handed out again
abbrev pub reissues : ℕ → Result (Unit {0}) NoSubscriber → HubEntry
reissues subscriber r = called (call.Reissue subscriber) (reply.Reissued r)

-- a batch was committed
abbrev pub is_committed : HubEntry → Bool
is_committed (entry.Called (call.Commit job) (reply.Committed (Ok _))) = true
is_committed _ = false

-- so many batches were committed by these calls
abbrev pub committed_count : List HubEntry → ℕ
committed_count calls = count_by is_committed calls

-- the batch was committed, or refused since its subscriber is closed or doesn't wait for it
abbrev pub IsEnd : Result (Unit {0}) CommitError → TurnEnd → Type 0
IsEnd (Ok _) Committed = ⊤
IsEnd (Err commit.NoSubscriber) Refused = ⊤
IsEnd (Err commit.Stale) Refused = ⊤
IsEnd _ _ = ⊥

-- how many batches a turn committed
abbrev pub batches_of : TurnEnd → ℕ
batches_of Committed = 1
batches_of Refused = 0

-- a job that was served: its batch was committed, or refused, and its subscriber was sent what could be sent
pub record Served : Type 0 where
  pub job : Job
  pub answer : Result (Unit {0}) CommitError
  pub end : TurnEnd
  pub ended : IsEnd answer end
  pub sent : Result ℕ NoSubscriber

-- the calls that serve a job
abbrev pub serving : Served → List HubEntry
serving s = commits s.job s.answer ∷ pumps s.job.subscriber s.sent ∷ []

-- the calls of a turn with this job
abbrev pub turn_of : Served → List HubEntry
turn_of s = takes (Some s.job) ∷ commits s.job s.answer ∷ pumps s.job.subscriber s.sent ∷ []

-- a job was served; or, where no memory was found, what its subscriber is owed was handed out again and no batch
-- brought
abbrev pub Serves : {E : Type 0} → Job → Result TurnEnd E → List HubEntry → Type 0
Serves job (Ok end) calls = (s : Served) × (s.job ≡ job) × (s.end ≡ end) × (calls ≡ serving s)
Serves job (Err _) calls = (r : Result (Unit {0}) NoSubscriber) × (calls ≡ reissues job.subscriber r ∷ [])

-- a turn that found no memory: a job was taken, and what its subscriber is owed handed out again
abbrev pub TurnsShort : Job → List HubEntry → Type 0
TurnsShort job calls =
    (r : Result (Unit {0}) NoSubscriber) × (calls ≡ takes (Some job) ∷ reissues job.subscriber r ∷ [])

-- a turn: a job was taken and served, or there was none to take
abbrev pub Turns : {E : Type 0} → Result (Option TurnEnd) E → List HubEntry → Type 0
Turns (Ok (Some end)) calls = (s : Served) × (s.end ≡ end) × (calls ≡ turn_of s)
Turns (Ok None) calls = calls ≡ takes None ∷ []
Turns (Err _) calls = (job : Job) × TurnsShort job calls

-- a worker's calls in so many turns, or in fewer, the last of which had no job
abbrev pub AreTurns : ℕ → List HubEntry → Type 0
AreTurns zero calls = calls ≡ []
AreTurns (suc turns) calls =
    (calls ≡ takes None ∷ [])
    ⊎ ((s : Served) × (more : List HubEntry) × (calls ≡ turn_of s ++ more) × AreTurns turns more)

-- a worker's calls in at most so many turns, the last of which found no memory
abbrev pub AreTurnsShort : ℕ → List HubEntry → Type 0
AreTurnsShort zero calls = ⊥
AreTurnsShort (suc turns) calls =
    ((job : Job) × TurnsShort job calls)
    ⊎ ((s : Served) × (more : List HubEntry) × (calls ≡ turn_of s ++ more) × AreTurnsShort turns more)

-- a worker's calls: those of its turns, and so many batches were committed; or turns until no memory was found
abbrev pub Works : {E : Type 0} → ℕ → Result ℕ E → List HubEntry → Type 0
Works turns (Ok count) calls = AreTurns turns calls × (count ≡ committed_count calls)
Works turns (Err _) calls = AreTurnsShort turns calls

-- all of these are counts, and this is their sum
abbrev pub AddUp : {E : Type 0} → List (Result ℕ E) → ℕ → Type 0
AddUp [] n = n ≡ 0
AddUp (Ok count ∷ more) n = (rest : ℕ) × (n ≡ count + rest) × AddUp more rest
AddUp (Err _ ∷ more) n = ⊥

-- the sum of counts; or one of them is none
abbrev pub Totals : {E : Type 0} → List (Result ℕ E) → Result ℕ E → Type 0
Totals ended (Ok n) = AddUp ended n
Totals {E} ended (Err _) = (e : E) × Contains ended (Err e)

-- each of these shares made the calls that stand at its place
abbrev pub EachMakes : Size → List Seen → List (List HubEntry) → List Seen → Type 0
EachMakes size [] [] [] = ⊤
EachMakes size (old ∷ olds) (calls ∷ did) (new ∷ news) = Makes size old calls new × EachMakes size olds did news
EachMakes size _ _ _ = ⊥

-- all workers' calls: each had its turns, and so many batches were committed by them together; or one or more, not
-- always all, had turns until they found no memory
abbrev pub WorkTogether : {E : Type 0} → ℕ → Result ℕ E → List (List HubEntry) → Type 0
WorkTogether turns (Ok count) did = All (AreTurns turns) did × (count ≡ sum (map committed_count did))
WorkTogether turns (Err _) did =
    All (λ calls. AreTurns turns calls ⊎ AreTurnsShort turns calls) did
    × (calls : List HubEntry) × Contains did calls × AreTurnsShort turns calls

-- workers with a share each had turns
pub record Worked {E : Type 0} (size : Size) (turns : ℕ) (olds : List Seen) (result : Result ℕ E) (news : List Seen)
    : Type 0
  where
    pub did : List (List HubEntry)
    pub made : EachMakes size olds did news
    pub ended : WorkTogether turns result did

-- the most steps that running a program without a jump back on each span of the version takes: a run takes at most one
-- a slot, and to begin it counts as 32
abbrev pub most_steps : Job → ℕ
most_steps job = length job.version.value.rows * (length job.program.value + 32)

-- the program has no jump back, and takes at most so many steps
abbrev pub IsShort : ℕ → Job → Type 0
IsShort most job = IsForward job.program.value × (most_steps job ≤ most)

-- a job of at most `most` steps was taken and served; or a longer one was taken and left to its subscriber, or there
-- was none to take; or, where no memory was found, what its subscriber is owed was handed out again
abbrev pub Helps : {E : Type 0} → ℕ → List HubEntry → Result Bool E → Type 0
Helps most calls (Ok true) = (s : Served) × IsShort most s.job × (calls ≡ turn_of s)
Helps most calls (Ok false) =
    (calls ≡ takes None ∷ []) ⊎ ((job : Job) × ¬ IsShort most job × (calls ≡ takes (Some job) ∷ []))
Helps most calls (Err _) = (job : Job) × IsShort most job × TurnsShort job calls

-- what a subscriber was found to wait for is no version, or one behind this
abbrev pub IsBehind : ℕ → Option Job → Type 0
IsBehind last None = Unit {0}
IsBehind last (Some job) = last < job.number

-- the job was of the first version that a subscriber waited for, which is one of those up to this
pub record WasMissed (size : Size) (subscriber last : ℕ) (v : Seen) (job : Job) (w : Seen) : Type 0 where
  pub of : job.subscriber ≡ subscriber
  pub wanted : job.number ≤ last
  pub missed : WasSo size v w (λ s. Misses s subscriber (Some job))

-- the job of the first version that a subscriber waited for was found, is of one of the versions up to the last that is
-- wanted, and its batch was committed or refused; or it waited for none of them; or no memory was found, and no call
-- made
abbrev pub CatchesUp : {E : Type 0} → Size → ℕ → ℕ → Seen → Result Bool E → Seen → Type 0
CatchesUp size subscriber last v (Ok true) w =
    (job : Job) × WasMissed size subscriber last v job w
    × (r : Result (Unit {0}) CommitError) × (end : TurnEnd) × IsEnd r end × Makes size v (commits job r ∷ []) w
CatchesUp size subscriber last v (Ok false) w =
    (missed : Option Job) × IsBehind last missed × IsLook size v (λ s. Misses s subscriber missed) w
CatchesUp size subscriber last v (Err _) w =
    (job : Job) × WasMissed size subscriber last v job w × Makes size v [] w

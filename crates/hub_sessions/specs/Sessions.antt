-- A session from its first line to its end: what came, and what was printed for it.
use Rattle.std.specs.Prelude.{◌≡◌, ◌⊎◌, ℕ, Bool, true, false, List, [], ◌∷◌, ◌++◌, Option, Result, Ok, Err, ⊤}
use Rattle.std.specs.List.{flat_map}
use Rattle.std.specs.Io.KnownBytes.{Appends, Keeps}
use Rattle.hub_requests.specs.declared.limits.SessionLimits.{SessionLimits}
use Rattle.hub_requests.specs.declared.limits.SessionOptions.{SessionOptions}
use Rattle.refusals.specs.declared.reason.Reason.TheVariants as reason
use Rattle.session_lines.specs.Replies.{reply_text, reason_of}
use Rattle.session_lines.specs.Requests.{IsNext}
use Rattle.session_lines.specs.declared.reply.Reply.{Reply}
use Rattle.session_lines.specs.declared.reply.Reply.TheVariants as reply
use Rattle.session_lines.specs.declared.request.Next.{Next}
use Rattle.session_lines.specs.declared.request.Next.TheVariants as next
use Rattle.session_lines.specs.declared.request.SessionRequest.{SessionRequest}
use Rattle.session_lines.specs.declared.request.SessionRequest.TheVariants as asked
use Rattle.session_subscribers.specs.Holding.{Held, Adds, Closes, PullsAny, PullsShort}
use Rattle.session_reads.specs.Found.{found_text}
use Rattle.session_reads.specs.Reads.{Reads}
use Rattle.change_ops.specs.Changes.{Change}
use Rattle.change_ops.specs.declared.size.Size.{Size}
use Rattle.change_ops.specs.declared.size.Size.TheVariants.{Small}
use Rattle.change_keeping.specs.Kept.{Kept, none_kept, some_log, AreStored}
use Rattle.subscriber_queues.specs.Queue.{QueueSink}
use Rattle.hub_core.specs.declared.error.NoSubscriber.{NoSubscriber}
use Rattle.hub_core.specs.declared.run.Reply.TheVariants as told
use Rattle.core_history.specs.declared.entry.Call.TheVariants as call
use Rattle.core_history.specs.Runs.{Recorded}
use Rattle.core_history.specs.Hubs.{Seen}
use Rattle.ingest_workers.specs.Calls.{IsCall}
use Rattle.ingest_workers.specs.Holdings.{IsIdle, Settles}
use Rattle.hub_restoring.specs.Restoring.{AreIngested}
use Rattle.hub_sessions.specs.Submitting.{Submits}
use Rattle.hub_sessions.specs.declared.conversation.SessionFault.{SessionFault}
use Rattle.hub_sessions.specs.declared.conversation.SessionFault.TheVariants as fault
use Rattle.hub_sessions.specs.declared.replaying.ReplayError.{ReplayError}
use Rattle.hub_sessions.specs.declared.replaying.ReplayError.TheVariants as replay
use Rattle.hub_sessions.specs.declared.conversation.Turn.{Turn}
use Rattle.hub_sessions.specs.declared.conversation.Turn.TheVariants.{More, Last}
use Rattle.hub_sessions.specs.declared.conversation.TurnFault.{TurnFault}
use Rattle.hub_sessions.specs.declared.conversation.TurnFault.TheVariants as turn_fault

-- of a session on a hub of this size: whether its changes are kept, as texts that meet `kept`; its share of the hub's
-- history, the subscribers that it holds, what it may still have accepted, what it may do
pub record SessionState (size : Size) (kept : Kept) : Type 0 where
  pub stores : Bool
  pub share : Seen
  pub held : List Held
  pub left : SessionLimits
  pub options : SessionOptions

abbrev pub session_state : (size : Size) (kept : Kept) → Bool → Seen → List Held → SessionLimits → SessionOptions
    → SessionState size kept
session_state size kept stores share held left options =
    record { stores = stores; share = share; held = held; left = left; options = options }

-- what is done for a request, the lines of items or of what is read that are printed, and the reply after them
abbrev pub Answers : {size : Size} {kept : Kept} → SessionRequest → SessionState size kept → List ℕ → List ℕ → Reply
    → SessionState size kept → Type 0
Answers {size} {kept} (asked.Change change) s out out' answer s' =
    Submits size s.share s'.share kept s.stores s.options change s.left answer s'.left
    × (s'.held ≡ s.held) × (out' ≡ out) × (s'.options ≡ s.options) × (s'.stores ≡ s.stores)
Answers {size} (asked.Subscribe rules capacity program first) s out out' answer s' =
    Adds size s.share s'.share rules capacity program.items first s.left s.held answer s'.left s'.held
    × (out' ≡ out) × (s'.options ≡ s.options) × (s'.stores ≡ s.stores)
Answers {size} (asked.Pull id count) s out out' answer s' =
    PullsAny size s.share s'.share s.options.reads id count s.held s'.held out out' answer
    × (s'.left ≡ s.left) × (s'.options ≡ s.options) × (s'.stores ≡ s.stores)
Answers {size} (asked.Close id) s out out' answer s' =
    Closes size s.share s'.share s.held id answer s'.held
    × (out' ≡ out) × (s'.left ≡ s.left) × (s'.options ≡ s.options) × (s'.stores ≡ s.stores)
Answers {size} (asked.Read query) s out out' answer s' =
    (text : List ℕ) × (out' ≡ out ++ text)
    × Reads size s.share s'.share s.options.reads s.options.hub s.options.memory query text answer
    × (s' ≡ record s { share = s'.share })

-- a request is answered, or what is none is refused and changes nothing
abbrev pub Meets : {size : Size} {kept : Kept} → Next → SessionState size kept → List ℕ → List ℕ → Reply
    → SessionState size kept → Type 0
Meets (next.Request request) s out out' answer s' = Answers request s out out' answer s'
Meets (next.Refused refusal) s out out' answer s' =
    (answer ≡ reply.Refused (reason_of refusal)) × (s' ≡ s) × (out' ≡ out)
Meets next.TooLong s out out' answer s' = ⊥
Meets next.Foreign s out out' answer s' = ⊥
Meets next.End s out out' answer s' = ⊥

-- one came next of the input, and was met; what is left of the input, and the session's state then
pub record Exchange (size : Size) (kept : Kept) : Type 0 where
  pub came : Next
  pub items : List ℕ
  pub answer : Reply
  pub left : Option (List ℕ)
  pub state : SessionState size kept

-- the line of a reply, with its LF
abbrev pub reply_line : Reply → List ℕ
reply_line answer = reply_text answer ++ 10 ∷ []

-- what is printed of it: the lines of items, and one line more
abbrev pub printed : {size : Size} {kept : Kept} → Exchange size kept → List ℕ
printed e = e.items ++ reply_line e.answer

-- what came next was met
pub record IsAnswered {size : Size} {kept : Kept} (s : SessionState size kept) (left : Option (List ℕ)) (came : Next)
    (items : List ℕ) (answer : Reply) (s' : SessionState size kept) (left' : Option (List ℕ)) : Type 0
  where
    pub next : IsNext left came left'
    pub met : Meets came s [] items answer s'

abbrev pub IsExchange : {size : Size} {kept : Kept} → SessionState size kept → Option (List ℕ) → Exchange size kept
    → Type 0
IsExchange s left e = IsAnswered s left e.came e.items e.answer e.state e.left

-- each begins where the one before it ended
abbrev pub Follow : {size : Size} {kept : Kept} → SessionState size kept → Option (List ℕ) → List (Exchange size kept)
    → SessionState size kept → Option (List ℕ) → Type 0
Follow s left [] s' left' = (s' ≡ s) × (left' ≡ left)
Follow s left (e ∷ more) s' left' = IsExchange s left e × Follow e.state e.left more s' left'

-- these were printed, one after another, after what a writer had
pub record Converses {size : Size} {kept : Kept} (s : SessionState size kept) (left old : Option (List ℕ))
    (s' : SessionState size kept) (left' new : Option (List ℕ)) : Type 0 where
  pub exchanges : List (Exchange size kept)
  pub follow : Follow s left exchanges s' left'
  pub written : Appends old new (flat_map printed exchanges)

-- nothing comes after it, whatever is left of the input: the input's end, which prints nothing, or a line that is too
-- long or of another protocol
abbrev pub IsLast : Option (List ℕ) → Option (List ℕ) → List ℕ → Type 0
IsLast left left' text =
    (IsNext left next.End left' × (text ≡ []))
    ⊎ (IsNext left next.TooLong left' × (text ≡ reply_line (reply.Refused reason.LineTooLong)))
    ⊎ (IsNext left next.Foreign left' × (text ≡ reply_line (reply.Refused reason.BadCommand)))

-- what came was met, or the session ends
abbrev pub TakesTurn : {size : Size} {kept : Kept} → Turn → SessionState size kept → Option (List ℕ) → List ℕ
    → SessionState size kept → Option (List ℕ) → Type 0
TakesTurn (More found) s left text s' left' =
    (came : Next) × (items : List ℕ) × (answer : Reply) × IsAnswered s left came items answer s' left'
    × (text ≡ items ++ reply_line answer)
TakesTurn Last s left text s' left' = IsLast left left' text × (s' ≡ s)

-- what is printed for a request to read, and the lines of items that are printed for others: never both
abbrev pub AreApart : SessionRequest → List ℕ → List ℕ → Type 0
AreApart (asked.Read query) text lines = lines ≡ []
AreApart request text lines = text ≡ []

-- what a turn found, which is printed before its lines
abbrev pub found_in : Turn → List ℕ
found_in (More found) = found_text found
found_in Last = []

abbrev pub read_in : Result Turn TurnFault → List ℕ
read_in (Ok turn) = found_in turn
read_in (Err fault) = []

-- what is printed of what came where the line behind it isn't: of a pull, the lines of its items; else nothing
abbrev pub short_text : Next → List ℕ → List ℕ
short_text (next.Request (asked.Pull id count)) items = items
short_text _ items = []

-- no memory was found for a whole reply: nothing came of it, or what came was met, but its last line isn't printed; or
-- a pull came, and whole lines are printed of items that it took
abbrev pub FallsShort : {size : Size} {kept : Kept} → SessionState size kept → Option (List ℕ) → List ℕ
    → SessionState size kept → Option (List ℕ) → Type 0
FallsShort {size} s left text s' left' =
    ((s' ≡ s) × (text ≡ []))
    ⊎ ((came : Next) × (items : List ℕ) × (answer : Reply) × IsAnswered s left came items answer s' left'
    × (text ≡ short_text came items))
    ⊎ ((id : ℕ) × (count : ℕ) × IsNext left (next.Request (asked.Pull id count)) left'
    × PullsShort size s.share s'.share id count s.held s'.held [] text
    × (s' ≡ record s { share = s'.share; held = s'.held }))

-- a turn whose read failed changed and printed nothing
abbrev pub BreaksTurn : {size : Size} {kept : Kept} → TurnFault → SessionState size kept → Option (List ℕ) → List ℕ
    → SessionState size kept → Option (List ℕ) → Type 0
BreaksTurn (turn_fault.Read error) s left text s' left' = (s' ≡ s) × (text ≡ [])
BreaksTurn turn_fault.Memory s left text s' left' = FallsShort s left text s' left'

-- after its exchanges the session came to its end in a state, by what came or for want of memory
pub record EndsAfter {size : Size} {kept : Kept} (s : SessionState size kept) (left old : Option (List ℕ))
    (last : SessionState size kept) (new : Option (List ℕ)) : Type 0
  where
    pub rest : Option (List ℕ)
    pub before : Option (List ℕ)
    pub converses : Converses s left old last rest before
    pub over : Option (List ℕ)
    pub text : List ℕ
    pub is_last : IsLast rest over text
    pub written : Appends before new text

pub record EndsShort {size : Size} {kept : Kept} (s : SessionState size kept) (left old : Option (List ℕ))
    (last : SessionState size kept) (new : Option (List ℕ)) : Type 0
  where
    pub state : SessionState size kept
    pub rest : Option (List ℕ)
    pub before : Option (List ℕ)
    pub converses : Converses s left old state rest before
    pub part : List ℕ
    pub over : Option (List ℕ)
    pub short : FallsShort state rest part last over
    pub written : Appends before new (part ++ reply_line (reply.Refused reason.OutOfMemory))

-- or a read failed after them
pub record BreaksAfter {size : Size} {kept : Kept} (s : SessionState size kept) (left old : Option (List ℕ))
    (last : SessionState size kept) (new : Option (List ℕ)) : Type 0
  where
    pub rest : Option (List ℕ)
    pub converses : Converses s left old last rest new

-- a turn of which nothing is said of what was written: it was the last, what came was met, or it fell short
abbrev pub IsUnread : {size : Size} {kept : Kept} → SessionState size kept → Option (List ℕ) → SessionState size kept
    → Type 0
IsUnread s left s' =
    (s' ≡ s)
    ⊎ ((came : Next) × (items : List ℕ) × (answer : Reply) × (left' : Option (List ℕ))
    × IsAnswered s left came items answer s' left')
    ⊎ ((part : List ℕ) × (left' : Option (List ℕ)) × FallsShort s left part s' left')

-- or a write did; nothing is said of what was written before
pub record EndsUnwritten {size : Size} {kept : Kept} (s : SessionState size kept) (left : Option (List ℕ))
    (last : SessionState size kept) : Type 0
  where
    pub state : SessionState size kept
    pub rest : Option (List ℕ)
    pub exchanges : List (Exchange size kept)
    pub follow : Follow s left exchanges state rest
    pub unread : IsUnread state rest last

-- a write failed
abbrev pub IsUnwritten : SessionFault → Type 0
IsUnwritten (fault.Read error) = ⊥
IsUnwritten (fault.Write error) = ⊤

-- how a session ended, and in which state
abbrev pub Ends : {size : Size} {kept : Kept} → Result ⊤ SessionFault → SessionState size kept → Option (List ℕ)
    → Option (List ℕ) → SessionState size kept → Option (List ℕ) → Type 0
Ends (Ok done) s left old last new = EndsAfter s left old last new ⊎ EndsShort s left old last new
Ends (Err (fault.Read error)) s left old last new = BreaksAfter s left old last new
Ends (Err (fault.Write error)) s left old last new = EndsUnwritten s left last

-- these were closed, one after another; where the hub had one as closed, the call is refused
abbrev pub ClosesAll : Size → Seen → Seen → List Held → Type 0
ClosesAll size v w [] = w ≡ v
ClosesAll size v w (one ∷ more) =
    (found : Result (Unit {0}) NoSubscriber) × (u : Seen) × IsCall size v (call.Close one.id) (told.Closed found) u
    × ClosesAll size u w more

-- a session from its start to its end, after which it closed all subscribers that it held
abbrev pub IsSession : {size : Size} {kept : Kept} → Result ⊤ SessionFault → SessionState size kept → Option (List ℕ)
    → Option (List ℕ) → Seen → Option (List ℕ) → Type 0
IsSession {size} {kept} ended s left old w new =
    (last : SessionState size kept) × Ends ended s left old last new × ClosesAll size last.share w last.held

-- a session's state at its start: it holds nothing, and all that it may have accepted is left
abbrev pub begins : (size : Size) (kept : Kept) → Bool → Seen → SessionOptions → SessionState size kept
begins size kept stores share options =
    record { stores = stores; share = share; held = []; left = options.limits; options = options }

-- a new hub of this size came to its end after calls that this one share made, which began at one moment and ended at
-- another: the history is a run of its core, whose first entry is the start and all others are calls of the share
abbrev pub IsWholeHub : Size → (Seen → Seen → Type 0) → Type 0
IsWholeHub size made =
    (found : Recorded QueueSink) × (v : Seen) × (w : Seen) × (count : ℕ) × IsIdle size v × made v w
    × Settles size found (w ∷ []) count

-- a session on a hub of its own, which is of this size and has no change yet; or no memory was found for the hub, and
-- nothing was printed. No change is kept, so nothing is asked of the size at which none is
abbrev pub Replays : Size → SessionOptions → Result ⊤ ReplayError → Option (List ℕ) → Option (List ℕ) → Option (List ℕ)
    → Type 0
Replays size options (Ok done) left old new =
    IsWholeHub size (λ v w. IsSession (Ok done) (begins size (none_kept Small) false v options) left old w new)
Replays size options (Err (replay.Session why)) left old new =
    IsWholeHub size (λ v w. IsSession (Err why) (begins size (none_kept Small) false v options) left old w new)
Replays size options (Err replay.OutOfMemory) left old new = Keeps old new

-- a session on a hub of its own that a log keeps: first the changes that it kept were accepted again, in order, and
-- they are kept still
abbrev pub ReplaysKept : {L : Type 0} → Size → (L → List (List ℕ) → Type 0) → SessionOptions → Result ⊤ SessionFault
    → Option (List ℕ) → Option (List ℕ) → Option (List ℕ) → Type 0
ReplaysKept size kept options ended left old new =
    IsWholeHub size (λ v w. (before : List Change) × (u : Seen) × AreIngested size v before u
    × AreStored (some_log size kept) before
    × IsSession ended (begins size (some_log size kept) true u options) left old w new)

-- What a session is shown of the text.
use Rattle.std.specs.Prelude.{◌≡◌, ℕ, ◌<◌, ◌≤◌, Option, Some, None, List, [], length, take, drop, slice_get}
use Rattle.std.specs.Prelude.{Bool, true, false}
use Rattle.std.specs.List.{flat_map}
use Rattle.change_ops.specs.Changes.{Change}
use Rattle.change_ops.specs.Spelling.{change_text}
use Rattle.change_ops.specs.declared.size.Size.{Size}
use Rattle.change_ops.specs.declared.refusal.ChangeError.TheVariants as change
use Rattle.char_sequence.specs.Newest.{IsLastCounter}
use Rattle.span_flatten.specs.Version.{Version}
use Rattle.span_lines.specs.SpanLines.{some_lines}
use Rattle.version_history.specs.Tokens.{Token}
use Rattle.change_history.specs.Accepted.{operations_of}
use Rattle.core_history.specs.Hubs.{Seen}
use Rattle.ingest_workers.specs.Calls.{IsLook, Makes}
use Rattle.hub_requests.specs.declared.identity.HubId.{HubId}
use Rattle.refusals.specs.declared.reason.Reason.TheVariants as reason
use Rattle.session_lines.specs.declared.query.Query.{Query}
use Rattle.session_lines.specs.declared.query.Query.TheVariants.{Latest, Left, Hub, Stats, Show, Changes, Newest}
use Rattle.session_lines.specs.declared.reply.Reply.{Reply}
use Rattle.session_lines.specs.declared.reply.Reply.TheVariants as reply
use Rattle.session_reads.specs.Counting.{IsLeft, AreStats}

-- `most` spans of a version, from one of them on, and how many it has; or no version had the number
abbrev pub Shows : Size → Seen → Seen → ℕ → ℕ → ℕ → Bool → List ℕ → Reply → Type 0
Shows size v w number first most further text (reply.Spans count) =
    (token : Token Version) × IsLook size v (λ s. slice_get s.versions number ≡ Some token) w
    × (text ≡ some_lines further first most token.value) × (count ≡ length token.value.rows)
Shows size v w number first most further text (reply.Refused reason.NoVersion) =
    IsLook size v (λ s. slice_get s.versions number ≡ None) w × (text ≡ [])
Shows size v w number first most further text _ = ⊥

-- the texts of changes, one behind the other, and how many they are
abbrev pub AreTexts : List Change → List ℕ → ℕ → Type 0
AreTexts changes text count = (text ≡ flat_map change_text changes) × (count ≡ length changes)

-- the accepted changes behind a version, `most` or as many as there were; or no version had the number
abbrev pub Lists : Size → Seen → Seen → ℕ → ℕ → List ℕ → Reply → Type 0
Lists size v w from most text (reply.Changes count) =
    IsLook size v (λ s. (from ≤ length s.changes) × AreTexts (take most (drop from s.changes)) text count) w
Lists size v w from most text (reply.Refused reason.NoVersion) =
    IsLook size v (λ s. length s.changes < from) w × (text ≡ [])
Lists size v w from most text _ = ⊥

-- the numbers of peers
abbrev pub IsPeer : ℕ → Type 0
IsPeer node = (1 ≤ node) × (node ≤ 65535)

-- the greatest counter of a peer's accepted operations; or the number is none of a peer
abbrev pub Counts : Size → Seen → Seen → ℕ → Reply → Type 0
Counts size v w node (reply.Newest counter) =
    IsPeer node × IsLook size v (λ s. IsLastCounter (operations_of s.changes) node counter) w
Counts size v w node (reply.Refused (reason.Unread (change.Limit line))) = (¬ (IsPeer node)) × (line ≡ 1) × (w ≡ v)
Counts size v w node _ = ⊥

-- which hub it is, where it has an id; one that has none has no such line
abbrev pub Names : Option HubId → Reply → Type 0
Names (Some id) (reply.Hub told) = told ≡ id
Names None (reply.Refused reason.BadCommand) = Unit {0}
Names _ _ = ⊥

-- what is printed to a query of a hub of this size with this id, whose document has this limit of memory, and the reply
-- behind it: read off the one state in which the history ended when the share looked
abbrev pub Tells : Size → Seen → Seen → Option HubId → Option ℕ → Query → List ℕ → Reply → Type 0
Tells size v w id memory Latest text (reply.Latest number) =
    IsLook size v (λ s. number ≡ length s.changes) w × (text ≡ [])
Tells size v w id memory Latest text _ = ⊥
Tells size v w id memory Left text (reply.Left left) = IsLook size v (λ s. IsLeft size s left) w × (text ≡ [])
Tells size v w id memory Left text _ = ⊥
Tells size v w id memory Hub text answer = Names id answer × (text ≡ []) × (w ≡ v)
Tells size v w id memory Stats text (reply.Stats stats) =
    IsLook size v (λ s. AreStats size memory s stats) w × (text ≡ [])
Tells size v w id memory Stats text _ = ⊥
Tells size v w id memory (Show number first most further) text answer =
    Shows size v w number first most further text answer
Tells size v w id memory (Changes from most) text answer = Lists size v w from most text answer
Tells size v w id memory (Newest node) text answer = Counts size v w node answer × (text ≡ [])

-- the same, or that no memory was found, and then nothing is printed but that; a hub that isn't read has no such line.
-- No call is made
abbrev pub Reads : Size → Seen → Seen → Bool → Option HubId → Option ℕ → Query → List ℕ → Reply → Type 0
Reads size v w true id memory query text (reply.Refused reason.OutOfMemory) = (text ≡ []) × Makes size v [] w
Reads size v w true id memory query text answer = Tells size v w id memory query text answer
Reads size v w false id memory query text answer = (answer ≡ reply.Refused reason.BadCommand) × (text ≡ []) × (w ≡ v)

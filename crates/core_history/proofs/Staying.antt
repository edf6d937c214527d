-- Along a run a subscriber stays what it is, however far it is sent, and changes and versions only come to be more.
use Rattle.std.proofs.Common.{◌≡◌, ℕ, zero, suc, ◌+◌, true, false, true≢false, Ok, Err, None, Some, List, [], ◌∷◌, ◌++◌, length, refl, ap, sym, ◌∙◌, subst, append_assoc}
use Rattle.std.specs.Prelude.{⊤, slice_get, slice_set}
use Rattle.std.proofs.lemmas.Option.{same_Some, none-some}
use mathlib.Core.List.{IsPrefix}
use Rattle.change_ops.specs.declared.size.Size.{Size}
use Rattle.feeds.specs.Batches.{Item}
use Rattle.feeds.specs.Feed.{Subscriber, Moved, fresh, holding, rewound, nothing_held}
use Rattle.subscriber_queues.specs.Queue.{QueueSink, was_sent, IsFull, closed_end, unsent}
use Rattle.semantics.specs.Step.{Program}
use Rattle.version_history.specs.Tokens.{Token}
use Rattle.hub_core.specs.Machine.{Core, Subscribes, with_subscriber}
use Rattle.hub_core.specs.declared.error.SubscribeError.TheVariants as subscribe
use Rattle.hub_core.specs.declared.error.CommitError.TheVariants as commit
use Rattle.hub_core.specs.declared.run.Reply.TheVariants as reply
use Rattle.call_history.proofs.Prefixes.{prefix_self}
use Rattle.core_history.specs.declared.entry.Call.TheVariants as call
use Rattle.core_history.specs.declared.entry.Entry.TheVariants as entry
use Rattle.core_history.specs.Runs.{CoreReply, CoreEntry, called, started, Happens, IsRun}
use Rattle.core_history.specs.Hubs.{HubEntry, HubCall, IsHubRun}

prefix_then : {A : Type 0} (xs ys zs : List A) → IsPrefix xs ys → IsPrefix ys zs → IsPrefix xs zs
prefix_then xs ys zs p q = (p.0 ++ q.0, sym (append_assoc xs p.0 q.0) ∙ ap (λ w. w ++ q.0) p.1 ∙ q.1)

get_front : {A : Type 0} (l : List A) (x : A) (i : ℕ) (a : A) → slice_get l i ≡ Some a → slice_get (l ++ x ∷ []) i ≡ Some a
get_front [] x i a at = absurd (none-some a at)
get_front (y ∷ l) x zero a at = at
get_front (y ∷ l) x (suc i) a at = get_front l x i a at

-- where it is open, it was before, and its queue's end sends as it did
abbrev pub WasOpen : Subscriber QueueSink → Subscriber QueueSink → Type 0
WasOpen a b = b.closed ≡ false → (a.closed ≡ false) × (b.sink.sends ≡ a.sink.sends)

-- a subscriber has its program, its first version and its queue, with what was promised and how many may wait
abbrev pub IsStill : Subscriber QueueSink → Subscriber QueueSink → Type 0
IsStill a b =
    (b.program ≡ a.program) × (b.first ≡ a.first) × (b.sink.line ≡ a.sink.line) × (b.sink.promise ≡ a.sink.promise)
    × (b.sink.capacity ≡ a.sink.capacity) × WasOpen a b

still_same : (a : Subscriber QueueSink) → IsStill a a
still_same a = (refl, refl, refl, refl, refl, λ opened. (opened, refl))

still_then : (a b c : Subscriber QueueSink) → IsStill a b → IsStill b c → IsStill a c
still_then a b c p q = (
  q.0 ∙ p.0,
  q.1 ∙ p.1,
  q.2 ∙ p.2,
  q.3 ∙ p.3,
  q.4 ∙ p.4,
  λ opened.
      let late = q.5 opened in
      let early = p.5 late.0 in
      (early.0, late.1 ∙ early.1),
)

still_moved : (a b : Subscriber QueueSink) (m : ℕ) → Moved was_sent IsFull unsent a m b → IsStill a b
still_moved a b m x = (
  ap (λ (z : Subscriber QueueSink). z.program) x.same,
  ap (λ (z : Subscriber QueueSink). z.first) x.same,
  ap (λ (z : QueueSink). z.line) x.sink_kept,
  ap (λ (z : QueueSink). z.promise) x.sink_kept,
  ap (λ (z : QueueSink). z.capacity) x.sink_kept,
  λ opened. (sym (ap (λ (z : Subscriber QueueSink). z.closed) x.same) ∙ opened, ap (λ (z : QueueSink). z.sends) x.sink_kept),
)

still_closed : (a : Subscriber QueueSink) → IsStill a (record a { held = nothing_held; closed = true; sink = closed_end a.sink })
still_closed a = (refl, refl, refl, refl, refl, λ opened. absurd (true≢false opened))

-- one is replaced by what it stays
set_stays : (l : List (Subscriber QueueSink)) (i : ℕ) (x y : Subscriber QueueSink) → slice_get l i ≡ Some x → IsStill x y
    → (id : ℕ) (a : Subscriber QueueSink) → slice_get l id ≡ Some a → (b : Subscriber QueueSink) × (slice_get (slice_set l i y) id ≡ Some b) × IsStill a b
set_stays [] i x y at still id a there = absurd (none-some a there)
set_stays (z ∷ l) zero x y at still zero a there = (y, refl, subst (λ w. IsStill w y) (sym (same_Some z x at) ∙ same_Some z a there) still)
set_stays (z ∷ l) zero x y at still (suc id) a there = (a, there, still_same a)
set_stays (z ∷ l) (suc i) x y at still zero a there = (a, there, still_same a)
set_stays (z ∷ l) (suc i) x y at still (suc id) a there = set_stays l i x y at still id a there

-- what stays from one state to a later one
pub record Stays (s t : Core QueueSink) : Type 0 where
  pub changes : IsPrefix s.changes t.changes
  pub versions : IsPrefix s.versions t.versions
  pub subscribers : (id : ℕ) (a : Subscriber QueueSink) → slice_get s.subscribers id ≡ Some a → (b : Subscriber QueueSink) × (slice_get t.subscribers id ≡ Some b) × IsStill a b

same_stays : (s t : Core QueueSink) → t ≡ s → Stays s t
same_stays s t same =
    subst (Stays s) (sym same)
    (record { changes = prefix_self s.changes; versions = prefix_self s.versions; subscribers = λ id a at. (a, at, still_same a) })

with_stays : (s t : Core QueueSink) (id : ℕ) (a b : Subscriber QueueSink) → slice_get s.subscribers id ≡ Some a → IsStill a b → t ≡ with_subscriber s id b → Stays s t
with_stays s t id a b at still is =
    subst (Stays s) (sym is)
    (record { changes = prefix_self s.changes; versions = prefix_self s.versions; subscribers = set_stays s.subscribers id a b at still })

pushed_stays : (s t : Core QueueSink) (x : Subscriber QueueSink) → t ≡ record s { subscribers = s.subscribers ++ x ∷ [] } → Stays s t
pushed_stays s t x is =
    subst (Stays s) (sym is) (record {
      changes = prefix_self s.changes;
      versions = prefix_self s.versions;
      subscribers = λ id a at. (a, get_front s.subscribers x id a at, still_same a);
    })

then_stays : (s m t : Core QueueSink) → Stays s m → Stays m t → Stays s t
then_stays s m t p q = record {
  changes = prefix_then s.changes m.changes t.changes p.changes q.changes;
  versions = prefix_then s.versions m.versions t.versions p.versions q.versions;
  subscribers = λ id a at.
      let mid = p.subscribers id a at in
      let late = q.subscribers id mid.0 mid.1 in
      (late.0, late.1, still_then a mid.0 late.0 mid.2 late.2);
}

call_stays : (s : Core QueueSink) (c : HubCall) (r : CoreReply) (t : Core QueueSink) → Happens was_sent IsFull closed_end unsent s c r t → Stays s t
call_stays s (call.Submit change) (reply.Submitted (Ok token)) t h =
    subst (Stays s) (sym h.2)
    (record { changes = (change ∷ [], refl); versions = (token ∷ [], refl); subscribers = λ id a at. (a, at, still_same a) })
call_stays s (call.Submit change) (reply.Submitted (Err e)) t h = same_stays s t h.0
call_stays s (call.Subscribe p sink) (reply.Subscribed (Ok id)) t h = pushed_stays s t (fresh p (length s.changes) sink) h.3
call_stays s (call.Subscribe p sink) (reply.Subscribed (Err subscribe.SubscribersFull)) t h = same_stays s t h.0
call_stays s (call.Subscribe p sink) (reply.Subscribed (Err subscribe.NoVersion)) t h = same_stays s t h.0
call_stays s (call.Subscribe p sink) (reply.Subscribed (Err subscribe.OutOfMemory)) t h = same_stays s t h.0
call_stays s (call.SubscribeFrom p sink first) (reply.Subscribed (Ok id)) t h = pushed_stays s t (fresh p first sink) h.3
call_stays s (call.SubscribeFrom p sink first) (reply.Subscribed (Err subscribe.SubscribersFull)) t h = same_stays s t h.0
call_stays s (call.SubscribeFrom p sink first) (reply.Subscribed (Err subscribe.NoVersion)) t h = same_stays s t h.0
call_stays s (call.SubscribeFrom p sink first) (reply.Subscribed (Err subscribe.OutOfMemory)) t h = same_stays s t h.0
call_stays s call.TakeJob (reply.Handed (Some job)) t h = with_stays s t job.subscriber h.0 (record h.0 { handed = job.number + 1 }) h.1.0 (still_same h.0) h.5
call_stays s call.TakeJob (reply.Handed None) t h = same_stays s t h.0
call_stays s (call.Commit job) (reply.Committed (Ok u)) t h = with_stays s t job.subscriber h.0 (holding h.0 job) h.1.0 (still_same h.0) h.3
call_stays s (call.Commit job) (reply.Committed (Err commit.NoSubscriber)) t h = same_stays s t h.0
call_stays s (call.Commit job) (reply.Committed (Err commit.OutOfMemory)) t h = same_stays s t h
call_stays s (call.Commit job) (reply.Committed (Err commit.Stale)) t h = same_stays s t h.0
call_stays s (call.Pump id) (reply.Pumped (Ok m)) t h = with_stays s t id h.0 h.1 h.2.0 (still_moved h.0 h.1 m h.3) h.6
call_stays s (call.Pump id) (reply.Pumped (Err e)) t h = same_stays s t h.0
call_stays s (call.Reissue id) (reply.Reissued (Ok u)) t h = with_stays s t id h.0 (rewound h.0) h.1.0 (still_same h.0) h.2
call_stays s (call.Reissue id) (reply.Reissued (Err e)) t h = same_stays s t h.0
call_stays s (call.Close id) (reply.Closed (Ok u)) t h =
    with_stays s t id h.0 (record h.0 { held = nothing_held; closed = true; sink = closed_end h.0.sink }) h.1.0 (still_closed h.0) h.2
call_stays s (call.Close id) (reply.Closed (Err e)) t h = same_stays s t h.0
call_stays s _ _ t h = absurd h

run_stays : (s : Core QueueSink) (log : List HubEntry) (t : Core QueueSink) → IsRun was_sent IsFull closed_end unsent s log t → Stays s t
run_stays s [] t run = same_stays s t run
run_stays s (entry.Called c r ∷ log) t run = then_stays s run.0 t (call_stays s c r run.0 run.1) (run_stays run.0 log t run.3)
run_stays s (entry.Started first ∷ log) t run = absurd run

-- a subscriber stays what it is
pub stays : (s : Core QueueSink) (log : List HubEntry) (t : Core QueueSink) → IsRun was_sent IsFull closed_end unsent s log t → (id : ℕ) (a : Subscriber QueueSink) → slice_get s.subscribers id ≡ Some a
    → (b : Subscriber QueueSink) × (slice_get t.subscribers id ≡ Some b) × (b.program ≡ a.program) × (b.first ≡ a.first)
    × (b.sink.line ≡ a.sink.line) × (b.sink.promise ≡ a.sink.promise) × (b.sink.capacity ≡ a.sink.capacity)
    × WasOpen a b
stays s log t run id a at =
    let late = (run_stays s log t run).subscribers id a at in
    let still = late.2 in
    (late.0, late.1, still.0, still.1, still.2, still.3, still.4, still.5)

-- and so do changes, and the tokens of their versions
pub changes_stay : (s : Core QueueSink) (log : List HubEntry) (t : Core QueueSink) → IsRun was_sent IsFull closed_end unsent s log t → IsPrefix s.changes t.changes
changes_stay s log t run = (run_stays s log t run).changes

pub versions_stay : (s : Core QueueSink) (log : List HubEntry) (t : Core QueueSink) → IsRun was_sent IsFull closed_end unsent s log t → IsPrefix s.versions t.versions
versions_stay s log t run = (run_stays s log t run).versions

module _ {S : Type 0} (sent : S → List Item) (full : S → Type 0) (closed_sink bare : S → S) where
  run_split : (s : Core S) (log rest : List (CoreEntry S)) (t : Core S) → IsRun sent full closed_sink bare s (log ++ rest) t
      → (mid : Core S) × IsRun sent full closed_sink bare s log mid × IsRun sent full closed_sink bare mid rest t
  run_split s [] rest t run = (s, refl, run)
  run_split s (entry.Called c r ∷ log) rest t run =
      let on = run_split run.0 log rest t run.3 in
      (on.0, (run.0, run.1, run.2, on.1), on.2)
  run_split s (entry.Started first ∷ log) rest t run = absurd run

-- a history that has led somewhere has begun
pub run_begun : (size : Size) (log : List HubEntry) (t : Core QueueSink) → IsHubRun size log t → ¬ (log ≡ [])
run_begun size log t run none = subst (λ l. IsHubRun size l t) none run

-- a run of a history goes through the end of each beginning of it, and on from there
pub run_through : (size : Size) (log log' : List HubEntry) (t : Core QueueSink) → ¬ (log ≡ []) → IsHubRun size log' t → (begins : IsPrefix log log')
    → (s : Core QueueSink) × IsHubRun size log s × IsRun was_sent IsFull closed_end unsent s begins.0 t
run_through size [] log' t begun run begins = absurd (begun refl)
run_through size (entry.Started first ∷ log) log' t begun run begins =
    let whole : IsHubRun size (entry.Started first ∷ (log ++ begins.0)) t = subst (λ l. IsHubRun size l t) (sym begins.1) run in
    let parts = run_split was_sent IsFull closed_end unsent (started size first) log begins.0 t whole.1 in
    (parts.0, (whole.0, parts.1), parts.2)
run_through size (entry.Called c r ∷ log) log' t begun run begins = absurd (subst (λ l. IsHubRun size l t) (sym begins.1) run)

get_last : {A : Type 0} (l : List A) (x : A) (i : ℕ) → i ≡ length l → slice_get (l ++ x ∷ []) i ≡ Some x
get_last [] x i is = subst (λ k. slice_get (x ∷ []) k ≡ Some x) (sym is) refl
get_last (y ∷ l) x i is = subst (λ k. slice_get (y ∷ (l ++ x ∷ [])) k ≡ Some x) (sym is) (get_last l x (length l) refl)

-- the one that a call added, as it stands in the state that the call left
pub record Added (p : Token Program) (sink : QueueSink) (id : ℕ) (t : Core QueueSink) : Type 0 where
  pub one : Subscriber QueueSink
  pub there : slice_get t.subscribers id ≡ Some one
  pub program : one.program ≡ p
  pub line : one.sink.line ≡ sink.line
  pub promise : one.sink.promise ≡ sink.promise
  pub sends : one.closed ≡ false → one.sink.sends ≡ sink.sends

added_by : (s : Core QueueSink) (first : ℕ) (p : Token Program) (sink : QueueSink) (id : ℕ) (t : Core QueueSink) → Subscribes s first p sink (Ok id) t → Added p sink id t
added_by s first p sink id t h = record {
  one = fresh p first sink;
  there = subst (λ (x : Core QueueSink). slice_get x.subscribers id ≡ Some (fresh p first sink)) (sym h.3) (get_last s.subscribers (fresh p first sink) id h.2);
  program = refl;
  line = refl;
  promise = refl;
  sends = λ opened. refl;
}

added_stays : (p : Token Program) (sink : QueueSink) (id : ℕ) (s t : Core QueueSink) → Stays s t → Added p sink id s → Added p sink id t
added_stays p sink id s t stay added =
    let late = stay.subscribers id added.one added.there in
    let still = late.2 in record {
      one = late.0;
      there = late.1;
      program = still.0 ∙ added.program;
      line = still.2 ∙ added.line;
      promise = still.3 ∙ added.promise;
      sends = λ opened. (still.5 opened).1 ∙ added.sends (still.5 opened).0;
    }

-- a call that was answered with an id has added the one that it names
abbrev pub AddsIt : HubCall → Token Program → QueueSink → Type 0
AddsIt c p sink = (s : Core QueueSink) (id : ℕ) (t : Core QueueSink) → Happens was_sent IsFull closed_end unsent s c (reply.Subscribed (Ok id)) t → Added p sink id t

-- what such a call did, where the entry is that of one
abbrev pub Did : Core QueueSink → Core QueueSink → HubEntry → Type 0
Did s t (entry.Called c r) = Happens was_sent IsFull closed_end unsent s c r t
Did s t (entry.Started first) = ⊥

abbrev pub IsStarted : HubEntry → Type 0
IsStarted (entry.Called c r) = ⊥
IsStarted (entry.Started first) = ⊤

run_added : (c : HubCall) (p : Token Program) (sink : QueueSink) (id : ℕ) → AddsIt c p sink → (s : Core QueueSink) (log : List HubEntry) (t : Core QueueSink) (place : ℕ) → IsRun was_sent IsFull closed_end unsent s log t
    → slice_get log place ≡ Some (called c (reply.Subscribed (Ok id))) → Added p sink id t
run_added c p sink id adds s [] t place run at = absurd (none-some (called c (reply.Subscribed (Ok id))) at)
run_added c p sink id adds s (entry.Called d r ∷ log) t zero run at =
    let did : Happens was_sent IsFull closed_end unsent s c (reply.Subscribed (Ok id)) run.0 =
    subst (Did s run.0) (same_Some (called d r) (called c (reply.Subscribed (Ok id))) at) run.1 in
    added_stays p sink id run.0 t (run_stays run.0 log t run.3) (adds s id run.0 did)
run_added c p sink id adds s (entry.Called d r ∷ log) t (suc place) run at = run_added c p sink id adds run.0 log t place run.3 at
run_added c p sink id adds s (entry.Started first ∷ log) t place run at = absurd run

-- the subscriber that a call of the history added is there, with its program and its queue
pub hub_added : (size : Size) (c : HubCall) (p : Token Program) (sink : QueueSink) (id : ℕ) → AddsIt c p sink → (log : List HubEntry) (t : Core QueueSink) (place : ℕ) → IsHubRun size log t
    → slice_get log place ≡ Some (called c (reply.Subscribed (Ok id))) → Added p sink id t
hub_added size c p sink id adds [] t place run at = absurd run
hub_added size c p sink id adds (entry.Started first ∷ log) t zero run at =
    let same : entry.Started first ≡ called c (reply.Subscribed (Ok id)) = same_Some (entry.Started first) (called c (reply.Subscribed (Ok id))) at in
    absurd (subst (λ (e : HubEntry). IsStarted e) same tt)
hub_added size c p sink id adds (entry.Started first ∷ log) t (suc place) run at = run_added c p sink id adds (started size first) log t place run.1 at
hub_added size c p sink id adds (entry.Called d r ∷ log) t place run at = absurd run

pub adds_latest : (p : Token Program) (sink : QueueSink) → AddsIt (call.Subscribe p sink) p sink
adds_latest p sink s id t h = added_by s (length s.changes) p sink id t h

pub adds_from : (p : Token Program) (sink : QueueSink) (first : ℕ) → AddsIt (call.SubscribeFrom p sink first) p sink
adds_from p sink first s id t h = added_by s first p sink id t h

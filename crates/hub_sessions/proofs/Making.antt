-- What a session does adds up to calls of its share.
use Rattle.std.proofs.Common.{◌≡◌, ℕ, List, [], ◌∷◌, ◌++◌, Option, Some, None, Result, Ok, Err, true, false, Bool, ap, inl, inr}
use Rattle.std.specs.Prelude.{⊤}
use Rattle.change_ops.specs.Changes.{Change}
use Rattle.change_ops.specs.declared.size.Size.{Size}
use Rattle.change_ops.specs.declared.refusal.ChangeError.TheVariants as reading
use Rattle.change_history.specs.declared.refusal.SubmitError.{SubmitError}
use Rattle.change_keeping.specs.Kept.{Kept}
use Rattle.filters.specs.declared.rules.RuleSet.{RuleSet}
use Rattle.hub_core.specs.Machine.{Core}
use Rattle.hub_core.specs.declared.run.Reply.TheVariants as told
use Rattle.subscriber_queues.specs.Queue.{QueueSink}
use Rattle.core_history.specs.Runs.{CoreCall, CoreReply, called}
use Rattle.core_history.specs.declared.entry.Call.TheVariants as call
use Rattle.hub_requests.specs.declared.identity.HubId.{HubId}
use Rattle.hub_requests.specs.declared.limits.SessionLimits.{SessionLimits}
use Rattle.hub_requests.specs.declared.limits.SessionOptions.{SessionOptions}
use Rattle.refusals.specs.declared.reason.Reason.{Reason}
use Rattle.refusals.specs.declared.reason.Reason.TheVariants as reason
use Rattle.session_lines.specs.declared.query.Query.{Query}
use Rattle.session_lines.specs.declared.query.Query.TheVariants.{Latest, Left, Hub, Stats, Show, Changes, Newest}
use Rattle.session_lines.specs.declared.reply.Reply.{Reply}
use Rattle.session_lines.specs.declared.reply.Reply.TheVariants as reply
use Rattle.session_lines.specs.declared.request.Next.{Next}
use Rattle.session_lines.specs.declared.request.Next.TheVariants as next
use Rattle.session_lines.specs.declared.request.SessionRequest.{SessionRequest}
use Rattle.session_lines.specs.declared.request.SessionRequest.TheVariants as asked
use Rattle.session_subscribers.specs.Holding.{Held, IsNotSubscribed, IsRefusedFor, Adds, Closes, PullsAny}
use Rattle.session_reads.specs.Reads.{Shows, Lists, Counts, Tells, Reads}
use Rattle.core_history.specs.Shares.{accepted_count}
use Rattle.core_history.specs.Hubs.{HubEntry, Seen}
use Rattle.ingest_workers.specs.Calls.{IsCall, IsLook, Makes}
use Rattle.ingest_workers.specs.Holdings.{Ingests}
use Rattle.ingest_workers.proofs.Calls.{makes_same, makes_call, makes_look, makes_then, makes_sight}
use Rattle.hub_restoring.specs.Restoring.{AreIngested}
use Rattle.hub_sessions.specs.Submitting.{IsInReach, LeapsAt, IsNotAdmitted, IsNotAccepted, Submits}
use Rattle.hub_sessions.specs.Sessions.{SessionState, Exchange, Answers, Meets, IsAnswered, Follow, FallsShort, IsUnread, Ends, ClosesAll, IsSession}
use Rattle.hub_sessions.specs.declared.conversation.SessionFault.{SessionFault}
use Rattle.hub_sessions.specs.declared.conversation.SessionFault.TheVariants as fault

-- between two moments a share made some calls
abbrev pub MakesSome : Size → Seen → Seen → Type 0
MakesSome size v w = (calls : List HubEntry) × Makes size v calls w

module _ (size : Size) where
  none_made : (v w : Seen) → w ≡ v → MakesSome size v w
  none_made v w same = ([], makes_same size v w same)

  one_made : (v w : Seen) (c : CoreCall QueueSink) (r : CoreReply) → IsCall size v c r w → MakesSome size v w
  one_made v w c r made = (called c r ∷ [], makes_call size v w c r made)

  looked : (v w : Seen) (fact : Core QueueSink → Type 0) → IsLook size v fact w → MakesSome size v w
  looked v w fact look = ([], makes_look size v w fact look)

  pub then_made : (v u w : Seen) → MakesSome size v u → MakesSome size u w → MakesSome size v w
  then_made v u w a b = (a.0 ++ b.0, makes_then size v u w a.0 b.0 a.1 b.1)

  -- a change
  ingests_make : (v w : Seen) (change : Change) (r : Result ℕ SubmitError) → Ingests size v change r w → MakesSome size v w
  ingests_make v w change (Ok number) is = one_made v w (call.Submit change) (told.Submitted (Ok is.0)) is.2
  ingests_make v w change (Err error) is = one_made v w (call.Submit change) (told.Submitted (Err error)) is

  -- the changes that a hub accepted again
  pub ingested_make : (v : Seen) (changes : List Change) (w : Seen) → AreIngested size v changes w → MakesSome size v w
  ingested_make v [] w are = none_made v w are
  ingested_make v (change ∷ changes) w are = then_made v are.0 w (ingests_make v are.0 change (Ok (accepted_count are.0)) are.1) (ingested_make are.0 changes w are.2)

  in_reach : (v w : Seen) (jump : Option ℕ) (change : Change) → IsInReach size v w jump change → MakesSome size v w
  in_reach v w None change is = none_made v w is
  in_reach v w (Some jump) change is = looked v w _ is

  leaps : (v w : Seen) (jump : Option ℕ) (change : Change) (line : ℕ) → LeapsAt size v w jump change line → MakesSome size v w
  leaps v w None change line is = absurd is
  leaps v w (Some jump) change line is = looked v w _ is

  not_admitted : (v w : Seen) (options : SessionOptions) (change : Change) (left : SessionLimits) (why : Reason) → IsNotAdmitted size v w options change left why → MakesSome size v w
  not_admitted v w options change left (reason.Unread (reading.Limit line)) is = leaps v w options.counter_jump change line is
  not_admitted v w options change left (reason.Unaccepted error) is = in_reach v w options.counter_jump change is.0
  not_admitted v w options change left reason.OutOfMemory is = in_reach v w options.counter_jump change is.0
  not_admitted v w options change left _ is = absurd is

  not_accepted : (v w : Seen) (kept : Kept) (stores : Bool) (change : Change) (why : Reason) → IsNotAccepted size v w kept stores change why → MakesSome size v w
  not_accepted v w kept true change (reason.Unaccepted error) is = none_made v w is.1
  not_accepted v w kept false change (reason.Unaccepted error) is = ingests_make v w change (Err error) is
  not_accepted v w kept stores change reason.StoreFailed is = elim is.1 [ inl same ↦ none_made v w same | inr shown ↦ ingests_make v w change shown.0 shown.1 ]
  not_accepted v w kept stores change _ is = absurd is

  submits_make : (v w : Seen) (kept : Kept) (stores : Bool) (options : SessionOptions) (change : Change) (left : SessionLimits) (answer : Reply) (left' : SessionLimits) → Submits size v w kept stores options change left answer left' → MakesSome size v w
  submits_make v w kept stores options change left (reply.Version number) left' is = then_made v is.0 w (in_reach v is.0 options.counter_jump change is.1.0) (ingests_make is.0 w change (Ok number) is.2)
  submits_make v w kept stores options change left (reply.Refused why) left' is =
      elim is.1 [
        | inl not ↦ not_admitted v w options change left why not
        | inr not ↦ then_made v not.0 w (in_reach v not.0 options.counter_jump change not.1.0) (not_accepted not.0 w kept stores change why not.2)
      ]
  submits_make v w kept stores options change left _ left' is = absurd is

  -- subscribers
  refused_for : (v w : Seen) (bytes : List ℕ) (first : Option ℕ) (error : _) → IsRefusedFor size v w bytes first error → MakesSome size v w
  refused_for v w bytes first error is = (_, is.3.calls)

  not_subscribed : (v w : Seen) (rule_set : RuleSet) (capacity : ℕ) (bytes : List ℕ) (first : Option ℕ) (why : Reason) → IsNotSubscribed size v w rule_set capacity bytes first why → MakesSome size v w
  not_subscribed v w rule_set capacity bytes first (reason.Words error) is = none_made v w is.1
  not_subscribed v w rule_set capacity bytes first (reason.Unverified error) is = none_made v w is.2
  not_subscribed v w rule_set capacity bytes first reason.BadCapacity is = ([], is.2)
  not_subscribed v w rule_set capacity bytes first reason.SubscribersFull is = elim is.1 [ inl look ↦ looked v w _ look | inr refused ↦ refused_for v w bytes first _ refused ]
  not_subscribed v w rule_set capacity bytes (Some number) reason.NoVersion is =
      elim is.1 [
        | inl lacks ↦ then_made v lacks.0 w (looked v lacks.0 _ lacks.1) (looked lacks.0 w _ lacks.2)
        | inr refused ↦ refused_for v w bytes (Some number) _ refused
      ]
  not_subscribed v w rule_set capacity bytes first reason.OutOfMemory is = elim is.1 [ inl none ↦ ([], none) | inr refused ↦ refused_for v w bytes first _ refused ]
  not_subscribed v w rule_set capacity bytes first _ is = absurd is

  adds_make : (v w : Seen) (rule_set : RuleSet) (capacity : ℕ) (bytes : List ℕ) (first : Option ℕ) (left : SessionLimits) (held : List Held) (answer : Reply) (left' : SessionLimits) (held' : List Held)
      → Adds size v w rule_set capacity bytes first left held answer left' held' → MakesSome size v w
  adds_make v w rule_set capacity bytes first left held (reply.Subscribed id) left' held' is = (_, is.5.calls)
  adds_make v w rule_set capacity bytes first left held (reply.Refused why) left' held' is = elim is.2 [ inl not ↦ not_subscribed v w rule_set capacity bytes first why not | inr past ↦ none_made v w past.3 ]
  adds_make v w rule_set capacity bytes first left held _ left' held' is = absurd is

  closes_make : (v w : Seen) (held : List Held) (id : ℕ) (answer : Reply) (held' : List Held) → Closes size v w held id answer held' → MakesSome size v w
  closes_make v w held id (reply.Closed closed) held' is = (_, is.5)
  closes_make v w held id (reply.Refused why) held' is = none_made v w is.3
  closes_make v w held id _ held' is = absurd is

  pulls_make : (v w : Seen) (reads : Bool) (id count : ℕ) (held held' : List Held) (out out' : List ℕ) (answer : Reply) → PullsAny size v w reads id count held held' out out' answer → MakesSome size v w
  pulls_make v w reads id count held held' out out' answer is = elim is [ inl pulled ↦ ([], makes_sight size v w pulled.pulls.state pulled.pulls.sight) | inr none ↦ none_made v w none.still ]

  closes_all : (held : List Held) (v w : Seen) → ClosesAll size v w held → MakesSome size v w
  closes_all [] v w is = none_made v w is
  closes_all (one ∷ more) v w is = then_made v is.1 w (one_made v is.1 (call.Close one.id) (told.Closed is.0) is.2) (closes_all more is.1 w is.3)

  -- what is read
  shows_make : (v w : Seen) (number first most : ℕ) (further : Bool) (text : List ℕ) (answer : Reply) → Shows size v w number first most further text answer → MakesSome size v w
  shows_make v w number first most further text (reply.Spans count) is = looked v w _ is.1
  shows_make v w number first most further text (reply.Refused reason.NoVersion) is = looked v w _ is.0
  shows_make v w number first most further text _ is = absurd is

  lists_make : (v w : Seen) (from most : ℕ) (text : List ℕ) (answer : Reply) → Lists size v w from most text answer → MakesSome size v w
  lists_make v w from most text (reply.Changes count) is = looked v w _ is
  lists_make v w from most text (reply.Refused reason.NoVersion) is = looked v w _ is.0
  lists_make v w from most text _ is = absurd is

  counts_make : (v w : Seen) (node : ℕ) (answer : Reply) → Counts size v w node answer → MakesSome size v w
  counts_make v w node (reply.Newest counter) is = looked v w _ is.1
  counts_make v w node (reply.Refused (reason.Unread (reading.Limit line))) is = none_made v w is.2
  counts_make v w node _ is = absurd is

  tells_make : (v w : Seen) (id : Option HubId) (memory : Option ℕ) (query : Query) (text : List ℕ) (answer : Reply) → Tells size v w id memory query text answer → MakesSome size v w
  tells_make v w id memory Latest text (reply.Latest number) is = looked v w _ is.0
  tells_make v w id memory Latest text _ is = absurd is
  tells_make v w id memory Left text (reply.Left left) is = looked v w _ is.0
  tells_make v w id memory Left text _ is = absurd is
  tells_make v w id memory Hub text answer is = none_made v w is.2
  tells_make v w id memory Stats text (reply.Stats stats) is = looked v w _ is.0
  tells_make v w id memory Stats text _ is = absurd is
  tells_make v w id memory (Show number first most further) text answer is = shows_make v w number first most further text answer is
  tells_make v w id memory (Changes from most) text answer is = lists_make v w from most text answer is
  tells_make v w id memory (Newest node) text answer is = counts_make v w node answer is.0

  reads_make : (v w : Seen) (reads : Bool) (id : Option HubId) (memory : Option ℕ) (query : Query) (text : List ℕ) (answer : Reply) → Reads size v w reads id memory query text answer → MakesSome size v w
  reads_make v w true id memory query text (reply.Refused reason.OutOfMemory) is = ([], is.1)
  reads_make v w true id memory query text answer is = tells_make v w id memory query text answer is
  reads_make v w false id memory query text answer is = none_made v w is.2

module _ (size : Size) (kept : Kept) where
  answers_make : (request : SessionRequest) (s : SessionState size kept) (out out' : List ℕ) (answer : Reply) (s' : SessionState size kept) → Answers request s out out' answer s' → MakesSome size s.share s'.share
  answers_make (asked.Change change) s out out' answer s' is = submits_make size s.share s'.share kept s.stores s.options change s.left answer s'.left is.0
  answers_make (asked.Subscribe rule_set capacity program first) s out out' answer s' is = adds_make size s.share s'.share rule_set capacity program.items first s.left s.held answer s'.left s'.held is.0
  answers_make (asked.Pull id count) s out out' answer s' is = pulls_make size s.share s'.share s.options.reads id count s.held s'.held out out' answer is.0
  answers_make (asked.Close id) s out out' answer s' is = closes_make size s.share s'.share s.held id answer s'.held is.0
  answers_make (asked.Read query) s out out' answer s' is = reads_make size s.share s'.share s.options.reads s.options.hub s.options.memory query is.0 answer is.2

  pub meets_make : (came : Next) (s : SessionState size kept) (out out' : List ℕ) (answer : Reply) (s' : SessionState size kept) → Meets came s out out' answer s' → MakesSome size s.share s'.share
  meets_make (next.Request request) s out out' answer s' is = answers_make request s out out' answer s' is
  meets_make (next.Refused refusal) s out out' answer s' is = none_made size s.share s'.share (ap (λ z. z.share) is.1)
  meets_make next.TooLong s out out' answer s' is = absurd is
  meets_make next.Foreign s out out' answer s' is = absurd is
  meets_make next.End s out out' answer s' is = absurd is

  answered_make : (s : SessionState size kept) (left : Option (List ℕ)) (came : Next) (items : List ℕ) (answer : Reply) (s' : SessionState size kept) (left' : Option (List ℕ)) → IsAnswered s left came items answer s' left'
      → MakesSome size s.share s'.share
  answered_make s left came items answer s' left' is = meets_make came s [] items answer s' is.met

  follow_make : (exchanges : List (Exchange size kept)) (s : SessionState size kept) (left : Option (List ℕ)) (s' : SessionState size kept) (left' : Option (List ℕ)) → Follow s left exchanges s' left' → MakesSome size s.share s'.share
  follow_make [] s left s' left' is = none_made size s.share s'.share (ap (λ z. z.share) is.0)
  follow_make (e ∷ more) s left s' left' is =
      then_made size s.share e.state.share s'.share (answered_make s left e.came e.items e.answer e.state e.left is.0) (follow_make more e.state e.left s' left' is.1)

  short_make : (s : SessionState size kept) (left : Option (List ℕ)) (text : List ℕ) (s' : SessionState size kept) (left' : Option (List ℕ)) → FallsShort s left text s' left' → MakesSome size s.share s'.share
  short_make s left text s' left' is =
      elim is [
        | inl none ↦ none_made size s.share s'.share (ap (λ z. z.share) none.0)
        | inr done ↦
            elim done [
              | inl met ↦ answered_make s left met.0 met.1 met.2 s' left' met.3
              | inr pulled ↦ ([], makes_sight size s.share s'.share pulled.3.state pulled.3.sight)
            ]
      ]

  unread_make : (s : SessionState size kept) (left : Option (List ℕ)) (s' : SessionState size kept) → IsUnread s left s' → MakesSome size s.share s'.share
  unread_make s left s' is =
      elim is [
        | inl same ↦ none_made size s.share s'.share (ap (λ z. z.share) same)
        | inr done ↦
            elim done [
              | inl met ↦ answered_make s left met.0 met.1 met.2 s' met.3 met.4
              | inr short ↦ short_make s left short.0 s' short.1 short.2
            ]
      ]

  ends_make : (ended : Result ⊤ SessionFault) (s : SessionState size kept) (left old : Option (List ℕ)) (last : SessionState size kept) (new : Option (List ℕ)) → Ends ended s left old last new → MakesSome size s.share last.share
  ends_make (Ok done) s left old last new is =
      elim is [
        | inl ended ↦ follow_make ended.converses.exchanges s left last ended.rest ended.converses.follow
        | inr short ↦
            then_made size s.share short.state.share last.share (follow_make short.converses.exchanges s left short.state short.rest short.converses.follow) (short_make short.state short.rest short.part last short.over short.short)
      ]
  ends_make (Err (fault.Read error)) s left old last new is = follow_make is.converses.exchanges s left last is.rest is.converses.follow
  ends_make (Err (fault.Write error)) s left old last new is =
      then_made size s.share is.state.share last.share (follow_make is.exchanges s left is.state is.rest is.follow) (unread_make is.state is.rest last is.unread)

  -- a session
  pub session_makes : (ended : Result ⊤ SessionFault) (s : SessionState size kept) (left old : Option (List ℕ)) (w : Seen) (new : Option (List ℕ)) → IsSession ended s left old w new → (calls : List HubEntry) × Makes size s.share calls w
  session_makes ended s left old w new is = then_made size s.share is.0.share w (ends_make ended s left old is.0 new is.1) (closes_all size is.0.held is.0.share w is.2)

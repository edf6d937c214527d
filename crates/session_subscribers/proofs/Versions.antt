-- The versions that a history has led to are only added to.
use Rattle.std.proofs.Common.{◌≡◌, ◌≤◌, None, Some, Ok, Err, List, [], ◌∷◌, ◌++◌, length, ap, sym, ◌∙◌, arith, append_assoc, append-nil, length-append}
use Rattle.std.specs.List.{flat_map}
use Rattle.std.proofs.lemmas.List.Concat.{flat_map-append}
use mathlib.Core.List.{IsPrefix}
use Rattle.change_ops.specs.declared.size.Size.{Size}
use Rattle.feeds.specs.Batches.{Item}
use Rattle.span_flatten.specs.Version.{Version}
use Rattle.version_history.specs.Tokens.{Token}
use Rattle.hub_core.specs.Machine.{Core}
use Rattle.hub_core.specs.declared.error.SubscribeError.TheVariants as subscribe
use Rattle.hub_core.specs.declared.error.CommitError.TheVariants as commit
use Rattle.hub_core.specs.declared.run.Reply.TheVariants as reply
use Rattle.core_history.specs.declared.entry.Call.TheVariants as call
use Rattle.core_history.specs.declared.entry.Entry.TheVariants as entry
use Rattle.subscriber_queues.specs.Queue.{QueueSink, was_sent, IsFull, closed_end, unsent}
use Rattle.core_history.specs.Runs.{CoreCall, CoreReply, CoreEntry, called, started, Happens, IsRun}
use Rattle.core_history.specs.Hubs.{HubEntry, IsHubRun}

-- the tokens that an entry adds
abbrev added_by : {S : Type 0} → CoreEntry S → List (Token Version)
added_by (entry.Started first) = first ∷ []
added_by (entry.Called (call.Submit change) (reply.Submitted (Ok t))) = t ∷ []
added_by _ = []

abbrev versions_in : {S : Type 0} → List (CoreEntry S) → List (Token Version)
versions_in log = flat_map added_by log

same_versions : {S : Type 0} (s s' : Core S) → s'.versions ≡ s.versions → s'.versions ≡ s.versions ++ []
same_versions s s' e = e ∙ sym (append-nil s.versions)

module _ {S : Type 0} (sent : S → List Item) (full : S → Type 0) (closed_sink bare : S → S) where
  call_adds : (s : Core S) (c : CoreCall S) (r : CoreReply) (s' : Core S) → Happens sent full closed_sink bare s c r s' → s'.versions ≡ s.versions ++ added_by (called c r)
  call_adds s (call.Submit change) (reply.Submitted (Ok t)) s' h = ap (λ (x : Core S). x.versions) h.2
  call_adds s (call.Submit change) (reply.Submitted (Err e)) s' h = same_versions s s' (ap (λ (x : Core S). x.versions) h.0)
  call_adds s (call.Subscribe p sink) (reply.Subscribed (Ok id)) s' h = same_versions s s' (ap (λ (x : Core S). x.versions) h.3)
  call_adds s (call.Subscribe p sink) (reply.Subscribed (Err subscribe.SubscribersFull)) s' h = same_versions s s' (ap (λ (x : Core S). x.versions) h.0)
  call_adds s (call.Subscribe p sink) (reply.Subscribed (Err subscribe.NoVersion)) s' h = same_versions s s' (ap (λ (x : Core S). x.versions) h.0)
  call_adds s (call.Subscribe p sink) (reply.Subscribed (Err subscribe.OutOfMemory)) s' h = same_versions s s' (ap (λ (x : Core S). x.versions) h.0)
  call_adds s (call.SubscribeFrom p sink first) (reply.Subscribed (Ok id)) s' h = same_versions s s' (ap (λ (x : Core S). x.versions) h.3)
  call_adds s (call.SubscribeFrom p sink first) (reply.Subscribed (Err subscribe.SubscribersFull)) s' h = same_versions s s' (ap (λ (x : Core S). x.versions) h.0)
  call_adds s (call.SubscribeFrom p sink first) (reply.Subscribed (Err subscribe.NoVersion)) s' h = same_versions s s' (ap (λ (x : Core S). x.versions) h.0)
  call_adds s (call.SubscribeFrom p sink first) (reply.Subscribed (Err subscribe.OutOfMemory)) s' h = same_versions s s' (ap (λ (x : Core S). x.versions) h.0)
  call_adds s call.TakeJob (reply.Handed (Some job)) s' h = same_versions s s' (ap (λ (x : Core S). x.versions) h.5)
  call_adds s call.TakeJob (reply.Handed None) s' h = same_versions s s' (ap (λ (x : Core S). x.versions) h.0)
  call_adds s (call.Commit job) (reply.Committed (Ok u)) s' h = same_versions s s' (ap (λ (x : Core S). x.versions) h.3)
  call_adds s (call.Commit job) (reply.Committed (Err commit.NoSubscriber)) s' h = same_versions s s' (ap (λ (x : Core S). x.versions) h.0)
  call_adds s (call.Commit job) (reply.Committed (Err commit.OutOfMemory)) s' h = same_versions s s' (ap (λ (x : Core S). x.versions) h)
  call_adds s (call.Commit job) (reply.Committed (Err commit.Stale)) s' h = same_versions s s' (ap (λ (x : Core S). x.versions) h.0)
  call_adds s (call.Pump id) (reply.Pumped (Ok m)) s' h = same_versions s s' (ap (λ (x : Core S). x.versions) h.6)
  call_adds s (call.Pump id) (reply.Pumped (Err e)) s' h = same_versions s s' (ap (λ (x : Core S). x.versions) h.0)
  call_adds s (call.Reissue id) (reply.Reissued (Ok u)) s' h = same_versions s s' (ap (λ (x : Core S). x.versions) h.2)
  call_adds s (call.Reissue id) (reply.Reissued (Err e)) s' h = same_versions s s' (ap (λ (x : Core S). x.versions) h.0)
  call_adds s (call.Close id) (reply.Closed (Ok u)) s' h = same_versions s s' (ap (λ (x : Core S). x.versions) h.2)
  call_adds s (call.Close id) (reply.Closed (Err e)) s' h = same_versions s s' (ap (λ (x : Core S). x.versions) h.0)
  call_adds s _ _ s' h = absurd h

  run_adds : (s : Core S) (log : List (CoreEntry S)) (t : Core S) → IsRun sent full closed_sink bare s log t → t.versions ≡ s.versions ++ versions_in log
  run_adds s [] t run = same_versions s t (ap (λ (x : Core S). x.versions) run)
  run_adds s (entry.Called c r ∷ log) t run =
      run_adds run.0 log t run.3 ∙ ap (λ l. l ++ versions_in log) (call_adds s c r run.0 run.1) ∙ append_assoc s.versions (added_by (called c r)) (versions_in log)
  run_adds s (entry.Started first ∷ log) t run = absurd run

-- a history's versions are those of the core that it led to
versions_of : (size : Size) (log : List HubEntry) (t : Core QueueSink) → IsHubRun size log t → t.versions ≡ versions_in log
versions_of size (entry.Started first ∷ log) t run = run_adds was_sent IsFull closed_end unsent (started size first) log t run.1
versions_of size (entry.Called c r ∷ log) t run = absurd run
versions_of size [] t run = absurd run

-- so they stay, wherever it leads
pub versions_stay : (size : Size) (log more : List HubEntry) (s t : Core QueueSink) → IsHubRun size log s → IsHubRun size more t → IsPrefix log more → IsPrefix s.versions t.versions
versions_stay size log more s t before after begins =
    let all : t.versions ≡ versions_in log ++ versions_in begins.0 = versions_of size more t after ∙ ap versions_in (sym begins.1) ∙ flat_map-append added_by log begins.0 in
    (versions_in begins.0, ap (λ l. l ++ versions_in begins.0) (versions_of size log s before) ∙ sym all)

pub versions_longer : {A : Type 0} (xs ys : List A) → IsPrefix xs ys → length xs ≤ length ys
versions_longer xs ys p = omega (arith, sym (ap length p.1) ∙ length-append xs p.0)

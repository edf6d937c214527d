-- What a call leaves of what a hub keeps beside its core, and what it is to the caller's share.
use Rattle.std.proofs.Common.{◌≡◌, ℕ, false, Option, Result, Ok, Err, None, Some, List, [], ◌∷◌, map, refl, ap, sym, ◌∙◌, subst, inr}
use Rattle.std.proofs.lemmas.Bool.{true≢false}
use mathlib.Core.List.{IsPrefix}
use Rattle.change_ops.specs.Changes.{Change}
use Rattle.change_ops.specs.Spelling.{change_text}
use Rattle.change_ops.specs.declared.size.Size.{Size}
use Rattle.change_counters.specs.Counters.{greatest_counter}
use Rattle.change_history.specs.Accepted.{operations_of}
use Rattle.change_history.specs.declared.refusal.SubmitError.{SubmitError}
use Rattle.feeds.specs.Batches.{Item}
use Rattle.hub_core.specs.Machine.{Core}
use Rattle.hub_core.specs.Consistent.{IsConsistent}
use Rattle.hub_core.specs.declared.error.SubscribeError.TheVariants as subscribe
use Rattle.hub_core.specs.declared.error.CommitError.TheVariants as commit
use Rattle.hub_core.specs.declared.error.NoSubscriber.{NoSubscriber}
use Rattle.hub_core.specs.declared.run.Reply.TheVariants as reply
use Rattle.subscriber_queues.specs.Queue.{QueueSink, Subscription, was_sent, IsFull, closed_end, unsent}
use Rattle.call_history.specs.Calls.{looked}
use Rattle.core_history.specs.declared.entry.Call.TheVariants as call
use Rattle.core_history.specs.Runs.{CoreCall, CoreReply, Recorded, called, Happens, Records}
use Rattle.core_history.specs.Shares.{is_accepted, Counts}
use Rattle.core_history.specs.Hubs.{HubEntry, Seen, IsHubRun, IsHubLegal}
use Rattle.ingest_workers.specs.Calls.{IsCall, IsSight}
use Rattle.ingest_workers.specs.Holdings.{IsIdle}
use Rattle.ingest_workers.specs.Sending.{IsMeeting, Sends}

module _ {S : Type 0} (sent : S → List Item) (full : S → Type 0) (closed_sink : S → S) (bare : S → S) where
  -- a call that is no accepted change leaves the changes
  changes_kept : (s : Core S) (c : CoreCall S) (r : CoreReply) (s' : Core S) → Happens sent full closed_sink bare s c r s' → is_accepted (called c r) ≡ false → s'.changes ≡ s.changes
  changes_kept s (call.Submit change) (reply.Submitted (Ok t)) s' h other = absurd (true≢false other)
  changes_kept s (call.Submit change) (reply.Submitted (Err e)) s' h other = ap (λ (x : Core S). x.changes) h.0
  changes_kept s (call.Subscribe p sink) (reply.Subscribed (Ok id)) s' h other = ap (λ (x : Core S). x.changes) h.3
  changes_kept s (call.Subscribe p sink) (reply.Subscribed (Err subscribe.SubscribersFull)) s' h other = ap (λ (x : Core S). x.changes) h.0
  changes_kept s (call.Subscribe p sink) (reply.Subscribed (Err subscribe.NoVersion)) s' h other = ap (λ (x : Core S). x.changes) h.0
  changes_kept s (call.Subscribe p sink) (reply.Subscribed (Err subscribe.OutOfMemory)) s' h other = ap (λ (x : Core S). x.changes) h.0
  changes_kept s (call.SubscribeFrom p sink first) (reply.Subscribed (Ok id)) s' h other = ap (λ (x : Core S). x.changes) h.3
  changes_kept s (call.SubscribeFrom p sink first) (reply.Subscribed (Err subscribe.SubscribersFull)) s' h other = ap (λ (x : Core S). x.changes) h.0
  changes_kept s (call.SubscribeFrom p sink first) (reply.Subscribed (Err subscribe.NoVersion)) s' h other = ap (λ (x : Core S). x.changes) h.0
  changes_kept s (call.SubscribeFrom p sink first) (reply.Subscribed (Err subscribe.OutOfMemory)) s' h other = ap (λ (x : Core S). x.changes) h.0
  changes_kept s call.TakeJob (reply.Handed (Some job)) s' h other = ap (λ (x : Core S). x.changes) h.5
  changes_kept s call.TakeJob (reply.Handed None) s' h other = ap (λ (x : Core S). x.changes) h.0
  changes_kept s (call.Commit job) (reply.Committed (Ok u)) s' h other = ap (λ (x : Core S). x.changes) h.3
  changes_kept s (call.Commit job) (reply.Committed (Err commit.NoSubscriber)) s' h other = ap (λ (x : Core S). x.changes) h.0
  changes_kept s (call.Commit job) (reply.Committed (Err commit.OutOfMemory)) s' h other = ap (λ (x : Core S). x.changes) h
  changes_kept s (call.Commit job) (reply.Committed (Err commit.Stale)) s' h other = ap (λ (x : Core S). x.changes) h.0
  changes_kept s (call.Pump id) (reply.Pumped (Ok m)) s' h other = ap (λ (x : Core S). x.changes) h.6
  changes_kept s (call.Pump id) (reply.Pumped (Err e)) s' h other = ap (λ (x : Core S). x.changes) h.0
  changes_kept s (call.Reissue id) (reply.Reissued (Ok u)) s' h other = ap (λ (x : Core S). x.changes) h.2
  changes_kept s (call.Reissue id) (reply.Reissued (Err e)) s' h other = ap (λ (x : Core S). x.changes) h.0
  changes_kept s (call.Close id) (reply.Closed (Ok u)) s' h other = ap (λ (x : Core S). x.changes) h.2
  changes_kept s (call.Close id) (reply.Closed (Err e)) s' h other = ap (λ (x : Core S). x.changes) h.0
  changes_kept s _ _ s' h other = absurd h

-- what a hub keeps beside its core, behind what is known of its own share and one thing more
abbrev IsBeside : Type 0 → Size → Core QueueSink → Seen → List (List ℕ) → ℕ → Type 0
IsBeside here size core house texts greatest =
    here × (house.parts ≡ 1) × (house.own ≡ 0 ∷ []) × Counts 0 house × IsConsistent was_sent IsFull core × (texts ≡ map change_text core.changes)
    × (greatest ≡ greatest_counter (operations_of core.changes)) × (core.size ≡ size)

-- what is seen of the core afterwards is told by what it is seen as
pub kept : (here : Type 0) (size : Size) (old new : Recorded QueueSink) (house v w : Seen) (c : CoreCall QueueSink) (r : CoreReply) (texts : List (List ℕ)) (greatest : ℕ) (as_seen : Core QueueSink)
    → Records size was_sent IsFull closed_end unsent old v c r new w → is_accepted (called c r) ≡ false → IsBeside here size old.core house texts greatest
    → as_seen ≡ new.core → IsConsistent was_sent IsFull as_seen → as_seen.size ≡ size → IsBeside here size new.core house texts greatest
kept here size old new house v w c r texts greatest as_seen records other beside is consistent of =
    let same : new.core.changes ≡ old.core.changes = changes_kept was_sent IsFull closed_end unsent old.core c r new.core records.happens other in (
      beside.0,
      beside.1,
      beside.2,
      beside.3,
      subst (IsConsistent was_sent IsFull) is consistent,
      beside.5 ∙ ap (λ l. map change_text l) (sym same),
      beside.6 ∙ ap (λ l. greatest_counter (operations_of l)) (sym same),
      ap (λ (s : Core QueueSink). s.size) (sym is) ∙ of,
    )

-- the core stayed as it was
pub kept_same : (here : Type 0) (size : Size) (old new : Core QueueSink) (house : Seen) (texts texts' : List (List ℕ)) (greatest : ℕ)
    → new ≡ old → texts' ≡ texts → IsBeside here size old house texts greatest → IsBeside here size new house texts' greatest
kept_same here size old new house texts texts' greatest same same_texts beside =
    subst (λ (s : Core QueueSink). IsBeside here size s house texts' greatest) (sym same) (subst (λ l. IsBeside here size old house l greatest) (sym same_texts) beside)

-- a call was made, from one consistent core to another
pub made : (size : Size) (old new : Recorded QueueSink) (v w : Seen) (c : CoreCall QueueSink) (r : CoreReply)
    → IsHubRun size old.history old.core → Records size was_sent IsFull closed_end unsent old v c r new w
    → IsConsistent was_sent IsFull old.core → old.core.size ≡ size → IsConsistent was_sent IsFull new.core → new.core.size ≡ size → IsCall size v c r w
made size old new v w c r run records was of is of' = record {
  old = old;
  new = new;
  run = run;
  records = records;
  consistent = (record { of = of; consistent = was }, record { of = of'; consistent = is });
}

-- what is seen of the core afterwards is told by what it is seen as
pub made_seen : (size : Size) (old new : Recorded QueueSink) (v w : Seen) (c : CoreCall QueueSink) (r : CoreReply) (as_seen : Core QueueSink)
    → IsHubRun size old.history old.core → Records size was_sent IsFull closed_end unsent old v c r new w
    → IsConsistent was_sent IsFull old.core → old.core.size ≡ size → as_seen ≡ new.core → IsConsistent was_sent IsFull as_seen → as_seen.size ≡ size → IsCall size v c r w
made_seen size old new v w c r as_seen run records was of same is of' =
    made size old new v w c r run records was of (subst (IsConsistent was_sent IsFull) same is) (ap (λ (s : Core QueueSink). s.size) (sym same) ∙ of')

-- what can be sent was sent, and then the ends met
pub sent_seen : (size : Size) (old new : Recorded QueueSink) (v w : Seen) (id : ℕ) (end met : Subscription) (cursor : Option ℕ) (sent : Result ℕ NoSubscriber) (as_seen : Core QueueSink)
    → IsHubRun size old.history old.core → Records size was_sent IsFull closed_end unsent old v (call.Pump id) (reply.Pumped sent) new w
    → IsConsistent was_sent IsFull old.core → old.core.size ≡ size → as_seen ≡ new.core → IsConsistent was_sent IsFull as_seen → as_seen.size ≡ size
    → IsHubRun size new.history new.core → IsMeeting new.core id end cursor met → Sends size v id end cursor met w
unfolding made_seen made
sent_seen size old new v w id end met cursor sent as_seen run records was of same is of' led meets = record {
  sent = sent;
  made = made_seen size old new v w (call.Pump id) (reply.Pumped sent) as_seen run records was of same is of';
  run = led;
  meets = meets;
}

-- it was refused
pub made_refused : (size : Size) (old new : Recorded QueueSink) (v w : Seen) (change : Change) (e : SubmitError)
    → IsHubRun size old.history old.core → Records size was_sent IsFull closed_end unsent old v (call.Submit change) (reply.Submitted (Err e)) new w
    → IsConsistent was_sent IsFull old.core → old.core.size ≡ size → IsCall size v (call.Submit change) (reply.Submitted (Err e)) w
made_refused size old new v w change e run records was of =
    let same : new.core ≡ old.core = records.happens.0 in
    made size old new v w (call.Submit change) (reply.Submitted (Err e)) run records was of (subst (IsConsistent was_sent IsFull) (sym same) was) (ap (λ (s : Core QueueSink). s.size) same ∙ of)

-- the whole history was looked at
pub sighted : (size : Size) (found : Recorded QueueSink) (v w : Seen) → IsPrefix v.seen found.history → IsHubRun size found.history found.core → w ≡ looked v found.history
    → IsConsistent was_sent IsFull found.core → found.core.size ≡ size → IsSight size v found.core w
sighted size found v w begins run is consistent of = subst (IsSight size v found.core) (sym is) (record {
  run = run;
  looks = record { begins = begins; own = refl; parts = refl; legal = inr (found.core, run) };
  consistent = record { of = of; consistent = consistent };
})

-- a share that was cut off
pub idle_of : (size : Size) (w : Seen) (seen : List HubEntry) → IsHubLegal size seen → w ≡ record { seen = seen; own = []; parts = 1 } → IsIdle size w
idle_of size w seen legal is = record {
  own = ap (λ (x : Seen). x.own) is;
  parts = ap (λ (x : Seen). x.parts) is;
  legal = subst (λ (x : Seen). IsHubLegal size x.seen) (sym is) legal;
}

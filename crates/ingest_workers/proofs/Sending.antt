-- A subscriber that a share added stays its own, and what was sent to it.
use Rattle.std.proofs.Common.{◌≡◌, ℕ, Option, None, Some, Ok, List, [], ◌∷◌, ◌++◌, ap, sym, ◌∙◌, subst, inl, inr, ⊎_elim, append_assoc}
use Rattle.std.specs.Prelude.{slice_get, MatchOption}
use Rattle.std.proofs.lemmas.Option.{same_Some}
use mathlib.Core.List.{IsPrefix}
use Rattle.change_ops.specs.declared.size.Size.{Size}
use Rattle.semantics.specs.Step.{Program}
use Rattle.version_history.specs.Tokens.{Token}
use Rattle.feeds.specs.Feed.{Subscriber}
use Rattle.hub_core.specs.Machine.{Core, IsOpen, HasNone}
use Rattle.hub_core.specs.declared.run.Reply.TheVariants as reply
use Rattle.subscriber_queues.specs.Queue.{QueueSink, Subscription, Meets, was_sent, IsFull, closed_end, unsent}
use Rattle.call_history.specs.Calls.{Has}
use Rattle.core_history.specs.declared.entry.Call.TheVariants as call
use Rattle.core_history.specs.Runs.{CoreReply, Recorded, Records, called}
use Rattle.core_history.specs.Hubs.{HubEntry, HubCall, Seen, IsHubRun}
use Rattle.core_history.proofs.Staying.{Added, hub_added, adds_latest, adds_from}
use Rattle.ingest_workers.specs.Calls.{Makes, WasSo, subscribing}
use Rattle.ingest_workers.specs.Sending.{IsOwnSubscriber, IsMeeting, Sends}
use Rattle.ingest_workers.proofs.Calls.{prefix_self, prefix_get, makes_call}

has_front : (xs ys : List ℕ) (k : ℕ) → Has xs k → Has (xs ++ ys) k
has_front [] ys k h = absurd h
has_front (x ∷ xs) ys k h = ⊎_elim (λ (e : x ≡ k). inl e) (λ (r : Has xs k). inr (has_front xs ys k r)) h

-- what a caller saw before its call begins the history after it
pub records_begin : (size : Size) (old : Recorded QueueSink) (v : Seen) (c : HubCall) (r : CoreReply) (new : Recorded QueueSink) (w : Seen) → Records size was_sent IsFull closed_end unsent old v c r new w → IsPrefix v.seen new.history
records_begin size old v c r new w records =
    let more = records.extends in
    (more.between ++ called c r ∷ [], sym (append_assoc v.seen more.between (called c r ∷ [])) ∙ sym more.seen ∙ records.seen)

-- the meeting, as it is told
pub met_as : (s : Core QueueSink) (id : ℕ) (end met : Subscription) (cursor : Option ℕ)
    → MatchOption cursor (HasNone s id × (met ≡ end)) (λ n. (a : Subscriber QueueSink) × IsOpen s id a × (n ≡ a.cursor) × Meets a.sink end met) → IsMeeting s id end cursor met
met_as s id end met None told = told
met_as s id end met (Some n) told = told

module _ (size : Size) where
  added_there : (first : Option ℕ) (program : Token Program) (sink : QueueSink) (id place : ℕ) (log : List HubEntry) (t : Core QueueSink) → IsHubRun size log t
      → slice_get log place ≡ Some (called (subscribing first program sink) (reply.Subscribed (Ok id))) → Added program sink id t
  added_there None program sink id place log t run at = hub_added size (call.Subscribe program sink) program sink id (adds_latest program sink) log t place run at
  added_there (Some first) program sink id place log t run at =
      hub_added size (call.SubscribeFrom program sink first) program sink id (adds_from program sink first) log t place run at

  -- a subscriber that the share added is there, wherever the history leads
  pub own_added : (v : Seen) (id : ℕ) (end : Subscription) (own : IsOwnSubscriber v id end) (log : List HubEntry) (t : Core QueueSink) → IsPrefix v.seen log → IsHubRun size log t → Added own.program own.sink id t
  own_added v id end own log t begins run =
      added_there own.first own.program own.sink id own.place log t run
      (prefix_get v.seen log own.place (called (subscribing own.first own.program own.sink) (reply.Subscribed (Ok id))) begins own.entry)

  -- so its end is that of the queue which is found there
  pub own_fits : (v : Seen) (id : ℕ) (end : Subscription) (log : List HubEntry) (t : Core QueueSink) → IsOwnSubscriber v id end → IsPrefix v.seen log → IsHubRun size log t
      → (a : Subscriber QueueSink) → IsOpen t id a → end.line ≡ a.sink.line
  own_fits v id end log t own begins run a opened =
      let added = own_added v id end own log t begins run in
      let same : added.one ≡ a = same_Some added.one a (sym added.there ∙ opened.0) in
      sym own.line ∙ sym added.line ∙ ap (λ (x : Subscriber QueueSink). x.sink.line) same

  -- it is still the share's own after calls, however far its end is read
  pub own_later : (v w : Seen) (id : ℕ) (end end' : Subscription) (calls : List HubEntry) → Makes size v calls w → end'.line ≡ end.line → end'.promise ≡ end.promise → IsOwnSubscriber v id end → IsOwnSubscriber w id end'
  own_later v w id end end' calls makes line promise own = record {
    place = own.place;
    own = subst (λ o. Has o own.place) (sym makes.own) (has_front v.own makes.places own.place own.own);
    first = own.first;
    program = own.program;
    sink = own.sink;
    entry = prefix_get v.seen w.seen own.place (called (subscribing own.first own.program own.sink) (reply.Subscribed (Ok id))) makes.begins own.entry;
    sends = own.sends;
    line = own.line ∙ sym line;
    promise = own.promise ∙ sym promise;
  }

  -- the state in which the ends met
  pub was_met : (v : Seen) (id : ℕ) (end : Subscription) (cursor : Option ℕ) (met : Subscription) (w : Seen) → Sends size v id end cursor met w → WasSo size v w (λ s. IsMeeting s id end cursor met)
  was_met v id end cursor met w sends =
      let made = sends.made in record {
        log = made.new.history;
        state = made.new.core;
        from = subst (IsPrefix v.seen) made.records.seen (makes_call size v w (call.Pump id) (reply.Pumped sends.sent) made).begins;
        to = subst (λ l. IsPrefix l w.seen) made.records.seen (prefix_self w.seen);
        run = sends.run;
        consistent = made.consistent.1;
        so = sends.meets;
      }

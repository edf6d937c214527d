-- How many accepted changes a history has, and a share of it counts.
use Rattle.std.proofs.Common.{◌≡◌, ℕ, ◌+◌, ◌≤◌, false, cond, Result, Ok, Err, OnOk, OnErr, is_ok, None, Some, List, [], ◌∷◌, length, count_by, refl, ap, sym, ◌∙◌, subst, ⊎_elim, arith, length-append, zero-le}
use Rattle.std.proofs.lemmas.List.Sums.{sum_by-cons}
use mathlib.Core.List.{IsPrefix}
use Rattle.change_ops.specs.Changes.{Change}
use Rattle.change_ops.specs.declared.size.Size.{Size}
use Rattle.change_ops.specs.declared.size.Size.TheVariants.{Small, Large}
use Rattle.change_ops.specs.Sizes.{most_changes}
use Rattle.feeds.specs.Batches.{Item}
use Rattle.span_flatten.specs.Version.{Version}
use Rattle.version_history.specs.Tokens.{Token}
use Rattle.change_history.specs.declared.refusal.SubmitError.{SubmitError}
use Rattle.hub_core.specs.Machine.{Core}
use Rattle.hub_core.specs.declared.error.SubscribeError.TheVariants as subscribe
use Rattle.hub_core.specs.declared.error.CommitError.TheVariants as commit
use Rattle.hub_core.specs.declared.run.Reply.TheVariants as reply
use Rattle.call_history.specs.Calls.{Holds, AreOwn, AreDistinct, Extends, TakesIn, IsWhole, looked, own_count}
use Rattle.call_history.proofs.Places.{count_within, count_most, count_all, own_more, count_more, within_both, count_both}
use Rattle.core_history.specs.declared.entry.Call.TheVariants as call
use Rattle.core_history.specs.declared.entry.Entry.TheVariants as entry
use Rattle.core_history.specs.Runs.{CoreCall, CoreReply, CoreEntry, called, started, Happens, IsRun, IsRunOf, IsLegal}
use Rattle.core_history.specs.Shares.{is_accepted, Counts}

-- no document holds more changes
abbrev pub most : ℕ
most = 65536

few_of_size : (size : Size) (n : ℕ) → n ≤ most_changes size → n ≤ most
few_of_size Small n h = omega (arith, h)
few_of_size Large n h = h

same_changes : {S : Type 0} (s s' : Core S) → s'.changes ≡ s.changes → length s'.changes ≡ length s.changes + 0
same_changes s s' e = omega (arith, ap length e)

module _ {S : Type 0} (sent : S → List Item) (full : S → Type 0) (closed_sink bare : S → S) where
  -- a call leaves a change more where it is one that was accepted
  call_adds : (s : Core S) (c : CoreCall S) (r : CoreReply) (s' : Core S) → Happens sent full closed_sink bare s c r s' → length s'.changes ≡ length s.changes + cond (is_accepted (called c r)) 1 0
  call_adds s (call.Submit change) (reply.Submitted (Ok t)) s' h = ap (λ (x : Core S). length x.changes) h.2 ∙ length-append s.changes (change ∷ [])
  call_adds s (call.Submit change) (reply.Submitted (Err e)) s' h = same_changes s s' (ap (λ (x : Core S). x.changes) h.0)
  call_adds s (call.Subscribe p sink) (reply.Subscribed (Ok id)) s' h = same_changes s s' (ap (λ (x : Core S). x.changes) h.3)
  call_adds s (call.Subscribe p sink) (reply.Subscribed (Err subscribe.SubscribersFull)) s' h = same_changes s s' (ap (λ (x : Core S). x.changes) h.0)
  call_adds s (call.Subscribe p sink) (reply.Subscribed (Err subscribe.NoVersion)) s' h = same_changes s s' (ap (λ (x : Core S). x.changes) h.0)
  call_adds s (call.Subscribe p sink) (reply.Subscribed (Err subscribe.OutOfMemory)) s' h = same_changes s s' (ap (λ (x : Core S). x.changes) h.0)
  call_adds s (call.SubscribeFrom p sink first) (reply.Subscribed (Ok id)) s' h = same_changes s s' (ap (λ (x : Core S). x.changes) h.3)
  call_adds s (call.SubscribeFrom p sink first) (reply.Subscribed (Err subscribe.SubscribersFull)) s' h = same_changes s s' (ap (λ (x : Core S). x.changes) h.0)
  call_adds s (call.SubscribeFrom p sink first) (reply.Subscribed (Err subscribe.NoVersion)) s' h = same_changes s s' (ap (λ (x : Core S). x.changes) h.0)
  call_adds s (call.SubscribeFrom p sink first) (reply.Subscribed (Err subscribe.OutOfMemory)) s' h = same_changes s s' (ap (λ (x : Core S). x.changes) h.0)
  call_adds s call.TakeJob (reply.Handed (Some job)) s' h = same_changes s s' (ap (λ (x : Core S). x.changes) h.5)
  call_adds s call.TakeJob (reply.Handed None) s' h = same_changes s s' (ap (λ (x : Core S). x.changes) h.0)
  call_adds s (call.Commit job) (reply.Committed (Ok u)) s' h = same_changes s s' (ap (λ (x : Core S). x.changes) h.3)
  call_adds s (call.Commit job) (reply.Committed (Err commit.NoSubscriber)) s' h = same_changes s s' (ap (λ (x : Core S). x.changes) h.0)
  call_adds s (call.Commit job) (reply.Committed (Err commit.OutOfMemory)) s' h = same_changes s s' (ap (λ (x : Core S). x.changes) h)
  call_adds s (call.Commit job) (reply.Committed (Err commit.Stale)) s' h = same_changes s s' (ap (λ (x : Core S). x.changes) h.0)
  call_adds s (call.Pump id) (reply.Pumped (Ok m)) s' h = same_changes s s' (ap (λ (x : Core S). x.changes) h.6)
  call_adds s (call.Pump id) (reply.Pumped (Err e)) s' h = same_changes s s' (ap (λ (x : Core S). x.changes) h.0)
  call_adds s (call.Reissue id) (reply.Reissued (Ok u)) s' h = same_changes s s' (ap (λ (x : Core S). x.changes) h.2)
  call_adds s (call.Reissue id) (reply.Reissued (Err e)) s' h = same_changes s s' (ap (λ (x : Core S). x.changes) h.0)
  call_adds s (call.Close id) (reply.Closed (Ok u)) s' h = same_changes s s' (ap (λ (x : Core S). x.changes) h.2)
  call_adds s (call.Close id) (reply.Closed (Err e)) s' h = same_changes s s' (ap (λ (x : Core S). x.changes) h.0)
  call_adds s _ _ s' h = absurd h

  run_adds : (s : Core S) (log : List (CoreEntry S)) (t : Core S) → IsRun sent full closed_sink bare s log t → length t.changes ≡ length s.changes + count_by is_accepted log
  run_adds s [] t run = same_changes s t (ap (λ (x : Core S). x.changes) run)
  run_adds s (entry.Called c r ∷ log) t run =
      omega (
        arith,
        run_adds run.0 log t run.3,
        call_adds s c r run.0 run.1,
        sum_by-cons (λ (e : CoreEntry S). cond (is_accepted e) 1 0) (called c r) log,
      )
  run_adds s (entry.Started first ∷ log) t run = absurd run

  run_few : (s : Core S) (log : List (CoreEntry S)) (t : Core S) → length s.changes ≤ most → IsRun sent full closed_sink bare s log t → length t.changes ≤ most
  run_few s [] t few run = subst (λ (x : Core S). length x.changes ≤ most) (sym run) few
  run_few s (entry.Called c r ∷ log) t few run =
      run_few run.0 log t (few_of_size run.0.size (length run.0.changes) run.2.sound.few) run.3
  run_few s (entry.Started first ∷ log) t few run = absurd run

module _ {S : Type 0} (size : Size) (sent : S → List Item) (full : S → Type 0) (closed_sink bare : S → S) where
  -- a history has as many accepted changes as the core that it led to
  pub changes_of : (log : List (CoreEntry S)) (t : Core S) → IsRunOf size sent full closed_sink bare log t → count_by is_accepted log ≡ length t.changes
  changes_of (entry.Started first ∷ log) t run =
      omega (
        arith,
        run_adds sent full closed_sink bare (started size first) log t run.1,
        sum_by-cons (λ (e : CoreEntry S). cond (is_accepted e) 1 0) (entry.Started first) log,
      )
  changes_of (entry.Called c r ∷ log) t run = absurd run
  changes_of [] t run = absurd run

  few_of : (log : List (CoreEntry S)) (t : Core S) → IsRunOf size sent full closed_sink bare log t → length t.changes ≤ most
  few_of (entry.Started first ∷ log) t run = run_few sent full closed_sink bare (started size first) log t zero-le run.1
  few_of (entry.Called c r ∷ log) t run = absurd run
  few_of [] t run = absurd run

  few_legal : (log : List (CoreEntry S)) → IsLegal size sent full closed_sink bare log → count_by is_accepted log ≤ most
  few_legal log legal =
      ⊎_elim (λ (none : log ≡ []). subst (λ l. count_by is_accepted l ≤ most) (sym none) zero-le)
      (λ (led : (t : Core S) × IsRunOf size sent full closed_sink bare log t). omega (arith, changes_of log led.0 led.1, few_of log led.0 led.1)) legal

  -- and a share counts no more than a document holds
  pub few_counted : (n : ℕ) (v : Holds (CoreEntry S)) → Counts n v → IsLegal size sent full closed_sink bare v.seen → n ≤ most
  few_counted n v counts legal = omega (arith, counts.accepted, count_most is_accepted v counts.own, few_legal v.seen legal)

  -- nor more than the core that all it has seen led to
  pub within_core : (v : Holds (CoreEntry S)) (log : List (CoreEntry S)) (t : Core S) → AreOwn v → v.seen ≡ log → IsRunOf size sent full closed_sink bare log t
      → own_count is_accepted v ≤ length t.changes
  within_core v log t own seen run =
      omega (arith, count_most is_accepted v own, ap (count_by is_accepted) seen, changes_of log t run)

  -- a share of all parts counts all
  pub all_counted : (n : ℕ) (v : Holds (CoreEntry S)) (all : List (CoreEntry S)) (t : Core S) (rule : List (CoreEntry S) → Type 0) → Counts n v → IsWhole rule all v → IsRunOf size sent full closed_sink bare all t
      → n ≡ length t.changes
  all_counted n v all t rule counts whole run =
      counts.accepted
      ∙ sym (count_within is_accepted v.seen all v.own whole.begins counts.own.within)
      ∙ count_all is_accepted all v.own whole.distinct whole.places whole.count
      ∙ changes_of all t run

weight_of : (S : Type 0) (change : Change) (r : Result (Token Version) SubmitError) → is_accepted {S = S} (called (call.Submit change) (reply.Submitted r)) ≡ is_ok r
weight_of S change (Ok t) = refl
weight_of S change (Err e) = refl

module _ {S : Type 0} (rule : List (CoreEntry S) → Type 0) where
  -- a call more
  pub counts_on : (n : ℕ) (v w : Holds (CoreEntry S)) (e : CoreEntry S) → Counts n v → Extends rule v e w → Counts (n + cond (is_accepted e) 1 0) w
  counts_on n v w e counts more = record {
    own = own_more rule v w e counts.own more;
    accepted = ap (λ m. m + cond (is_accepted e) 1 0) counts.accepted ∙ sym (count_more rule is_accepted v w e counts.own more);
  }

  pub counts_same : (n : ℕ) (v w : Holds (CoreEntry S)) (e : CoreEntry S) → Counts n v → Extends rule v e w → is_accepted e ≡ false → Counts n w
  counts_same n v w e counts more other =
      let none : n + 0 ≡ n = omega arith in
      subst (λ m. Counts m w) none (subst (λ b. Counts (n + cond b 1 0) w) other (counts_on n v w e counts more))

  pub counts_submitted : (n : ℕ) (v w : Holds (CoreEntry S)) (change : Change) (r : Result (Token Version) SubmitError) (k : ℕ) → Counts n v → Extends rule v (called (call.Submit change) (reply.Submitted r)) w → k ≡ cond (is_ok r) 1 0
      → Counts (n + k) w
  counts_submitted n v w change r k counts more is =
      subst (λ m. Counts m w) (ap (λ b. n + cond b 1 0) (weight_of S change r) ∙ ap (λ m. n + m) (sym is)) (counts_on n v w (called (call.Submit change) (reply.Submitted r)) counts more)

  -- a submission adds to the count where the change was accepted
  pub submission_counts : (n : ℕ) (v w : Holds (CoreEntry S)) (change : Change) (r : Result (Token Version) SubmitError) → Counts n v → Extends rule v (called (call.Submit change) (reply.Submitted r)) w
      → own_count is_accepted w ≡ own_count is_accepted v + cond (is_ok r) 1 0
  submission_counts n v w change r counts more =
      omega (arith, counts.accepted, (counts_submitted n v w change r (cond (is_ok r) 1 0) counts more refl).accepted)

  pub accepted_more : (n : ℕ) (v w : Holds (CoreEntry S)) (change : Change) (r : Result (Token Version) SubmitError) → Counts n v → Extends rule v (called (call.Submit change) (reply.Submitted r)) w
      → OnOk r (own_count is_accepted w ≡ own_count is_accepted v + 1)
  accepted_more n v w change (Ok t) counts more = submission_counts n v w change (Ok t) counts more
  accepted_more n v w change (Err e) counts more = tt

  pub refused_same : (n : ℕ) (v w : Holds (CoreEntry S)) (change : Change) (r : Result (Token Version) SubmitError) → Counts n v → Extends rule v (called (call.Submit change) (reply.Submitted r)) w
      → OnErr r (own_count is_accepted w ≡ own_count is_accepted v)
  refused_same n v w change (Ok t) counts more = tt
  refused_same n v w change (Err e) counts more = omega (arith, submission_counts n v w change (Err e) counts more)

  -- the calls of another
  pub counts_both : (n m : ℕ) (v u w : Holds (CoreEntry S)) → Counts n v → Counts m u → TakesIn rule v u w → AreDistinct w.own → Counts (n + m) w
  counts_both n m v u w mine theirs both distinct = record {
    own = record { within = within_both rule v u w mine.own.within theirs.own.within both; distinct = distinct };
    accepted = omega (
      arith,
      mine.accepted,
      theirs.accepted,
      count_both rule is_accepted v u w mine.own.within theirs.own.within both,
    );
  }

-- what others added
pub counts_looked : {S : Type 0} (n : ℕ) (v : Holds (CoreEntry S)) (all : List (CoreEntry S)) → Counts n v → IsPrefix v.seen all → Counts n (looked v all)
counts_looked n v all counts begins = record {
  own = record {
    within = λ k h. omega (arith, counts.own.within k h, ap length begins.1, length-append v.seen begins.0);
    distinct = counts.own.distinct;
  };
  accepted = counts.accepted ∙ sym (count_within is_accepted v.seen all v.own begins counts.own.within);
}

-- a part with no call
pub counts_none : {S : Type 0} (seen : List (CoreEntry S)) (parts : ℕ) → Counts 0 (record { seen = seen; own = []; parts = parts })
counts_none seen parts = record { own = record { within = λ k h. absurd h; distinct = tt }; accepted = refl }

-- parts make no call
pub counts_parts : {S : Type 0} (n : ℕ) (v : Holds (CoreEntry S)) (parts : ℕ) → Counts n v → Counts n (record { seen = v.seen; own = v.own; parts = parts })
counts_parts n v parts counts = record { own = record { within = counts.own.within; distinct = counts.own.distinct }; accepted = counts.accepted }

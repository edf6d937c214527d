-- Runs of the core: events one after another, with their replies.
use Rattle.std.specs.Prelude.{◌≡◌, ℕ, Option, None, Some, Result, Err, List, [], ◌∷◌, ◌++◌, length, slice_get}
use Rattle.change_ops.specs.declared.size.Size.{Size}
use Rattle.semantics.specs.Step.{Program}
use Rattle.span_flatten.specs.Version.{Version}
use Rattle.version_history.specs.Tokens.{Token}
use Rattle.feeds.specs.Batches.{Item, Job}
use Rattle.feeds.specs.Promise.{Promise, Suits}
use Rattle.hub_core.specs.declared.error.CommitError.{CommitError}
use Rattle.hub_core.specs.declared.error.CommitError.TheVariants as commit
use Rattle.hub_core.specs.declared.run.Event.{Event}
use Rattle.hub_core.specs.declared.run.Event.TheVariants as event
use Rattle.hub_core.specs.declared.run.Reply.{Reply}
use Rattle.hub_core.specs.declared.run.Reply.TheVariants as reply
use Rattle.hub_core.specs.Machine.{Core, Submits, Subscribes, TakesJob, Commits, Pumps, Reissues, Closes}

-- the commit of a job's batch; without such a job it is stale
abbrev pub CommitsJob : {S : Type 0} → Core S → Option Job → Result (Unit {0}) CommitError → Core S → Type 0
CommitsJob s (Some job) r s' = Commits s job r s'
CommitsJob s None (Err commit.Stale) s' = s' ≡ s
CommitsJob s None _ s' = ⊥

-- the job that a reply hands out
abbrev pub handed_by : Reply (Token Version) Job → List Job
handed_by (reply.Handed (Some job)) = job ∷ []
handed_by _ = []

module _ {S : Type 0} (sent : S → List Item) (full : S → Type 0) (closed_sink bare : S → S) where
  -- what one event does, where these jobs were handed out before it in its run
  abbrev pub Happens : Core S → List Job → Event (Token Program) S → Reply (Token Version) Job → Core S → Type 0
  Happens s jobs (event.Submit change) (reply.Submitted r) s' = Submits s change r s'
  Happens s jobs (event.Subscribe program sink) (reply.Subscribed r) s' =
      Subscribes s (length s.changes) program sink r s'
  Happens s jobs (event.SubscribeFrom program sink first) (reply.Subscribed r) s' = Subscribes s first program sink r s'
  Happens s jobs event.TakeJob (reply.Handed r) s' = TakesJob s r s'
  Happens s jobs (event.Commit k) (reply.Committed r) s' = CommitsJob s (slice_get jobs k) r s'
  Happens s jobs (event.Pump id) (reply.Pumped r) s' = Pumps sent full bare s id r s'
  Happens s jobs (event.Reissue id) (reply.Reissued r) s' = Reissues s id r s'
  Happens s jobs (event.Close id) (reply.Closed r) s' = Closes closed_sink s id r s'
  Happens s jobs _ _ s' = ⊥

  -- the events happened in order, each with its reply
  abbrev pub IsRun : Core S → List Job → List (Event (Token Program) S) → List (Reply (Token Version) Job) → Core S
      → Type 0
  IsRun s jobs [] [] s' = s' ≡ s
  IsRun s jobs [] (r ∷ rs) s' = ⊥
  IsRun s jobs (e ∷ es) [] s' = ⊥
  IsRun s jobs (e ∷ es) (r ∷ rs) s' =
      (mid : Core S) × Happens s jobs e r mid × IsRun mid (jobs ++ handed_by r) es rs s'

  -- replies are appended, and they are those of a run
  pub record AppendsRun (before : List (Reply (Token Version) Job)) (old : Core S)
      (events : List (Event (Token Program) S)) (after : List (Reply (Token Version) Job)) (new : Core S) : Type 0
    where
      pub added : List (Reply (Token Version) Job)
      pub appended : after ≡ before ++ added
      pub run : IsRun old [] events added new

-- a sink that is subscribed was sent nothing, and nothing is promised of it but this program's stream from the first
-- version on
abbrev pub IsFreshEvent : {S : Type 0} → (S → List Item) → (S → Option Promise) → Size → Event (Token Program) S
    → Type 0
IsFreshEvent sent promise size (event.Subscribe program sink) =
    (sent sink ≡ []) × ((first : ℕ) → Suits (promise sink) size program.value first)
IsFreshEvent sent promise size (event.SubscribeFrom program sink first) =
    (sent sink ≡ []) × Suits (promise sink) size program.value first
IsFreshEvent sent promise size _ = Unit {0}

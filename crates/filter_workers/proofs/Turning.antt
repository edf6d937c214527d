-- What the calls of a turn add up to.
use Rattle.std.proofs.Common.{◌≡◌, ℕ, ◌<◌, ◌≤◌, ◌↔◌, Bool, true, false, IsTrue, IsErrAnd, Result, Ok, Err, Option, Some, None, List, [], ◌∷◌, refl, ap, sym, ◌∙◌, subst, true≢false, lt_of_not-le}
use Rattle.change_ops.specs.declared.size.Size.{Size}
use Rattle.feeds.specs.Batches.{Job}
use Rattle.hub_core.specs.Machine.{Misses}
use Rattle.hub_core.specs.declared.error.CommitError.{CommitError}
use Rattle.hub_core.specs.declared.error.NoSubscriber.{NoSubscriber}
use Rattle.hub_core.specs.declared.run.Reply.TheVariants as reply
use Rattle.core_history.specs.declared.entry.Call.TheVariants as call
use Rattle.core_history.specs.Hubs.{HubEntry, Seen}
use Rattle.ingest_workers.specs.Calls.{IsCall, IsLook, Makes}
use Rattle.ingest_workers.proofs.Calls.{makes_same, makes_call, makes_look, makes_then, was_looked, was_before}
use Rattle.filter_workers.specs.declared.work.TurnEnd.{TurnEnd}
use Rattle.filter_workers.specs.Turns.{takes, commits, pumps, reissues, IsEnd, Served, serving, turn_of, TurnsShort, Turns, IsShort, Helps, WasMissed, CatchesUp}

-- the batch of a job is committed or refused
abbrev IsAnswer : Size → Seen → Job → TurnEnd → Seen → Type 0
IsAnswer size v job end w = (r : Result (Unit {0}) CommitError) × IsEnd r end × IsCall size v (call.Commit job) (reply.Committed r) w

abbrev IsServing : Job → TurnEnd → List HubEntry → Type 0
IsServing job end calls = (s : Served) × (s.job ≡ job) × (s.end ≡ end) × (calls ≡ serving s)

abbrev IsReissued : Job → List HubEntry → Type 0
IsReissued job calls = (r : Result (Unit {0}) NoSubscriber) × (calls ≡ reissues job.subscriber r ∷ [])

-- calls that a share made, of which this is so
abbrev Did : Size → Seen → (List HubEntry → Type 0) → Seen → Type 0
Did size v fact w = (calls : List HubEntry) × Makes size v calls w × fact calls

-- a longer job than so many steps
pub is_long : (b : Bool) (job : Job) (most : ℕ) → (IsTrue b ↔ IsShort most job) → b ≡ false → ¬ IsShort most job
is_long b job most iff is = λ short. true≢false (sym (iff.1 short) ∙ is)

pub is_within : (b : Bool) (job : Job) (most : ℕ) → (IsTrue b ↔ IsShort most job) → b ≡ true → IsShort most job
is_within b job most iff is = iff.0 is

-- a turn that found no memory answers so
pub turns_short : {E : Type 0} (P : E → Type 0) (r : Result (Option TurnEnd) E) (calls : List HubEntry) → IsErrAnd r P → (job : Job) → TurnsShort job calls → Turns r calls
turns_short P (Ok end) calls is job short = absurd is
turns_short P (Err e) calls is job short = (job, short)

pub helps_short : {E : Type 0} (P : E → Type 0) (most : ℕ) (r : Result Bool E) (calls : List HubEntry) → IsErrAnd r P → (job : Job) → IsShort most job → TurnsShort job calls → Helps most calls r
helps_short P most (Ok b) calls is job few short = absurd is
helps_short P most (Err e) calls is job few short = (job, few, short)

module _ (size : Size) where
  pub served : (v u w : Seen) (job : Job) (end : TurnEnd) (id : ℕ) (sent : Result ℕ NoSubscriber) → id ≡ job.subscriber → IsAnswer size v job end u → IsCall size u (call.Pump id) (reply.Pumped sent) w → Did size v (IsServing job end) w
  served v u w job end id sent same answer pumped =
      let s : Served = record { job = job; answer = answer.0; end = end; ended = answer.1; sent = sent } in
      let pump : IsCall size u (call.Pump job.subscriber) (reply.Pumped sent) w = subst (λ i. IsCall size u (call.Pump i) (reply.Pumped sent) w) same pumped in (
        serving s,
        makes_then size v u w (commits job answer.0 ∷ []) (pumps job.subscriber sent ∷ [])
            (makes_call size v u (call.Commit job) (reply.Committed answer.0) answer.2)
            (makes_call size u w (call.Pump job.subscriber) (reply.Pumped sent) pump),
        (s, refl, refl, refl),
      )

  pub reissued : (v u w : Seen) (job : Job) (id : ℕ) (r : Result (Unit {0}) NoSubscriber) → id ≡ job.subscriber → u ≡ v → IsCall size u (call.Reissue id) (reply.Reissued r) w → Did size v (IsReissued job) w
  reissued v u w job id r same still made =
      let from : IsCall size v (call.Reissue id) (reply.Reissued r) w = subst (λ x. IsCall size x (call.Reissue id) (reply.Reissued r) w) still made in
      let its : IsCall size v (call.Reissue job.subscriber) (reply.Reissued r) w = subst (λ i. IsCall size v (call.Reissue i) (reply.Reissued r) w) same from in
      (reissues job.subscriber r ∷ [], makes_call size v w (call.Reissue job.subscriber) (reply.Reissued r) its, (r, refl))

  -- there was no job
  pub took_none : (v w : Seen) → IsCall size v call.TakeJob (reply.Handed None) w → Makes size v (takes None ∷ []) w
  took_none v w taken = makes_call size v w call.TakeJob (reply.Handed None) taken

  pub took : (v w : Seen) (job : Job) → IsCall size v call.TakeJob (reply.Handed (Some job)) w → Makes size v (takes (Some job) ∷ []) w
  took v w job taken = makes_call size v w call.TakeJob (reply.Handed (Some job)) taken

  -- a job was taken and served
  pub turned : (v u w : Seen) (job : Job) (end : TurnEnd) → IsCall size v call.TakeJob (reply.Handed (Some job)) u → Did size u (IsServing job end) w → Did size v (λ calls. (s : Served) × (s.job ≡ job) × (s.end ≡ end) × (calls ≡ turn_of s)) w
  turned v u w job end taken did =
      let s = did.2.0 in
      let same : takes (Some job) ∷ did.0 ≡ turn_of s =
      ap (λ calls. takes (Some job) ∷ calls) did.2.3 ∙ ap (λ (j : Job). takes (Some j) ∷ serving s) (sym did.2.1) in
      (takes (Some job) ∷ did.0, makes_then size v u w (takes (Some job) ∷ []) did.0 (took v u job taken) did.1, (s, did.2.1, did.2.2, same))

  -- a job was taken, and no memory found
  pub turned_short : (v u w : Seen) (job : Job) → IsCall size v call.TakeJob (reply.Handed (Some job)) u → Did size u (IsReissued job) w → Did size v (TurnsShort job) w
  turned_short v u w job taken did = (
    takes (Some job) ∷ did.0,
    makes_then size v u w (takes (Some job) ∷ []) did.0 (took v u job taken) did.1,
    (did.2.0, ap (λ calls. takes (Some job) ∷ calls) did.2.1),
  )

  module _ (subscriber last : ℕ) where
    abbrev Missed : Seen → Job → Seen → Type 0
    Missed v job u = IsLook size v (λ s. Misses s subscriber (Some job)) u

    was_missed : (v u w : Seen) (job : Job) (calls : List HubEntry) → Missed v job u → job.number ≤ last → Makes size u calls w → WasMissed size subscriber last v job w
    was_missed v u w job calls look within made = record {
      of = look.2.3;
      wanted = within;
      missed =
          was_before size v u w calls (λ s. Misses s subscriber (Some job))
          (was_looked size v u (λ s. Misses s subscriber (Some job)) look) made;
    }

    pub caught_up : (v u w : Seen) (job : Job) (end : TurnEnd) → Missed v job u → job.number ≤ last → IsAnswer size u job end w → (j : Job) × WasMissed size subscriber last v j w × (r : Result (Unit {0}) CommitError) × (e : TurnEnd) × IsEnd r e × Makes size v (commits j r ∷ []) w
    caught_up v u w job end look within answer =
        let made : Makes size u (commits job answer.0 ∷ []) w = makes_call size u w (call.Commit job) (reply.Committed answer.0) answer.2 in (
          job,
          was_missed v u w job (commits job answer.0 ∷ []) look within made,
          answer.0,
          end,
          answer.1,
          makes_then size v u w [] (commits job answer.0 ∷ []) (makes_look size v u (λ s. Misses s subscriber (Some job)) look) made,
        )

    pub caught_short : {E : Type 0} (P : E → Type 0) (r : Result Bool E) (v u w : Seen) (job : Job) → IsErrAnd r P → Missed v job u → job.number ≤ last → w ≡ u → CatchesUp size subscriber last v r w
    caught_short P (Ok b) v u w job is look within still = absurd is
    caught_short P (Err e) v u w job is look within still =
        let none : Makes size u [] w = makes_same size u w still in (
          job,
          was_missed v u w job [] look within none,
          makes_then size v u w [] [] (makes_look size v u (λ s. Misses s subscriber (Some job)) look) none,
        )

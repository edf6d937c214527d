-- Why no subscriber was added, and which calls were made.
use Rattle.std.proofs.Common.{◌≡◌, ℕ, ◌≤◌, [], ◌∷◌, ◌++◌, List, arith, refl, sym, ap, ◌∙◌, subst, inr}
use Rattle.std.specs.Prelude.{Option, None, Some, Result, Ok, Err, IfErr, length}
use Rattle.std.proofs.Common.{IsErrAnd}
use Rattle.std.proofs.lemmas.List.{append_cancel_right}
use mathlib.Core.List.{IsPrefix}
use Rattle.change_ops.specs.declared.size.Size.{Size}
use Rattle.filters.specs.declared.rules.RuleSet.{RuleSet}
use Rattle.bpf_words.specs.Words.{IsProgram, program_of}
use Rattle.filters.specs.Accepted.{IsAccepted}
use Rattle.semantics.specs.Step.{Program}
use Rattle.version_history.specs.Tokens.{Token}
use Rattle.hub_core.specs.Machine.{Core}
use Rattle.hub_core.specs.declared.error.SubscribeError.{SubscribeError}
use Rattle.hub_core.specs.declared.error.SubscribeError.TheVariants as subscribe
use Rattle.hub_core.specs.declared.run.Reply.TheVariants as told
use Rattle.subscriber_queues.specs.Queue.{QueueSink, was_sent, IsFull, closed_end, unsent}
use Rattle.core_history.specs.declared.entry.Call.TheVariants as call
use Rattle.core_history.specs.Runs.{CoreReply, called}
use Rattle.core_history.specs.Hubs.{HubEntry, HubCall, Seen, IsHubRun}
use Rattle.core_history.proofs.Recording.{leads}
use Rattle.ingest_workers.specs.Calls.{IsCall, IsStateOf, Makes, WasSo}
use Rattle.ingest_workers.proofs.Calls.{makes_call, makes_then, was_before, prefix_trans}
use Rattle.refusals.specs.declared.reason.Reason.TheVariants as reason
use Rattle.session_subscribers.specs.Holding.{AreSafe, IsFirst, Asks, IsRefusedFor, IsNotSubscribed}
use Rattle.session_subscribers.proofs.Versions.{versions_stay, versions_longer}

-- the bytes of a program that was accepted
pub safe_bytes : (rule_set : RuleSet) (program : Program) (bytes : List ℕ) → IsProgram bytes × (program ≡ program_of bytes) × IsAccepted rule_set (program_of bytes) → AreSafe rule_set bytes
safe_bytes rule_set program bytes h = (h.0, h.2)

-- an error that is passed on
pub passed_on : {T E : Type 0} (r : Result T E) (e : E) (P : E → Type 0) → IsErrAnd r (λ y. y ≡ e) → P e → IfErr r P
passed_on (Ok t) e P is p = tt
passed_on (Err y) e P is p = subst P (sym is) p

module _ (size : Size) where
  -- what a share saw before its call begins the history that the call found
  pub found_behind : (u w : Seen) (c : HubCall) (r : CoreReply) (made : IsCall size u c r w) → IsPrefix u.seen made.old.history
  found_behind u w c r made =
      let more = made.records.extends in
      let same : (u.seen ++ more.between) ++ called c r ∷ [] ≡ made.old.history ++ called c r ∷ [] =
      sym more.seen ∙ made.records.seen ∙ made.records.history in
      (more.between, append_cancel_right (u.seen ++ more.between) made.old.history (called c r ∷ []) same)

  -- and the history that it has seen then has led to the state that the call left
  pub led_by_call : (u w : Seen) (c : HubCall) (r : CoreReply) (made : IsCall size u c r w) → IsHubRun size w.seen made.new.core
  led_by_call u w c r made =
      subst (λ l. IsHubRun size l made.new.core) (sym made.records.seen)
      (leads size was_sent IsFull closed_end unsent made.old.history made.new.history (Some (called c r)) made.new.core (made.old.core, c, r, refl, made.run, made.records.happens) made.consistent.1.consistent
      (λ x is. let same : called c r ≡ x = cc is in made.records.history ∙ ap (λ (e : HubEntry). made.old.history ++ e ∷ []) same))

  -- changes are only added to
  pub changes_stay : (log more : List HubEntry) (s t : Core QueueSink) → IsStateOf size s → IsStateOf size t → IsHubRun size log s → IsHubRun size more t → IsPrefix log more → length s.changes ≤ length t.changes
  changes_stay log more s t old new before after begins =
      let longer = versions_longer s.versions t.versions (versions_stay size log more s t before after begins) in
      omega (arith, longer, old.consistent.sound.named, new.consistent.sound.named)

  pub first_later : (v u w : Seen) (calls : List HubEntry) (named : Option ℕ) (first : ℕ) → IsFirst size v u named first → Makes size u calls w → IsFirst size v w named first
  first_later v u w calls None first was more = was_before size v u w calls (λ s. first ≡ length s.changes) was more
  first_later v u w calls (Some number) first is more = is

  -- the one call was answered so
  pub asked : (v u w : Seen) (program : Token Program) (sink : QueueSink) (named : Option ℕ) (first : ℕ) (answer : Result ℕ SubscribeError) → sink.sent ≡ [] → IsFirst size v u named first → Makes size v [] u
      → IsCall size u (call.SubscribeFrom program sink first) (told.Subscribed answer) w → Asks size v w program named first answer
  asked v u w program sink named first answer none from before made =
      let call_made = makes_call size u w (call.SubscribeFrom program sink first) (told.Subscribed answer) made in record {
        from = first_later v u w (called (call.SubscribeFrom program sink first) (told.Subscribed answer) ∷ []) named first from call_made;
        sink = sink;
        none = none;
        calls = makes_then size v u w [] (called (call.SubscribeFrom program sink first) (told.Subscribed answer) ∷ []) before call_made;
      }

  pub refused_as : (v u w : Seen) (bytes : List ℕ) (named : Option ℕ) (first : ℕ) (program : Token Program) (sink : QueueSink) (told_error error : SubscribeError) → told_error ≡ error → sink.sent ≡ []
      → IsFirst size v u named first → Makes size v [] u → program.value ≡ program_of bytes → IsCall size u (call.SubscribeFrom program sink first) (told.Subscribed (Err told_error)) w → IsRefusedFor size v w bytes named error
  refused_as v u w bytes named first program sink told_error error is none from before same made =
      subst (IsRefusedFor size v w bytes named) is (program, first, same, asked v u w program sink named first (Err told_error) none from before made)

  -- the latest version doesn't go
  not_lacking : (v u w : Seen) (first : ℕ) (program : Token Program) (sink : QueueSink) → WasSo size v u (λ s. first ≡ length s.changes)
      → IsCall size u (call.SubscribeFrom program sink first) (told.Subscribed (Err subscribe.NoVersion)) w → ⊥
  not_lacking v u w first program sink was made =
      let begins = prefix_trans was.log u.seen made.old.history was.to (found_behind u w (call.SubscribeFrom program sink first) (told.Subscribed (Err subscribe.NoVersion)) made) in
      let more = changes_stay was.log made.old.history was.state made.old.core was.consistent made.consistent.0 was.run made.run begins in
      omega (arith, more, was.so, made.records.happens.2)

  pub refused_version : (v u w : Seen) (rule_set : RuleSet) (capacity : ℕ) (bytes : List ℕ) (named : Option ℕ) (first : ℕ) (program : Token Program) (sink : QueueSink) (told_error : SubscribeError) → told_error ≡ subscribe.NoVersion
      → sink.sent ≡ [] → IsFirst size v u named first → Makes size v [] u → AreSafe rule_set bytes → program.value ≡ program_of bytes → IsCall size u (call.SubscribeFrom program sink first) (told.Subscribed (Err told_error)) w
      → IsNotSubscribed size v w rule_set capacity bytes named reason.NoVersion
  refused_version v u w rule_set capacity bytes None first program sink told_error is none from before safe same made =
      absurd (not_lacking v u w first program sink from (subst (λ (e : SubscribeError). IsCall size u (call.SubscribeFrom program sink first) (told.Subscribed (Err e)) w) is made))
  refused_version v u w rule_set capacity bytes (Some number) first program sink told_error is none from before safe same made =
      (safe, inr (refused_as v u w bytes (Some number) first program sink told_error subscribe.NoVersion is none from before same made))

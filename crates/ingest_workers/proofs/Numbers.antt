-- The number of a submitted change's version.
use Rattle.std.proofs.Common.{◌≡◌, ℕ, ◌≤◌, ◌++◌, ◌∷◌, [], Ok, length, ap, subst, ◌∙◌, arith}
use Rattle.std.proofs.lemmas.List.{length_push}
use Rattle.change_ops.specs.Changes.{Change}
use Rattle.change_ops.specs.declared.size.Size.{Size}
use Rattle.change_ops.specs.Sizes.{most_changes}
use Rattle.span_flatten.specs.Version.{Version}
use Rattle.version_history.specs.Tokens.{Token}
use Rattle.hub_core.specs.Machine.{Core, Submits}
use Rattle.hub_core.specs.declared.run.Reply.TheVariants as reply
use Rattle.subscriber_queues.specs.Queue.{QueueSink}
use Rattle.core_history.specs.declared.entry.Call.TheVariants as call
use Rattle.core_history.specs.Hubs.{Seen}
use Rattle.ingest_workers.specs.Calls.{IsStateOf, IsCall}

-- there are no more changes than the size allows
few : (size : Size) (s : Core QueueSink) → IsStateOf size s → length s.changes ≤ most_changes size
few size s state = subst (λ (z : Size). length s.changes ≤ most_changes z) state.of state.consistent.sound.few

-- it is the number of changes, with this one
is_count : (old new : Core QueueSink) (change : Change) (token : Token Version) → Submits old change (Ok token) new → token.value.number ≡ length new.changes
is_count old new change token event =
    let added : new.changes ≡ old.changes ++ change ∷ [] = ap (λ (s : Core QueueSink). s.changes) event.2 in
    let more = ap length added ∙ length_push old.changes change in
    omega (arith, more, event.1.numbered)

pub numbered : (size : Size) (old new : Core QueueSink) (v w : Seen) (change : Change) (token : Token Version) (number share : ℕ) → Submits old change (Ok token) new → number ≡ token.value.number
    → IsCall size v (call.Submit change) (reply.Submitted (Ok token)) w → share ≤ length new.changes → (share ≤ number) × (number ≤ most_changes size)
numbered size old new v w change token number share event is made counted =
    let here = is_count old new change token event in
    let there = is_count made.old.core made.new.core change token made.records.happens in
    let most = few size made.new.core made.consistent.1 in
    (omega (arith, is, here, counted), omega (arith, is, there, most))

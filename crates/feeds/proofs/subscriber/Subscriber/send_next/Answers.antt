use Rattle.std.proofs.Common.{◌≡◌, ◌<◌, ◌≤◌, Some, List, length, subst, sym}
use Rattle.std.specs.Prelude.{slice_get}
use Rattle.feeds.specs.Batches.{Item}
use Rattle.feeds.specs.Feed.{Subscriber, HeldBatches, IsFed}
use Rattle.feeds.proofs.Promises.{changes_rise, may_promise}
use Rattle.feeds.proofs.Feeds.{may_send, count_fits, sent_part, sent_whole, moved_none}
use Rattle.feeds.proofs.subscriber.Subscriber.send_next.Goals as goal

pub returns-in_default-clause-moved : goal.returns-in_default-clause-moved
returns-in_default-clause-moved g c = moved_none _ _ g.S.Sink.bare _

pub send_batch-reached-requires-clause-from : goal.send_batch-reached-requires-clause-from
send_batch-reached-requires-clause-from g c =
    let fed = subst (λ (s : Subscriber g.row.S.Denot). IsFed g.S.Sink.sent g.S.Sink.full c.args.versions.now s) (sym c.self.view_is) c.requires.fed in
    count_fits _ _ _ _ c.in-Some.batch.now fed (subst (λ (h : HeldBatches). slice_get h 0 ≡ Some (Some c.in-Some.batch.now)) c.as_slice.ensures.value c.in-Some.ensures)

pub send_batch-reached-requires-clause-orderly : goal.send_batch-reached-requires-clause-orderly
send_batch-reached-requires-clause-orderly g c =
    let fed = subst (λ (s : Subscriber g.row.S.Denot). IsFed g.S.Sink.sent g.S.Sink.full c.args.versions.now s) (sym c.self.view_is) c.requires.fed in
    may_send _ _ _ _ c.in-Some.batch.now (changes_rise _ _ c.requires.published) fed (subst (λ (h : HeldBatches). slice_get h 0 ≡ Some (Some c.in-Some.batch.now)) c.as_slice.ensures.value c.in-Some.ensures)

pub send_batch-reached-requires-clause-promised : goal.send_batch-reached-requires-clause-promised
send_batch-reached-requires-clause-promised g c =
    let fed = subst (λ (s : Subscriber g.row.S.Denot). IsFed g.S.Sink.sent g.S.Sink.full c.args.versions.now s) (sym c.self.view_is) c.requires.fed in
    may_promise _ _ (g.S.Sink.promise c.self.inside.sink) _ c.args.versions.now _ c.in-Some.batch.now c.self.invariant c.requires.published fed
    (subst (λ (h : HeldBatches). slice_get h 0 ≡ Some (Some c.in-Some.batch.now)) c.as_slice.ensures.value c.in-Some.ensures)

pub returns-then-reached-items-clause-fed : goal.returns-then-reached-items-clause-fed
returns-then-reached-items-clause-fed g c =
    (sent_part g.S.Sink.sent g.S.Sink.full g.S.Sink.bare c.args.versions.now c.args.self.now _ c.in-Some.batch.now c.send_batch-reached.result c.send_batch-reached.new.sink c.self.view_is c.requires.fed
    (subst (λ (h : HeldBatches). slice_get h 0 ≡ Some (Some c.in-Some.batch.now)) c.as_slice.ensures.value c.in-Some.ensures) c.send_batch-reached.ensures.reached
    (subst (λ (l : List Item). c.send_batch-reached.result < length l) c.items.ensures.items c.if-reached-items.true) c.send_batch-reached.ensures.sent c.send_batch-reached.ensures.bare).0

pub returns-then-reached-items-clause-moved : goal.returns-then-reached-items-clause-moved
returns-then-reached-items-clause-moved g c =
    (sent_part g.S.Sink.sent g.S.Sink.full g.S.Sink.bare c.args.versions.now c.args.self.now _ c.in-Some.batch.now c.send_batch-reached.result c.send_batch-reached.new.sink c.self.view_is c.requires.fed
    (subst (λ (h : HeldBatches). slice_get h 0 ≡ Some (Some c.in-Some.batch.now)) c.as_slice.ensures.value c.in-Some.ensures) c.send_batch-reached.ensures.reached
    (subst (λ (l : List Item). c.send_batch-reached.result < length l) c.items.ensures.items c.if-reached-items.true) c.send_batch-reached.ensures.sent c.send_batch-reached.ensures.bare).1

pub returns-clause-fed : goal.returns-clause-fed
returns-clause-fed g c =
    (sent_whole g.S.Sink.sent g.S.Sink.full g.S.Sink.bare c.args.versions.now c.args.self.now _ c.in-Some.batch.now c.send_batch-reached.result c.rotate_left.new.self.items c.send_batch-reached.new.sink c.self.view_is c.requires.fed
    (subst (λ (h : HeldBatches). slice_get h 0 ≡ Some (Some c.in-Some.batch.now)) c.as_slice.ensures.value c.in-Some.ensures) c.send_batch-reached.ensures.reached
    (subst (λ (l : List Item). length l ≤ c.send_batch-reached.result) c.items.ensures.items c.if-reached-items.false) c.rotate_left.ensures.items c.send_batch-reached.ensures.sent c.send_batch-reached.ensures.bare).0

pub returns-clause-moved : goal.returns-clause-moved
returns-clause-moved g c =
    (sent_whole g.S.Sink.sent g.S.Sink.full g.S.Sink.bare c.args.versions.now c.args.self.now _ c.in-Some.batch.now c.send_batch-reached.result c.rotate_left.new.self.items c.send_batch-reached.new.sink c.self.view_is c.requires.fed
    (subst (λ (h : HeldBatches). slice_get h 0 ≡ Some (Some c.in-Some.batch.now)) c.as_slice.ensures.value c.in-Some.ensures) c.send_batch-reached.ensures.reached
    (subst (λ (l : List Item). length l ≤ c.send_batch-reached.result) c.items.ensures.items c.if-reached-items.false) c.rotate_left.ensures.items c.send_batch-reached.ensures.sent c.send_batch-reached.ensures.bare).1

use Rattle.std.proofs.Common.{◌++◌, ◌∙◌, ◌<◌, drop, length, arith, subst, sym}
use Rattle.feeds.specs.Orderly.{IsOrderly}
use Rattle.feeds.specs.Promise.{IsPromised}
use Rattle.feeds.proofs.Sends.{orderly_next, sent_next, read_again}
use Rattle.feeds.proofs.Promises.{promised_next}
use Rattle.feeds.proofs.subscriber.send_batch.Goals as goal

pub push-requires-clause-promised : goal.push-requires-clause-promised
push-requires-clause-promised g c =
    let below : c.sending.at < length c.items-items.result.now = omega arith in
    promised_next _ _ _ _ _ _ _ _
    (subst (λ l. IsPromised (g.S.Sink.promise c.args.sink.now) (g.S.Sink.sent c.args.sink.now ++ drop c.args.from l)) (sym c.items-items.ensures.items) c.requires.promised)
    c.sending.invariant.kept c.sending.invariant.sent c.sending.invariant.low below (read_again c.items-items.result.now c.sending.at _ _ c.again.ensures c.index-items-at.is)

pub push-requires-clause-orderly : goal.push-requires-clause-orderly
push-requires-clause-orderly g c =
    let below : c.sending.at < length c.items-items.result.now = omega arith in
    orderly_next _ _ _ _ _ _ (subst (λ l. IsOrderly (g.S.Sink.sent c.args.sink.now ++ drop c.args.from l)) (sym c.items-items.ensures.items) c.requires.orderly) c.sending.invariant.sent
    c.sending.invariant.low below (read_again c.items-items.result.now c.sending.at _ _ c.again.ensures c.index-items-at.is)

pub sending-preserved : goal.sending-preserved
sending-preserved g c =
    let below : c.sending.at < length c.items-items.result.now = omega arith in
    record {
      low = omega arith;
      high = omega arith;
      kept = c.in-Ok.ensures.kept ∙ c.sending.invariant.kept;
      bare = c.in-Ok.ensures.bare ∙ c.sending.invariant.bare;
      sent = sent_next _ _ _ _ _ _ _ c.in-Ok.ensures.ok c.sending.invariant.sent c.sending.invariant.low below (read_again c.items-items.result.now c.sending.at _ _ c.again.ensures c.index-items-at.is);
    }

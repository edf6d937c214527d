use Rattle.std.proofs.Common.{arith, ap, sym, ◌∙◌, subst}
use Rattle.std.proofs.lemmas.List.Elements.{All-same, All-push}
use Rattle.core_history.specs.Hubs.{Seen, IsHubLegal}
use Rattle.ingest_workers.specs.Holdings.{IsIdle}
use Rattle.ingest_workers.proofs.House.{idle_of}
use Rattle.ingest_workers.proofs.hub.cut_all.Goals as goal

pub loop-i-preserved : goal.loop-i-preserved
loop-i-preserved g c =
    let left = c.cut.ensures.left in
    let kept = c.loop-i.invariant in
    let legal = subst (IsHubLegal g.N.Naming.size) (sym kept.seen) c.requires.legal in
    let cut = idle_of g.N.Naming.size c.cut.result c.loop-i.share.seen legal c.cut.ensures.given in
    record {
      seen = ap (λ (w : Seen). w.seen) left ∙ kept.seen;
      own = ap (λ (w : Seen). w.own) left ∙ kept.own;
      parts = omega (arith, ap (λ (w : Seen). w.parts) left, kept.parts, c.loop-i-test.true);
      given = omega (arith, c.push_reserved.ensures.len, kept.given);
      room = omega (arith, c.push_reserved.ensures.capacity, kept.room);
      idle = λ before. All-same (IsIdle g.N.Naming.size) _ _ c.push_reserved.ensures.items (All-push (IsIdle g.N.Naming.size) _ _ (kept.idle before) cut);
    }

use Rattle.std.proofs.Common.{◌≡◌, ◌∷◌, List, length, sym, ap, subst, arith}
use Rattle.std.specs.Prelude.{All}
use Rattle.std.specs.Vec.Iter.{into_iter_items}
use Rattle.std.proofs.lemmas.List.Elements.{All-head, All-tail}
use Rattle.core_history.specs.Hubs.{Seen}
use Rattle.hub_doors.specs.Serving.{IsBegun}
use Rattle.hub_doors.proofs.common.Common.session_shares.Goals as goal

pub loop-share-init : goal.loop-share-init
loop-share-init g c =
    let gives = c.into_iter-share-iterator.ensures.into_iter_gives in
    record {
      all = omega (arith, c.in_ok-made.ensures.len);
      room = omega (arith, gives.1, ap length gives.0, c.args.shares.ok.0, c.len.ensures, c.in_ok-made.ensures.exact);
      begun = subst (λ (l : List Seen). All (IsBegun g.N.Naming.size) l) (sym gives.0) c.requires;
    }

pub new-requires-after_bounds : goal.new-requires-after_bounds
new-requires-after_bounds g c κs within =
    let steps : into_iter_items c.loop-share.share-iterator ≡ c.in-Some.share ∷ into_iter_items c.next.new.self = c.in-Some.ensures.steps.0 in
    All-head (IsBegun g.N.Naming.size) c.in-Some.share (into_iter_items c.next.new.self)
    (subst (λ (l : List Seen). All (IsBegun g.N.Naming.size) l) steps c.loop-share.invariant.begun)

pub loop-share-preserved : goal.loop-share-preserved
loop-share-preserved g c =
    let steps : into_iter_items c.loop-share.share-iterator ≡ c.in-Some.share ∷ into_iter_items c.next.new.self = c.in-Some.ensures.steps.0 in
    record {
      all = omega (arith, ap length steps, c.push_reserved.ensures.len, c.loop-share.invariant.all);
      room = omega (arith, c.push_reserved.ensures.capacity, c.loop-share.invariant.room);
      begun = All-tail (IsBegun g.N.Naming.size) c.in-Some.share (into_iter_items c.next.new.self)
          (subst (λ (l : List Seen). All (IsBegun g.N.Naming.size) l) steps c.loop-share.invariant.begun);
    }

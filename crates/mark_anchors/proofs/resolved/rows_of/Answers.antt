use Rattle.std.proofs.Common.{◌≡◌, ◌∷◌, ◌∙◌, length, sym, ap, subst, arith}
use Rattle.std.specs.Vec.Iter.{into_iter_items}
use Rattle.mark_anchors.specs.Placed.{AreFirstByRow}
use Rattle.mark_anchors.proofs.Rows.{taken_none, taken_more, taken_all}
use Rattle.mark_anchors.proofs.resolved.rows_of.Goals as goal

pub loop-list-init : goal.loop-list-init
loop-list-init c =
    let gives = c.into_iter-list-iterator.ensures.into_iter_gives in
    record {
      count = omega (arith, gives.1, ap length gives.0);
      taken =
          λ es operations are.
          taken_none es operations c.in_ok-rows.rows.items (into_iter_items c.into_iter-list-iterator.result) c.in_ok-rows.ensures.items
          (subst (AreFirstByRow es operations (length operations)) (sym gives.0) (c.in_ok-list-items.ensures es operations are));
    }

pub loop-list-preserved : goal.loop-list-preserved
loop-list-preserved c =
    let steps : into_iter_items c.loop-list.list-iterator ≡ c.in-Some.list ∷ into_iter_items c.next.new.self = c.in-Some.ensures.steps.0 in
    let gone = c.in-Some.ensures.steps.1 in
    let short = ap length steps in
    record {
      count = omega (arith, gone, short, c.loop-list.invariant.count);
      taken =
          λ es operations are.
          taken_more es operations c.loop-list.rows.items c.push.new.self.items (into_iter_items c.loop-list.list-iterator) (into_iter_items c.next.new.self)
          c.in-Some.list c.in_ok-new.field-0 steps c.in_ok-push.ensures.items c.in_ok-new.ensures (c.loop-list.invariant.taken es operations are);
    }

pub returns : goal.returns
returns c =
    λ es operations are.
    let none = c.in-None.ensures.steps in
    taken_all es operations c.loop-list.rows.items (into_iter_items c.loop-list.list-iterator) (sym c.loop-list.invariant.count ∙ none.0)
    (c.loop-list.invariant.taken es operations are)

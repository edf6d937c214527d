use Rattle.std.proofs.Common.{◌≡◌, List, sym, subst}
use Rattle.mark_anchors.specs.CommentRuns.{AreHolding, AreOrderly}
use Rattle.mark_anchors.specs.Commented.{AreCommented}
use Rattle.mark_anchors.specs.Placed.{AreAllPlaced}
use Rattle.mark_anchors.specs.declared.placed.PlacedMark.{PlacedMark}
use Rattle.mark_anchors.proofs.Cuts.{ends_of_places}
use Rattle.mark_anchors.proofs.resolved.resolve_placed.Goals as goal

pub invariant_of-result : goal.invariant_of-result
invariant_of-result c =
    let es = c.args.sequence.now.elements in
    let operations = c.args.operations.now in
    let all : AreAllPlaced es operations c.args.marks.items = c.requires.placed in
    let read : (ms : List PlacedMark) → ms ≡ c.args.marks.items → AreAllPlaced es operations ms = λ ms same. subst (AreAllPlaced es operations) (sym same) all in
    let commented : AreCommented es operations c.in_ok-comment_marks.field-0.items = c.in_ok-comment_marks.ensures es operations (read c.deref.result.now c.deref.ensures.value) in
    record {
      text = c.requires.text;
      ends = (
        c.args.marks.items,
        all,
        ends_of_places c.args.marks.items c.deref-3.result.now c.in_ok-places_of.field-0.items c.in_ok-in_order.field-0.items c.deref-3.ensures.value
            c.in_ok-places_of.ensures.begins c.in_ok-places_of.ensures.ends c.in_ok-in_order.ensures.rising c.in_ok-in_order.ensures.members,
      );
      rows = c.in_ok-rows_of.ensures es operations (read c.deref-4.result.now c.deref-4.ensures.value);
      comments = subst (AreHolding es operations) (sym c.in_ok-new.ensures) (c.in_ok-runs.ensures.holding es (subst (AreCommented es operations) (sym c.deref-2.ensures.value) commented));
      orderly = subst AreOrderly (sym c.in_ok-new.ensures) c.in_ok-runs.ensures.orderly;
    }

pub comment_runs-requires : goal.comment_runs-requires
comment_runs-requires c =
    let es = c.args.sequence.now.elements in
    let operations = c.args.operations.now in
    let placed : AreAllPlaced es operations c.deref.result.now = subst (AreAllPlaced es operations) (sym c.deref.ensures.value) c.requires.placed in
    (es, subst (AreCommented es operations) (sym c.deref-2.ensures.value) (c.in_ok-comment_marks.ensures es operations placed))

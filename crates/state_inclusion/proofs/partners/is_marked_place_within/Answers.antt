use Rattle.std.proofs.Common.{Option, Some, below_more, subst, rules}
use Rattle.std.specs.Bool.{IsTrue}
use Rattle.value_marks.specs.declared.mark.Mark.{Mark}
use Rattle.tracked_state.specs.Tracked.{tracked_of}
use Rattle.state_inclusion.specs.Partners.{holder_at, IsPairWithin}
use Rattle.state_inclusion.proofs.partners.is_marked_place_within.Goals as goal

pub loop-j-preserved : goal.loop-j-preserved
loop-j-preserved c =
    let yes : IsTrue c.is_pair_within.result = search rules in
    below_more _ _ c.loop-j.invariant
    (subst (λ (o : Option Mark). IsPairWithin (holder_at (tracked_of c.args.first.now) c.loop-j.j) (holder_at (tracked_of c.args.first.now) c.args.place) o (Some c.args.mark)) c.mark_at.ensures
    (c.is_pair_within.ensures.0 yes))

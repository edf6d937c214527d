use Rattle.std.proofs.Common.{Option, subst, sym}
use Rattle.value_marks.specs.declared.mark.Mark.{Mark}
use Rattle.tracked_state.specs.Tracked.{tracked_of}
use Rattle.state_inclusion.specs.Partners.{holder_at, mark_at, IsPairWithin}
use Rattle.state_inclusion.proofs.partners.is_place_within.Goals as goal

pub returns-in-Some : goal.returns-in-Some
returns-in-Some c =
    let a = tracked_of c.args.first.now in
    let b = tracked_of c.args.second.now in (
      λ yes j h.
          subst (λ (o : Option Mark). IsPairWithin (holder_at a j) (holder_at a c.args.place) (mark_at b j) o) c.in-Some.ensures
          (c.is_marked_place_within.ensures.0 yes j h),
      λ all.
          c.is_marked_place_within.ensures.1
          (λ j h. subst (λ (o : Option Mark). IsPairWithin (holder_at a j) (holder_at a c.args.place) (mark_at b j) o) (sym c.in-Some.ensures) (all j h)),
    )

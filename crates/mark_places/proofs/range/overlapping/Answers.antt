use Rattle.std.proofs.Common.{◌-◌, ◌<◌, get_or, refl, arith}
use Rattle.std.proofs.lemmas.Option.{slice_get-get_or}
use Rattle.mark_places.specs.declared.range.PlaceRange.{PlaceRange}
use Rattle.mark_places.proofs.Ranges.{some_between, hull_covered}
use Rattle.mark_places.proofs.range.overlapping.Goals as goal

pub returns-then-first-last : goal.returns-then-first-last
returns-then-first-last c =
    λ mark from to covers.
    let ranges = c.args.ranges.now in
    let none = some_between ranges 0 c.requires.0 c.requires.1 c.args.low c.args.high c.ended_up_to-first.result c.begun_before-last.result
    c.ended_up_to-first.ensures.first c.begun_before-last.ensures.rest mark from to covers in
    absurd (omega (arith, none, c.if-first-last.true))

pub returns : goal.returns
returns c =
    λ mark from to covers.
    let ranges = c.args.ranges.now in
    let first = c.ended_up_to-first.result in
    let last = c.begun_before-last.result in
    let within = c.begun_before-last.ensures.within in
    let some : first < last = c.if-first-last.false in
    let none : PlaceRange = record { low = 0; high = 0 } in
    let one = get_or ranges first none in
    let other = get_or ranges (last - 1) none in
    let hull : PlaceRange = record { low = one.low; high = other.high } in (
      hull,
      refl,
      hull_covered ranges 0 c.requires.0 c.requires.1 c.args.low c.args.high first last c.ended_up_to-first.ensures.first c.begun_before-last.ensures.rest mark from to
          one other hull (slice_get-get_or ranges first none (omega arith)) (slice_get-get_or ranges (last - 1) none (omega arith)) refl refl covers,
    )

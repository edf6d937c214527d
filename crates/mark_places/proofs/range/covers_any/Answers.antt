use Rattle.std.proofs.Common.{◌≡◌, ◌<◌, ◌≤◌, Some, length, get_or, arith, ⊎_elim}
use Rattle.std.specs.List.{slice_get}
use Rattle.std.proofs.lemmas.Bool.{cases_lt, lt-ltb, ltb-true}
use Rattle.std.proofs.lemmas.Option.{slice_get-get_or}
use Rattle.mark_places.specs.declared.range.PlaceRange.{PlaceRange}
use Rattle.mark_places.proofs.Ranges.{found, not_found}
use Rattle.mark_places.proofs.range.covers_any.Goals as goal

pub returns : goal.returns
returns c =
    let ranges = c.args.ranges.now in
    let mark = c.args.mark.now in
    let index = c.ended_up_to-index.result in
    let ends = c.ended_up_to-index.ensures in
    let within : index < length ranges = omega arith in
    let some : mark.start < mark.end = omega arith in
    let range : PlaceRange = get_or ranges index (record { low = 0; high = 0 }) in
    let g : slice_get ranges index ≡ Some range = slice_get-get_or ranges index (record { low = 0; high = 0 }) within in (
      λ test. found ranges 0 c.requires.0 c.requires.1 mark index ends.first ends.rest range g (ltb-true range.low mark.end test) some,
      λ covers.
          ⊎_elim
          (λ (behind : range.low < mark.end). lt-ltb range.low mark.end behind)
          (λ (before : mark.end ≤ range.low). absurd (not_found ranges 0 c.requires.0 c.requires.1 mark index ends.first ends.rest range g before covers))
          (cases_lt range.low mark.end),
    )

use Rattle.std.proofs.Common.{◌≡◌, ◌<◌, ◌≤◌, ◌+◌, Some, length, subst, sym, ap, ◌∙◌, arith, rules}
use Rattle.std.specs.List.{slice_get}
use Rattle.std.proofs.lemmas.Bool.{true≢false}
use Rattle.mark_anchors.proofs.Lists.{read_at}
use Rattle.mark_places.specs.Floors.{AreFloors, AreKept}
use Rattle.mark_places.specs.Touching.{touching}
use Rattle.mark_places.proofs.Ranges.{in_hull}
use Rattle.mark_places.proofs.Keeping.{kept_more, kept_skipped, kept_as}
use Rattle.mark_places.proofs.Choosing.{kept_placed, kept_chosen, candidate_within, read_as}
use Rattle.mark_places.proofs.places.MarkPlaces.choose.Goals.{then-keeps+in_ok-push, else-keeps}
use Rattle.mark_places.proofs.places.MarkPlaces.choose.Goals as goal

pub bounds-operations-mark : goal.bounds-operations-mark
bounds-operations-mark c =
    let k = c.loop-mark.mark-index in
    let marks = touching c.args.ranges.now c.args.self.now in
    let mark = c.mark-item.result in
    let read : slice_get marks k ≡ Some mark =
    read_as marks c.deref-mark-items.result.now k mark (c.deref-mark-items.ensures.value ∙ c.in_ok-marks.ensures) c.mark-item.is c.loop-mark-test.true in
    let within : mark.index < length c.args.operations.now = candidate_within c.requires.places.0 c.args.operations.now c.args.self.now c.requires.places.1 c.args.ranges.now k mark read in
    within

pub offset_bounds-operations-mark : goal.offset_bounds-operations-mark
offset_bounds-operations-mark c =
    let k = c.loop-mark.mark-index in
    let marks = touching c.args.ranges.now c.args.self.now in
    let mark = c.mark-item.result in
    let read : slice_get marks k ≡ Some mark =
    read_as marks c.deref-mark-items.result.now k mark (c.deref-mark-items.ensures.value ∙ c.in_ok-marks.ensures) c.mark-item.is c.loop-mark-test.true in
    let within : mark.index < length c.args.operations.now = candidate_within c.requires.places.0 c.args.operations.now c.args.self.now c.requires.places.1 c.args.ranges.now k mark read in
    search rules

pub loop-mark-preserved : goal.loop-mark-preserved
loop-mark-preserved c =
    let k = c.loop-mark.mark-index in
    let marks = touching c.args.ranges.now c.args.self.now in
    let mark = c.mark-item.result in
    let read : slice_get marks k ≡ Some mark =
    read_as marks c.deref-mark-items.result.now k mark (c.deref-mark-items.ensures.value ∙ c.in_ok-marks.ensures) c.mark-item.is c.loop-mark-test.true in
    let within : mark.index < length c.args.operations.now = candidate_within c.requires.places.0 c.args.operations.now c.args.self.now c.requires.places.1 c.args.ranges.now k mark read in
    let items = c.deref-mark-items.result.now in
    let here : slice_get items k ≡ Some mark = read_at items k mark c.mark-item.is c.loop-mark-test.true in
    let operations = c.args.operations.now in
    let floors = c.of-floors.result in
    elim c.if-keeps.branch [
      | then-keeps+in_ok-push w ↦
          let o = w.index-operations-mark.result in
          let at : slice_get operations mark.index ≡ Some o = read_at operations mark.index o w.index-operations-mark.is within in
          kept_as items operations floors (k + 1) _ c.if-keeps.chosen.operations _ c.if-keeps.chosen.marks
          (ap (λ z. z.operations) w.chosen-is ∙ w.in_ok-push.ensures.operations) (ap (λ z. z.marks) w.chosen-is ∙ w.in_ok-push.ensures.marks)
          (kept_more items operations floors k mark o c.loop-mark.chosen.operations c.loop-mark.chosen.marks here at c.loop-mark.invariant)
      | else-keeps w ↦
          kept_as items operations floors (k + 1) _ c.if-keeps.chosen.operations _ c.if-keeps.chosen.marks
          (ap (λ z. z.operations) w.chosen-is) (ap (λ z. z.marks) w.chosen-is)
          (kept_skipped items operations floors k mark c.loop-mark.chosen.operations c.loop-mark.chosen.marks here
          (λ kept. true≢false (sym (c.keeps.ensures.1 kept) ∙ w.if-keeps.false)) c.loop-mark.invariant)
    ]

pub returns-clause-placed : goal.returns-clause-placed
returns-clause-placed c =
    λ es are.
    let chosen = c.loop-mark.chosen in
    let same : c.deref-mark-items.result.now ≡ touching c.args.ranges.now c.args.self.now = c.deref-mark-items.ensures.value ∙ c.in_ok-marks.ensures in
    let kept = subst (λ ms. AreKept ms c.args.operations.now c.of-floors.result c.loop-mark.mark-index chosen.operations chosen.marks) same c.loop-mark.invariant in
    kept_placed es c.args.operations.now c.args.self.now are c.args.ranges.now c.of-floors.result c.loop-mark.mark-index chosen.operations chosen.marks kept

pub returns-clause-chosen : goal.returns-clause-chosen
returns-clause-chosen c =
    λ es are range held.
    let hull = c.in-Some.hull in
    let chosen = c.loop-mark.chosen in
    let marks = touching c.args.ranges.now c.args.self.now in
    let same : c.deref-mark-items.result.now ≡ marks = c.deref-mark-items.ensures.value ∙ c.in_ok-marks.ensures in
    let also : c.deref.result.now ≡ marks = c.deref.ensures.value ∙ c.in_ok-marks.ensures in
    let all : length marks ≤ c.loop-mark.mark-index = omega (arith, ap length same) in
    let found : AreFloors marks hull.low hull.high c.of-floors.result = subst (λ ps. AreFloors ps hull.low hull.high c.of-floors.result) also c.of-floors.ensures in
    let kept = subst (λ ms. AreKept ms c.args.operations.now c.of-floors.result c.loop-mark.mark-index chosen.operations chosen.marks) same c.loop-mark.invariant in
    kept_chosen es c.args.operations.now c.args.self.now are c.args.ranges.now c.of-floors.result c.loop-mark.mark-index chosen.operations chosen.marks kept hull.low hull.high all found
    range held (in_hull c.args.ranges.now 0 c.requires.apart.0 hull range c.requires.apart.1 c.in-Some.ensures held)

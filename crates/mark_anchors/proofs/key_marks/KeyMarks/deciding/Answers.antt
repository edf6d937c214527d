use Rattle.std.proofs.Common.{◌≡◌, ℕ, ◌+◌, ◌-◌, ◌≤◌, List, Option, Some, None, length, get_or, sym, subst, arith}
use Rattle.std.specs.List.{slice_get}
use Rattle.std.specs.Slice.{IsItemAt}
use Rattle.std.proofs.lemmas.Option.{slice_get-get_or}
use Rattle.mark_anchors.specs.Placed.{IsBest}
use Rattle.mark_anchors.specs.KeyMarks.{IsCountUpTo}
use Rattle.mark_anchors.specs.declared.placed.PlacedMark.{PlacedMark}
use Rattle.mark_anchors.proofs.Lists.{read_at}
use Rattle.mark_anchors.proofs.Painting.{none_before, best_from, decided, undecided}
use Rattle.mark_anchors.proofs.key_marks.KeyMarks.deciding.Goals as goal

pub returns-then-count-eq0 : goal.returns-then-count-eq0
returns-then-count-eq0 c =
    let marks : List PlacedMark = c.self.inside.marks.items in
    let places : List ℕ = c.self.inside.places.items in
    let zero : c.count_near-count.result ≡ 0 = omega arith in
    let up_to : IsCountUpTo places c.args.place 0 =
    subst (λ n. IsCountUpTo places c.args.place n) zero (subst (λ (l : List ℕ). IsCountUpTo l c.args.place c.count_near-count.result) c.deref.ensures.value c.count_near-count.ensures.up_to) in
    subst (λ (ms : List PlacedMark). IsBest ms c.args.place (length ms) None) c.self.view_is
    (none_before marks places c.self.inside.numbers.items c.self.invariant c.args.place up_to)

pub returns-in_err-number : goal.returns-in_err-number
returns-in_err-number c =
    let marks : List PlacedMark = c.self.inside.marks.items in
    let places : List ℕ = c.self.inside.places.items in
    let numbers : List (Option ℕ) = c.self.inside.numbers.items in
    let count : ℕ = c.count_near-count.result in
    let j : ℕ = count - 1 in
    let next : count ≡ j + 1 = omega arith in
    let counted : IsCountUpTo places c.args.place count = subst (λ (l : List ℕ). IsCountUpTo l c.args.place count) c.deref.ensures.value c.count_near-count.ensures.up_to in
    let all : count ≤ length places = subst (λ (l : List ℕ). count ≤ length l) c.deref.ensures.value c.count_near-count.ensures.within in
    let sized : length numbers ≡ length places = c.self.invariant.painted.sized in
    let stands : slice_get numbers j ≡ Some c.index.result.now = read_at numbers j c.index.result.now c.index.ensures (omega arith) in
    let best = best_from marks places numbers c.self.invariant c.args.place j (get_or places j 0) (subst (λ n. IsCountUpTo places c.args.place n) next counted) (slice_get-get_or places j 0 (omega arith)) c.index.result.now stands in
    subst (λ (ms : List PlacedMark). IsBest ms c.args.place (length ms) c.from_residual.result) c.self.view_is
    (subst (IsBest marks c.args.place (length marks)) (sym c.from_residual.ensures) (undecided marks c.args.place c.index.result.now c.in_err-number.was best))

pub returns : goal.returns
returns c =
    let marks : List PlacedMark = c.self.inside.marks.items in
    let places : List ℕ = c.self.inside.places.items in
    let numbers : List (Option ℕ) = c.self.inside.numbers.items in
    let count : ℕ = c.count_near-count.result in
    let j : ℕ = count - 1 in
    let next : count ≡ j + 1 = omega arith in
    let counted : IsCountUpTo places c.args.place count = subst (λ (l : List ℕ). IsCountUpTo l c.args.place count) c.deref.ensures.value c.count_near-count.ensures.up_to in
    let all : count ≤ length places = subst (λ (l : List ℕ). count ≤ length l) c.deref.ensures.value c.count_near-count.ensures.within in
    let sized : length numbers ≡ length places = c.self.invariant.painted.sized in
    let stands : slice_get numbers j ≡ Some c.index.result.now = read_at numbers j c.index.result.now c.index.ensures (omega arith) in
    let best = best_from marks places numbers c.self.invariant c.args.place j (get_or places j 0) (subst (λ n. IsCountUpTo places c.args.place n) next counted) (slice_get-get_or places j 0 (omega arith)) c.index.result.now stands in
    let got : IsItemAt marks c.in_ok-number.number c.get.result = subst (λ (xs : List PlacedMark). IsItemAt xs c.in_ok-number.number c.get.result) c.deref-2.ensures.value c.get.ensures.lookup in
    subst (λ (ms : List PlacedMark). IsBest ms c.args.place (length ms) c.copied.result) c.self.view_is
    (decided marks c.args.place c.index.result.now c.in_ok-number.number c.get.result c.copied.result c.in_ok-number.was got c.copied.ensures best)

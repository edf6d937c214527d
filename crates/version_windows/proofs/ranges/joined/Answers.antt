use Rattle.std.proofs.Common.{◌≡◌, ◌+◌, ◌≤◌, ◌<◌, ℕ, suc, List, ◌∷◌, ◌++◌, [], Some, length, get_or, refl, sym, ap, subst, ◌∙◌, arith, All}
use Rattle.std.specs.List.{slice_get}
use Rattle.std.proofs.lemmas.List.Elements.{All-push}
use Rattle.std.proofs.lemmas.Option.{slice_get-get_or}
use Rattle.mark_places.specs.PlaceRanges.{AreApart}
use Rattle.mark_places.specs.declared.range.PlaceRange.{PlaceRange}
use Rattle.version_windows.specs.Joined.{HasEndsOf, IsCovered}
use Rattle.version_windows.proofs.Joining.{AreJoined, started, widened, moved_on, apart_later, all_covered}
use Rattle.version_windows.proofs.ranges.joined.Goals as goal
use Rattle.version_windows.proofs.ranges.joined.Goals.{then-range-last, else-range-last+in_ok-push}

-- the one that comes next stands behind the first one
next_at : (ranges others : List PlaceRange) (first : PlaceRange) (index : ℕ) (d : PlaceRange) → ranges ≡ first ∷ others
    → index < length others → slice_get ranges (index + 1) ≡ Some (get_or others index d)
next_at ranges others first index d whole within =
    let same : index + 1 ≡ suc index = omega arith in
    ap (λ (l : List PlaceRange). slice_get l (index + 1)) whole ∙ ap (slice_get (first ∷ others)) same
    ∙ slice_get-get_or others index d within

pub loop-range-init : goal.loop-range-init
loop-range-init c =
    subst (λ (l : List PlaceRange). AreJoined c.args.ranges.now 1 l c.in-Some.first.now) (sym c.new-all.ensures.items)
    (started c.args.ranges.now c.requires.sorted c.requires.order c.in-Some.first.now
    (ap (λ (l : List PlaceRange). slice_get l 0) c.in-Some.ensures.cases.0))

pub loop-range-preserved : goal.loop-range-preserved
loop-range-preserved c =
    let ranges : List PlaceRange = c.args.ranges.now in
    let before : AreJoined ranges (c.loop-range.range-index + 1) c.loop-range.all.items c.loop-range.last = c.loop-range.invariant in
    let index : ℕ = c.loop-range.range-index in
    let range : PlaceRange = get_or c.in-Some.others.now index (record { low = 0; high = 0 }) in
    let here : slice_get ranges (index + 1) ≡ Some range =
    next_at ranges c.in-Some.others.now c.in-Some.first.now index (record { low = 0; high = 0 }) c.in-Some.ensures.cases.0 c.loop-range-test.true in
    elim c.if-range-last.branch [
      | then-range-last w ↦
          let wider : PlaceRange = record { low = c.loop-range.last.low; high = w.max.result } in
          let most = w.max.ensures in
          subst (λ (all : List PlaceRange). AreJoined ranges (index + 1 + 1) all c.if-range-last.last) (ap (λ v. v.items) (sym w.all-is))
          (subst (λ (last : PlaceRange). AreJoined ranges (index + 1 + 1) c.loop-range.all.items last) (sym w.last-is)
          (widened ranges c.requires.sorted c.requires.order (index + 1) c.loop-range.all.items c.loop-range.last range wider before here w.if-range-last.true refl
          (omega (arith, most)) (omega (arith, most)) (λ end own other. omega (arith, most))))
      | else-range-last+in_ok-push w ↦
          subst (λ (all : List PlaceRange). AreJoined ranges (index + 1 + 1) all c.if-range-last.last) (ap (λ v. v.items) (sym w.all-is))
          (subst (λ (all : List PlaceRange). AreJoined ranges (index + 1 + 1) all c.if-range-last.last) (sym w.in_ok-push.ensures.items)
          (subst (λ (last : PlaceRange). AreJoined ranges (index + 1 + 1) (c.loop-range.all.items ++ c.loop-range.last ∷ []) last) (sym w.last-is)
          (moved_on ranges c.requires.sorted c.requires.order (index + 1) c.loop-range.all.items c.loop-range.last range before here w.if-range-last.false)))
    ]

pub returns-clause-apart : goal.returns-clause-apart
returns-clause-apart c =
    λ end below.
    let joined = c.loop-range.invariant in
    subst (λ (l : List PlaceRange). AreApart l 0 end) (sym c.in_ok-push-2.ensures.items)
    (apart_later (c.loop-range.all.items ++ c.loop-range.last ∷ []) 0 c.loop-range.last.high end joined.apart (joined.below end below))

pub returns-clause-ends : goal.returns-clause-ends
returns-clause-ends c =
    let joined = c.loop-range.invariant in
    subst (All (HasEndsOf c.args.ranges.now)) (sym c.in_ok-push-2.ensures.items)
    (All-push (HasEndsOf c.args.ranges.now) c.loop-range.all.items c.loop-range.last joined.ends joined.last_ends)

pub returns-clause-covered : goal.returns-clause-covered
returns-clause-covered c =
    λ range held.
    let others = c.in-Some.ensures.cases in
    let past : length c.args.ranges.now ≤ c.loop-range.range-index + 1 = omega (arith, others.1) in
    subst (λ (l : List PlaceRange). IsCovered l range) (sym c.in_ok-push-2.ensures.items)
    (all_covered c.args.ranges.now c.requires.sorted c.requires.order (c.loop-range.range-index + 1) c.loop-range.all.items c.loop-range.last c.loop-range.invariant past range held)

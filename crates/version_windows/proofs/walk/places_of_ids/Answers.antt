use Rattle.std.proofs.Common.{◌≡◌, ℕ, ◌+◌, ◌<◌, ◌≤◌, List, Some, length, refl, sym, ap, subst, ◌∙◌, arith, ⊎_elim}
use Rattle.std.specs.List.{slice_get}
use Rattle.std.proofs.lemmas.Bool.{cases_lt, false≢true}
use Rattle.std.proofs.lemmas.Iterator.Consumers.{YieldsList-end, YieldsList-from_first, YieldsList-turn}
use Rattle.std.proofs.lemmas.List.{length_push}
use Rattle.std.proofs.lemmas.Option.{same_Some, slice_get-get_or}
use Rattle.change_ops.specs.IdRuns.{later_id}
use Rattle.change_ops.specs.declared.id.OpId.{OpId}
use Rattle.char_sequence.specs.declared.sequence.Element.{Element}
use Rattle.version_windows.specs.Walked.{CoversIds}
use Rattle.version_windows.proofs.walk.places_of_ids.Goals as goal
use Rattle.version_windows.proofs.walk.places_of_ids.Goals.{then-is_among, else-is_among, then-high-eq0, else-high-eq0}

-- the range of the places before one, and the range with that one too
record IsGrown (es : List Element) (first : OpId) (count place low high : ℕ) : Type 0 where
  pub order : low ≤ high
  pub within : high ≤ place
  pub covered : CoversIds es first count place (record { low = low; high = high })

module _ (es : List Element) (first : OpId) (count place low high : ℕ) (e : Element) (here : slice_get es place ≡ Some e) (are : IsGrown es first count place low high) where
  -- the character there is none of them
  left : ((k : ℕ) → k < count → e.id ≡ later_id first k → ⊥) → IsGrown es first count (place + 1) low high
  left none = record {
    order = are.order;
    within = let w = are.within in omega (arith, w);
    covered =
        λ k at less before stands.
        ⊎_elim
        (λ (earlier : at < place). are.covered k at less earlier stands)
        (λ (last : place ≤ at).
        let same : at ≡ place = omega arith in
        let one : stands.0 ≡ e = same_Some stands.0 e (sym stands.1 ∙ ap (slice_get es) same ∙ here) in
        absurd (none k less (sym (ap (λ (x : Element). x.id) one) ∙ stands.2)))
        (cases_lt at place);
  }

  -- the character there is the first of them, or one more
  grown : (from : ℕ) → from ≤ place → (0 < high → from ≡ low) → IsGrown es first count (place + 1) from (place + 1)
  grown from le kept = record {
    order = omega arith;
    within = omega arith;
    covered =
        λ k at less before stands.
        ⊎_elim
        (λ (earlier : at < place).
        let was = are.covered k at less earlier stands in
        let some : 0 < high = let to : at < high = was.1 in omega arith in
        let same = kept some in
        let first_is : low ≤ at = was.0 in
        (omega (arith, same, first_is), omega arith))
        (λ (last : place ≤ at). (omega arith, omega arith))
        (cases_lt at place);
  }

with_ends : (es : List Element) (first : OpId) (count place from to low high : ℕ) → low ≡ from → high ≡ to → IsGrown es first count place from to → IsGrown es first count place low high
with_ends es first count place from to low high low_is high_is are =
    subst (λ n. IsGrown es first count place n high) (sym low_is) (subst (λ n. IsGrown es first count place from n) (sym high_is) are)

pub loop-element-preserved : goal.loop-element-preserved
loop-element-preserved c =
    let es : List Element = c.args.sequence.now.elements in
    let made = c.into_iter-element-iterator.ensures.into_iter_gives in
    let chain = YieldsList-from_first (λ (x : Element). x) (λ (rest : List Element). rest) es (made ∙ c.elements-element-items.ensures.value) in
    let turn = YieldsList-turn chain c.loop-element.yielded _ c.loop-element.yielded_by _ _ c.in-Some.element c.in-Some.is c.next.ensures.steps in
    let place : ℕ = c.loop-element.place in
    let at : place ≡ length c.loop-element.yielded = c.loop-element.invariant.place in
    let here : slice_get es place ≡ Some c.in-Some.element =
    ap (slice_get es) at ∙ slice_get-get_or es (length c.loop-element.yielded) c.in-Some.element turn.0 ∙ ap Some (sym turn.1) in
    let are : IsGrown es c.args.first c.args.count place c.loop-element.low c.loop-element.high =
    record { order = c.loop-element.invariant.order; within = c.loop-element.invariant.within; covered = c.loop-element.invariant.covered } in
    let more = length_push c.loop-element.yielded c.in-Some.element in
    let low : ℕ = c.loop-element.low in
    let high : ℕ = c.loop-element.high in
    let order : low ≤ high = are.order in
    let within : high ≤ place = are.within in
    let after : IsGrown es c.args.first c.args.count (place + 1) c.if-is_among.low c.if-is_among.high =
    elim c.if-is_among.branch [
      | then-is_among w ↦ elim w.if-high-eq0.branch [
        | then-high-eq0 w' ↦ with_ends es c.args.first c.args.count (place + 1) place (place + 1) c.if-is_among.low c.if-is_among.high (w.low-is ∙ w'.low-is) w.high-is
            (grown es c.args.first c.args.count place low high c.in-Some.element here are place (omega arith) (λ some. let none = w'.if-high-eq0.true in absurd (omega (arith, none, some))))
        | else-high-eq0 w' ↦ with_ends es c.args.first c.args.count (place + 1) low (place + 1) c.if-is_among.low c.if-is_among.high (w.low-is ∙ w'.low-is) w.high-is
            (grown es c.args.first c.args.count place low high c.in-Some.element here are low (omega arith) (λ some. refl))
      ]
      | else-is_among w ↦ with_ends es c.args.first c.args.count (place + 1) low high c.if-is_among.low c.if-is_among.high w.low-is w.high-is
          (left es c.args.first c.args.count place low high c.in-Some.element here are
          (λ k less is. absurd (false≢true (sym w.if-is_among.false ∙ c.is_among.ensures k less is))))
    ] in
    record {
      place = ap (λ (n : ℕ). n + 1) at ∙ sym more;
      order = after.order;
      within = after.within;
      covered = after.covered;
    }

pub returns-clause-covered : goal.returns-clause-covered
returns-clause-covered c =
    λ k place less within stands.
    let es : List Element = c.args.sequence.now.elements in
    let made = c.into_iter-element-iterator.ensures.into_iter_gives in
    let chain = YieldsList-from_first (λ (x : Element). x) (λ (rest : List Element). rest) es (made ∙ c.elements-element-items.ensures.value) in
    let end = YieldsList-end chain c.loop-element.yielded _ c.loop-element.yielded_by _ _ c.in-None.is c.next.ensures.steps in
    let at = c.loop-element.invariant.place in
    let all = end.1 in
    c.loop-element.invariant.covered k place less (omega (arith, at, all, within)) stands

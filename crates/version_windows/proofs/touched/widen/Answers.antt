use Rattle.std.proofs.Common.{◌≡◌, ◌≢◌, ◌<◌, ◌≤◌, ℕ, List, length, get_or, set, sym, ap, subst, ◌∙◌, arith, ⊎_elim, get_or-set_other, get_or-set_same}
use Rattle.std.proofs.lemmas.Bool.{cases_lt}
use Rattle.std.proofs.lemmas.List.{get_or_default}
use Rattle.char_sequence.specs.declared.sequence.Element.{Element}
use Rattle.mark_places.specs.declared.range.PlaceRange.{PlaceRange}
use Rattle.version_windows.specs.Edges.{IsWidened}
use Rattle.version_windows.proofs.touched.widen.Goals as goal

pub loop-range-preserved : goal.loop-range-preserved
loop-range-preserved c =
    let es : List Element = c.args.sequence.now.elements in
    let old : List PlaceRange = c.args.ranges.now in
    let ranges : List PlaceRange = c.loop-range.ranges in
    let i : ℕ = c.loop-range.range-index in
    let wider : PlaceRange = c.widened.result in
    let nowhere : PlaceRange = record { low = 0; high = 0 } in
    let many : length ranges ≡ length old = c.loop-range.auto.ranges in
    let low : i < length ranges = omega arith in
    record {
      before =
          λ k d less.
          ⊎_elim
          (λ (early : k < i).
          let ne : k ≢ i = omega arith in
          rw get_or-set_other (c.loop-range.invariant.before k d early))
          (λ (here : i ≤ k).
          let same : k ≡ i = omega arith in
          let first : get_or ranges i nowhere ≡ get_or old k d =
          c.loop-range.invariant.behind i nowhere (omega arith) ∙ get_or_default old i nowhere d (omega arith) ∙ ap (λ n. get_or old n d) (sym same) in
          let second : get_or (set ranges i wider) k d ≡ wider = ap (λ n. get_or (set ranges i wider) n d) same ∙ rw get_or-set_same in
          subst (λ (w : PlaceRange). IsWidened es (get_or old k d) w) (sym second)
          (subst (λ (r : PlaceRange). IsWidened es r wider) first c.widened.ensures))
          (cases_lt k i);
      behind =
          λ k d past.
          let ne : k ≢ i = omega arith in
          rw get_or-set_other (c.loop-range.invariant.behind k d (omega arith));
    }

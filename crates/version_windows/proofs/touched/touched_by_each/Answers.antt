use Rattle.std.proofs.Common.{◌≡◌, ◌<◌, ◌≤◌, ◌∷◌, [], ℕ, List, Some, length, refl, sym, ap, subst, ◌∙◌, arith, All, ⊎_elim}
use Rattle.std.specs.List.{slice_get, Contains}
use Rattle.std.proofs.lemmas.Bool.{cases_lt}
use Rattle.std.proofs.lemmas.List.Elements.{All-push, Contains-append_left, Contains-push}
use Rattle.std.proofs.lemmas.Option.{same_Some, slice_get_read, slice_get_within}
use Rattle.change_ops.specs.Lines.{ops_of}
use Rattle.change_ops.specs.declared.line.Line.{Line}
use Rattle.char_sequence.specs.declared.sequence.Element.{Element}
use Rattle.mark_places.specs.declared.range.PlaceRange.{PlaceRange}
use Rattle.version_laws.specs.Ranges.{TouchesOneOf}
use Rattle.version_windows.proofs.Lines.{line_of, line_within}
use Rattle.version_windows.proofs.touched.touched_by_each.Goals as goal

pub touched_by_line-requires : goal.touched_by_line-requires
touched_by_line-requires c =
    let lines : List Line = c.args.lines.now in
    let i : ℕ = c.loop-line.line-index in
    let here : slice_get lines i ≡ Some c.line-item.result =
    slice_get_read lines (length lines) i c.line-item.result refl c.loop-line-test.true c.line-item.is in
    (c.requires.0, c.requires.1, c.requires.2, λ o held. c.requires.3 o (line_within lines i c.line-item.result here o held))

pub loop-line-preserved : goal.loop-line-preserved
loop-line-preserved c =
    let lines : List Line = c.args.lines.now in
    let es : List Element = c.args.sequence.now.elements in
    let i : ℕ = c.loop-line.line-index in
    let item : Line = c.line-item.result in
    let here : slice_get lines i ≡ Some item = slice_get_read lines (length lines) i item refl c.loop-line-test.true c.line-item.is in
    let ranges : List PlaceRange = c.loop-line.ranges.items in
    let range : PlaceRange = c.touched_by_line.result in
    let grown = c.in_ok-push.ensures.items in
    record {
      order =
          subst (All (λ (r : PlaceRange). r.low ≤ r.high)) (sym grown)
          (All-push (λ (r : PlaceRange). r.low ≤ r.high) ranges range c.loop-line.invariant.order c.touched_by_line.ensures.order);
      within =
          subst (All (λ (r : PlaceRange). r.high ≤ length es)) (sym grown)
          (All-push (λ (r : PlaceRange). r.high ≤ length es) ranges range c.loop-line.invariant.within c.touched_by_line.ensures.within);
      touched =
          λ k line less g ops removals o held.
          subst (λ (l : List PlaceRange). TouchesOneOf ops es l o) (sym grown)
          (⊎_elim
          (λ (earlier : k < i).
          let t = c.loop-line.invariant.touched k line earlier g ops removals o held in
          (t.0, Contains-append_left ranges (range ∷ []) t.0 t.1, t.2))
          (λ (last : i ≤ k).
          let same : k ≡ i = omega arith in
          let one : line ≡ item = same_Some line item (sym g ∙ ap (slice_get lines) same ∙ here) in
          (range, Contains-push ranges range, c.touched_by_line.ensures.touched ops removals o (subst (λ l. Contains (ops_of l) o) one held)))
          (cases_lt k i));
    }

pub returns-clause-touched : goal.returns-clause-touched
returns-clause-touched c =
    λ ops removals o held.
    let lines : List Line = c.args.lines.now in
    let r = line_of lines o held in
    let within : r.0 < length lines = slice_get_within lines r.0 r.1.0 r.1.1 in
    let all : length lines ≤ c.loop-line.line-index = c.loop-line-test.false in
    c.loop-line.invariant.touched r.0 r.1.0 (omega arith) r.1.1 ops removals o r.1.2

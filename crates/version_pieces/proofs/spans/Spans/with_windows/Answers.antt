use Rattle.std.proofs.Common.{List, length, arith, subst, sym}
use Rattle.span_flatten.specs.Spans.{Span}
use Rattle.version_glyphs.specs.Glyphs.{Glyph, glyphs}
use Rattle.version_pieces.proofs.Paying.{none_paid, paid_next, paid_on}
use Rattle.version_pieces.proofs.Putting.{AreLeft, last_edged, last_few, last_maximal, last_place, last_put, none_put}
use Rattle.version_glyphs.proofs.Putting.{IsPlacedLast}
use Rattle.version_pieces.proofs.spans.Spans.with_windows.Goals as goal

pub with_window-requires-clause-order : goal.with_window-requires-clause-order
with_window-requires-clause-order c =
    let some : List Glyph = glyphs c.loop-window.all in
    let place : IsPlacedLast c.in-Some.before.now c.in-Some.window.now 0 (length some) =
    last_place some c.loop-window.rest.now c.in-Some.before.now c.in-Some.window.now c.loop-window.invariant.left.can c.in-Some.ensures.cases.0 in
    place.order

pub with_window-requires-clause-within : goal.with_window-requires-clause-within
with_window-requires-clause-within c =
    let some : List Glyph = glyphs c.loop-window.all in
    let place : IsPlacedLast c.in-Some.before.now c.in-Some.window.now 0 (length some) =
    last_place some c.loop-window.rest.now c.in-Some.before.now c.in-Some.window.now c.loop-window.invariant.left.can c.in-Some.ensures.cases.0 in
    place.within

pub with_window-requires-clause-maximal : goal.with_window-requires-clause-maximal
with_window-requires-clause-maximal c =
    (last_maximal (glyphs c.loop-window.all) c.loop-window.rest.now c.in-Some.before.now c.in-Some.window.now c.loop-window.invariant.left.can c.in-Some.ensures.cases.0).1

pub with_window-requires-clause-edged : goal.with_window-requires-clause-edged
with_window-requires-clause-edged c =
    last_edged (glyphs c.loop-window.all) c.loop-window.rest.now c.in-Some.before.now c.in-Some.window.now c.loop-window.invariant.left.can c.in-Some.ensures.cases.0

pub with_window-requires-clause-few : goal.with_window-requires-clause-few
with_window-requires-clause-few c =
    last_few (glyphs c.loop-window.all) c.loop-window.rest.now c.in-Some.before.now c.in-Some.window.now c.loop-window.invariant.left.can c.in-Some.ensures.cases.0

pub loop-window-init : goal.loop-window-init
loop-window-init c = record {
  left =
      subst (λ (l : List Span). AreLeft (glyphs c.args.self.now) (glyphs l) c.args.windows.now c.args.windows.now) (sym c.in_ok-all.ensures)
      (none_put (glyphs c.args.self.now) c.args.windows.now c.requires);
  paid = none_paid c.args.windows.now c.args.self.now c.in_ok-all.all c.args.budget.now c.in_ok-all.ensures;
}

pub loop-window-preserved : goal.loop-window-preserved
loop-window-preserved c = record {
  left =
      last_put (glyphs c.args.self.now) (glyphs c.loop-window.all) (glyphs c.in_ok-all-2.all) c.args.windows.now c.loop-window.rest.now c.in-Some.before.now c.in-Some.window.now
      c.loop-window.invariant.left c.in-Some.ensures.cases.0 c.in_ok-all-2.ensures.glyphs;
  paid =
      paid_next c.args.windows.now c.loop-window.rest.now c.in-Some.before.now c.in-Some.window.now c.args.self.now c.loop-window.all
      c.args.budget.now c.loop-window.budget c.with_window.new.budget
      c.loop-window.invariant.paid c.in-Some.ensures.cases.0 c.with_window.ensures.spent
      c.in_ok-all-2.all c.in_ok-all-2.ensures.bytes c.in_ok-all-2.ensures.rows c.with_window.ensures.less;
}

pub returns-in_err-all-2-clause-spent : goal.returns-in_err-all-2-clause-spent
returns-in_err-all-2-clause-spent c =
    omega (
      arith,
      paid_on c.args.windows.now c.loop-window.rest.now c.in-Some.before.now c.in-Some.window.now c.args.self.now c.loop-window.all
          c.args.budget.now c.loop-window.budget c.with_window.new.budget
          c.loop-window.invariant.paid c.in-Some.ensures.cases.0 c.with_window.ensures.spent,
    )

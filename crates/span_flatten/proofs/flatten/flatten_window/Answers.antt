use Rattle.std.proofs.Common.{◌≡◌, ◌≤◌, ℕ, List, inl, length, drop, get_or, refl, sym, ap, ◌∙◌, subst, rules, arith, [], string_bytes}
use Rattle.change_ops.specs.declared.operation.Op.{Op}
use Rattle.char_sequence.specs.declared.sequence.Element.{Element}
use Rattle.mark_anchors.specs.Ranges.{AreCuts, IsUniform}
use Rattle.mark_anchors.specs.Resolution.{ResolvedMarks}
use Rattle.mark_anchors.proofs.Uniform.{all_reached}
use Rattle.mark_anchors.proofs.Cuts.{next_read, reached_next}
use Rattle.span_flatten.specs.declared.version.Row.{Row}
use Rattle.span_flatten.specs.Taken.{IsTaken, IsLastFormat}
use Rattle.span_flatten.proofs.Taking.{taken_none, taken_whole, taken_window, taken_along, last_along, draft_counts}
use Rattle.span_flatten.proofs.flatten.flatten_window.Goals as goal

pub loop-cut-init : goal.loop-cut-init
loop-cut-init c =
    let low : ℕ = c.args.low in
    let es : List Element = c.args.sequence.now.elements in
    let marks : List Op = c.args.resolved.now.marks in
    let text : string_bytes c.new-text.result ≡ [] = search rules in
    let rows : c.in_ok-rows.rows.items ≡ [] = search rules in
    record {
      reached = inl (refl, refl);
      behind = let start : c.sweep_from-sweep.result.place ≡ c.args.low = c.sweep_from-sweep.ensures.start in omega arith;
      elements = ap (λ (v : ResolvedMarks). v.elements) c.sweep_from-sweep.ensures.resolution ∙ c.requires.elements;
      marks = ap (λ (v : ResolvedMarks). v.marks) c.sweep_from-sweep.ensures.resolution;
      taken =
          subst (λ (t : List ℕ). IsTaken es marks low low t c.in_ok-rows.rows.items) (sym text)
          (subst (λ (r : List Row). IsTaken es marks low low [] r) (sym rows) (taken_none es marks low));
      formatted = subst (IsLastFormat es marks c.sweep_from-sweep.result.place) (sym rows) (λ d some. absurd (omega arith));
      at = c.visible_from-cursor.ensures;
    }

pub take_in-requires-clause-order : goal.take_in-requires-clause-order
take_in-requires-clause-order c =
    let resolved = c.args.resolved.now in
    let are = subst (AreCuts resolved.elements resolved.marks c.args.low c.args.high) (sym c.deref-cut-items.ensures.value) c.in_ok-cuts.ensures in
    (next_read resolved.elements resolved.marks c.args.low c.args.high c.deref-cut-items.result.now c.loop-cut.cut-index c.loop-cut.from are c.loop-cut.invariant.reached c.loop-cut-test.true).0

pub take_in-requires-clause-within : goal.take_in-requires-clause-within
take_in-requires-clause-within c =
    let resolved = c.args.resolved.now in
    let are = subst (AreCuts resolved.elements resolved.marks c.args.low c.args.high) (sym c.deref-cut-items.ensures.value) c.in_ok-cuts.ensures in
    let upto : get_or c.deref-cut-items.result.now c.loop-cut.cut-index 0 ≤ c.args.high =
    (next_read resolved.elements resolved.marks c.args.low c.args.high c.deref-cut-items.result.now c.loop-cut.cut-index c.loop-cut.from are c.loop-cut.invariant.reached c.loop-cut-test.true).1 in
    let end : c.args.high ≤ length c.args.sequence.now.elements = c.requires.within in
    let same = ap length c.loop-cut.invariant.elements in
    omega (arith, upto, end, same)

pub take_in-requires-clause-uniform : goal.take_in-requires-clause-uniform
take_in-requires-clause-uniform c =
    let resolved = c.args.resolved.now in
    let are = subst (AreCuts resolved.elements resolved.marks c.args.low c.args.high) (sym c.deref-cut-items.ensures.value) c.in_ok-cuts.ensures in
    let to : ℕ = get_or c.deref-cut-items.result.now c.loop-cut.cut-index 0 in
    subst (λ (l : List Element). IsUniform l c.loop-cut.sweep.resolution.marks c.loop-cut.from to) (c.requires.elements ∙ sym c.loop-cut.invariant.elements)
    (subst (λ (ms : List Op). IsUniform resolved.elements ms c.loop-cut.from to) (sym c.loop-cut.invariant.marks)
    (next_read resolved.elements resolved.marks c.args.low c.args.high c.deref-cut-items.result.now c.loop-cut.cut-index c.loop-cut.from are c.loop-cut.invariant.reached c.loop-cut-test.true).2)

pub take_in-requires-clause-at : goal.take_in-requires-clause-at
take_in-requires-clause-at c = c.loop-cut.invariant.at ∙ ap (λ (l : List Element). drop c.loop-cut.from l) (sym c.loop-cut.invariant.elements)

pub take_in-requires-clause-formatted : goal.take_in-requires-clause-formatted
take_in-requires-clause-formatted c =
    let was = c.loop-cut.sweep.resolution in
    last_along c.args.sequence.now.elements was.elements c.args.resolved.now.marks was.marks c.loop-cut.sweep.place c.loop-cut.rows.items c.loop-cut.invariant.elements c.loop-cut.invariant.marks c.loop-cut.invariant.formatted

pub take_in-requires-clause-counted : goal.take_in-requires-clause-counted
take_in-requires-clause-counted c =
    let t = c.loop-cut.invariant.taken in
    draft_counts t.shown (string_bytes c.loop-cut.text) c.loop-cut.rows.items t.draft

pub loop-cut-preserved : goal.loop-cut-preserved
loop-cut-preserved c =
    let low : ℕ = c.args.low in
    let es : List Element = c.args.sequence.now.elements in
    let marks : List Op = c.args.resolved.now.marks in
    let to : ℕ = get_or c.deref-cut-items.result.now c.loop-cut.cut-index 0 in
    let inv = c.loop-cut.invariant in
    let held = c.loop-cut.sweep.resolution in
    let was : IsTaken held.elements held.marks low c.loop-cut.from (string_bytes c.loop-cut.text) c.loop-cut.rows.items =
    taken_along es held.elements marks held.marks low c.loop-cut.from (string_bytes c.loop-cut.text) c.loop-cut.rows.items inv.elements inv.marks inv.taken in
    record {
      reached = reached_next c.deref-cut-items.result.now low c.loop-cut.cut-index c.loop-cut-test.true;
      behind = c.take_in.ensures.behind;
      elements = ap (λ (v : ResolvedMarks). v.elements) c.take_in.ensures.resolution ∙ inv.elements;
      marks = ap (λ (v : ResolvedMarks). v.marks) c.take_in.ensures.resolution ∙ inv.marks;
      taken = taken_along held.elements es held.marks marks low to (string_bytes c.take_in.new.text) c.take_in.new.rows.items (sym inv.elements) (sym inv.marks) (c.in_ok-take_in.ensures.taken low was);
      formatted = last_along held.elements es held.marks marks c.take_in.new.sweep.place c.take_in.new.rows.items (sym inv.elements) (sym inv.marks) c.in_ok-take_in.ensures.formatted;
      at = c.in_ok-take_in.ensures.at ∙ ap (λ (l : List Element). drop to l) inv.elements;
    }

pub invariant_of-result : goal.invariant_of-result
invariant_of-result c =
    taken_whole c.args.sequence.now.elements c.args.resolved.now.marks c.args.low c.loop-cut.from (string_bytes c.loop-cut.text) c.loop-cut.rows.items c.len-count.ensures.bytes c.loop-cut.invariant.taken

-- at the end all characters of the window are taken in
pub returns : goal.returns
returns c =
    let resolved = c.args.resolved.now in
    let xs : List ℕ = c.deref-cut-items.result.now in
    let are = subst (AreCuts resolved.elements resolved.marks c.args.low c.args.high) (sym c.deref-cut-items.ensures.value) c.in_ok-cuts.ensures in
    let whole : c.loop-cut.cut-index ≡ length xs = omega arith in
    let end : c.loop-cut.from ≡ c.args.high = all_reached resolved.elements resolved.marks c.args.low c.args.high xs are c.loop-cut.cut-index c.loop-cut.from c.requires.order whole c.loop-cut.invariant.reached in
    taken_window c.args.sequence.now.elements c.args.resolved.now.marks c.args.low c.loop-cut.from c.args.high (string_bytes c.loop-cut.text) c.loop-cut.rows.items end c.loop-cut.invariant.taken

use Rattle.std.proofs.Common.{◌≡◌, ℕ, ◌+◌, ◌-◌, ◌<◌, cond, length, slice_range, ap, ◌∙◌, sym, arith}
use Rattle.char_sequence.specs.declared.sequence.Element.{Element}
use Rattle.char_sequence.specs.Visible.{visible_count}
use Rattle.char_sequence.proofs.Chunking.{here_at}
use Rattle.char_sequence.proofs.Nearest.{shown_of, range_front, range_all, range_empty}
use Rattle.char_sequence.proofs.visible_places.last_visible.Goals as goal

pub loop-index-init : goal.loop-index-init
loop-index-init c = range_empty shown_of c.args.elements.now c.args.end

pub loop-index-preserved : goal.loop-index-preserved
loop-index-preserved c =
    let es = c.args.elements.now in
    let i : ℕ = c.loop-index.index - 1 in
    let next : i + 1 ≡ c.loop-index.index = omega arith in
    let low : i < length es = omega arith in
    let none = ap (λ n. visible_count (slice_range es n c.args.end)) next ∙ c.loop-index.invariant in
    let hidden = ap {B = ℕ} (λ b. cond b 1 0) c.if-elements-index.false in
    let more = range_front shown_of es i c.args.end c.index-elements-index.result low (omega arith) in
    omega (arith, none, hidden, more)

pub returns : goal.returns
returns c =
    let es = c.args.elements.now in
    let start : c.loop-index.index ≡ 0 = omega arith in
    sym (range_all shown_of es c.args.end) ∙ sym (ap (λ n. visible_count (slice_range es n c.args.end)) start) ∙ c.loop-index.invariant

pub returns-then-elements-index : goal.returns-then-elements-index
returns-then-elements-index c =
    let es = c.args.elements.now in
    let i : ℕ = c.loop-index.index - 1 in
    let next : i + 1 ≡ c.loop-index.index = omega arith in
    let low : i < length es = omega arith in
    let element = c.index-elements-index.result in
    record {
      before = omega arith;
      visible = (element, here_at es i element low c.index-elements-index.is, ap (λ (e : Element). e.visible) c.index-elements-index.is ∙ c.if-elements-index.true);
      none = ap (λ n. visible_count (slice_range es n c.args.end)) next ∙ c.loop-index.invariant;
    }

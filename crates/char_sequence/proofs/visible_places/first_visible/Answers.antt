use Rattle.std.proofs.Common.{ℕ, cond, ap, ◌∙◌, sym, arith}
use Rattle.char_sequence.specs.declared.sequence.Element.{Element}
use Rattle.char_sequence.proofs.Chunking.{here_at}
use Rattle.char_sequence.proofs.Nearest.{shown_of, range_back, range_rest, range_empty}
use Rattle.char_sequence.proofs.visible_places.first_visible.Goals as goal

pub loop-index-init : goal.loop-index-init
loop-index-init c = range_empty shown_of c.args.elements.now c.args.start

pub loop-index-preserved : goal.loop-index-preserved
loop-index-preserved c =
    let none = c.loop-index.invariant in
    let hidden = ap {B = ℕ} (λ b. cond b 1 0) c.if-elements-index.false in
    let more = range_back shown_of c.args.elements.now c.args.start c.loop-index.index c.index-elements-index.result c.loop-index-test.true c.loop-index.auto.index in
    omega (arith, none, hidden, more)

pub returns : goal.returns
returns c =
    sym (range_rest shown_of c.args.elements.now c.args.start c.loop-index.index c.loop-index.auto.index c.loop-index-test.false) ∙ c.loop-index.invariant

pub returns-then-elements-index : goal.returns-then-elements-index
returns-then-elements-index c =
    let es = c.args.elements.now in
    let element = c.index-elements-index.result in
    record {
      reached = c.loop-index.auto.index;
      visible = (element, here_at es c.loop-index.index element c.loop-index-test.true c.index-elements-index.is, ap (λ (e : Element). e.visible) c.index-elements-index.is ∙ c.if-elements-index.true);
      none = c.loop-index.invariant;
    }

use Rattle.std.proofs.Common.{◌∙◌, sym, arith}
use Rattle.char_sequence.proofs.Nearest.{range_back, range_rest, range_empty}
use Rattle.char_sequence.proofs.chunk_counts.first_nonzero.Goals as goal

pub loop-index-init : goal.loop-index-init
loop-index-init c = range_empty (λ n. n) c.args.numbers.now c.args.start

pub loop-index-preserved : goal.loop-index-preserved
loop-index-preserved c =
    let none = c.loop-index.invariant in
    let zeroth = c.if-numbers-index-ne0.false in
    let more = range_back (λ n. n) c.args.numbers.now c.args.start c.loop-index.index 0 c.loop-index-test.true c.loop-index.auto.index in
    omega (arith, none, zeroth, more)

pub returns : goal.returns
returns c =
    sym (range_rest (λ n. n) c.args.numbers.now c.args.start c.loop-index.index c.loop-index.auto.index c.loop-index-test.false) ∙ c.loop-index.invariant

pub returns-then-numbers-index-ne0 : goal.returns-then-numbers-index-ne0
returns-then-numbers-index-ne0 c =
    let some = c.if-numbers-index-ne0.true in
    record {
      reached = c.loop-index.auto.index;
      some = omega (arith, some);
      none = c.loop-index.invariant;
    }

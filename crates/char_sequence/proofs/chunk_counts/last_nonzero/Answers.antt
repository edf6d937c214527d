use Rattle.std.proofs.Common.{◌≡◌, ℕ, ◌+◌, ◌-◌, ◌<◌, length, slice_range, sum, ap, ◌∙◌, sym, arith}
use Rattle.char_sequence.proofs.Nearest.{range_front, range_all, range_empty}
use Rattle.char_sequence.proofs.chunk_counts.last_nonzero.Goals as goal

pub loop-index-init : goal.loop-index-init
loop-index-init c = range_empty (λ n. n) c.args.numbers.now c.args.end

pub loop-index-preserved : goal.loop-index-preserved
loop-index-preserved c =
    let xs = c.args.numbers.now in
    let i : ℕ = c.loop-index.index - 1 in
    let next : i + 1 ≡ c.loop-index.index = omega arith in
    let low : i < length xs = omega arith in
    let none = ap (λ n. sum (slice_range xs n c.args.end)) next ∙ c.loop-index.invariant in
    let zeroth = c.if-numbers-index-ne0.false in
    let more = range_front (λ n. n) xs i c.args.end 0 low (omega arith) in
    omega (arith, none, zeroth, more)

pub returns : goal.returns
returns c =
    let xs = c.args.numbers.now in
    let start : c.loop-index.index ≡ 0 = omega arith in
    sym (range_all (λ n. n) xs c.args.end) ∙ sym (ap (λ n. sum (slice_range xs n c.args.end)) start) ∙ c.loop-index.invariant

pub returns-then-numbers-index-ne0 : goal.returns-then-numbers-index-ne0
returns-then-numbers-index-ne0 c =
    let xs = c.args.numbers.now in
    let i : ℕ = c.loop-index.index - 1 in
    let next : i + 1 ≡ c.loop-index.index = omega arith in
    let some = c.if-numbers-index-ne0.true in
    record {
      before = omega arith;
      some = omega (arith, some);
      none = ap (λ n. sum (slice_range xs n c.args.end)) next ∙ c.loop-index.invariant;
    }

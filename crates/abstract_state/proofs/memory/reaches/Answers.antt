use Rattle.std.proofs.Common.{◌≤◌, ◌+◌, ◌-◌, ◌^◌, arith}
use Rattle.abstract_state.specs.Lent.{base_of}
use Rattle.abstract_state.proofs.Memories.{near_small}
use Rattle.abstract_state.proofs.memory.reaches.Goals as goal

pub returns-then-end-range-clause-sound : goal.returns-then-end-range-clause-sound
returns-then-end-range-clause-sound c = λ _ lengths x long q.
    let low : c.args.address.offset.range.low ≤ x = q.range.low in
    let high : x ≤ c.args.address.offset.range.high = q.range.high in
    let near : c.args.address.offset.range.high ≤ 2 ^ 20 = c.args.address.near in
    let whole = c.of.ensures.long lengths long in (
      c.in-Some.least + (x - c.args.address.offset.range.low),
      c.in-Some.ensures.at (base_of c.args.address.region) x low (near_small c.args.address.region x (omega arith)),
      omega (arith, whole, c.if-end-range.true),
    )

pub returns-then-end-saturating_add-clause-sound : goal.returns-then-end-saturating_add-clause-sound
returns-then-end-saturating_add-clause-sound c = λ _ lengths x long q.
    let low : c.args.address.offset.range.low ≤ x = q.range.low in
    let high : x ≤ c.args.address.offset.range.high = q.range.high in
    let near : c.args.address.offset.range.high ≤ 2 ^ 20 = c.args.address.near in
    let tail = c.of-2.ensures.contains lengths x q.tails c.in-Some-of.tail c.in-Some-of.is in (
      c.in-Some.least + (x - c.args.address.offset.range.low),
      c.in-Some.ensures.at (base_of c.args.address.region) x low (near_small c.args.address.region x (omega arith)),
      omega (arith, tail, c.if-end-saturating_add.true, c.saturating_add.ensures),
    )

use Rattle.abstract_state.proofs.address.LentAddress.bounded.Goals as goal

pub returns-clause-contains : goal.returns-clause-contains
returns-clause-contains c = λ lengths x long q. record {
  bits = q.bits;
  range = q.range;
  tails = c.and.ensures.contains lengths x q.tails (c.tail_within-tail.ensures.contains _ x (c.of.ensures.long lengths long) q.range.high);
}

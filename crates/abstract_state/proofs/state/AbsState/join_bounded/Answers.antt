use Rattle.std.proofs.Common.{◌≡◌, min}
use Rattle.abstract_state.specs.declared.region.Region.{Region}
use Rattle.abstract_state.specs.Lent.{bound_of}
use Rattle.abstract_state.proofs.Regions.{each}
use Rattle.abstract_state.proofs.state.AbsState.join_bounded.Goals as goal

pub returns-clause-left : goal.returns-clause-left
returns-clause-left c = λ lengths s a. record {
  eleven = a.eleven;
  long = a.long;
  bounds = c.join-self.ensures.left lengths a.bounds;
  registers = λ i h. c.join_bounded_registers.ensures.left i lengths _ a.bounds h (a.registers i h);
  stack = λ i h. c.join_bounded_slots.ensures.left i lengths _ a.bounds h (a.stack i h);
}

pub returns-clause-right : goal.returns-clause-right
returns-clause-right c = λ lengths s b. record {
  eleven = b.eleven;
  long = b.long;
  bounds = c.join-self.ensures.right lengths b.bounds;
  registers = λ i h. c.join_bounded_registers.ensures.right i lengths _ b.bounds h (b.registers i h);
  stack = λ i h. c.join_bounded_slots.ensures.right i lengths _ b.bounds h (b.stack i h);
}

pub returns-clause-bounds : goal.returns-clause-bounds
returns-clause-bounds c = each
    (λ (r : Region). bound_of c.join-self.result r ≡ min (bound_of c.args.self.now.bounds r) (bound_of c.args.other.now.bounds r))
    c.join-self.ensures.text c.join-self.ensures.link

use Rattle.std.proofs.Common.{length, ap, arith}
use Rattle.change_keeping.proofs.Telling.{spelled_next}
use Rattle.change_keeping.proofs.group.read_all.Goals as goal

pub loop-request-preserved-in-Some-change_of : goal.loop-request-preserved-in-Some-change_of
loop-request-preserved-in-Some-change_of g c =
    let steps = c.in-Some.ensures.steps.0 in
    let gone = c.in-Some.ensures.steps.1 in
    let short = ap length steps in
    record {
      next = tt;
      ends = tt;
      spelled = spelled_next c.loop-request.requests.items c.push_reserved-in-Some-change_of.new.self.items c.loop-request.changes.items c.push_reserved.new.self.items c.in-Some.request c.text.result.now c.in-Some-change_of.change
          c.loop-request.invariant.spelled c.push_reserved-in-Some-change_of.ensures.items c.push_reserved.ensures.items c.text.ensures c.in-Some-change_of.ensures;
      count = omega (arith, gone, short, c.loop-request.invariant.count);
      texts = omega (arith, gone, c.push_reserved-in-Some-change_of.ensures.len, c.push_reserved-in-Some-change_of.ensures.capacity, c.loop-request.invariant.texts);
      read = omega (arith, gone, c.push_reserved.ensures.len, c.push_reserved.ensures.capacity, c.loop-request.invariant.read);
    }

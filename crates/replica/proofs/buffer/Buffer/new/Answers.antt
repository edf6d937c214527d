use Rattle.replica.proofs.Opening.{begun, begun_view}
use Rattle.replica.proofs.buffer.Buffer.new.Goals as goal

pub invariant_of-result : goal.invariant_of-result
invariant_of-result c = begun c.new-history.result c.new-held.result.items c.new-known.result c.args.size c.new-history.ensures c.new-held.ensures.items c.new-known.ensures

pub returns-clause-value : goal.returns-clause-value
returns-clause-value c = begun_view c.new-history.result c.new-held.result.items c.args.size c.new-history.ensures c.new-held.ensures.items

pub returns-clause-kept : goal.returns-clause-kept
returns-clause-kept c = let is = begun c.new-history.result c.new-held.result.items c.new-known.result c.args.size c.new-history.ensures c.new-held.ensures.items c.new-known.ensures in is.0

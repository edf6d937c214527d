use Rattle.hub_sessions.proofs.Conversing.{not_begun}
use Rattle.hub_sessions.proofs.conversation.begin.Goals as goal

pub returns-in_default-clause-ends : goal.returns-in_default-clause-ends
returns-in_default-clause-ends g c = not_begun _ _ _ _ _ c.write_no_memory.ensures.ok c.write_no_memory.ensures.err

pub returns-in_default-with_capacity-clause-ends : goal.returns-in_default-with_capacity-clause-ends
returns-in_default-with_capacity-clause-ends g c = not_begun _ _ _ _ _ c.write_no_memory-in_default-with_capacity.ensures.ok c.write_no_memory-in_default-with_capacity.ensures.err

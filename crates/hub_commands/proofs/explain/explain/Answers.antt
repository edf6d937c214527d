use Rattle.hub_commands.specs.Explained.{IsExplainReply}
use Rattle.hub_commands.proofs.Replies.{hex_answered, hex_hinted}
use Rattle.hub_commands.proofs.explain.explain.Goals as goal

pub returns-clause-answered : goal.returns-clause-answered
returns-clause-answered g c = hex_answered (IsExplainReply c.args.is_whole c.args.profile) _ _ _ c.in_ok-input.input
    c.in_ok-answer.answer c.in_ok-status.status c.in_ok-input.ensures c.in_ok-answer.ensures c.in_ok-status.ensures

pub returns-clause-hinted : goal.returns-clause-hinted
returns-clause-hinted g c = hex_hinted _ c.in_ok-input.input c.hint.result c.in_ok-input.ensures c.hint.ensures

use Rattle.hub_commands.proofs.KeptInputs.{kept_answered, kept_hinted}
use Rattle.hub_commands.proofs.join.join.Goals as goal

pub returns-clause-answered : goal.returns-clause-answered
returns-clause-answered g c =
    kept_answered c.args.size (g.R.Read.remaining c.args.reader.now) (g.W.Write.contents c.args.writer.now) _ c.in_ok-input.input c.in_ok-answer.answer c.in_ok-status.status c.in_ok-input.ensures c.in_ok-answer.ensures
    c.in_ok-status.ensures

pub returns-clause-hinted : goal.returns-clause-hinted
returns-clause-hinted g c = kept_hinted c.args.size (g.R.Read.remaining c.args.reader.now) c.in_ok-input.input c.hint.result c.in_ok-input.ensures c.hint.ensures

use Rattle.session_subscribers.proofs.Pulls.{pulls_begin}
use Rattle.session_subscribers.proofs.pulling.pulls_begin_the_stream.Goals as goal

pub returns : goal.returns
returns c = pulls_begin

use Rattle.stored_history.proofs.Copies.{copied}
use Rattle.stored_history.proofs.text.write_again.Goals as goal

pub returns : goal.returns
returns c = copied c.in_ok-text.text c.as_str.result.now c.args.change.now c.in_ok-copy.copy c.in_ok-text.ensures c.as_str.ensures c.in_ok-copy.ensures

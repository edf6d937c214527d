use Rattle.std.proofs.lemmas.Bool.{false≢true}
use Rattle.mark_anchors.proofs.Grouping.{number_missed}
use Rattle.change_history.proofs.tally.is_among.Goals as goal

pub returns-in-Err : goal.returns-in-Err
returns-in-Err c = λ rising. (λ t. absurd (false≢true t), λ held. absurd (number_missed c.args.numbers.now rising c.args.number _ c.in-Err.ensures.position held))

use Rattle.filter_cases.proofs.Links.{no_link}
use Rattle.filter_cases.proofs.mark_words.link.Goals as goal

pub returns-in-Err : goal.returns-in-Err
returns-in-Err c = no_link c.args.word.now c.in-Err.ensures.cases.0

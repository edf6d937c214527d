use Rattle.std.proofs.Common.{◌≡◌, None}
use Rattle.abstract_state.specs.declared.region.Region.{Region}
use Rattle.abstract_state.specs.Lent.{tail_of}
use Rattle.abstract_state.specs.Exact.{tail_after}
use Rattle.abstract_state.proofs.Regions.{each}
use Rattle.abstract_state.proofs.region.Tails.sum.Goals as goal

pub returns-clause-contains : goal.returns-clause-contains
returns-clause-contains c = λ lengths x y a h b k. record { text = c.sum.ensures.contains lengths.text x y a.text h b.text k; link = c.sum-2.ensures.contains lengths.link x y a.link h b.link k }

pub returns-clause-alone : goal.returns-clause-alone
returns-clause-alone c = each
    (λ (r : Region). tail_of c.args.other r ≡ None → tail_of (record { text = c.sum.result; link = c.sum-2.result }) r ≡ tail_after (tail_of c.args.self r) c.args.added)
    (λ none. c.sum.ensures.alone none) (λ none. c.sum-2.ensures.alone none)

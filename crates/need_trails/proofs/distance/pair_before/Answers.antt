use Rattle.std.proofs.Common.{◌∙◌, sym, arith}
use Rattle.bpf_words.specs.Words.{program_of}
use Rattle.need_trails.proofs.Along.{only_leads}
use Rattle.need_trails.proofs.Going.{pair_some, pair_none, pair_below}
use Rattle.need_trails.proofs.distance.pair_before.Goals as goal

pub both_earlier-requires-clause-within : goal.both_earlier-requires-clause-within
both_earlier-requires-clause-within c =
    let only = c.in_ok-only.ensures c.requires.known (omega (arith, c.requires.within)) in
    let less = only_leads c.args.knowledge.now.profile (program_of c.args.knowledge.now.words.now) c.args.pair.now.slot c.in-Some.from (sym c.in-Some.is ∙ only) in
    omega (arith, less, c.requires.within)

pub returns-in-Some-clause-value : goal.returns-in-Some-clause-value
returns-in-Some-clause-value c =
    let only = c.in_ok-only.ensures c.requires.known (omega (arith, c.requires.within)) in
    c.both_earlier.ensures.value
    ∙ pair_some c.args.knowledge.now.profile (program_of c.args.knowledge.now.words.now) c.args.pair.now c.in-Some.from (sym c.in-Some.is ∙ only)

pub returns-in-Some-clause-below : goal.returns-in-Some-clause-below
returns-in-Some-clause-below c =
    let only = c.in_ok-only.ensures c.requires.known (omega (arith, c.requires.within)) in
    pair_below c.both_earlier.result c.in-Some.from c.args.pair.now.slot c.both_earlier.ensures.there
    (only_leads c.args.knowledge.now.profile (program_of c.args.knowledge.now.words.now) c.args.pair.now.slot c.in-Some.from (sym c.in-Some.is ∙ only))

pub returns-in-None-clause-value : goal.returns-in-None-clause-value
returns-in-None-clause-value c =
    let only = c.in_ok-only.ensures c.requires.known (omega (arith, c.requires.within)) in
    pair_none c.args.knowledge.now.profile (program_of c.args.knowledge.now.words.now) c.args.pair.now (sym c.in-None.is ∙ only)

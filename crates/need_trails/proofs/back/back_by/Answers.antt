use Rattle.std.proofs.Common.{◌∙◌, Some, None, sym, arith}
use Rattle.bpf_words.specs.Words.{program_of}
use Rattle.need_trails.proofs.Along.{joined_back, last_back, last_from}
use Rattle.need_trails.proofs.back.back_by.Goals as goal

pub returns-then-is_joined-clause-value : goal.returns-then-is_joined-clause-value
returns-then-is_joined-clause-value c =
    joined_back c.args.knowledge.now.profile (program_of c.args.knowledge.now.words.now) c.args.wanted c.args.at c.args.ways.now c.is_joined.result c.requires.are c.is_joined.ensures c.if-is_joined.true

pub back_past-requires-clause-within : goal.back_past-requires-clause-within
back_past-requires-clause-within c =
    let less = last_from c.args.knowledge.now.profile (program_of c.args.knowledge.now.words.now) c.args.at c.args.ways.now c.in-Some.way.now c.requires.are (sym c.in-Some.ensures.value) in
    omega (arith, less, c.requires.within)

pub returns-in-Some-clause-value : goal.returns-in-Some-clause-value
returns-in-Some-clause-value c =
    c.back_past.ensures.value
    ∙ last_back c.args.knowledge.now.profile (program_of c.args.knowledge.now.words.now) c.args.wanted c.args.at c.args.ways.now c.is_joined.result (Some c.in-Some.way.now) c.requires.are c.is_joined.ensures c.if-is_joined.false c.in-Some.ensures.value

pub returns-in-Some-clause-below : goal.returns-in-Some-clause-below
returns-in-Some-clause-below c =
    c.back_past.ensures.below c.args.at
    (last_from c.args.knowledge.now.profile (program_of c.args.knowledge.now.words.now) c.args.at c.args.ways.now c.in-Some.way.now c.requires.are (sym c.in-Some.ensures.value))

pub returns-in-None-clause-value : goal.returns-in-None-clause-value
returns-in-None-clause-value c =
    last_back c.args.knowledge.now.profile (program_of c.args.knowledge.now.words.now) c.args.wanted c.args.at c.args.ways.now c.is_joined.result None c.requires.are c.is_joined.ensures c.if-is_joined.false c.in-None.ensures.value

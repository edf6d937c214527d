use Rattle.std.proofs.Common.{◌-◌, arith}
use Rattle.bpf_words.specs.Words.{program_of}
use Rattle.block_layout.proofs.Ranks.{open_next}
use Rattle.block_layout.proofs.loops.rank_more.Goals as goal

pub slots-init : goal.slots-init
slots-init c = record {
  ranks = c.requires.ranks;
  more = omega arith;
  within = omega arith;
  all = λ same slot low none. let within = none.0 in let long = c.requires.ranks.long in absurd (omega arith);
}

pub slots-preserved : goal.slots-preserved
slots-preserved c = record {
  ranks = c.rank_one-ranked.ensures.ranks;
  more = omega arith;
  within = omega arith;
  all =
      open_next (program_of c.args.words.now) c.slots.ranks c.rank_one-ranked.new.ranks c.slots.slot (c.slots.slot - 1) c.args.count c.slots.ranked c.rank_one-ranked.result (omega arith)
      c.slots.invariant.more c.rank_one-ranked.ensures.more c.slots.invariant.all c.rank_one-ranked.ensures.same c.rank_one-ranked.ensures.open;
}

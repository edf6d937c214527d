use Rattle.bpf_words.specs.Words.{program_of}
use Rattle.loop_check.specs.Rules.{loop_rules}
use Rattle.loop_check.specs.Meanings.{meanings}
use Rattle.loop_check.proofs.Keeping.{AreKeptBelow}
use Rattle.loop_check.proofs.check.keep_each.Given as goal

abbrev pub invariant-loop-slot : goal.invariant-loop-slot
invariant-loop-slot l = record {
  rule : AreKeptBelow loop_rules (program_of l.words) l.labels l.slot;
  sound : AreKeptBelow meanings (program_of l.words) l.labels l.slot;
}

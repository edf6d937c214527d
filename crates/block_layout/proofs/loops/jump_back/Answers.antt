use Rattle.std.proofs.Common.{arith}
use Rattle.bpf_words.specs.Words.{program_of}
use Rattle.block_layout.proofs.Rounds.{loop_at}
use Rattle.block_layout.proofs.loops.jump_back.Goals as goal

pub returns-then-path-index : goal.returns-then-path-index
returns-then-path-index c =
    loop_at (program_of c.args.words.now) c.args.path.now c.args.begin c.loop-index.index _ c.requires (omega arith) (omega arith) (omega arith) (omega arith)

use Rattle.std.proofs.Common.{◌+◌}
use Rattle.bpf_words.specs.Flow.{slots_of}
use Rattle.block_layout.proofs.Filling.{block_added}
use Rattle.block_layout.proofs.spread.push_block.Goals as goal

pub returns : goal.returns
returns c = λ count forward behind_forward single filled.
    let one = c.in_ok-push.ensures count forward filled in
    let two = c.in_ok-push-2.ensures (count + slots_of c.args.first) behind_forward one.filled in
    block_added c.args.bytes.now.items c.push.new.bytes.items c.push-2.new.bytes.items count c.args.first c.args.behind one two single

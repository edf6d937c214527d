use Rattle.std.proofs.Common.{◌≡◌, ◌++◌, rules}
use Rattle.bpf_words.specs.Encoding.{encoded}
use Rattle.block_layout.proofs.Filling.{added}
use Rattle.block_layout.proofs.spread.push.Goals as goal

pub returns : goal.returns
returns c = λ count forward filled.
    let is : c.extend_from_slice.new.self.items ≡ c.args.bytes.now.items ++ encoded c.args.insn = search rules in
    added c.args.bytes.now.items c.extend_from_slice.new.self.items count c.args.insn is c.encode-encoded.ensures.reads_back forward filled

use Rattle.std.proofs.Common.{rules}
use Rattle.bpf_words.proofs.Bytes.{byte-named, byte-mapped}
use Rattle.bpf_words.proofs.opcode.Opcode.new.Goals as goal

pub returns-clause-mapped : goal.returns-clause-mapped
returns-clause-mapped c = byte-mapped c.args.byte c.in_its_class.result (search rules) c.in_its_class.ensures

pub returns-clause-byte : goal.returns-clause-byte
returns-clause-byte c = byte-named c.args.byte c.in_its_class.result (search rules) c.in_its_class.ensures

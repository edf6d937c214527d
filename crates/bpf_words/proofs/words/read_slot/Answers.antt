use Rattle.std.proofs.Common.{rules, ℕ, ◌<◌, slice_index}
use Rattle.bpf_words.proofs.Stands.{stands-read}
use Rattle.bpf_words.proofs.words.read_slot.Goals as goal

pub returns-clause-bytes : goal.returns-clause-bytes
returns-clause-bytes c =
    let are : (offset : ℕ) → slice_index c.args.bytes.now offset < 256 = λ offset. search rules in
    stands-read c.args.bytes.now c.args.index c.read.result c.fields_at-fields.result c.slot_after-next.result are c.requires
    c.fields_at-fields.ensures c.slot_after-next.ensures c.read.ensures.back c.read.ensures.follows

use Rattle.std.proofs.Common.{◌∙◌, ap}
use Rattle.semantics.specs.Memory.{bytes_in}
use Rattle.program_reads.proofs.FieldBytes.{sizes}
use Rattle.program_reads.proofs.fields.field_bytes.Goals as goal

pub returns : goal.returns
returns c = c.count.ensures.value ∙ ap bytes_in c.size.ensures ∙ sizes c.args.field

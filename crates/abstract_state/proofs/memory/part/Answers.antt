use Rattle.std.proofs.Common.{refl}
use Rattle.semantics.specs.Memory.{bytes_in}
use Rattle.abstract_state.specs.State.{lengths_of}
use Rattle.abstract_state.proofs.Memories.{number_fits}
use Rattle.abstract_state.proofs.memory.part.Goals as goal

pub returns-clause-sound : goal.returns-clause-sound
returns-clause-sound c = λ span.
    let fits = number_fits (bytes_in c.args.size) c.args.offset span.bytes.context span.whole.context_bytes in
    (_, refl, c.loaded.ensures.contains (lengths_of span) _ fits)

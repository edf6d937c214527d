use Rattle.std.proofs.Common.{sym, subst}
use Rattle.bpf_words.specs.Words.{program_of}
use Rattle.semantics.specs.Step.{Program}
use Rattle.block_layout.specs.Meaning.{IsForward}
use Rattle.filters.proofs.Ends.{structured_forward}
use Rattle.filters.proofs.accept.accept_straight.Goals as goal

pub invariant_of-result : goal.invariant_of-result
invariant_of-result c =
    subst (λ (program : Program). IsForward program) (sym c.in-Ok.ensures.same)
    (structured_forward (program_of c.args.words.now) c.in-Ok.ensures.structured)

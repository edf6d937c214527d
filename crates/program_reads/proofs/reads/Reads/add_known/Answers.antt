use Rattle.std.proofs.Common.{subst}
use Rattle.std.proofs.lemmas.Int.{to_z-of_z}
use Rattle.std.specs.Int.{w16}
use Rattle.std.specs.Prelude.{ℤ}
use Rattle.semantics.specs.Memory.{address_of}
use Rattle.abstract_state.specs.declared.known.Known.{Known}
use Rattle.abstract_state.specs.declared.known.Known.TheVariants.{Lent}
use Rattle.abstract_state.specs.Known.{ContainsKnown}
use Rattle.program_reads.specs.Reads.{CoversAt}
use Rattle.program_reads.proofs.reads.Reads.add_known.Goals as goal

pub returns-in-Lent-clause-covers : goal.returns-in-Lent-clause-covers
returns-in-Lent-clause-covers c = λ lengths n held.
    let lent : ContainsKnown (Lent c.in-Lent.base) lengths n = subst (λ (k : Known). ContainsKnown k lengths n) c.in-Lent.is held in
    subst (λ (z : ℤ). CoversAt c.add_bytes.new.self (address_of n z) c.args.bytes) (to_z-of_z w16 c.args.offset c.ranges.offset) (c.add_bytes.ensures.covers lengths n lent)

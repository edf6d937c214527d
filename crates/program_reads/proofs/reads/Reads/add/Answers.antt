use Rattle.std.proofs.Common.{◌≡◌, ℕ, Some, sym, subst}
use Rattle.std.proofs.lemmas.Int.{to_z-of_z}
use Rattle.std.specs.Int.{w16}
use Rattle.std.specs.Prelude.{ℤ}
use Rattle.std.proofs.lemmas.Option.{same_Some}
use Rattle.semantics.specs.Memory.{address_of}
use Rattle.abstract_state.specs.declared.state.AbsReg.{AbsReg}
use Rattle.abstract_state.specs.declared.state.AbsReg.TheVariants.{Set}
use Rattle.abstract_state.specs.State.{ContainsRegister}
use Rattle.program_reads.specs.Reads.{CoversAt}
use Rattle.program_reads.proofs.reads.Reads.add.Goals as goal

pub returns-in-Set-clause-covers : goal.returns-in-Set-clause-covers
returns-in-Set-clause-covers c = λ lengths n held.
    let known : ContainsRegister (Set c.in-Set.known) lengths (Some n) = subst (λ (r : AbsReg). ContainsRegister r lengths (Some n)) c.in-Set.is held in
    let same : n ≡ known.0 = same_Some n known.0 known.1 in
    let covered = c.add_known.ensures.covers lengths known.0 known.2 in
    subst (λ (m : ℕ). CoversAt c.add_known.new.self (address_of m c.args.offset) c.args.bytes) (sym same)
    (subst (λ (z : ℤ). CoversAt c.add_known.new.self (address_of known.0 z) c.args.bytes) (to_z-of_z w16 c.args.offset c.ranges.offset) covered)

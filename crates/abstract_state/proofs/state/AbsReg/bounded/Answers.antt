use Rattle.std.proofs.Common.{refl, sym, subst}
use Rattle.abstract_state.specs.declared.state.AbsReg.{AbsReg}
use Rattle.abstract_state.specs.declared.state.AbsReg.TheVariants.{Set}
use Rattle.abstract_state.specs.Bounded.{KeepsReg}
use Rattle.abstract_state.proofs.state.AbsReg.bounded.Goals as goal

pub returns-in-Set-clause-keeps : goal.returns-in-Set-clause-keeps
returns-in-Set-clause-keeps c =
    subst (λ (v : AbsReg). KeepsReg v (Set c.bounded.result)) (sym c.in-Set.is) (c.bounded.result, refl, c.bounded.ensures.keeps)

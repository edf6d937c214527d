use Rattle.std.proofs.Common.{◌≡◌, ◌<◌, ◌∙◌, length, ap, sym, rules, arith, refl, inl, ⊎_elim}
use Rattle.abstract_state.specs.declared.state.AbsReg.TheVariants.{Set, Unset}
use Rattle.abstract_state.specs.State.{register_at}
use Rattle.abstract_state.proofs.Registers.{holds, any_default}
use Rattle.abstract_state.proofs.state.AbsState.read.Goals as goal

pub returns-in-Set-clause-sound : goal.returns-in-Set-clause-sound
returns-in-Set-clause-sound c = λ lengths s a.
    let same : c.index.result ≡ c.args.register = c.index.ensures.value in
    let small : c.index.result < 11 = c.index.ensures.small in
    let eleven : length c.args.self.now.registers ≡ 11 = search rules in
    let is : register_at c.args.self.now.registers c.args.register ≡ Set c.in-Set.known =
    ap (register_at c.args.self.now.registers) (sym same) ∙ any_default c.args.self.now.registers c.index.result Unset _ (omega arith) ∙ c.in-Set.is in
    holds c.args.self.now lengths s c.args.register c.in-Set.known (omega arith) is a

pub returns-in-Unset-clause-unset : goal.returns-in-Unset-clause-unset
returns-in-Unset-clause-unset c =
    let same : c.index.result ≡ c.args.register = c.index.ensures.value in
    let small : c.index.result < 11 = c.index.ensures.small in
    let eleven : length c.args.self.now.registers ≡ 11 = search rules in
    (refl, inl (ap (register_at c.args.self.now.registers) (sym same) ∙ any_default c.args.self.now.registers c.index.result Unset _ (omega arith) ∙ c.in-Unset.is))

pub returns-in-Set-clause-set : goal.returns-in-Set-clause-set
returns-in-Set-clause-set c = λ unset.
    let same : c.index.result ≡ c.args.register = c.index.ensures.value in
    let small : c.index.result < 11 = c.index.ensures.small in
    let eleven : length c.args.self.now.registers ≡ 11 = search rules in
    let is : register_at c.args.self.now.registers c.args.register ≡ Set c.in-Set.known =
    ap (register_at c.args.self.now.registers) (sym same) ∙ any_default c.args.self.now.registers c.index.result Unset _ (omega arith) ∙ c.in-Set.is in
    ⊎_elim (λ (none : register_at c.args.self.now.registers c.args.register ≡ Unset). absurd (cc (none, is))) (λ other. other) unset

use Rattle.std.proofs.Common.{Ok, ℕ, ℤ, ◌*◌, refl, sym, ◌∙◌, subst, ap, rules, ◌≡◌, ◌↔◌}
use Rattle.std.proofs.lemmas.Int.{to_z-of_z}
use Rattle.std.specs.Int.{w16, w64, cast_unsigned}
use Rattle.std.specs.Result.{IfOk}
use Rattle.std.specs.Option.{IfSome}
use mir.Val.{SFits}
use Rattle.bpf_words.specs.declared.instruction.Insn.TheVariants.{Load, LoadSigned, Store}
use Rattle.abstract_state.specs.State.{register_at}
use Rattle.bpf_words.specs.declared.instruction.Insn.{Insn}
use Rattle.abstract_state.specs.Steps.{after}
use Rattle.abstract_state.proofs.Guards.{load_rows, signed_rows, wide_rows}
use Rattle.abstract_state.proofs.Frames.{stored_is, spilled_is}
use Rattle.abstract_state.specs.Frame.{IsStackByte, StoresSlots}
use Rattle.abstract_state.proofs.Steps.{stays, ends}
use Rattle.abstract_state.specs.Unset.{HasUnset}
use Rattle.abstract_state.specs.declared.refusal.Refusal.TheVariants.{UnsetRegister}
use Rattle.bpf_words.specs.Flow.{read_by}
use Rattle.abstract_state.proofs.Unsets.{passed}
use Rattle.abstract_state.proofs.Performs.{performs_at, lands_so, lands_of_any}
use Rattle.abstract_state.specs.declared.step.Flow.TheVariants.{Live}
use Rattle.abstract_state.specs.Stepping.{stepped}
use Rattle.abstract_state.proofs.Stepping.{out_is, stepped_at, stands, exits, exit_refused}
use Rattle.abstract_state.proofs.state.AbsState.step.Goals as goal

pub returns-in-Compute-clause-sound : goal.returns-in-Compute-clause-sound
returns-in-Compute-clause-sound c = lands_of_any _ _ _ _ _ (performs_at c.in-Compute.is c.arithmetic.ensures.performs)

pub returns-in-Compute-clause-unset : goal.returns-in-Compute-clause-unset
returns-in-Compute-clause-unset c = (performs_at c.in-Compute.is c.arithmetic.ensures.performs).unset

pub returns-in-Compute-clause-set : goal.returns-in-Compute-clause-set
returns-in-Compute-clause-set c = (performs_at c.in-Compute.is c.arithmetic.ensures.performs).set

pub returns-in-Negate-clause-sound : goal.returns-in-Negate-clause-sound
returns-in-Negate-clause-sound c = lands_of_any _ _ _ _ _ (performs_at c.in-Negate.is c.negate.ensures.performs)

pub returns-in-Negate-clause-unset : goal.returns-in-Negate-clause-unset
returns-in-Negate-clause-unset c = (performs_at c.in-Negate.is c.negate.ensures.performs).unset

pub returns-in-Negate-clause-set : goal.returns-in-Negate-clause-set
returns-in-Negate-clause-set c = (performs_at c.in-Negate.is c.negate.ensures.performs).set

pub returns-in-Extend-clause-sound : goal.returns-in-Extend-clause-sound
returns-in-Extend-clause-sound c = lands_of_any _ _ _ _ _ (performs_at c.in-Extend.is c.extend.ensures.performs)

pub returns-in-Extend-clause-unset : goal.returns-in-Extend-clause-unset
returns-in-Extend-clause-unset c = (performs_at c.in-Extend.is c.extend.ensures.performs).unset

pub returns-in-Extend-clause-set : goal.returns-in-Extend-clause-set
returns-in-Extend-clause-set c = (performs_at c.in-Extend.is c.extend.ensures.performs).set

pub returns-in-Convert-clause-sound : goal.returns-in-Convert-clause-sound
returns-in-Convert-clause-sound c = lands_of_any _ _ _ _ _ (performs_at c.in-Convert.is c.convert.ensures.performs)

pub returns-in-Convert-clause-unset : goal.returns-in-Convert-clause-unset
returns-in-Convert-clause-unset c = (performs_at c.in-Convert.is c.convert.ensures.performs).unset

pub returns-in-Convert-clause-set : goal.returns-in-Convert-clause-set
returns-in-Convert-clause-set c = (performs_at c.in-Convert.is c.convert.ensures.performs).set

pub returns-in-Load-clause-sound : goal.returns-in-Load-clause-sound
returns-in-Load-clause-sound c =
    let fits : SFits w16 c.in-Load.offset = search rules in
    let is = c.in-Load.is ∙ ap (λ (z : ℤ). Load c.in-Load.size c.in-Load.destination c.in-Load.base z) (sym (to_z-of_z w16 c.in-Load.offset fits)) in
    lands_so _ _ _ _ _ (performs_at is c.load_into.ensures.performs)

pub returns-in-Load-clause-floor : goal.returns-in-Load-clause-floor
returns-in-Load-clause-floor c =
    let fits : SFits w16 c.in-Load.offset = search rules in
    let is = c.in-Load.is ∙ ap (λ (z : ℤ). Load c.in-Load.size c.in-Load.destination c.in-Load.base z) (sym (to_z-of_z w16 c.in-Load.offset fits)) in
    (performs_at is c.load_into.ensures.performs).floor

pub returns-in-Load-clause-carries : goal.returns-in-Load-clause-carries
returns-in-Load-clause-carries c =
    let fits : SFits w16 c.in-Load.offset = search rules in
    let is = c.in-Load.is ∙ ap (λ (z : ℤ). Load c.in-Load.size c.in-Load.destination c.in-Load.base z) (sym (to_z-of_z w16 c.in-Load.offset fits)) in
    (performs_at is c.load_into.ensures.performs).numbers

pub returns-in-Load-clause-unset : goal.returns-in-Load-clause-unset
returns-in-Load-clause-unset c =
    let fits : SFits w16 c.in-Load.offset = search rules in
    let is = c.in-Load.is ∙ ap (λ (z : ℤ). Load c.in-Load.size c.in-Load.destination c.in-Load.base z) (sym (to_z-of_z w16 c.in-Load.offset fits)) in
    (performs_at is c.load_into.ensures.performs).unset

pub returns-in-Load-clause-set : goal.returns-in-Load-clause-set
returns-in-Load-clause-set c =
    let fits : SFits w16 c.in-Load.offset = search rules in
    let is = c.in-Load.is ∙ ap (λ (z : ℤ). Load c.in-Load.size c.in-Load.destination c.in-Load.base z) (sym (to_z-of_z w16 c.in-Load.offset fits)) in
    (performs_at is c.load_into.ensures.performs).set

pub returns-in-LoadSigned-clause-sound : goal.returns-in-LoadSigned-clause-sound
returns-in-LoadSigned-clause-sound c =
    let fits : SFits w16 c.in-LoadSigned.offset = search rules in
    let is = c.in-LoadSigned.is ∙ ap (λ (z : ℤ). LoadSigned c.in-LoadSigned.size c.in-LoadSigned.destination c.in-LoadSigned.base z) (sym (to_z-of_z w16 c.in-LoadSigned.offset fits)) in
    lands_so _ _ _ _ _ (performs_at is c.load_signed_into.ensures.performs)

pub returns-in-LoadSigned-clause-unset : goal.returns-in-LoadSigned-clause-unset
returns-in-LoadSigned-clause-unset c =
    let fits : SFits w16 c.in-LoadSigned.offset = search rules in
    let is = c.in-LoadSigned.is ∙ ap (λ (z : ℤ). LoadSigned c.in-LoadSigned.size c.in-LoadSigned.destination c.in-LoadSigned.base z) (sym (to_z-of_z w16 c.in-LoadSigned.offset fits)) in
    (performs_at is c.load_signed_into.ensures.performs).unset

pub returns-in-LoadSigned-clause-set : goal.returns-in-LoadSigned-clause-set
returns-in-LoadSigned-clause-set c =
    let fits : SFits w16 c.in-LoadSigned.offset = search rules in
    let is = c.in-LoadSigned.is ∙ ap (λ (z : ℤ). LoadSigned c.in-LoadSigned.size c.in-LoadSigned.destination c.in-LoadSigned.base z) (sym (to_z-of_z w16 c.in-LoadSigned.offset fits)) in
    (performs_at is c.load_signed_into.ensures.performs).set

pub returns-in-Store-clause-sound : goal.returns-in-Store-clause-sound
returns-in-Store-clause-sound c =
    let fits : SFits w16 c.in-Store.offset = search rules in
    let is = c.in-Store.is ∙ ap (λ (z : ℤ). Store c.in-Store.size c.in-Store.base z c.in-Store.value) (sym (to_z-of_z w16 c.in-Store.offset fits)) in
    lands_of_any _ _ _ _ _ (performs_at is c.store_at.ensures.performs)

pub returns-in-Store-clause-unset : goal.returns-in-Store-clause-unset
returns-in-Store-clause-unset c =
    let fits : SFits w16 c.in-Store.offset = search rules in
    let is = c.in-Store.is ∙ ap (λ (z : ℤ). Store c.in-Store.size c.in-Store.base z c.in-Store.value) (sym (to_z-of_z w16 c.in-Store.offset fits)) in
    (performs_at is c.store_at.ensures.performs).unset

pub returns-in-Store-clause-set : goal.returns-in-Store-clause-set
returns-in-Store-clause-set c =
    let fits : SFits w16 c.in-Store.offset = search rules in
    let is = c.in-Store.is ∙ ap (λ (z : ℤ). Store c.in-Store.size c.in-Store.base z c.in-Store.value) (sym (to_z-of_z w16 c.in-Store.offset fits)) in
    (performs_at is c.store_at.ensures.performs).set

pub returns-in-LoadWide-clause-sound : goal.returns-in-LoadWide-clause-sound
returns-in-LoadWide-clause-sound c = lands_of_any _ _ _ _ _ (performs_at c.in-LoadWide.is c.load_wide.ensures.performs)

pub returns-in-LoadWide-clause-set : goal.returns-in-LoadWide-clause-set
returns-in-LoadWide-clause-set c = (performs_at c.in-LoadWide.is c.load_wide.ensures.performs).set

pub returns-in-Jump-clause-sound : goal.returns-in-Jump-clause-sound
returns-in-Jump-clause-sound c = stays c.args.profile c.args.self.now c.args.insn.now _ c.in-Jump.is (λ span s. refl)

pub returns-in-JumpLong-clause-sound : goal.returns-in-JumpLong-clause-sound
returns-in-JumpLong-clause-sound c = stays c.args.profile c.args.self.now c.args.insn.now _ c.in-JumpLong.is (λ span s. refl)

pub returns-in_ok-exit-in-Exit-clause-sound : goal.returns-in_ok-exit-in-Exit-clause-sound
returns-in_ok-exit-in-Exit-clause-sound c = ends c.args.profile c.args.self.now c.args.insn.now c.in-Exit.is c.in_ok-exit-in-Exit.ensures.sound

pub returns-in-Load-clause-yields : goal.returns-in-Load-clause-yields
returns-in-Load-clause-yields c = λ d fact y.
    let fits : SFits w16 c.in-Load.offset = search rules in
    let same = to_z-of_z w16 c.in-Load.offset fits in
    load_rows c.args.profile c.args.self.now c.args.insn.now d fact c.in-Load.size c.in-Load.destination c.in-Load.base _ c.load_into.result c.load_into.new.self y c.in-Load.is
    (λ region lends e z p. c.load_into.ensures.begin region lends (same ∙ e) z p)
    (λ region lends e z p. c.load_into.ensures.end region lends (same ∙ e) z p)
    (λ o p e h short within. c.load_into.ensures.lent o p (same ∙ e) short h within)
    (λ p h m. c.load_into.ensures.stack p (subst (λ (z : ℤ). IsStackByte p (cast_unsigned w64 z) (register_at c.args.self.now.registers c.in-Load.base)) (sym same) h) m)
    (λ i known h less z is. c.load_into.ensures.spilled i known (subst (λ (z : ℤ). IsStackByte (8 * i) (cast_unsigned w64 z) (register_at c.args.self.now.registers c.in-Load.base)) (sym same) h) less z is)

pub returns-in-LoadWide-clause-yields : goal.returns-in-LoadWide-clause-yields
returns-in-LoadWide-clause-yields c = λ d fact y.
    (refl, wide_rows c.args.profile c.args.self.now c.args.insn.now d fact c.in-LoadWide.destination c.in-LoadWide.value (after c.load_wide.result c.load_wide.new.self) y c.in-LoadWide.is c.load_wide.ensures.yields)

pub returns-in-LoadSigned-clause-yields : goal.returns-in-LoadSigned-clause-yields
returns-in-LoadSigned-clause-yields c = λ d fact y.
    let fits : SFits w16 c.in-LoadSigned.offset = search rules in
    let same = to_z-of_z w16 c.in-LoadSigned.offset fits in
    signed_rows c.args.profile c.args.self.now c.args.insn.now d fact c.in-LoadSigned.size c.in-LoadSigned.destination c.in-LoadSigned.base _ c.load_signed_into.result c.load_signed_into.new.self y c.in-LoadSigned.is
    (λ o p e h short within. c.load_signed_into.ensures.lent o p (same ∙ e) short h within)
    (λ p h m. c.load_signed_into.ensures.stack p (subst (λ (z : ℤ). IsStackByte p (cast_unsigned w64 z) (register_at c.args.self.now.registers c.in-LoadSigned.base)) (sym same) h) m)

pub returns-in-Store-clause-stores : goal.returns-in-Store-clause-stores
returns-in-Store-clause-stores c = λ p count h.
    let fits : SFits w16 c.in-Store.offset = search rules in
    let same = to_z-of_z w16 c.in-Store.offset fits in
    let row = stored_is c.args.self.now c.args.insn.now p count c.in-Store.size c.in-Store.base _ c.in-Store.value h c.in-Store.is in
    let given = c.store_at.ensures.stores p (subst (λ (z : ℤ). IsStackByte p (cast_unsigned w64 z) (register_at c.args.self.now.registers c.in-Store.base)) (sym same) row.0) row.1 row.2 in
    (given.0, subst (λ (n : ℕ). IfOk c.store_at.result (λ flow. IfSome (after flow c.store_at.new.self) (λ b. StoresSlots p n c.args.self.now.stack b.stack))) row.3 given.1)

pub returns-in-Store-clause-spills : goal.returns-in-Store-clause-spills
returns-in-Store-clause-spills c = λ i known h.
    let fits : SFits w16 c.in-Store.offset = search rules in
    let same = to_z-of_z w16 c.in-Store.offset fits in
    let row = spilled_is c.args.self.now c.args.insn.now i known c.in-Store.size c.in-Store.base _ c.in-Store.value h c.in-Store.is in
    c.store_at.ensures.spills i row.0 known (subst (λ (z : ℤ). IsStackByte (8 * i) (cast_unsigned w64 z) (register_at c.args.self.now.registers c.in-Store.base)) (sym same) row.1) row.2 row.3 row.4 row.5

pub returns-in-Jump-clause-set : goal.returns-in-Jump-clause-set
returns-in-Jump-clause-set c = λ unset. subst (λ (i : Insn). HasUnset c.args.self.now (read_by i)) c.in-Jump.is unset

pub returns-in-JumpLong-clause-set : goal.returns-in-JumpLong-clause-set
returns-in-JumpLong-clause-set c = λ unset. subst (λ (i : Insn). HasUnset c.args.self.now (read_by i)) c.in-JumpLong.is unset

pub returns-in_err-exit-in-Exit-clause-unset : goal.returns-in_err-exit-in-Exit-clause-unset
returns-in_err-exit-in-Exit-clause-unset c =
    passed c.from_residual.result c.in_err-exit-in-Exit.field-0.0 (λ e. (e ≡ UnsetRegister) ↔ HasUnset c.args.self.now (read_by c.args.insn.now)) c.from_residual.ensures.1
    (subst (λ (i : Insn). (c.in_err-exit-in-Exit.field-0.0 ≡ UnsetRegister) ↔ HasUnset c.args.self.now (read_by i)) (sym c.in-Exit.is) c.in_err-exit-in-Exit.ensures.unset)

pub returns-in_ok-exit-in-Exit-clause-set : goal.returns-in_ok-exit-in-Exit-clause-set
returns-in_ok-exit-in-Exit-clause-set c = λ unset. c.in_ok-exit-in-Exit.ensures.set (subst (λ (i : Insn). HasUnset c.args.self.now (read_by i)) c.in-Exit.is unset)

pub returns-in-Compute-clause-rule : goal.returns-in-Compute-clause-rule
unfolding stepped
returns-in-Compute-clause-rule c = stepped_at c.args.profile c.args.self.now _ _ c.arithmetic.result c.arithmetic.new.self c.in-Compute.is c.arithmetic.ensures.rule

pub returns-in-Negate-clause-rule : goal.returns-in-Negate-clause-rule
unfolding stepped
returns-in-Negate-clause-rule c = stepped_at c.args.profile c.args.self.now _ _ c.negate.result c.negate.new.self c.in-Negate.is c.negate.ensures.rule

pub returns-in-Extend-clause-rule : goal.returns-in-Extend-clause-rule
unfolding stepped
returns-in-Extend-clause-rule c = stepped_at c.args.profile c.args.self.now _ _ c.extend.result c.extend.new.self c.in-Extend.is c.extend.ensures.rule

pub returns-in-Convert-clause-rule : goal.returns-in-Convert-clause-rule
unfolding stepped
returns-in-Convert-clause-rule c = stepped_at c.args.profile c.args.self.now _ _ c.convert.result c.convert.new.self c.in-Convert.is c.convert.ensures.rule

pub returns-in-Load-clause-rule : goal.returns-in-Load-clause-rule
unfolding stepped
returns-in-Load-clause-rule c =
    let fits : SFits w16 c.in-Load.offset = search rules in
    let is = c.in-Load.is ∙ ap (λ (z : ℤ). Load c.in-Load.size c.in-Load.destination c.in-Load.base z) (sym (to_z-of_z w16 c.in-Load.offset fits)) in
    stepped_at c.args.profile c.args.self.now _ _ c.load_into.result c.load_into.new.self is c.load_into.ensures.rule

pub returns-in-LoadSigned-clause-rule : goal.returns-in-LoadSigned-clause-rule
unfolding stepped
returns-in-LoadSigned-clause-rule c =
    let fits : SFits w16 c.in-LoadSigned.offset = search rules in
    let is = c.in-LoadSigned.is ∙ ap (λ (z : ℤ). LoadSigned c.in-LoadSigned.size c.in-LoadSigned.destination c.in-LoadSigned.base z) (sym (to_z-of_z w16 c.in-LoadSigned.offset fits)) in
    stepped_at c.args.profile c.args.self.now _ _ c.load_signed_into.result c.load_signed_into.new.self is c.load_signed_into.ensures.rule

pub returns-in-Store-clause-rule : goal.returns-in-Store-clause-rule
unfolding stepped
returns-in-Store-clause-rule c =
    let fits : SFits w16 c.in-Store.offset = search rules in
    let is = c.in-Store.is ∙ ap (λ (z : ℤ). Store c.in-Store.size c.in-Store.base z c.in-Store.value) (sym (to_z-of_z w16 c.in-Store.offset fits)) in
    stepped_at c.args.profile c.args.self.now _ _ c.store_at.result c.store_at.new.self is c.store_at.ensures.rule

pub returns-in-LoadWide-clause-rule : goal.returns-in-LoadWide-clause-rule
unfolding stepped
returns-in-LoadWide-clause-rule c = stepped_at c.args.profile c.args.self.now _ _ (Ok c.load_wide.result) c.load_wide.new.self c.in-LoadWide.is (c.load_wide.result, refl, c.load_wide.ensures.rule)

pub returns-in-Jump-clause-rule : goal.returns-in-Jump-clause-rule
unfolding stepped
returns-in-Jump-clause-rule c = stepped_at c.args.profile c.args.self.now _ _ (Ok Live) c.args.self.now c.in-Jump.is (stands c.args.self.now)

pub returns-in-JumpLong-clause-rule : goal.returns-in-JumpLong-clause-rule
unfolding stepped
returns-in-JumpLong-clause-rule c = stepped_at c.args.profile c.args.self.now _ _ (Ok Live) c.args.self.now c.in-JumpLong.is (stands c.args.self.now)

pub returns-in_err-exit-in-Exit-clause-rule : goal.returns-in_err-exit-in-Exit-clause-rule
unfolding stepped
returns-in_err-exit-in-Exit-clause-rule c =
    stepped_at c.args.profile c.args.self.now _ _ c.from_residual.result c.args.self.now c.in-Exit.is
    (exit_refused c.args.self.now _ c.in_err-exit-in-Exit.field-0.0 _ (sym c.exit.ensures.rule ∙ c.in_err-exit-in-Exit.was) (out_is _ _ c.from_residual.ensures.1))

pub returns-in_ok-exit-in-Exit-clause-rule : goal.returns-in_ok-exit-in-Exit-clause-rule
unfolding stepped
returns-in_ok-exit-in-Exit-clause-rule c =
    stepped_at c.args.profile c.args.self.now _ _ (Ok Live) c.args.self.now c.in-Exit.is (exits c.args.self.now _ (sym c.exit.ensures.rule ∙ c.in_ok-exit-in-Exit.was))

use Rattle.std.proofs.Common.{◌≡◌, ◌+◌, Some, refl, sym, ap, ◌∙◌, subst, arith, ◌↔◌}
use Rattle.bpf_words.specs.Flow.{jump_of}
use Rattle.abstract_state.specs.State.{lengths_of, does}
use Rattle.tracked_state.specs.Tracked.{WithinTracked, tracked_of}
use Rattle.tracked_state.specs.Tracking.{after_tracked}
use Rattle.verifier.specs.Waiting.{waiting_at}
use Rattle.verifier.proofs.Passing.{jump_advances, straight, lands_advances}
use Rattle.bpf_words.specs.Flow.{read_by}
use Rattle.abstract_state.specs.Unset.{HasUnset}
use Rattle.abstract_state.specs.declared.refusal.Refusal.TheVariants.{UnsetRegister}
use Rattle.verifier.proofs.Arising.{refused_for, not_refused}
use Rattle.std.proofs.Common.{Ok, Err}
use Rattle.abstract_state.specs.Addresses.{answer_of}
use Rattle.std.proofs.Common.{None}
use Rattle.verifier.specs.Decides.{led, ways}
use Rattle.verifier.proofs.Deciding.{own, leads_jump, leads_long, leads_exit, passes_jump, passes_exit, passes_straight, step_refused}
use Rattle.verifier.proofs.walk.pass.Goals as goal
use Rattle.std.proofs.lemmas.Bool.{false≢true}
use Rattle.abstract_state.specs.Steps.{after}
use Rattle.bpf_words.specs.Flow.{written_by}
use Rattle.bpf_words.specs.declared.instruction.Insn.{Insn}
use Rattle.verifier.specs.Arises.{Leaves}
use Rattle.verifier.proofs.Waits.{state_later, stepped_below}
use Rattle.verifier.proofs.Taking.{step_granted, exit_granted, live_after, step_takes, jump_takes}
use Rattle.verifier.proofs.Arising.{jump_target, jump_arises, step_falls, no_falls}

pub add-requires : goal.add-requires
add-requires c =
    let jumps = ap jump_of c.in-Jump.is in
    let j = c.requires.jumps _ jumps in
    let t : c.target.result ≡ c.args.slot + 1 + j.0 = c.target.ensures j.0 (jumps ∙ ap Some j.1) in
    let below = j.2 in
    omega arith

pub add-requires-in-JumpLong : goal.add-requires-in-JumpLong
add-requires-in-JumpLong c =
    let jumps = ap jump_of c.in-JumpLong.is in
    let j = c.requires.jumps _ jumps in
    let t : c.target-in-JumpLong.result ≡ c.args.slot + 1 + j.0 = c.target-in-JumpLong.ensures j.0 (jumps ∙ ap Some j.1) in
    let below = j.2 in
    omega arith

pub returns-in_ok-add-in-Jump-clause-sound : goal.returns-in_ok-add-in-Jump-clause-sound
returns-in_ok-add-in-Jump-clause-sound c = λ marks span s which contains.
    let jumps = ap jump_of c.in-Jump.is in
    let j = c.requires.jumps _ jumps in
    let t : c.target.result ≡ c.args.slot + 1 + j.0 = c.target.ensures j.0 (jumps ∙ ap Some j.1) in
    jump_advances span s c.args.slot j.0 c.args.insn.now _ c.add.new.self (ap (does span s) c.in-Jump.is) jumps j.1
    (subst (λ k. WithinTracked (waiting_at c.add.new.self k) (lengths_of span) s) t (c.in_ok-add-in-Jump.ensures.added (lengths_of span) s contains))

pub returns-in_ok-add-in-JumpLong-clause-sound : goal.returns-in_ok-add-in-JumpLong-clause-sound
returns-in_ok-add-in-JumpLong-clause-sound c = λ marks span s which contains.
    let jumps = ap jump_of c.in-JumpLong.is in
    let j = c.requires.jumps _ jumps in
    let t : c.target-in-JumpLong.result ≡ c.args.slot + 1 + j.0 = c.target-in-JumpLong.ensures j.0 (jumps ∙ ap Some j.1) in
    jump_advances span s c.args.slot j.0 c.args.insn.now _ c.add-in-JumpLong.new.self (ap (does span s) c.in-JumpLong.is) jumps j.1
    (subst (λ k. WithinTracked (waiting_at c.add-in-JumpLong.new.self k) (lengths_of span) s) t (c.in_ok-add-in-JumpLong.ensures.added (lengths_of span) s contains))

pub returns-in_ok-step-in_default : goal.returns-in_ok-step-in_default
returns-in_ok-step-in_default c = record {
  size = refl;
  kept = λ slot lengths s waits. waits;
  below = λ marks waits. (waits, stepped_below c.args.profile (c.args.slot + 1) c.in_ok-step-in_default.field-0 c.step.new.self (record { origins = c.in_ok-step-in_default.ensures.below (c.args.slot + 1) (omega arith) marks.origins; unfollowed = λ few. c.in_ok-step-in_default.ensures.untracked (marks.unfollowed few) }));
  floor = λ granted. tt;
  unset = λ fault is. absurd (cc);
  rule = λ w waits.
      passes_straight c.args.profile c.args.slot c.args.insn.now (tracked_of c.args.state.now) w (Ok c.in_ok-step-in_default.field-0) c.in_ok-step-in_default.field-0 c.step.new.self c.args.waiting.now
      (straight c.args.insn.now c.in_default.not-Jump c.in_default.not-JumpLong c.in_default.not-Branch c.in_default.not-Exit) refl c.in_ok-step-in_default.ensures.rule waits;
  refuses = λ fault is. absurd (cc);
  arises = λ program starts marks from all.
      let is = straight c.args.insn.now c.in_default.not-Jump c.in_default.not-JumpLong c.in_default.not-Branch c.in_default.not-Exit in (
        all,
        step_falls c.args.profile program c.args.slot c.args.insn.now c.args.state.now.state (after_tracked c.in_ok-step-in_default.field-0 c.step.new.self) is starts from
            (λ b live. step_takes c.args.profile c.args.state.now.state b.state c.args.insn.now (after c.in_ok-step-in_default.field-0 c.step.new.self.state) is (live_after c.in_ok-step-in_default.field-0 c.step.new.self b live) c.in_ok-step-in_default.ensures.carries c.in_ok-step-in_default.ensures.others c.in_ok-step-in_default.ensures.memory (λ p count row. (c.in_ok-step-in_default.ensures.stores p count row).1) (λ i known row. (c.in_ok-step-in_default.ensures.spills i known row).1) (λ d fact row. (c.in_ok-step-in_default.ensures.yields d fact row).1) c.in_ok-step-in_default.ensures.set),
      );
  sound = λ marks span s which contains.
      lands_advances c.args.insn.now (lengths_of span) c.args.slot _ c.args.waiting.now _
      (straight c.args.insn.now c.in_default.not-Jump c.in_default.not-JumpLong c.in_default.not-Branch c.in_default.not-Exit)
      (c.in_ok-step-in_default.ensures.sound marks.origins span s which contains);
}

pub returns-in_ok-add-in-Jump-clause-arises : goal.returns-in_ok-add-in-Jump-clause-arises
returns-in_ok-add-in-Jump-clause-arises c = λ program starts marks from all.
    let jumps = ap jump_of c.in-Jump.is in
    let j = c.requires.jumps _ jumps in
    let t : c.target.result ≡ c.args.slot + 1 + j.0 = c.target.ensures j.0 (jumps ∙ ap Some j.1) in
    let a = c.args.state.now.state in
    let stays = subst (λ (i : Insn). Leaves c.args.profile a i a) (sym c.in-Jump.is) (refl, (refl, refl)) in
    let reads = subst (λ (i : Insn). HasUnset a (read_by i) → ⊥) (sym c.in-Jump.is) (λ none. none) in
    let takes = jump_takes c.args.profile a c.args.insn.now _ (ap written_by c.in-Jump.is) jumps stays reads in
    let there = jump_arises c.args.profile program c.args.slot j.0 c.target.result c.args.insn.now _ a a starts from jumps j.1 t takes in (
      c.in_ok-add-in-Jump.ensures.arises c.args.profile program all (jump_target program c.args.slot j.0 c.target.result c.args.insn.now _ starts jumps j.1 t)
          there,
      no_falls c.args.profile program c.args.slot c.args.insn.now,
    )

pub returns-in_ok-add-in-JumpLong-clause-arises : goal.returns-in_ok-add-in-JumpLong-clause-arises
returns-in_ok-add-in-JumpLong-clause-arises c = λ program starts marks from all.
    let jumps = ap jump_of c.in-JumpLong.is in
    let j = c.requires.jumps _ jumps in
    let t : c.target-in-JumpLong.result ≡ c.args.slot + 1 + j.0 = c.target-in-JumpLong.ensures j.0 (jumps ∙ ap Some j.1) in
    let a = c.args.state.now.state in
    let stays = subst (λ (i : Insn). Leaves c.args.profile a i a) (sym c.in-JumpLong.is) (refl, (refl, refl)) in
    let reads = subst (λ (i : Insn). HasUnset a (read_by i) → ⊥) (sym c.in-JumpLong.is) (λ none. none) in
    let takes = jump_takes c.args.profile a c.args.insn.now _ (ap written_by c.in-JumpLong.is) jumps stays reads in
    let there = jump_arises c.args.profile program c.args.slot j.0 c.target-in-JumpLong.result c.args.insn.now _ a a starts from jumps j.1 t takes in (
      c.in_ok-add-in-JumpLong.ensures.arises c.args.profile program all (jump_target program c.args.slot j.0 c.target-in-JumpLong.result c.args.insn.now _ starts jumps j.1 t)
          there,
      no_falls c.args.profile program c.args.slot c.args.insn.now,
    )

pub returns-in_err-step-in_default-clause-floor : goal.returns-in_err-step-in_default-clause-floor
returns-in_err-step-in_default-clause-floor c = λ granted.
    absurd (false≢true
    (step_granted c.args.profile c.args.state.now.state c.args.insn.now _ (straight c.args.insn.now c.in_default.not-Jump c.in_default.not-JumpLong c.in_default.not-Branch c.in_default.not-Exit)
    c.in_err-step-in_default.ensures.floor
    (λ d fact row. (c.in_err-step-in_default.ensures.yields d fact row).0)
    (λ p count row. (c.in_err-step-in_default.ensures.stores p count row).0)
    (λ i known row. (c.in_err-step-in_default.ensures.spills i known row).0)
    granted))

pub returns-in_err-exit-in-Exit-clause-floor : goal.returns-in_err-exit-in-Exit-clause-floor
returns-in_err-exit-in-Exit-clause-floor c = λ granted. absurd (false≢true (c.in_err-exit-in-Exit.ensures.floor (exit_granted c.args.profile c.args.state.now.state c.args.insn.now c.in-Exit.is granted)))

pub returns-in_err-add-in-Jump-clause-unset : goal.returns-in_err-add-in-Jump-clause-unset
returns-in_err-add-in-Jump-clause-unset c = λ fault is. not_refused c.from_residual.result fault _ c.from_residual.ensures.1 is

pub returns-in_err-add-in-JumpLong-clause-unset : goal.returns-in_err-add-in-JumpLong-clause-unset
returns-in_err-add-in-JumpLong-clause-unset c = λ fault is. not_refused c.from_residual-in_err-add-in-JumpLong.result fault _ c.from_residual-in_err-add-in-JumpLong.ensures.1 is

pub returns-in_err-exit-in-Exit-clause-unset : goal.returns-in_err-exit-in-Exit-clause-unset
returns-in_err-exit-in-Exit-clause-unset c = λ fault is.
    refused_for c.from_residual-in_err-exit-in-Exit.result c.in_err-exit-in-Exit.field-0.0 fault (λ fault. (fault ≡ UnsetRegister) ↔ HasUnset c.args.state.now.state (read_by c.args.insn.now)) c.from_residual-in_err-exit-in-Exit.ensures.1
    (subst (λ (i : Insn). (c.in_err-exit-in-Exit.field-0.0 ≡ UnsetRegister) ↔ HasUnset c.args.state.now.state (read_by i)) (sym c.in-Exit.is) c.in_err-exit-in-Exit.ensures.unset) is

pub returns-in_err-step-in_default-clause-unset : goal.returns-in_err-step-in_default-clause-unset
returns-in_err-step-in_default-clause-unset c = λ fault is.
    refused_for c.from_residual-in_err-step-in_default.result c.in_err-step-in_default.field-0.0 fault (λ fault. (fault ≡ UnsetRegister) ↔ HasUnset c.args.state.now.state (read_by c.args.insn.now)) c.from_residual-in_err-step-in_default.ensures.1 c.in_err-step-in_default.ensures.unset is

pub returns-in_ok-add-in-Jump-clause-rule : goal.returns-in_ok-add-in-Jump-clause-rule
returns-in_ok-add-in-Jump-clause-rule c = λ w waits.
    let jumps = ap jump_of c.in-Jump.is in
    let j = c.requires.jumps _ jumps in
    let t : c.target.result ≡ c.args.slot + 1 + j.0 = c.target.ensures j.0 (jumps ∙ ap Some j.1) in
    let s = tracked_of c.args.state.now in
    passes_jump c.args.profile c.args.slot j.0 c.target.result c.args.insn.now _ s w c.add.new.self (leads_jump c.args.profile c.args.slot c.args.insn.now _ s c.in-Jump.is) jumps j.1 t
    (c.in_ok-add-in-Jump.ensures.rule (c.args.slot + 1) w s waits (omega (arith, t)) (own c.args.state.now))

pub returns-in_ok-add-in-JumpLong-clause-rule : goal.returns-in_ok-add-in-JumpLong-clause-rule
returns-in_ok-add-in-JumpLong-clause-rule c = λ w waits.
    let jumps = ap jump_of c.in-JumpLong.is in
    let j = c.requires.jumps _ jumps in
    let t : c.target-in-JumpLong.result ≡ c.args.slot + 1 + j.0 = c.target-in-JumpLong.ensures j.0 (jumps ∙ ap Some j.1) in
    let s = tracked_of c.args.state.now in
    passes_jump c.args.profile c.args.slot j.0 c.target-in-JumpLong.result c.args.insn.now _ s w c.add-in-JumpLong.new.self (leads_long c.args.profile c.args.slot c.args.insn.now _ s c.in-JumpLong.is) jumps j.1 t
    (c.in_ok-add-in-JumpLong.ensures.rule (c.args.slot + 1) w s waits (omega (arith, t)) (own c.args.state.now))

pub returns-in_ok-exit-in-Exit-clause-rule : goal.returns-in_ok-exit-in-Exit-clause-rule
returns-in_ok-exit-in-Exit-clause-rule c = λ w waits.
    passes_exit c.args.profile c.args.slot c.args.insn.now _ (tracked_of c.args.state.now) w c.args.waiting.now c.in-Exit.is (sym c.in_ok-exit-in-Exit.ensures.rule) waits

pub returns-in_err-add-in-Jump-clause-refuses : goal.returns-in_err-add-in-Jump-clause-refuses
returns-in_err-add-in-Jump-clause-refuses c = λ fault is. not_refused c.from_residual.result fault _ c.from_residual.ensures.1 is

pub returns-in_err-add-in-JumpLong-clause-refuses : goal.returns-in_err-add-in-JumpLong-clause-refuses
returns-in_err-add-in-JumpLong-clause-refuses c = λ fault is. not_refused c.from_residual-in_err-add-in-JumpLong.result fault _ c.from_residual-in_err-add-in-JumpLong.ensures.1 is

pub returns-in_err-exit-in-Exit-clause-refuses : goal.returns-in_err-exit-in-Exit-clause-refuses
returns-in_err-exit-in-Exit-clause-refuses c = λ fault is.
    let s = tracked_of c.args.state.now in
    refused_for c.from_residual-in_err-exit-in-Exit.result c.in_err-exit-in-Exit.field-0.0 fault (λ fault. led c.args.profile c.args.slot c.args.insn.now s ≡ Err fault) c.from_residual-in_err-exit-in-Exit.ensures.1
    (leads_exit c.args.profile c.args.slot c.args.insn.now s c.in-Exit.is ∙ ap (answer_of (λ d. ways None None)) (sym c.in_err-exit-in-Exit.ensures.rule)) is

pub returns-in_err-step-in_default-clause-refuses : goal.returns-in_err-step-in_default-clause-refuses
returns-in_err-step-in_default-clause-refuses c = λ fault is.
    let s = tracked_of c.args.state.now in
    refused_for c.from_residual-in_err-step-in_default.result c.in_err-step-in_default.field-0.0 fault (λ fault. led c.args.profile c.args.slot c.args.insn.now s ≡ Err fault) c.from_residual-in_err-step-in_default.ensures.1
    (step_refused c.args.profile c.args.slot c.args.insn.now s (Err c.in_err-step-in_default.field-0.0) c.in_err-step-in_default.field-0.0 c.step.new.self
    (straight c.args.insn.now c.in_default.not-Jump c.in_default.not-JumpLong c.in_default.not-Branch c.in_default.not-Exit) refl c.in_err-step-in_default.ensures.rule) is

pub returns-in_ok-add-in-Jump-clause-below : goal.returns-in_ok-add-in-Jump-clause-below
returns-in_ok-add-in-Jump-clause-below c = λ marks waits.
    let jumps = ap jump_of c.in-Jump.is in
    let j = c.requires.jumps _ jumps in
    let t : c.target.result ≡ c.args.slot + 1 + j.0 = c.target.ensures j.0 (jumps ∙ ap Some j.1) in
    let there = state_later c.args.profile c.args.slot c.target.result c.args.state.now (omega (arith, t)) marks in
    (c.in_ok-add-in-Jump.ensures.below c.args.profile waits there, tt)

pub returns-in_ok-add-in-JumpLong-clause-below : goal.returns-in_ok-add-in-JumpLong-clause-below
returns-in_ok-add-in-JumpLong-clause-below c = λ marks waits.
    let jumps = ap jump_of c.in-JumpLong.is in
    let j = c.requires.jumps _ jumps in
    let t : c.target-in-JumpLong.result ≡ c.args.slot + 1 + j.0 = c.target-in-JumpLong.ensures j.0 (jumps ∙ ap Some j.1) in
    let there = state_later c.args.profile c.args.slot c.target-in-JumpLong.result c.args.state.now (omega (arith, t)) marks in
    (c.in_ok-add-in-JumpLong.ensures.below c.args.profile waits there, tt)

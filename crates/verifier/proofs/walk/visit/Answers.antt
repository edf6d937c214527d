use Rattle.std.proofs.Common.{Option, None, Some}
use Rattle.abstract_state.specs.State.{lengths_of}
use Rattle.tracked_state.specs.Tracking.{after_tracked}
use Rattle.verifier.proofs.Walking.{arrived, passed, skipped}
use Rattle.std.proofs.Common.{subst, sym}
use Rattle.tracked_state.specs.Tracked.{TrackedSituation}
use Rattle.verifier.specs.Decides.{arrived as arriving, Refuses}
use Rattle.verifier.specs.Decided.{Passes}
use Rattle.verifier.proofs.Decided.{arrives_at, arrives_nowhere, waits_beyond, passes_dead, names_here}
use Rattle.verifier.proofs.walk.visit.Goals as goal
use Rattle.std.proofs.Common.{refl, inl, inr, Err, ap}
use Rattle.tracked_state.specs.declared.stop.Stop.{Stop}
use Rattle.verifier.proofs.Arising.{falls_here, falls_next, dead_falls}
use Rattle.verifier.proofs.Listing.{lists_dead, lists_more}
use Rattle.verifier.proofs.Reaching.{all_joined, covers_passed, tracked_runs}
use Rattle.verifier.proofs.Waits.{within_some}

pub returns-in_default-clause-follows : goal.returns-in_default-clause-follows
returns-in_default-clause-follows c = λ program paired structured starts marks waits follows.
    skipped c.args.profile program c.args.slot None c.arrive.new.self
    (arrived c.args.profile program c.args.slot c.args.insn.now (after_tracked c.args.flow c.args.state.now) None c.args.waiting.now c.arrive.new.self starts
    c.in_default.ensures.falls c.in_default.ensures.arrives c.in_default.ensures.others follows)

pub returns-in-Ok-clause-follows : goal.returns-in-Ok-clause-follows
returns-in-Ok-clause-follows c = λ program paired structured starts marks waits follows.
    passed c.args.profile program c.args.slot c.args.insn.now c.arrive.new.state (after_tracked c.in-Ok.next c.pass.new.state) c.arrive.new.self c.pass.new.waiting paired structured starts
    c.in-Ok.ensures.kept (c.in-Ok.ensures.sound (c.in-Live.ensures.below c.args.profile waits marks))
    (arrived c.args.profile program c.args.slot c.args.insn.now (after_tracked c.args.flow c.args.state.now) _ c.args.waiting.now c.arrive.new.self starts
    c.in-Live.ensures.falls c.in-Live.ensures.arrives c.in-Live.ensures.others follows)

pub returns-in_default-clause-floor : goal.returns-in_default-clause-floor
returns-in_default-clause-floor c = λ program paired structured starts marks waits all falls covers.
    let a = c.in_default.ensures.arises c.args.profile program all (falls_here c.args.profile program c.args.slot c.args.insn.now (after_tracked c.args.flow c.args.state.now) starts falls) in
    (tt, (a.0, dead_falls c.args.profile program c.args.slot))

pub returns-in-Ok-clause-floor : goal.returns-in-Ok-clause-floor
returns-in-Ok-clause-floor c = λ program paired structured starts marks waits all falls covers.
    let a = c.in-Live.ensures.arises c.args.profile program all (falls_here c.args.profile program c.args.slot c.args.insn.now (after_tracked c.args.flow c.args.state.now) starts falls) in
    let p = c.in-Ok.ensures.arises program starts (c.in-Live.ensures.below c.args.profile waits marks) (a.1 c.arrive.new.state refl) a.0 in
    (tt, (p.0, falls_next c.args.profile program c.args.slot c.args.insn.now (after_tracked c.in-Ok.next c.pass.new.state) paired structured starts p.1))

pub returns-in-Err-Refused-clause-floor : goal.returns-in-Err-Refused-clause-floor
returns-in-Err-Refused-clause-floor c = λ program paired structured starts marks waits all falls covers.
    let a = c.in-Live.ensures.arises c.args.profile program all (falls_here c.args.profile program c.args.slot c.args.insn.now (after_tracked c.args.flow c.args.state.now) starts falls) in (
      inr (
        record {
          slot = c.args.slot;
          state = c.arrive.new.state.state;
          insn = c.args.insn.now;
          arises = a.1 c.arrive.new.state refl;
          contains = tracked_runs c.args.profile program c.args.slot (Some c.arrive.new.state) (all_joined c.args.profile program c.args.slot (after_tracked c.args.flow c.args.state.now)
              (Some c.arrive.new.state) c.args.waiting.now structured c.in-Live.ensures.falls
              c.in-Live.ensures.arrives covers);
          starts = starts;
          refused = λ granted. let only = c.in-Err-Refused.ensures.floor granted in absurd (cc (only, c.in-Err-Refused.field-0-is));
          fault = c.in-Err-Refused.fault;
          unset = c.in-Err-Refused.ensures.unset c.in-Err-Refused.fault (ap (λ (stop : Stop). Err stop) c.in-Err-Refused.field-0-is);
        },
        refl,
      ),
      tt,
    )

pub returns-in-Err-OutOfMemory-clause-floor : goal.returns-in-Err-OutOfMemory-clause-floor
returns-in-Err-OutOfMemory-clause-floor c = λ program paired structured starts marks waits all falls covers. (inl refl, tt)

pub returns-in_default-clause-covers : goal.returns-in_default-clause-covers
returns-in_default-clause-covers c = λ program paired structured starts marks waits covers.
    covers_passed c.args.profile program c.args.slot c.args.insn.now (after_tracked c.args.flow c.args.state.now) None None c.args.waiting.now c.arrive.new.self c.arrive.new.self paired structured starts
    c.in_default.ensures.falls c.in_default.ensures.arrives c.in_default.ensures.others (λ slot lengths s waits. waits) (λ span s which within. absurd (let is = within.1 in cc)) covers

pub returns-in-Ok-clause-covers : goal.returns-in-Ok-clause-covers
returns-in-Ok-clause-covers c = λ program paired structured starts marks waits covers.
    covers_passed c.args.profile program c.args.slot c.args.insn.now (after_tracked c.args.flow c.args.state.now) (Some c.arrive.new.state) (after_tracked c.in-Ok.next c.pass.new.state) c.args.waiting.now c.arrive.new.self c.pass.new.waiting paired structured starts
    c.in-Live.ensures.falls c.in-Live.ensures.arrives c.in-Live.ensures.others c.in-Ok.ensures.kept
    (λ span s which within. c.in-Ok.ensures.sound (c.in-Live.ensures.below c.args.profile waits marks) span s which (within_some (Some c.arrive.new.state) c.arrive.new.state (lengths_of span) s refl within)) covers

pub returns-in_default-clause-lists : goal.returns-in_default-clause-lists
returns-in_default-clause-lists c = λ program structured starts covers below.
    lists_dead c.args.profile program c.args.slot c.args.reads.now
    (all_joined c.args.profile program c.args.slot (after_tracked c.args.flow c.args.state.now) None c.args.waiting.now structured c.in_default.ensures.falls c.in_default.ensures.arrives covers) below

pub returns-in-Ok-clause-lists : goal.returns-in-Ok-clause-lists
returns-in-Ok-clause-lists c = λ program structured starts covers below.
    lists_more c.args.profile program c.args.slot c.args.insn.now c.arrive.new.state c.args.reads.now c.add_insn.new.self starts
    (all_joined c.args.profile program c.args.slot (after_tracked c.args.flow c.args.state.now) (Some c.arrive.new.state) c.args.waiting.now structured c.in-Live.ensures.falls c.in-Live.ensures.arrives covers)
    c.add_insn.ensures.grows c.add_insn.ensures.covers below

pub returns-in_default-clause-rule : goal.returns-in_default-clause-rule
returns-in_default-clause-rule c = λ falling here w falls waits above.
    let none = arrives_nowhere c.args.profile falling here (c.in_default.ensures.rule falling here falls waits) in
    (passes_dead c.args.profile c.args.slot c.args.insn.now (arriving c.args.profile falling here) w c.arrive.new.self none (waits_beyond c.args.waiting.now c.arrive.new.self c.args.slot w c.in_default.ensures.others above), tt)

pub returns-in-Ok-clause-rule : goal.returns-in-Ok-clause-rule
returns-in-Ok-clause-rule c = λ falling here w falls waits above.
    let known = arrives_at c.args.profile c.arrive.new.state falling here c.is_whole.ensures (c.in-Live.ensures.rule falling here falls waits) in (
      subst (λ (o : Option TrackedSituation). Passes c.args.profile c.args.slot c.args.insn.now o w (after_tracked c.in-Ok.next c.pass.new.state) c.pass.new.waiting) (sym known)
          (c.in-Ok.ensures.rule w (waits_beyond c.args.waiting.now c.arrive.new.self c.args.slot w c.in-Live.ensures.others above)),
      tt,
    )

pub returns-in-Err-Refused-clause-rule : goal.returns-in-Err-Refused-clause-rule
returns-in-Err-Refused-clause-rule c = λ falling here w falls waits above.
    let known = arrives_at c.args.profile c.arrive.new.state falling here c.is_whole.ensures (c.in-Live.ensures.rule falling here falls waits) in
    let bad = c.in-Err-Refused.ensures.refuses c.in-Err-Refused.fault (ap (λ (stop : Stop). Err stop) c.in-Err-Refused.field-0-is) in (
      tt,
      names_here c.args.profile c.args.slot c.args.insn.now (arriving c.args.profile falling here) c.in-Err-Refused.fault
          (subst (λ (o : Option TrackedSituation). Refuses c.args.profile c.args.slot c.args.insn.now o c.in-Err-Refused.fault) (sym known) bad),
    )

pub returns-in-Err-OutOfMemory-clause-rule : goal.returns-in-Err-OutOfMemory-clause-rule
returns-in-Err-OutOfMemory-clause-rule c = λ falling here w falls waits above. (tt, λ at fault is. absurd (cc (is)))

pub returns-in_default-clause-marks : goal.returns-in_default-clause-marks
returns-in_default-clause-marks c = λ marks waits. (c.in_default.ensures.waits_below c.args.profile waits, tt)

pub returns-in-Ok-clause-marks : goal.returns-in-Ok-clause-marks
returns-in-Ok-clause-marks c = λ marks waits. c.in-Ok.ensures.below (c.in-Live.ensures.below c.args.profile waits marks) (c.in-Live.ensures.waits_below c.args.profile waits)

use Rattle.std.proofs.Common.{◌≡◌, ◌+◌, ◌<◌, arith, length, ◌∙◌, subst, sym, rules}
use Rattle.bpf_words.specs.Words.{program_of}
use Rattle.bpf_words.proofs.Paired.{program_of-paired}
use Rattle.tracked_state.specs.Tracking.{after_tracked}
use Rattle.verifier.specs.Walk.{Follows, JumpsWithin}
use Rattle.verifier.specs.declared.refusal.StructureFault.TheVariants.{WriteR10}
use Rattle.verifier.specs.Reaches.{Covers, ListsBelow}
use Rattle.verifier.proofs.Walking.{jumps_within, begins, stepped_over}
use Rattle.verifier.proofs.walk.walk_to.Goals.{in-Some+in_ok-flow, in_default}
use Rattle.verifier.specs.declared.refusal.VerifyError.TheVariants.{OutOfMemory}
use Rattle.verifier.specs.Awaited.{awaited_at}
use Rattle.verifier.specs.Decides.{IsAllowedBelow}
use Rattle.verifier.specs.Decided.{Awaits, NamesFirst}
use Rattle.verifier.proofs.Decided.{awaits_first, sound_first, awaits_over, awaits_second, sound_over, sound_second, names_first, waits_after, le_self}
use Rattle.verifier.proofs.walk.walk_to.Goals as goal
use Rattle.verifier.specs.Arises.{IsCause}
use Rattle.verifier.proofs.Arising.{entry_falls, second_falls, passed_on}
use Rattle.verifier.specs.Waiting.{MarksBelowIn, WaitBelow}
use Rattle.verifier.proofs.Waits.{below_later}
use Rattle.verifier.proofs.Listing.{lists_none, lists_over}
use Rattle.verifier.proofs.Reaching.{covers_begin, covers_over}

pub loop-slot-init : goal.loop-slot-init
loop-slot-init c =
    let some : 0 < length (program_of c.args.words.now) = search rules in
    record {
      size = search rules;
      follows = begins c.args.profile (program_of c.args.words.now) c.in_ok-state.state c.in_ok-waiting.waiting some (program_of-paired c.args.words.now c.len.ensures.sound) c.in_ok-state.ensures.contains;
      covers = covers_begin c.args.profile (program_of c.args.words.now) c.in_ok-state.state c.in_ok-waiting.waiting c.in_ok-state.ensures.contains;
      lists = lists_none c.args.profile (program_of c.args.words.now) c.nothing-reads.result;
      marks = (
        (λ slot. subst (MarksBelowIn c.args.profile slot) (sym (c.in_ok-waiting.ensures.nothing slot)) tt),
        record { origins = c.in_ok-state.ensures.below; unfollowed = c.in_ok-state.ensures.untracked },
      );
      waits = λ slot a e. let none = c.in_ok-waiting.ensures.nothing slot in absurd (cc);
      falls = entry_falls c.args.profile (program_of c.args.words.now) c.in_ok-state.state some (program_of-paired c.args.words.now c.len.ensures.sound) c.in_ok-state.ensures.context c.in_ok-state.ensures.frame c.in_ok-state.ensures.unset;
      awaits = awaits_first c.args.profile (program_of c.args.words.now) c.in_ok-state.state c.in_ok-waiting.waiting c.in_ok-state.ensures.rule c.in_ok-waiting.ensures.nothing;
      sound = sound_first c.args.profile (program_of c.args.words.now) c.requires.structured;
    }

pub visit-requires-clause-jumps : goal.visit-requires-clause-jumps
visit-requires-clause-jumps c =
    subst (λ n. JumpsWithin n c.loop-slot.slot c.in-Some.insn) (sym c.loop-slot.invariant.size)
    (jumps_within (program_of c.args.words.now) c.loop-slot.slot c.in-Some.insn c.requires.structured c.in-Some.ensures.value)

pub visit-requires-clause-spares : goal.visit-requires-clause-spares
visit-requires-clause-spares c = λ writes.
    let below : c.loop-slot.slot < length (program_of c.args.words.now) = search rules in
    c.requires.structured c.loop-slot.slot c.in-Some.insn below c.in-Some.ensures.value WriteR10 writes

pub loop-slot-preserved : goal.loop-slot-preserved
loop-slot-preserved c =
    elim c.match-insn.branch [
      | in-Some+in_ok-flow w ↦
          let follows : Follows c.args.profile (program_of c.args.words.now) (c.loop-slot.slot + 1) (after_tracked w.in_ok-flow.flow w.visit.new.state) w.visit.new.waiting =
          w.in_ok-flow.ensures.follows (program_of c.args.words.now) (program_of-paired c.args.words.now c.len.ensures.sound) c.requires.structured w.in-Some.ensures.value c.loop-slot.invariant.marks.1 c.loop-slot.invariant.marks.0 c.loop-slot.invariant.follows in
          let step = w.in_ok-flow.ensures.floor (program_of c.args.words.now) (program_of-paired c.args.words.now c.len.ensures.sound) c.requires.structured w.in-Some.ensures.value c.loop-slot.invariant.marks.1 c.loop-slot.invariant.marks.0 c.loop-slot.invariant.waits c.loop-slot.invariant.falls c.loop-slot.invariant.covers in
          let a = awaited_at c.args.profile (program_of c.args.words.now) c.loop-slot.slot in
          let passes = (w.in_ok-flow.ensures.rule a.falling (a.waiting c.loop-slot.slot) a.waiting c.loop-slot.invariant.awaits.falls (c.loop-slot.invariant.awaits.waits c.loop-slot.slot (le_self c.loop-slot.slot)) (waits_after c.loop-slot.waiting c.loop-slot.slot a.waiting c.loop-slot.invariant.awaits.waits)).0 in
          rw (w.waiting-is, w.state-is, w.flow-is, w.reads-is)
          (record {
            size = w.in_ok-flow.ensures.size ∙ c.loop-slot.invariant.size;
            follows = follows;
            covers = w.in_ok-flow.ensures.covers (program_of c.args.words.now) (program_of-paired c.args.words.now c.len.ensures.sound) c.requires.structured w.in-Some.ensures.value c.loop-slot.invariant.marks.1 c.loop-slot.invariant.marks.0 c.loop-slot.invariant.covers;
            lists = w.in_ok-flow.ensures.lists (program_of c.args.words.now) c.requires.structured w.in-Some.ensures.value c.loop-slot.invariant.covers c.loop-slot.invariant.lists;
            marks = w.in_ok-flow.ensures.marks c.loop-slot.invariant.marks.1 c.loop-slot.invariant.marks.0;
            waits = step.1.0;
            falls = step.1.1;
            awaits = awaits_over c.args.profile (program_of c.args.words.now) c.loop-slot.slot w.in-Some.insn (after_tracked w.in_ok-flow.flow w.visit.new.state) w.visit.new.waiting w.in-Some.ensures.value passes;
            sound = sound_over c.args.profile (program_of c.args.words.now) c.loop-slot.slot w.in-Some.insn (after_tracked w.in_ok-flow.flow w.visit.new.state) w.visit.new.waiting w.in-Some.ensures.value c.loop-slot.invariant.sound passes;
          })
      | in_default w ↦
          rw (w.waiting-is, w.state-is, w.flow-is, w.reads-is)
          (record {
            size = c.loop-slot.invariant.size;
            follows = stepped_over c.args.profile (program_of c.args.words.now) c.loop-slot.slot (after_tracked c.loop-slot.flow c.loop-slot.state) c.loop-slot.waiting w.in_default.ensures.value c.loop-slot.invariant.follows;
            covers = covers_over c.args.profile (program_of c.args.words.now) c.loop-slot.slot (after_tracked c.loop-slot.flow c.loop-slot.state) c.loop-slot.waiting w.in_default.ensures.value c.loop-slot.invariant.covers;
            lists = lists_over c.args.profile (program_of c.args.words.now) c.loop-slot.slot c.loop-slot.reads w.in_default.ensures.value c.loop-slot.invariant.lists;
            marks = (c.loop-slot.invariant.marks.0, below_later c.args.profile c.loop-slot.slot (c.loop-slot.slot + 1) (after_tracked c.loop-slot.flow c.loop-slot.state) (omega arith) c.loop-slot.invariant.marks.1);
            waits = c.loop-slot.invariant.waits;
            falls = second_falls c.args.profile (program_of c.args.words.now) c.loop-slot.slot (after_tracked c.loop-slot.flow c.loop-slot.state) w.in_default.ensures.value c.loop-slot.invariant.falls;
            awaits = awaits_second c.args.profile (program_of c.args.words.now) c.loop-slot.slot (after_tracked c.loop-slot.flow c.loop-slot.state) c.loop-slot.waiting w.in_default.ensures.value c.loop-slot.invariant.awaits.falls (waits_after c.loop-slot.waiting c.loop-slot.slot _ c.loop-slot.invariant.awaits.waits);
            sound = sound_second c.args.profile (program_of c.args.words.now) c.loop-slot.slot w.in_default.ensures.value c.loop-slot.invariant.sound;
          })
    ]

pub returns-clause-follows : goal.returns-clause-follows
returns-clause-follows c =
    let last : c.loop-slot.slot ≡ c.args.end = search rules in
    subst (λ n. Follows c.args.profile (program_of c.args.words.now) n (after_tracked c.loop-slot.flow c.loop-slot.state) c.loop-slot.waiting) last c.loop-slot.invariant.follows

pub returns-clause-covers : goal.returns-clause-covers
returns-clause-covers c =
    let last : c.loop-slot.slot ≡ c.args.end = search rules in
    subst (λ n. Covers c.args.profile (program_of c.args.words.now) n (after_tracked c.loop-slot.flow c.loop-slot.state) c.loop-slot.waiting) last c.loop-slot.invariant.covers

pub returns-clause-lists : goal.returns-clause-lists
returns-clause-lists c =
    let last : c.loop-slot.slot ≡ c.args.end = search rules in
    subst (λ n. ListsBelow c.args.profile (program_of c.args.words.now) n c.loop-slot.reads) last c.loop-slot.invariant.lists

pub returns-in_err-flow-clause-floor : goal.returns-in_err-flow-clause-floor
returns-in_err-flow-clause-floor c =
    passed_on c.from_residual-in_err-flow.result c.in_err-flow.field-0.0 (IsCause c.args.profile (program_of c.args.words.now)) c.from_residual-in_err-flow.ensures.1
    (c.in_err-flow.ensures.floor (program_of c.args.words.now) (program_of-paired c.args.words.now c.len.ensures.sound) c.requires.structured c.in-Some.ensures.value c.loop-slot.invariant.marks.1 c.loop-slot.invariant.marks.0 c.loop-slot.invariant.waits c.loop-slot.invariant.falls c.loop-slot.invariant.covers).0

pub returns-clause-awaits : goal.returns-clause-awaits
returns-clause-awaits c =
    let last : c.loop-slot.slot ≡ c.args.end = search rules in
    subst (λ n. Awaits n (after_tracked c.loop-slot.flow c.loop-slot.state) c.loop-slot.waiting (awaited_at c.args.profile (program_of c.args.words.now) n)) last c.loop-slot.invariant.awaits

pub returns-clause-passes : goal.returns-clause-passes
returns-clause-passes c =
    let last : c.loop-slot.slot ≡ c.args.end = search rules in
    subst (λ n. IsAllowedBelow c.args.profile (program_of c.args.words.now) n) last c.loop-slot.invariant.sound

pub returns-in_err-flow-clause-names : goal.returns-in_err-flow-clause-names
returns-in_err-flow-clause-names c =
    let a = awaited_at c.args.profile (program_of c.args.words.now) c.loop-slot.slot in
    passed_on c.from_residual-in_err-flow.result c.in_err-flow.field-0.0 (NamesFirst c.args.profile (program_of c.args.words.now)) c.from_residual-in_err-flow.ensures.1
    (names_first c.args.profile (program_of c.args.words.now) c.loop-slot.slot c.in-Some.insn c.in_err-flow.field-0.0 c.in-Some.ensures.value c.loop-slot.invariant.sound
    (c.in_err-flow.ensures.rule a.falling (a.waiting c.loop-slot.slot) a.waiting c.loop-slot.invariant.awaits.falls (c.loop-slot.invariant.awaits.waits c.loop-slot.slot (le_self c.loop-slot.slot)) (waits_after c.loop-slot.waiting c.loop-slot.slot a.waiting c.loop-slot.invariant.awaits.waits)).1)

pub returns-in_err-waiting-clause-names : goal.returns-in_err-waiting-clause-names
returns-in_err-waiting-clause-names c =
    passed_on c.from_residual.result OutOfMemory (NamesFirst c.args.profile (program_of c.args.words.now)) c.from_residual.ensures.1 (λ at fault is. absurd (cc (is)))

pub returns-in_err-state-clause-names : goal.returns-in_err-state-clause-names
returns-in_err-state-clause-names c =
    passed_on c.from_residual-in_err-state.result OutOfMemory (NamesFirst c.args.profile (program_of c.args.words.now)) c.from_residual-in_err-state.ensures.1 (λ at fault is. absurd (cc (is)))

pub returns-clause-marks : goal.returns-clause-marks
returns-clause-marks c =
    let last : c.loop-slot.slot ≡ c.args.end = search rules in
    subst (λ n. WaitBelow c.args.profile c.loop-slot.waiting × MarksBelowIn c.args.profile n (after_tracked c.loop-slot.flow c.loop-slot.state)) last c.loop-slot.invariant.marks

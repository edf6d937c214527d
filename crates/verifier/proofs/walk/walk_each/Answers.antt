use Rattle.std.proofs.Common.{◌≡◌, ◌+◌, ◌<◌, arith, None, Some, [], ◌∷◌, ◌++◌, length, ◌∙◌, subst, sym, ap, rules}
use Rattle.bpf_words.specs.Words.{program_of}
use Rattle.bpf_words.proofs.Paired.{program_of-paired}
use Rattle.tracked_state.specs.Tracking.{after_tracked}
use Rattle.verifier.specs.Walk.{JumpsWithin}
use Rattle.verifier.specs.declared.refusal.StructureFault.TheVariants.{WriteR10}
use Rattle.std.proofs.lemmas.Option.{slice_get_within}
use Rattle.bpf_words.specs.declared.instruction.Insn.{Insn}
use Rattle.bpf_words.specs.Flow.{StartsAt}
use Rattle.verifier.specs.Waiting.{waiting_at}
use Rattle.verifier.specs.Arises.{ArisesAt, AllArise, FallsAs, IsCause}
use Rattle.abstract_state.specs.State.{lengths_of}
use Rattle.verifier.specs.Waiting.{MarksBelowIn, WaitBelow}
use Rattle.verifier.proofs.Waits.{below_later}
use Rattle.verifier.specs.Reaches.{TracksRuns, Covers}
use Rattle.verifier.proofs.Arising.{entry_falls, falls_here, here_falls, second_falls, nothing_waits, passed_on}
use Rattle.verifier.proofs.Walking.{jumps_within}
use Rattle.verifier.proofs.Reaching.{tracked_runs, TrackRunsBelow, AriseBelow, all_joined, contain_none, contain_more, arise_none, arise_more, count_more, covers_begin, covers_over, covers_arrived}
use Rattle.verifier.proofs.walk.walk_each.Goals.{in-Some+in_ok-flow, in_default}
use Rattle.tracked_state.specs.Tracked.{IsTrackedIn}
use Rattle.verifier.specs.declared.refusal.VerifyError.TheVariants.{OutOfMemory}
use Rattle.verifier.specs.Awaited.{awaited_at}
use Rattle.verifier.specs.Decides.{IsAllowedBelow, arrived, either_way}
use Rattle.verifier.specs.Decided.{NamesFirst, NamesSlot, Passes, WaitsFrom}
use Rattle.verifier.proofs.Decided.{KnownBelow, known_none, known_more, known_is, arrived_once, awaits_first, sound_first, awaits_over, awaits_second, sound_over, sound_second, names_first, waits_beyond, waits_after, le_self}
use Rattle.verifier.proofs.walk.walk_each.Goals as goal

pub loop-slot-init : goal.loop-slot-init
loop-slot-init c =
    let some : 0 < length (program_of c.args.words.now) = search rules in
    record {
      size = search rules;
      covers = covers_begin c.args.profile (program_of c.args.words.now) c.in_ok-state.state c.in_ok-waiting.waiting c.in_ok-state.ensures.contains;
      count = search rules;
      contains = contain_none c.args.profile (program_of c.args.words.now) c.in_ok-states.states.items;
      marks = (
        (λ slot. subst (MarksBelowIn c.args.profile slot) (sym (c.in_ok-waiting.ensures.nothing slot)) tt),
        record { origins = c.in_ok-state.ensures.below; unfollowed = c.in_ok-state.ensures.untracked },
      );
      waits = λ slot a e. let none = c.in_ok-waiting.ensures.nothing slot in absurd (cc);
      falls = entry_falls c.args.profile (program_of c.args.words.now) c.in_ok-state.state some (program_of-paired c.args.words.now c.len.ensures.sound) c.in_ok-state.ensures.context c.in_ok-state.ensures.frame c.in_ok-state.ensures.unset;
      arises = arise_none c.args.profile (program_of c.args.words.now) c.in_ok-states.states.items;
      awaits = awaits_first c.args.profile (program_of c.args.words.now) c.in_ok-state.state c.in_ok-waiting.waiting c.in_ok-state.ensures.rule c.in_ok-waiting.ensures.nothing;
      sound = sound_first c.args.profile (program_of c.args.words.now) c.requires;
      known = known_none c.args.profile (program_of c.args.words.now) c.in_ok-states.states.items;
    }

pub visit-requires-clause-jumps : goal.visit-requires-clause-jumps
visit-requires-clause-jumps c =
    let size : length c.arrive-flow.new.self ≡ length (program_of c.args.words.now) = c.arrive-flow.ensures.size ∙ c.loop-slot.invariant.size in
    subst (λ n. JumpsWithin n c.loop-slot.slot c.in-Some.insn) (sym size)
    (jumps_within (program_of c.args.words.now) c.loop-slot.slot c.in-Some.insn c.requires c.in-Some.ensures.value)

pub visit-requires-clause-spares : goal.visit-requires-clause-spares
visit-requires-clause-spares c = λ writes.
    let below : c.loop-slot.slot < length (program_of c.args.words.now) = search rules in
    c.requires c.loop-slot.slot c.in-Some.insn below c.in-Some.ensures.value WriteR10 writes

pub loop-slot-preserved : goal.loop-slot-preserved
loop-slot-preserved c =
    let program = program_of c.args.words.now in
    let slot = c.loop-slot.slot in
    let falling = after_tracked c.loop-slot.flow c.loop-slot.state in
    let joined = after_tracked c.arrive-flow.result c.arrive-flow.new.state in
    let here : TracksRuns c.args.profile program slot joined =
    all_joined c.args.profile program slot falling joined c.loop-slot.waiting c.requires c.arrive-flow.ensures.falls c.arrive-flow.ensures.arrives c.loop-slot.invariant.covers in
    let covers : Covers c.args.profile program slot joined c.arrive-flow.new.self =
    covers_arrived c.args.profile program slot falling joined c.loop-slot.waiting c.arrive-flow.new.self c.arrive-flow.ensures.falls c.arrive-flow.ensures.arrives c.arrive-flow.ensures.others c.loop-slot.invariant.covers in
    let size : length c.arrive-flow.new.self ≡ length program = c.arrive-flow.ensures.size ∙ c.loop-slot.invariant.size in
    let copy = c.in_ok-known.known in
    let items : c.push.new.self.items ≡ c.loop-slot.states.items ++ copy ∷ [] = c.in_ok-push.ensures.items in
    let tracks : TracksRuns c.args.profile program slot copy = λ span s which reached at. c.in_ok-known.ensures.tracks (lengths_of span) s (here span s which reached at) in
    let counted : length c.loop-slot.states.items ≡ slot = c.loop-slot.invariant.count in
    let count : length c.push.new.self.items ≡ slot + 1 = ap length items ∙ count_more slot copy c.loop-slot.states.items counted in
    let contains : TrackRunsBelow c.args.profile program (slot + 1) c.push.new.self.items =
    subst (λ states. TrackRunsBelow c.args.profile program (slot + 1) states) (sym items) (contain_more c.args.profile program slot copy c.loop-slot.states.items counted tracks c.loop-slot.invariant.contains) in
    let waits : AllArise c.args.profile program c.arrive-flow.new.self = c.arrive-flow.ensures.waits c.args.profile program c.loop-slot.invariant.waits in
    let known : (insn : Insn) → StartsAt program slot insn → ArisesAt c.args.profile program slot joined = λ insn starts.
    (c.arrive-flow.ensures.arises c.args.profile program c.loop-slot.invariant.waits (falls_here c.args.profile program slot insn falling starts c.loop-slot.invariant.falls)).1 in
    let arises : AriseBelow c.args.profile program (slot + 1) c.push.new.self.items =
    subst (λ states. AriseBelow c.args.profile program (slot + 1) states) (sym items) (arise_more c.args.profile program slot copy c.loop-slot.states.items counted (λ insn starts. c.in_ok-known.ensures.arises c.args.profile program slot (known insn starts)) c.loop-slot.invariant.arises) in
    let a = awaited_at c.args.profile program slot in
    let awaits = c.loop-slot.invariant.awaits in
    let arrives : IsTrackedIn joined (either_way c.args.profile a.falling (a.waiting slot)) = c.arrive-flow.ensures.rule a.falling (a.waiting slot) awaits.falls (awaits.waits slot (le_self slot)) in
    let beyond : WaitsFrom (slot + 1) c.arrive-flow.new.self a.waiting = waits_beyond c.loop-slot.waiting c.arrive-flow.new.self slot a.waiting c.arrive-flow.ensures.others (waits_after c.loop-slot.waiting slot a.waiting awaits.waits) in
    let known_here : KnownBelow c.args.profile program (slot + 1) c.push.new.self.items =
    subst (λ states. KnownBelow c.args.profile program (slot + 1) states) (sym items) (known_more c.args.profile program slot copy c.loop-slot.states.items counted (known_is c.args.profile program slot copy (c.in_ok-known.ensures.rule _ arrives)) c.loop-slot.invariant.known) in
    let fell : MarksBelowIn c.args.profile slot joined = c.arrive-flow.ensures.below c.args.profile c.loop-slot.invariant.marks.0 c.loop-slot.invariant.marks.1 in
    let wait : WaitBelow c.args.profile c.arrive-flow.new.self = c.arrive-flow.ensures.waits_below c.args.profile c.loop-slot.invariant.marks.0 in
    elim c.match-insn.branch [
      | in-Some+in_ok-flow w ↦
          let step = w.in_ok-flow.ensures.floor program (program_of-paired c.args.words.now c.len.ensures.sound) c.requires w.in-Some.ensures.value fell wait waits
          (here_falls c.args.profile program slot w.in-Some.insn joined w.in-Some.ensures.value (known w.in-Some.insn w.in-Some.ensures.value)) covers in
          let next = after_tracked w.in_ok-flow.flow w.visit.new.state in
          let passes : Passes c.args.profile slot w.in-Some.insn (arrived c.args.profile a.falling (a.waiting slot)) a.waiting next w.visit.new.waiting =
          subst (λ o. Passes c.args.profile slot w.in-Some.insn o a.waiting next w.visit.new.waiting) (arrived_once c.args.profile a.falling (a.waiting slot))
          (w.in_ok-flow.ensures.rule (either_way c.args.profile a.falling (a.waiting slot)) None a.waiting arrives c.arrive-flow.ensures.taken beyond).0 in
          rw (w.waiting-is, w.state-is, w.flow-is)
          (record {
            size = w.in_ok-flow.ensures.size ∙ size;
            covers = w.in_ok-flow.ensures.covers program (program_of-paired c.args.words.now c.len.ensures.sound) c.requires w.in-Some.ensures.value fell wait covers;
            count = count;
            contains = contains;
            marks = w.in_ok-flow.ensures.marks fell wait;
            waits = step.1.0;
            falls = step.1.1;
            arises = arises;
            awaits = awaits_over c.args.profile program slot w.in-Some.insn next w.visit.new.waiting w.in-Some.ensures.value passes;
            sound = sound_over c.args.profile program slot w.in-Some.insn next w.visit.new.waiting w.in-Some.ensures.value c.loop-slot.invariant.sound passes;
            known = known_here;
          })
      | in_default w ↦
          let nothing : waiting_at c.loop-slot.waiting slot ≡ None = nothing_waits c.args.profile program slot c.loop-slot.waiting c.requires w.in_default.ensures.value c.loop-slot.invariant.waits in
          let alone : joined ≡ falling = c.arrive-flow.ensures.alone nothing in
          let falls : FallsAs c.args.profile program slot joined = subst (λ o. FallsAs c.args.profile program slot o) (sym alone) c.loop-slot.invariant.falls in
          rw (w.waiting-is, w.state-is, w.flow-is)
          (record {
            size = size;
            covers = covers_over c.args.profile program slot joined c.arrive-flow.new.self w.in_default.ensures.value covers;
            count = count;
            contains = contains;
            marks = (wait, below_later c.args.profile slot (slot + 1) joined (omega arith) fell);
            waits = waits;
            falls = second_falls c.args.profile program slot joined w.in_default.ensures.value falls;
            arises = arises;
            awaits = awaits_second c.args.profile program slot joined c.arrive-flow.new.self w.in_default.ensures.value (subst (λ o. IsTrackedIn o a.falling) (sym alone) awaits.falls) beyond;
            sound = sound_second c.args.profile program slot w.in_default.ensures.value c.loop-slot.invariant.sound;
            known = known_here;
          })
    ]

pub returns-clause-tracks : goal.returns-clause-tracks
returns-clause-tracks c =
    let last : c.loop-slot.slot ≡ length (program_of c.args.words.now) = search rules in
    subst (λ n. TrackRunsBelow c.args.profile (program_of c.args.words.now) n c.loop-slot.states.items) last c.loop-slot.invariant.contains

pub returns-clause-contains : goal.returns-clause-contains
returns-clause-contains c = λ at less.
    let last : c.loop-slot.slot ≡ length (program_of c.args.words.now) = search rules in
    tracked_runs c.args.profile (program_of c.args.words.now) at _ (c.loop-slot.invariant.contains at (subst (λ n. at < n) (sym last) less))

pub returns-clause-arises : goal.returns-clause-arises
returns-clause-arises c = λ at insn starts.
    let last : c.loop-slot.slot ≡ length (program_of c.args.words.now) = search rules in
    let below : at < c.loop-slot.slot = subst (λ n. at < n) (sym last) (slice_get_within (program_of c.args.words.now) at (Some insn) starts) in
    c.loop-slot.invariant.arises at insn below starts

pub returns-in_err-flow-clause-floor : goal.returns-in_err-flow-clause-floor
returns-in_err-flow-clause-floor c =
    let program = program_of c.args.words.now in
    let joined = after_tracked c.arrive-flow.result c.arrive-flow.new.state in
    let falling = after_tracked c.loop-slot.flow c.loop-slot.state in
    let waits : AllArise c.args.profile program c.arrive-flow.new.self = c.arrive-flow.ensures.waits c.args.profile program c.loop-slot.invariant.waits in
    let known : ArisesAt c.args.profile program c.loop-slot.slot joined =
    (c.arrive-flow.ensures.arises c.args.profile program c.loop-slot.invariant.waits (falls_here c.args.profile program c.loop-slot.slot c.in-Some.insn falling c.in-Some.ensures.value c.loop-slot.invariant.falls)).1 in
    let covers : Covers c.args.profile program c.loop-slot.slot joined c.arrive-flow.new.self =
    covers_arrived c.args.profile program c.loop-slot.slot falling joined c.loop-slot.waiting c.arrive-flow.new.self c.arrive-flow.ensures.falls c.arrive-flow.ensures.arrives c.arrive-flow.ensures.others c.loop-slot.invariant.covers in
    passed_on c.from_residual-in_err-flow.result c.in_err-flow.field-0.0 (IsCause c.args.profile program) c.from_residual-in_err-flow.ensures.1
    (c.in_err-flow.ensures.floor program (program_of-paired c.args.words.now c.len.ensures.sound) c.requires c.in-Some.ensures.value (c.arrive-flow.ensures.below c.args.profile c.loop-slot.invariant.marks.0 c.loop-slot.invariant.marks.1) (c.arrive-flow.ensures.waits_below c.args.profile c.loop-slot.invariant.marks.0) waits
    (here_falls c.args.profile program c.loop-slot.slot c.in-Some.insn joined c.in-Some.ensures.value known) covers).0

pub returns-clause-rule : goal.returns-clause-rule
returns-clause-rule c = λ at less.
    let last : c.loop-slot.slot ≡ length (program_of c.args.words.now) = search rules in
    c.loop-slot.invariant.known at (subst (λ n. at < n) (sym last) less)

pub returns-clause-passes : goal.returns-clause-passes
returns-clause-passes c =
    let last : c.loop-slot.slot ≡ length (program_of c.args.words.now) = search rules in
    subst (λ n. IsAllowedBelow c.args.profile (program_of c.args.words.now) n) last c.loop-slot.invariant.sound

pub returns-in_err-flow-clause-names : goal.returns-in_err-flow-clause-names
returns-in_err-flow-clause-names c =
    let program = program_of c.args.words.now in
    let slot = c.loop-slot.slot in
    let a = awaited_at c.args.profile program slot in
    let awaits = c.loop-slot.invariant.awaits in
    let arrives = c.arrive-flow.ensures.rule a.falling (a.waiting slot) awaits.falls (awaits.waits slot (le_self slot)) in
    let beyond = waits_beyond c.loop-slot.waiting c.arrive-flow.new.self slot a.waiting c.arrive-flow.ensures.others (waits_after c.loop-slot.waiting slot a.waiting awaits.waits) in
    let named = (c.in_err-flow.ensures.rule (either_way c.args.profile a.falling (a.waiting slot)) None a.waiting arrives c.arrive-flow.ensures.taken beyond).1 in
    passed_on c.from_residual-in_err-flow.result c.in_err-flow.field-0.0 (NamesFirst c.args.profile program) c.from_residual-in_err-flow.ensures.1
    (names_first c.args.profile program slot c.in-Some.insn c.in_err-flow.field-0.0 c.in-Some.ensures.value c.loop-slot.invariant.sound
    (subst (λ o. NamesSlot c.args.profile slot c.in-Some.insn o c.in_err-flow.field-0.0) (arrived_once c.args.profile a.falling (a.waiting slot)) named))

pub returns-in_err-states-clause-names : goal.returns-in_err-states-clause-names
returns-in_err-states-clause-names c =
    passed_on c.from_residual.result OutOfMemory (NamesFirst c.args.profile (program_of c.args.words.now)) c.from_residual.ensures.1 (λ at fault is. absurd (cc (is)))

pub returns-in_err-waiting-clause-names : goal.returns-in_err-waiting-clause-names
returns-in_err-waiting-clause-names c =
    passed_on c.from_residual-in_err-waiting.result OutOfMemory (NamesFirst c.args.profile (program_of c.args.words.now)) c.from_residual-in_err-waiting.ensures.1 (λ at fault is. absurd (cc (is)))

pub returns-in_err-push-clause-names : goal.returns-in_err-push-clause-names
returns-in_err-push-clause-names c =
    passed_on c.from_residual-in_err-push.result OutOfMemory (NamesFirst c.args.profile (program_of c.args.words.now)) c.from_residual-in_err-push.ensures.1 (λ at fault is. absurd (cc (is)))

pub returns-in_err-state-clause-names : goal.returns-in_err-state-clause-names
returns-in_err-state-clause-names c =
    passed_on c.from_residual-in_err-state.result OutOfMemory (NamesFirst c.args.profile (program_of c.args.words.now)) c.from_residual-in_err-state.ensures.1 (λ at fault is. absurd (cc (is)))

pub returns-in_err-known-clause-names : goal.returns-in_err-known-clause-names
returns-in_err-known-clause-names c =
    passed_on c.from_residual-in_err-known.result OutOfMemory (NamesFirst c.args.profile (program_of c.args.words.now)) c.from_residual-in_err-known.ensures.1 (λ at fault is. absurd (cc (is)))

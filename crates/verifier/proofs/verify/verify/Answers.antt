use Rattle.std.proofs.Common.{◌≡◌, length, sym, subst, inl, refl}
use Rattle.bpf_words.specs.Words.{program_of}
use Rattle.verifier.specs.declared.refusal.VerifyError.TheVariants.{OutOfMemory}
use Rattle.semantics.specs.Safe.{Safe, SafeIn, IsBlindToLink}
use Rattle.semantics.proofs.More.{one_verdict}
use Rattle.span_context.specs.declared.profile.Profile.{Profile}
use Rattle.span_context.specs.declared.profile.Profile.TheVariants.{Two}
use Rattle.program_reads.specs.Reads.{Determines}
use Rattle.program_reads.proofs.Narrow.{whole_spans}
use Rattle.verifier.specs.Judged.{Rejects}
use Rattle.verifier.proofs.Refusals.{no_fault, named, not_named, walk_rejects}
use Rattle.verifier.specs.Plain.{IsPlain}
use Rattle.verifier.specs.Guard.{IsGuard}
use Rattle.verifier.specs.Reaches.{IsBefore}
use Rattle.verifier.proofs.Reaching.{is_before}
use Rattle.verifier.proofs.Arising.{passed_on, only_memory, refuses_at, caused}
use Rattle.verifier.proofs.PlainRuns.{plain_grants}
use Rattle.verifier.proofs.FramedRuns.{framed_grants}
use Rattle.verifier.proofs.Unsets.{unset_named}
use Rattle.verifier.specs.Framed.{IsFramed}
use Rattle.verifier.proofs.GuardRuns.{guard_structured, guard_grants}
use Rattle.verifier.specs.Arises.{IsCause}
use Rattle.verifier.specs.Reaches.{IsStateBelow}
use Rattle.verifier.specs.Decides.{IsAllowedBelow}
use Rattle.verifier.specs.Decided.{NamesFirst}
use Rattle.verifier.proofs.Decided.{complete_of, first_of_all, named_of, within_program, not_ok, memory_names}
use Rattle.verifier.proofs.verify.verify.Goals as goal

pub returns-in-Err-clause-structure : goal.returns-in-Err-clause-structure
returns-in-Err-clause-structure c = λ slot fault. named (program_of c.args.words.now) c.in-Err.wrong.slot slot c.in-Err.wrong.fault fault c.in-Err.ensures

pub returns-in_err-reads-clause-structure : goal.returns-in_err-reads-clause-structure
returns-in_err-reads-clause-structure c = λ slot fault.
    (λ is. absurd (not_named _ _ slot fault c.from_residual.ensures.1 c.in_err-reads.ensures.states is), λ first. absurd (no_fault _ slot fault c.in_default.ensures first))

pub returns-in_err-of-clause-structure : goal.returns-in_err-of-clause-structure
returns-in_err-of-clause-structure c = λ slot fault.
    (λ is. absurd (not_named _ OutOfMemory slot fault c.from_residual-in_err-of.ensures.1 tt is), λ first. absurd (no_fault _ slot fault c.in_default.ensures first))

pub returns-clause-structure : goal.returns-clause-structure
returns-clause-structure c = λ slot fault. (λ is. absurd (cc), λ first. absurd (no_fault _ slot fault c.in_default.ensures first))

pub returns-in_err-reads-clause-plain : goal.returns-in_err-reads-clause-plain
returns-in_err-reads-clause-plain c =
    passed_on c.from_residual.result c.in_err-reads.field-0.0 (λ e. IsPlain (program_of c.args.words.now) → e ≡ OutOfMemory) c.from_residual.ensures.1
    (only_memory c.args.profile (program_of c.args.words.now) c.in_err-reads.field-0.0 (IsPlain (program_of c.args.words.now)) (plain_grants c.args.profile (program_of c.args.words.now)) c.in_err-reads.ensures.floor)

pub returns-in_err-reads-clause-guard : goal.returns-in_err-reads-clause-guard
returns-in_err-reads-clause-guard c =
    passed_on c.from_residual.result c.in_err-reads.field-0.0 (λ e. IsGuard c.args.profile (program_of c.args.words.now) → e ≡ OutOfMemory) c.from_residual.ensures.1
    (only_memory c.args.profile (program_of c.args.words.now) c.in_err-reads.field-0.0 (IsGuard c.args.profile (program_of c.args.words.now)) (guard_grants c.args.profile (program_of c.args.words.now)) c.in_err-reads.ensures.floor)

pub returns-in-Err-clause-plain : goal.returns-in-Err-clause-plain
returns-in-Err-clause-plain c = λ plain. absurd (no_fault _ _ _ plain.structured c.in-Err.ensures)

pub returns-in-Err-clause-guard : goal.returns-in-Err-clause-guard
returns-in-Err-clause-guard c = λ guard. absurd (no_fault _ _ _ (guard_structured c.args.profile _ guard) c.in-Err.ensures)

pub returns-in_err-reads-clause-before : goal.returns-in_err-reads-clause-before
returns-in_err-reads-clause-before c =
    passed_on c.from_residual.result c.in_err-reads.field-0.0 (IsBefore (length (program_of c.args.words.now))) c.from_residual.ensures.1
    (is_before (length (program_of c.args.words.now)) c.in_err-reads.field-0.0 c.in_err-reads.ensures.below)

pub returns-in-Err-clause-rejects : goal.returns-in-Err-clause-rejects
returns-in-Err-clause-rejects c = c.in-Err.ensures

pub returns-in_err-reads-clause-rejects : goal.returns-in_err-reads-clause-rejects
returns-in_err-reads-clause-rejects c =
    let program = program_of c.args.words.now in
    let e = c.in_err-reads.field-0.0 in
    passed_on c.from_residual.result e (Rejects c.args.profile program) c.from_residual.ensures.1
    (walk_rejects c.args.profile program e c.in_default.ensures c.in_err-reads.ensures.states c.in_err-reads.ensures.below
    (only_memory c.args.profile program e (IsPlain program) (plain_grants c.args.profile program) c.in_err-reads.ensures.floor)
    (only_memory c.args.profile program e (IsFramed program) (framed_grants c.args.profile program) c.in_err-reads.ensures.floor)
    (only_memory c.args.profile program e (IsGuard c.args.profile program) (guard_grants c.args.profile program) c.in_err-reads.ensures.floor)
    (λ slot fault is. caused c.args.profile program e slot fault c.in_err-reads.ensures.floor is) c.in_err-reads.ensures.names)

pub returns-in_err-of-clause-rejects : goal.returns-in_err-of-clause-rejects
returns-in_err-of-clause-rejects c =
    let program = program_of c.args.words.now in
    passed_on c.from_residual-in_err-of.result OutOfMemory (Rejects c.args.profile program) c.from_residual-in_err-of.ensures.1
    (λ slot fault first. no_fault program slot fault c.in_default.ensures first)

pub returns-clause-blind : goal.returns-clause-blind
returns-clause-blind c = λ one.
    let program = program_of c.args.words.now in
    subst IsBlindToLink (sym c.in_ok-of.ensures) (one_verdict program (subst (λ (p : Profile). SafeIn p program) one c.in_ok-reads.ensures.seen))

pub invariant_of-result : goal.invariant_of-result
invariant_of-result c = (
  subst Safe (sym c.in_ok-of.ensures) c.in_ok-reads.ensures.safe,
  subst (Determines c.in_ok-reads.reads Two) (sym c.in_ok-of.ensures) (whole_spans c.in_ok-reads.reads c.args.profile (program_of c.args.words.now) c.in_ok-reads.ensures.seen c.in_ok-reads.ensures.reads),
)

pub returns-in_err-reads-clause-refused : goal.returns-in_err-reads-clause-refused
returns-in_err-reads-clause-refused c = λ at fault is.
    refuses_at c.args.profile (program_of c.args.words.now) c.from_residual.result at fault
    (passed_on c.from_residual.result c.in_err-reads.field-0.0 (IsCause c.args.profile (program_of c.args.words.now)) c.from_residual.ensures.1 c.in_err-reads.ensures.floor) is

pub returns-in_err-of-clause-refused : goal.returns-in_err-of-clause-refused
returns-in_err-of-clause-refused c = λ at fault is.
    refuses_at c.args.profile (program_of c.args.words.now) c.from_residual-in_err-of.result at fault
    (passed_on c.from_residual-in_err-of.result OutOfMemory (IsCause c.args.profile (program_of c.args.words.now)) c.from_residual-in_err-of.ensures.1 (inl refl)) is

pub returns-in_err-reads-clause-framed : goal.returns-in_err-reads-clause-framed
returns-in_err-reads-clause-framed c =
    passed_on c.from_residual.result c.in_err-reads.field-0.0 (λ e. IsFramed (program_of c.args.words.now) → e ≡ OutOfMemory) c.from_residual.ensures.1
    (only_memory c.args.profile (program_of c.args.words.now) c.in_err-reads.field-0.0 (IsFramed (program_of c.args.words.now)) (framed_grants c.args.profile (program_of c.args.words.now)) c.in_err-reads.ensures.floor)

pub returns-in-Err-clause-framed : goal.returns-in-Err-clause-framed
returns-in-Err-clause-framed c = λ framed. absurd (no_fault _ _ _ framed.structured c.in-Err.ensures)

pub returns-in_err-reads-clause-unset : goal.returns-in_err-reads-clause-unset
returns-in_err-reads-clause-unset c = λ at fault is reads.
    let program = program_of c.args.words.now in
    unset_named c.args.profile program c.from_residual.result at fault
    (passed_on c.from_residual.result c.in_err-reads.field-0.0 (IsCause c.args.profile program)
    c.from_residual.ensures.1 c.in_err-reads.ensures.floor) is reads

pub returns-in_err-of-clause-unset : goal.returns-in_err-of-clause-unset
returns-in_err-of-clause-unset c = λ at fault is reads.
    let program = program_of c.args.words.now in
    unset_named c.args.profile program c.from_residual-in_err-of.result at fault
    (passed_on c.from_residual-in_err-of.result OutOfMemory (IsCause c.args.profile program)
    c.from_residual-in_err-of.ensures.1 (inl refl)) is reads

pub returns-in-Err-clause-complete : goal.returns-in-Err-clause-complete
returns-in-Err-clause-complete c = λ accepts. absurd (no_fault _ _ _ accepts.structured c.in-Err.ensures)

pub returns-in-Err-clause-named : goal.returns-in-Err-clause-named
returns-in-Err-clause-named c = λ slot fault first. absurd (no_fault _ _ _ first.before.structured c.in-Err.ensures)

pub returns-clause-named : goal.returns-clause-named
returns-clause-named c = λ slot fault first.
    let program = program_of c.args.words.now in
    absurd (c.in_ok-reads.ensures.passes.below slot fault (within_program c.args.profile program slot fault first) first.here)

pub returns-in_err-reads-clause-complete : goal.returns-in_err-reads-clause-complete
returns-in_err-reads-clause-complete c =
    let program = program_of c.args.words.now in
    complete_of c.args.profile program (length program) c.from_residual.result
    (passed_on c.from_residual.result c.in_err-reads.field-0.0 (IsStateBelow (length program)) c.from_residual.ensures.1 c.in_err-reads.ensures.below)
    (passed_on c.from_residual.result c.in_err-reads.field-0.0 (NamesFirst c.args.profile program) c.from_residual.ensures.1 c.in_err-reads.ensures.names)

pub returns-in_err-reads-clause-first : goal.returns-in_err-reads-clause-first
returns-in_err-reads-clause-first c = λ slot fault is.
    let program = program_of c.args.words.now in
    first_of_all c.args.profile program c.from_residual.result slot fault
    (passed_on c.from_residual.result c.in_err-reads.field-0.0 (NamesFirst c.args.profile program) c.from_residual.ensures.1 c.in_err-reads.ensures.names) is

pub returns-in_err-reads-clause-named : goal.returns-in_err-reads-clause-named
returns-in_err-reads-clause-named c = λ slot fault first.
    let program = program_of c.args.words.now in
    named_of c.args.profile program (length program) c.from_residual.result slot fault
    (passed_on c.from_residual.result c.in_err-reads.field-0.0 (IsStateBelow (length program)) c.from_residual.ensures.1 c.in_err-reads.ensures.below)
    (passed_on c.from_residual.result c.in_err-reads.field-0.0 (NamesFirst c.args.profile program) c.from_residual.ensures.1 c.in_err-reads.ensures.names)
    (not_ok c.from_residual.result _ (λ _. IsAllowedBelow c.args.profile program (length program)) c.from_residual.ensures.1)
    (within_program c.args.profile program slot fault first) first

pub returns-in_err-of-clause-complete : goal.returns-in_err-of-clause-complete
returns-in_err-of-clause-complete c =
    let program = program_of c.args.words.now in
    complete_of c.args.profile program (length program) c.from_residual-in_err-of.result
    (passed_on c.from_residual-in_err-of.result OutOfMemory (IsStateBelow (length program)) c.from_residual-in_err-of.ensures.1 tt)
    (passed_on c.from_residual-in_err-of.result OutOfMemory (NamesFirst c.args.profile program) c.from_residual-in_err-of.ensures.1 (memory_names c.args.profile (program_of c.args.words.now)))

pub returns-in_err-of-clause-first : goal.returns-in_err-of-clause-first
returns-in_err-of-clause-first c = λ slot fault is.
    let program = program_of c.args.words.now in
    first_of_all c.args.profile program c.from_residual-in_err-of.result slot fault
    (passed_on c.from_residual-in_err-of.result OutOfMemory (NamesFirst c.args.profile program) c.from_residual-in_err-of.ensures.1 (memory_names c.args.profile (program_of c.args.words.now))) is

pub returns-in_err-of-clause-named : goal.returns-in_err-of-clause-named
returns-in_err-of-clause-named c = λ slot fault first.
    let program = program_of c.args.words.now in
    named_of c.args.profile program (length program) c.from_residual-in_err-of.result slot fault
    (passed_on c.from_residual-in_err-of.result OutOfMemory (IsStateBelow (length program)) c.from_residual-in_err-of.ensures.1 tt)
    (passed_on c.from_residual-in_err-of.result OutOfMemory (NamesFirst c.args.profile program) c.from_residual-in_err-of.ensures.1 (memory_names c.args.profile (program_of c.args.words.now)))
    (not_ok c.from_residual-in_err-of.result _ (λ _. IsAllowedBelow c.args.profile program (length program)) c.from_residual-in_err-of.ensures.1)
    (within_program c.args.profile program slot fault first) first

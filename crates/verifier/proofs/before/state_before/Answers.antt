use Rattle.std.proofs.Common.{◌≡◌, arith}
use Rattle.bpf_words.specs.Words.{program_of}
use Rattle.verifier.specs.declared.refusal.VerifyError.TheVariants.{OutOfMemory}
use Rattle.verifier.specs.Plain.{IsPlain}
use Rattle.verifier.specs.Framed.{IsFramed}
use Rattle.verifier.specs.Guard.{IsGuard}
use Rattle.verifier.specs.Arises.{IsCause}
use Rattle.verifier.specs.Reaches.{IsStateBelow, IsBefore}
use Rattle.verifier.proofs.Refusals.{no_fault, named}
use Rattle.verifier.proofs.Arising.{only_memory, refuses_at}
use Rattle.verifier.proofs.PlainRuns.{plain_grants}
use Rattle.verifier.proofs.FramedRuns.{framed_grants}
use Rattle.verifier.proofs.Rejecting.{walk_refused}
use Rattle.verifier.proofs.Unsets.{unset_named}
use Rattle.verifier.proofs.GuardRuns.{guard_structured, guard_grants}
use Rattle.verifier.proofs.Reaching.{err_more, is_before, none_of_structure}
use Rattle.verifier.proofs.Decided.{complete_of, first_of_all, named_of}
use Rattle.verifier.proofs.before.state_before.Goals as goal

pub returns-in-Err-clause-structure : goal.returns-in-Err-clause-structure
returns-in-Err-clause-structure c = λ at fault. named (program_of c.args.words.now) c.in-Err.wrong.slot at c.in-Err.wrong.fault fault c.in-Err.ensures

pub returns-in-Err-clause-plain : goal.returns-in-Err-clause-plain
returns-in-Err-clause-plain c = λ plain. absurd (no_fault _ _ _ plain.structured c.in-Err.ensures)

pub returns-in-Err-clause-guard : goal.returns-in-Err-clause-guard
returns-in-Err-clause-guard c = λ guard. absurd (no_fault _ _ _ (guard_structured c.args.profile _ guard) c.in-Err.ensures)

pub returns-clause-structure : goal.returns-clause-structure
returns-clause-structure c = λ at fault. (
  λ is. absurd (none_of_structure c.walk_before.result c.args.slot at fault c.walk_before.ensures.below is),
  λ first. absurd (no_fault _ at fault c.in_default.ensures first),
)

pub returns-clause-plain : goal.returns-clause-plain
returns-clause-plain c =
    err_more c.walk_before.result (IsCause c.args.profile (program_of c.args.words.now)) (λ e. IsPlain (program_of c.args.words.now) → e ≡ OutOfMemory)
    (λ e cause. only_memory c.args.profile (program_of c.args.words.now) e (IsPlain (program_of c.args.words.now)) (plain_grants c.args.profile (program_of c.args.words.now)) cause) c.walk_before.ensures.floor

pub returns-clause-guard : goal.returns-clause-guard
returns-clause-guard c =
    err_more c.walk_before.result (IsCause c.args.profile (program_of c.args.words.now)) (λ e. IsGuard c.args.profile (program_of c.args.words.now) → e ≡ OutOfMemory)
    (λ e cause. only_memory c.args.profile (program_of c.args.words.now) e (IsGuard c.args.profile (program_of c.args.words.now)) (guard_grants c.args.profile (program_of c.args.words.now)) cause) c.walk_before.ensures.floor

pub returns-clause-before : goal.returns-clause-before
returns-clause-before c = err_more c.walk_before.result (IsStateBelow c.args.slot) (IsBefore c.args.slot) (is_before c.args.slot) c.walk_before.ensures.below

pub returns-clause-refused : goal.returns-clause-refused
returns-clause-refused c = λ at fault is. refuses_at c.args.profile (program_of c.args.words.now) c.walk_before.result at fault c.walk_before.ensures.floor is

pub returns-in-Err-clause-framed : goal.returns-in-Err-clause-framed
returns-in-Err-clause-framed c = λ framed. absurd (no_fault _ _ _ framed.structured c.in-Err.ensures)

pub returns-clause-framed : goal.returns-clause-framed
returns-clause-framed c =
    let program = program_of c.args.words.now in
    err_more c.walk_before.result (IsCause c.args.profile program) (λ e. IsFramed program → e ≡ OutOfMemory)
    (λ e cause. only_memory c.args.profile program e (IsFramed program) (framed_grants c.args.profile program) cause)
    c.walk_before.ensures.floor

pub returns-in-Err-clause-rejects : goal.returns-in-Err-clause-rejects
returns-in-Err-clause-rejects c = c.in-Err.ensures

pub returns-clause-rejects : goal.returns-clause-rejects
returns-clause-rejects c =
    walk_refused c.args.profile (program_of c.args.words.now) c.walk_before.result c.args.slot c.in_default.ensures
    (omega (arith, c.requires)) c.walk_before.ensures.below c.walk_before.ensures.floor c.walk_before.ensures.names

pub returns-clause-unset : goal.returns-clause-unset
returns-clause-unset c = λ at fault is reads.
    unset_named c.args.profile (program_of c.args.words.now) c.walk_before.result at fault
    c.walk_before.ensures.floor is reads

pub returns-in-Err-clause-complete : goal.returns-in-Err-clause-complete
returns-in-Err-clause-complete c = λ sound. absurd (no_fault _ _ _ sound.structured c.in-Err.ensures)

pub returns-in-Err-clause-named : goal.returns-in-Err-clause-named
returns-in-Err-clause-named c = λ at fault less first. absurd (no_fault _ _ _ first.before.structured c.in-Err.ensures)

pub returns-clause-complete : goal.returns-clause-complete
returns-clause-complete c =
    complete_of c.args.profile (program_of c.args.words.now) c.args.slot c.walk_before.result c.walk_before.ensures.below c.walk_before.ensures.names

pub returns-clause-first : goal.returns-clause-first
returns-clause-first c = λ at fault is. first_of_all c.args.profile (program_of c.args.words.now) c.walk_before.result at fault c.walk_before.ensures.names is

pub returns-clause-named : goal.returns-clause-named
returns-clause-named c = λ at fault less first.
    named_of c.args.profile (program_of c.args.words.now) c.args.slot c.walk_before.result at fault c.walk_before.ensures.below c.walk_before.ensures.names c.walk_before.ensures.passes less first

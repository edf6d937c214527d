-- What the verifier's answer says of a program.
use Rattle.std.specs.Prelude.{◌<◌, ℕ, length, Option, Some, None}
use Rattle.span_context.specs.declared.profile.Profile.{Profile}
use Rattle.semantics.specs.Step.{Program}
use Rattle.semantics.specs.Safe.{SafeIn}
use Rattle.verifier.specs.declared.refusal.StructureFault.{StructureFault}
use Rattle.verifier.specs.declared.refusal.VerifyError.{VerifyError}
use Rattle.verifier.specs.declared.refusal.VerifyError.TheVariants.{Structure, State, OutOfMemory}
use Rattle.verifier.specs.Structure.{IsStructured, FirstFault}
use Rattle.verifier.specs.Plain.{IsPlain}
use Rattle.verifier.specs.Framed.{IsFramed}
use Rattle.verifier.specs.Guard.{IsGuard}
use Rattle.verifier.specs.Arises.{RefusesAt}
use Rattle.verifier.specs.Decides.{IsAllowed, FirstRefusal}

-- no instruction's position or target is at fault
abbrev pub HasNoFault : Program → Type 0
HasNoFault code = (slot : ℕ) (fault : StructureFault) → ¬ (FirstFault code slot fault)

-- what a refusal says of a program: the first fault in its structure; or that this has none, and then, where a slot is
-- named, that the program has it and is neither plain, nor framed, nor a guard program of the profile, that what is
-- known before the slot doesn't grant its instruction, with an unset register named exactly where the instruction reads
-- one, and that by the rules it is the first slot that is refused, for this fault
abbrev pub Rejects : Profile → Program → VerifyError → Type 0
Rejects profile code (Structure slot fault) = FirstFault code slot fault
Rejects profile code (State slot fault) =
    HasNoFault code × (slot < length code) × ¬ (IsPlain code) × ¬ (IsFramed code) × ¬ (IsGuard profile code)
    × RefusesAt profile code slot fault × FirstRefusal profile code slot fault
Rejects profile code OutOfMemory = HasNoFault code

-- why a program isn't accepted; none: neither its structure nor the rules have a fault, and every run of it on what the
-- profile lends ends with a number
abbrev pub IsJudged : Profile → Program → Option VerifyError → Type 0
IsJudged profile code None = IsStructured code × SafeIn profile code × IsAllowed profile code
IsJudged profile code (Some error) = Rejects profile code error

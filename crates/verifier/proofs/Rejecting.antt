-- What a refusal by a walk up to some slot says of a structured program.
use Rattle.std.proofs.Common.{ℕ, ◌≤◌, length, Result, Ok, Err, arith}
use Rattle.std.specs.Result.{IfErr}
use Rattle.span_context.specs.declared.profile.Profile.{Profile}
use Rattle.semantics.specs.Step.{Program}
use Rattle.verifier.specs.declared.refusal.VerifyError.{VerifyError}
use Rattle.verifier.specs.declared.refusal.VerifyError.TheVariants.{Structure, State, OutOfMemory}
use Rattle.verifier.specs.Plain.{IsPlain}
use Rattle.verifier.specs.Framed.{IsFramed}
use Rattle.verifier.specs.Guard.{IsGuard}
use Rattle.verifier.specs.Structure.{IsOfState, IsStructured}
use Rattle.verifier.specs.Reaches.{IsStateBelow}
use Rattle.verifier.specs.Arises.{IsCause}
use Rattle.verifier.specs.Judged.{Rejects}
use Rattle.verifier.specs.Decided.{NamesFirst}
use Rattle.verifier.proofs.Arising.{only_memory, caused}
use Rattle.verifier.proofs.PlainRuns.{plain_grants}
use Rattle.verifier.proofs.FramedRuns.{framed_grants}
use Rattle.verifier.proofs.GuardRuns.{guard_grants}
use Rattle.verifier.proofs.Refusals.{walk_rejects}

is_of_state : (end : ℕ) (e : VerifyError) → IsStateBelow end e → IsOfState e
is_of_state end (Structure slot fault) below = below
is_of_state end (State slot fault) below = tt
is_of_state end OutOfMemory below = tt

below_more : (end more : ℕ) (e : VerifyError) → end ≤ more → IsStateBelow end e → IsStateBelow more e
below_more end more (Structure slot fault) few below = below
below_more end more (State slot fault) few below = omega arith
below_more end more OutOfMemory few below = tt

pub walk_refused : {T : Type 0} (profile : Profile) (program : Program) (r : Result T VerifyError) (end : ℕ)
    → IsStructured program → end ≤ length program → IfErr r (IsStateBelow end) → IfErr r (IsCause profile program)
    → IfErr r (NamesFirst profile program) → IfErr r (λ e. Rejects profile program e)
walk_refused profile program (Ok t) end structured few below cause first = tt
walk_refused profile program (Err e) end structured few below cause first =
    walk_rejects profile program e structured (is_of_state end e below) (below_more end (length program) e few below)
    (only_memory profile program e (IsPlain program) (plain_grants profile program) cause)
    (only_memory profile program e (IsFramed program) (framed_grants profile program) cause)
    (only_memory profile program e (IsGuard profile program) (guard_grants profile program) cause)
    (λ slot fault is. caused profile program e slot fault cause is) first

-- What is left to a session, and what a change may be compared with.
use Rattle.std.proofs.Common.{◌≡◌, ℕ, ◌+◌, ◌&&◌, Option, None, Some, Result, Ok, Err, sym, ap, ◌∙◌}
use Rattle.std.specs.Prelude.{IfErr}
use Rattle.change_ops.specs.Changes.{Change}
use Rattle.change_ops.specs.declared.size.Size.{Size}
use Rattle.change_counters.specs.Counters.{greatest_counter, line_above}
use Rattle.change_history.specs.Accepted.{operations_of}
use Rattle.hub_requests.specs.Limits.{has_room, less, takes_change, after_change}
use Rattle.hub_requests.specs.declared.limits.SessionLimits.{SessionLimits}
use Rattle.hub_requests.specs.declared.limits.SessionOptions.{SessionOptions}
use Rattle.core_history.specs.Hubs.{Seen}
use Rattle.ingest_workers.specs.Calls.{IsLook}
use Rattle.ingest_workers.proofs.Calls.{look_also}
use Rattle.refusals.specs.declared.reason.Reason.{Reason}
use Rattle.hub_sessions.specs.Submitting.{IsNotAdmitted, jump_line}

-- where bytes have no limit, their number doesn't matter
pub uncounted : (left : SessionLimits) (n m : ℕ) → left.bytes ≡ None → takes_change left n ≡ takes_change left m
uncounted left n m none =
    ap (λ b. has_room left.changes 1 && has_room b n) none ∙ sym (ap (λ b. has_room left.changes 1 && has_room b m) none)

pub uncounted_after : (left : SessionLimits) (n m : ℕ) → left.bytes ≡ None → after_change left n ≡ after_change left m
uncounted_after left n m none =
    let with : Option ℕ → SessionLimits = λ b. record left { changes = less left.changes 1; bytes = b } in
    ap (λ b. with (less b n)) none ∙ sym (ap (λ b. with (less b m)) none)

-- what the greatest counter, found by a look, says of a change
pub found_jump : (size : Size) (v w : Seen) (jump greatest : ℕ) (change : Change) (line : Option ℕ) → IsLook size v (λ s. greatest ≡ greatest_counter (operations_of s.changes)) w → line ≡ line_above (greatest + jump) change
    → IsLook size v (λ s. jump_line jump s.changes change ≡ line) w
found_jump size v w jump greatest change line look is =
    look_also size v w (λ s. greatest ≡ greatest_counter (operations_of s.changes)) (λ s. jump_line jump s.changes change ≡ line)
    (λ s found. ap (λ n. line_above (n + jump) change) (sym found) ∙ sym is) look

-- why a change is refused whose counters may not be further above all accepted ones than the options say
pub at_options : {T : Type 0} (size : Size) (v w : Seen) (options : SessionOptions) (jump : ℕ) (change : Change) (r : Result T Reason) → options.counter_jump ≡ Some jump
    → IfErr r (λ why. (o : SessionOptions) (left : SessionLimits) → o.counter_jump ≡ Some jump → IsNotAdmitted size v w o change left why)
    → IfErr r (λ why. (left : SessionLimits) → IsNotAdmitted size v w options change left why)
at_options size v w options jump change (Ok x) is known = tt
at_options size v w options jump change (Err why) is known = λ left. known options left is

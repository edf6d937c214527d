-- A change that is kept before it is shown, and one that isn't to be kept.
use Rattle.std.proofs.Common.{◌≡◌, ℕ, ◌≤◌, Bool, true, false, Option, Some, None, Result, Ok, Err, length, refl, sym, subst, inl, inr}
use Rattle.std.specs.Prelude.{IfOk, IfErr, IsTrue, IsFalse}
use Rattle.change_ops.specs.Changes.{Change}
use Rattle.change_ops.specs.declared.size.Size.{Size}
use Rattle.change_ops.specs.Spelling.{change_text}
use Rattle.change_history.specs.declared.refusal.SubmitError.{SubmitError}
use Rattle.change_keeping.specs.Kept.{Kept, IsStored, IsUnkept, IsKeptAs}
use Rattle.hub_requests.specs.Limits.{after_change}
use Rattle.hub_requests.specs.declared.limits.SessionLimits.{SessionLimits}
use Rattle.hub_requests.specs.declared.limits.SessionOptions.{SessionOptions}
use Rattle.core_history.specs.Shares.{accepted_count}
use Rattle.core_history.specs.Hubs.{Seen}
use Rattle.ingest_workers.specs.Holdings.{Ingests}
use Rattle.refusals.specs.declared.reason.Reason.{Reason}
use Rattle.refusals.specs.declared.reason.Reason.TheVariants as reason
use Rattle.session_lines.specs.declared.reply.Reply.TheVariants as reply
use Rattle.hub_sessions.specs.Submitting.{IsAdmitted, IsNotAdmitted, IsKeptIf, IsRefusedBy, IsMisshown, IsNotAccepted, Submits}

no_false : false ≡ true → ⊥
no_false same = let e : false ≡ true = same in cc

no_true : true ≡ false → ⊥
no_true same = let e : true ≡ false = same in cc

-- the store refused it
pub refused_by : (size : Size) (v : Seen) (kept : Kept) (stores : Bool) (change : Change) (error : SubmitError) → IsTrue stores → IsUnkept kept (change_text change) error → IsRefusedBy size v v kept stores change error
refused_by size v kept true change error is why = (why, refl)
refused_by size v kept false change error is why = absurd (no_false is)

-- there is no store
pub no_store : (kept : Kept) (stores : Bool) (change : Change) (found : Option ℕ) → IsKeptAs kept stores change found → found ≡ None → IsFalse stores
no_store kept stores change found known none = subst (λ (o : Option ℕ). IsKeptAs kept stores change o) none known

-- the store has it under this number
pub is_stored : (kept : Kept) (stores : Bool) (change : Change) (found : Option ℕ) (number : ℕ) → IsKeptAs kept stores change found → found ≡ Some number → IsTrue stores × IsStored kept number (change_text change)
is_stored kept stores change found number known some = subst (λ (o : Option ℕ). IsKeptAs kept stores change o) some known

pub kept_if_none : (kept : Kept) (stores : Bool) (change : Change) (number : ℕ) → IsFalse stores → IsKeptIf kept stores number change
kept_if_none kept true change number is = absurd (no_true is)
kept_if_none kept false change number is = tt

pub kept_if_stored : (kept : Kept) (stores : Bool) (change : Change) (number n : ℕ) → IsTrue stores × IsStored kept n (change_text change) → number ≡ n → IsKeptIf kept stores number change
kept_if_stored kept true change number n is same = subst (λ (m : ℕ). IsStored kept m (change_text change)) (sym same) is.1
kept_if_stored kept false change number n is same = absurd (no_false is.0)

-- the hub refused it, where there is no store
pub refused_by_hub : (size : Size) (v w : Seen) (kept : Kept) (stores : Bool) (change : Change) (error : SubmitError) → IsFalse stores → Ingests size v change (Err error) w → IsRefusedBy size v w kept stores change error
refused_by_hub size v w kept true change error is why = absurd (no_true is)
refused_by_hub size v w kept false change error is why = why

-- what showing a kept change came to
pub shown_ok : (size : Size) (v w : Seen) (kept : Kept) (stores : Bool) (change : Change) (found : Option ℕ) (n : ℕ) (r : Result ℕ Reason) → IsKeptAs kept stores change found → found ≡ Some n
    → IfOk r (λ number. (number ≡ n) × (accepted_count w ≤ number) × Ingests size v change (Ok number) w) → IfOk r (λ number. (accepted_count w ≤ number) × Ingests size v change (Ok number) w × IsKeptIf kept stores number change)
shown_ok size v w kept stores change found n (Ok number) known some ok = (ok.1, ok.2, kept_if_stored kept stores change number n (is_stored kept stores change found n known some) ok.0)
shown_ok size v w kept stores change found n (Err why) known some ok = tt

pub shown_err : (size : Size) (v w : Seen) (kept : Kept) (stores : Bool) (change : Change) (found : Option ℕ) (n : ℕ) (r : Result ℕ Reason) → IsKeptAs kept stores change found → found ≡ Some n
    → IfErr r (λ why. (why ≡ reason.StoreFailed) × IsMisshown size v w change) → IfErr r (IsNotAccepted size v w kept stores change)
shown_err size v w kept stores change found n (Ok number) known some err = tt
shown_err size v w kept stores change found n (Err why) known some err =
    subst (λ (r : Reason). IsNotAccepted size v w kept stores change r) (sym err.0) ((is_stored kept stores change found n known some).0, inr err.1)

-- what showing a change came to that isn't to be kept
pub alone_ok : (kept : Kept) (stores : Bool) (change : Change) (found : Option ℕ) (number : ℕ) → IsKeptAs kept stores change found → found ≡ None → IsKeptIf kept stores number change
alone_ok kept stores change found number known none = kept_if_none kept stores change number (no_store kept stores change found known none)

pub alone_err : (size : Size) (v w : Seen) (kept : Kept) (stores : Bool) (change : Change) (found : Option ℕ) (error : SubmitError) → IsKeptAs kept stores change found → found ≡ None → Ingests size v change (Err error) w
    → IsRefusedBy size v w kept stores change error
alone_err size v w kept stores change found error known none why = refused_by_hub size v w kept stores change error (no_store kept stores change found known none) why

-- what keeps changes stays the same
pub kept_still : (kept : Kept) (stores stores' : Bool) (change : Change) (found : Option ℕ) → stores' ≡ stores → IsKeptAs kept stores change found → IsKeptAs kept stores' change found
kept_still kept stores stores' change found same known = subst (λ (b : Bool). IsKeptAs kept b change found) (sym same) known

pub kept_if_still : (kept : Kept) (stores stores' : Bool) (change : Change) (number : ℕ) → stores' ≡ stores → IsKeptIf kept stores' number change → IsKeptIf kept stores number change
kept_if_still kept stores stores' change number same is = subst (λ (b : Bool). IsKeptIf kept b number change) same is

pub not_accepted_still : (size : Size) (v w : Seen) (kept : Kept) (stores stores' : Bool) (change : Change) (why : Reason) → stores' ≡ stores → IsNotAccepted size v w kept stores' change why → IsNotAccepted size v w kept stores change why
not_accepted_still size v w kept stores stores' change why same is = subst (λ (b : Bool). IsNotAccepted size v w kept b change why) same is

-- what is answered of a change that the session may not submit
pub turned_away : (size : Size) (v w : Seen) (kept : Kept) (stores : Bool) (options : SessionOptions) (change : Change) (left : SessionLimits) (why : Reason) → IsNotAdmitted size v w options change left why
    → Submits size v w kept stores options change left (reply.Refused why) left
turned_away size v w kept stores options change left why not = (refl, inl not)

-- of one that is not kept
pub not_kept : (size : Size) (v w : Seen) (kept : Kept) (stores : Bool) (options : SessionOptions) (change : Change) (left : SessionLimits) (why : Reason) → IsAdmitted size v w options.counter_jump change left
    → ((any : Size) (u : Seen) → IsNotAccepted any u u kept stores change why) → Submits size v w kept stores options change left (reply.Refused why) left
not_kept size v w kept stores options change left why admitted not = (refl, inr (w, admitted, not size w))

-- of one that is not shown
pub not_shown : (size : Size) (v u w : Seen) (kept : Kept) (stores stores' : Bool) (options : SessionOptions) (change : Change) (left : SessionLimits) (why : Reason) → IsAdmitted size v u options.counter_jump change left → stores' ≡ stores
    → IsNotAccepted size u w kept stores' change why → Submits size v w kept stores options change left (reply.Refused why) left
not_shown size v u w kept stores stores' options change left why admitted same not =
    (refl, inr (u, admitted, not_accepted_still size u w kept stores stores' change why same not))

-- and of one that is shown
pub shown : (size : Size) (v u w : Seen) (kept : Kept) (stores stores' : Bool) (options : SessionOptions) (change : Change) (number : ℕ) (left left' : SessionLimits) → IsAdmitted size v u options.counter_jump change left → stores' ≡ stores
    → (accepted_count w ≤ number) × Ingests size u change (Ok number) w × IsKeptIf kept stores' number change → left' ≡ after_change left (length (change_text change))
    → Submits size v w kept stores options change left (reply.Version number) left'
shown size v u w kept stores stores' options change number left left' admitted same is spent =
    (u, admitted, is.1, is.0, spent, kept_if_still kept stores stores' change number same is.2)

-- A hub of one share, which is settled after its session.
use Rattle.std.proofs.Common.{◌≡◌, ℕ, ◌+◌, List, [], ◌∷◌, Option, Result, true, length, map, sum, get_or, set, refl, sym, ap, subst, ◌∙◌, arith}
use Rattle.std.specs.Prelude.{⊤, All}
use Rattle.change_ops.specs.Changes.{Change}
use Rattle.change_ops.specs.declared.size.Size.{Size}
use Rattle.change_ops.specs.Spelling.{change_text}
use Rattle.change_history.specs.Accepted.{AreAccepted}
use Rattle.change_keeping.specs.Kept.{some_log, AreStored}
use Rattle.hub_requests.specs.declared.limits.SessionOptions.{SessionOptions}
use Rattle.subscriber_queues.specs.Queue.{QueueSink}
use Rattle.core_history.specs.Runs.{Recorded}
use Rattle.core_history.specs.Hubs.{Seen}
use Rattle.ingest_workers.specs.Holdings.{IsIdle, Settles}
use Rattle.hub_restoring.specs.Restoring.{AreIngested}
use Rattle.hub_sessions.specs.Sessions.{begins, IsSession, IsWholeHub, ReplaysKept}
use Rattle.hub_sessions.specs.declared.conversation.SessionFault.{SessionFault}
use Rattle.hub_sessions.proofs.Making.{MakesSome}

-- where there is one, it is the only one that is left once it is set
one_left : (shares : List Seen) (w : Seen) → length shares ≡ 1 → set shares 0 w ≡ w ∷ []
one_left [] w one = absurd (omega (arith, one))
one_left (x ∷ []) w one = refl
one_left (x ∷ y ∷ more) w one = absurd (omega (arith, one))

-- it made no call, as none did
pub one_idle : (size : Size) (shares : List Seen) (v : Seen) → length shares ≡ 1 → All (IsIdle size) shares → v ≡ get_or shares 0 v → IsIdle size v
one_idle size shares v one all is = subst (IsIdle size) (sym is) (all 0 v (omega (arith, one)))

-- and has one part still after its calls
pub parts_of_one : (size : Size) (shares : List Seen) (v w : Seen) (parts : ℕ) → length shares ≡ 1 → IsIdle size v → MakesSome size v w → parts ≡ 2 → sum (map (λ share. share.parts) (set shares 0 w)) + 1 ≡ parts
parts_of_one size shares v w parts one idle made two =
    let all : sum (map (λ share. share.parts) (set shares 0 w)) ≡ 0 + w.parts = ap (λ l. sum (map (λ share. share.parts) l)) (one_left shares w one) in
    omega (arith, all, made.1.parts, idle.parts, two)

pub whole : (size of : Size) (made : Size → Seen → Seen → Type 0) (shares : List Seen) (v w : Seen) (found : Recorded QueueSink) (count : ℕ) → size ≡ of → length shares ≡ 1 → IsIdle of v → made of v w → Settles of found (set shares 0 w) count
    → IsWholeHub size (made size)
whole size of made shares v w found count same one idle is settled =
    subst (λ (z : Size). IsWholeHub z (made z)) (sym same) (found, v, w, count, idle, is, subst (λ (l : List Seen). Settles of found l count) (one_left shares w one) settled)

-- a session on a hub that started again from what a log keeps
pub replayed : {L : Type 0} (size of at : Size) (kept : L → List (List ℕ) → Type 0) (options : SessionOptions) (ended : Result ⊤ SessionFault) (left old new : Option (List ℕ)) (changes : List Change) (log : L) (shares : List Seen) (v u w : Seen)
    (found : Recorded QueueSink) (count : ℕ) → size ≡ of → at ≡ size → length shares ≡ 1 → IsIdle of v → AreIngested of v changes u → AreAccepted of changes → kept log (map change_text changes)
    → IsSession ended (begins of (some_log at kept) true u options) left old w new → Settles of found (set shares 0 w) count → ReplaysKept size kept options ended left old new
replayed size of at kept options ended left old new changes log shares v u w found count hub store one idle ingested accepted texts is settled =
    let here : IsSession ended (begins of (some_log of kept) true u options) left old w new = subst (λ (z : Size). IsSession ended (begins of (some_log z kept) true u options) left old w new) (store ∙ hub) is in
    let made : Size → Seen → Seen → Type 0 = λ z x y. (before : List Change) × (m : Seen) × AreIngested z x before m × AreStored (some_log z kept) before × IsSession ended (begins z (some_log z kept) true m options) left old y new in
    whole size of made shares v w found count hub one idle (changes, u, ingested, record { accepted = accepted; texts = (log, texts) }, here) settled

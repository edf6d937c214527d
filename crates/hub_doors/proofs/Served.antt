-- What the shares of a server come to.
use Rattle.std.proofs.Common.{◌≡◌, ℕ, ◌<◌, List, [], ◌∷◌, ◌++◌, length, sum, map, get_or, set, refl, sym, ap, ◌∙◌, subst, arith}
use Rattle.std.specs.Prelude.{All, Option, Result, ⊤}
use Rattle.std.proofs.lemmas.List.Elements.{All-head, All-tail, All-weaker, All-set}
use Rattle.std.proofs.lemmas.List.Sums.{sum-map, sum_by-cons}
use Rattle.change_ops.specs.Changes.{Change}
use Rattle.change_ops.specs.declared.size.Size.{Size}
use Rattle.change_keeping.specs.Kept.{Kept}
use Rattle.core_history.specs.Hubs.{Seen}
use Rattle.ingest_workers.specs.Holdings.{IsIdle}
use Rattle.hub_restoring.specs.Restoring.{AreIngested}
use Rattle.hub_sessions.specs.Sessions.{SessionState, begins, IsSession}
use Rattle.hub_sessions.specs.declared.conversation.SessionFault.{SessionFault}
use Rattle.hub_sessions.proofs.Making.{session_makes}
use Rattle.hub_doors.specs.Serving.{Session, AreSessions, IsBegun, IsOfSessions}

module _ (size : Size) where
  -- a call takes no part away
  pub ingested_parts : (v w : Seen) (changes : List Change) → AreIngested size v changes w → w.parts ≡ v.parts
  ingested_parts v w [] same = ap (λ (x : Seen). x.parts) same
  ingested_parts v w (change ∷ more) made = ingested_parts made.0 w more made.2 ∙ made.1.2.records.extends.parts

  begun_idle : (w : Seen) → IsIdle size w → IsBegun size w
  begun_idle w idle = (w, [], idle, refl)

  begun_again : (v w : Seen) (changes : List Change) → IsIdle size v → AreIngested size v changes w → IsBegun size w
  begun_again v w changes idle made = (v, changes, idle, made)

  pub all_begun : (shares : List Seen) → All (IsIdle size) shares → All (IsBegun size) shares
  all_begun shares idle = All-weaker (IsIdle size) (IsBegun size) begun_idle shares idle

  -- one of them accepted changes again
  pub begun_set : (shares : List Seen) (i : ℕ) (v u : Seen) (changes : List Change) → i < length shares → All (IsIdle size) shares → v ≡ get_or shares i v → AreIngested size v changes u → All (IsBegun size) (set shares i u)
  begun_set shares i v u changes within idle is made =
      All-set (IsBegun size) shares i u (begun_again v u changes (subst (IsIdle size) (sym is) (idle i v within)) made) (all_begun shares idle)

  pub begun_one : (w : Seen) → IsBegun size w → w.parts ≡ 1
  begun_one w begun = ingested_parts begun.0 w begun.1 begun.3 ∙ begun.2.parts

  module _ (kept : Kept) where
    session_parts : (ended : Result ⊤ SessionFault) (s : SessionState size kept) (left old : Option (List ℕ)) (w : Seen) (new : Option (List ℕ)) → IsSession ended s left old w new → w.parts ≡ s.share.parts
    session_parts ended s left old w new held = (session_makes size kept ended s left old w new held).1.parts

    sessions_parts : (v w : Seen) (sessions : List Session) → AreSessions size kept v sessions w → w.parts ≡ v.parts
    sessions_parts v w [] same = ap (λ (x : Seen). x.parts) same
    sessions_parts v w (one ∷ more) held =
        sessions_parts held.0 w more held.2
        ∙ session_parts one.ended (begins size kept one.stores v one.options) one.left one.old held.0 one.new held.1

    -- each share of sessions has the one part that it began with
    pub of_sessions_one : (w : Seen) → IsOfSessions size kept w → w.parts ≡ 1
    of_sessions_one w held = sessions_parts held.0 w held.1 held.3 ∙ begun_one held.0 held.2

    pub parts_of_all : (shares : List Seen) → All (IsOfSessions size kept) shares → sum (map (λ (share : Seen). share.parts) shares) ≡ length shares
    parts_of_all [] all = refl
    parts_of_all (share ∷ more) all =
        let parts = λ (share : Seen). share.parts in
        omega (arith, sum-map parts (share ∷ more), sum_by-cons parts share more, sum-map parts more, of_sessions_one share (All-head (IsOfSessions size kept) share more all), parts_of_all more (All-tail (IsOfSessions size kept) share more all))

    sessions_then : (v u w : Seen) (sessions : List Session) (one : Session) → AreSessions size kept v sessions u → IsSession one.ended (begins size kept one.stores u one.options) one.left one.old w one.new
        → AreSessions size kept v (sessions ++ one ∷ []) w
    sessions_then v u w [] one same held = (w, subst (λ (x : Seen). IsSession one.ended (begins size kept one.stores x one.options) one.left one.old w one.new) same held, refl)
    sessions_then v u w (first ∷ more) one before held = (before.0, before.1, sessions_then before.0 u w more one before.2 held)

    pub of_no_session : (w : Seen) → IsBegun size w → IsOfSessions size kept w
    of_no_session w begun = (w, [], begun, refl)

    -- one session more
    pub of_sessions_then : (u w : Seen) (one : Session) → IsOfSessions size kept u → IsSession one.ended (begins size kept one.stores u one.options) one.left one.old w one.new → IsOfSessions size kept w
    of_sessions_then u w one before held = (before.0, before.1 ++ one ∷ [], before.2, sessions_then before.0 u w before.1 one before.3 held)

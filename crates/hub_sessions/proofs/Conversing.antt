-- How the exchanges of a session add up, and how it ends after them.
use Rattle.std.proofs.Common.{◌≡◌, ℕ, List, [], ◌∷◌, ◌++◌, Option, Result, Ok, Err, refl, sym, ap, subst, ◌∙◌, append_assoc, append-nil, IsErrAnd, inl, inr, arith, length}
use Rattle.std.specs.Prelude.{Bool, IfOk, IfErr, OnOk, OnErr, ⊤}
use Rattle.std.specs.List.{flat_map}
use Rattle.std.specs.Io.KnownBytes.{Appends}
use Rattle.std.specs.declared.io.Error.{Error}
use Rattle.std.proofs.KnownBytes.{Appends-nil, Appends-trans}
use Rattle.hub_requests.specs.declared.limits.SessionLimits.{SessionLimits}
use Rattle.hub_requests.specs.declared.limits.SessionOptions.{SessionOptions}
use Rattle.refusals.specs.declared.reason.Reason.{Reason}
use Rattle.refusals.specs.declared.reason.Reason.TheVariants as reason
use Rattle.session_lines.specs.Requests.{IsNext}
use Rattle.session_lines.specs.declared.reply.Reply.{Reply}
use Rattle.session_lines.specs.declared.reply.Reply.TheVariants as reply
use Rattle.session_lines.specs.declared.request.Next.TheVariants as next
use Rattle.session_lines.specs.declared.request.SessionRequest.{SessionRequest}
use Rattle.session_lines.specs.declared.request.SessionRequest.TheVariants as asked
use Rattle.session_subscribers.specs.Holding.{Held, PullsShort}
use Rattle.session_reads.specs.Found.{found_text}
use Rattle.session_reads.specs.declared.found.Found.{Found}
use Rattle.change_ops.specs.declared.size.Size.{Size}
use Rattle.change_keeping.specs.Kept.{Kept}
use Rattle.hub_core.specs.declared.error.NoSubscriber.{NoSubscriber}
use Rattle.hub_core.specs.declared.run.Reply.TheVariants as told
use Rattle.core_history.specs.declared.entry.Call.TheVariants as call
use Rattle.core_history.specs.Hubs.{Seen}
use Rattle.ingest_workers.specs.Calls.{IsCall}
use Rattle.hub_sessions.specs.Sessions.{SessionState, session_state, Exchange, IsExchange, Answers, AreApart, Follow, Converses, found_in, read_in, TakesTurn, BreaksTurn, IsUnwritten, IsUnread, FallsShort, short_text, Ends, EndsAfter, EndsShort, BreaksAfter, ClosesAll, printed, reply_line}
use Rattle.hub_sessions.specs.declared.conversation.SessionFault.{SessionFault}
use Rattle.hub_sessions.specs.declared.conversation.SessionFault.TheVariants as fault
use Rattle.hub_sessions.specs.declared.conversation.Turn.{Turn}
use Rattle.hub_sessions.specs.declared.conversation.Turn.TheVariants.{More, Last}
use Rattle.hub_sessions.specs.declared.conversation.TurnFault.{TurnFault}
use Rattle.hub_sessions.specs.declared.conversation.TurnFault.TheVariants as broken

printed_both : {size : Size} {kept : Kept} (one more : List (Exchange size kept)) → flat_map printed (one ++ more) ≡ flat_map printed one ++ flat_map printed more
printed_both [] more = refl
printed_both (e ∷ one) more = ap (λ l. printed e ++ l) (printed_both one more) ∙ sym (append_assoc (printed e) (flat_map printed one) (flat_map printed more))

printed_more : {size : Size} {kept : Kept} (one : List (Exchange size kept)) (e : Exchange size kept) → flat_map printed (one ++ e ∷ []) ≡ flat_map printed one ++ printed e
printed_more one e = printed_both one (e ∷ []) ∙ ap (λ l. flat_map printed one ++ l) (append-nil (printed e))

follow_more : {size : Size} {kept : Kept} (s : SessionState size kept) (left : Option (List ℕ)) (one : List (Exchange size kept)) (s' : SessionState size kept) (left' : Option (List ℕ)) (e : Exchange size kept)
    → Follow s left one s' left' → IsExchange s' left' e → Follow s left (one ++ e ∷ []) e.state e.left
follow_more s left [] s' left' e p q = (subst (λ z. IsExchange z left e) p.0 (subst (λ z. IsExchange s' z e) p.1 q), (refl, refl))
follow_more s left (x ∷ one) s' left' e p q = (p.0, follow_more x.state x.left one s' left' e p.1 q)

pub begun : {size : Size} {kept : Kept} (s : SessionState size kept) (left w : Option (List ℕ)) → Converses s left w s left w
begun s left w = record { exchanges = []; follow = (refl, refl); written = Appends-nil w }

turned_more : {size : Size} {kept : Kept} (s : SessionState size kept) (left old : Option (List ℕ)) (s' : SessionState size kept) (left' mid : Option (List ℕ)) (found : Found) (text : List ℕ) (s'' : SessionState size kept) (left'' new : Option (List ℕ))
    → Converses s left old s' left' mid → TakesTurn (More found) s' left' text s'' left'' → Appends mid new text → Converses s left old s'' left'' new
turned_more {size} {kept} s left old s' left' mid found text s'' left'' new c t a =
    let e : Exchange size kept = record { came = t.0; items = t.1; answer = t.2; left = left''; state = s'' } in
    record {
      exchanges = c.exchanges ++ e ∷ [];
      follow = follow_more s left c.exchanges s' left' e c.follow t.3;
      written = subst (Appends old new) (sym (printed_more c.exchanges e)) (Appends-trans old mid new _ _ c.written (subst (Appends mid new) t.4 a));
    }

-- a turn of which it is known that it was not the last: what it found was written, and then its lines
pub turned : {size : Size} {kept : Kept} (s : SessionState size kept) (left old : Option (List ℕ)) (s' : SessionState size kept) (left' mid : Option (List ℕ)) (r : Result Turn TurnFault) (found : Found) (lines : List ℕ) (s'' : SessionState size kept) (left'' new : Option (List ℕ))
    → Converses s left old s' left' mid → r ≡ Ok (More found) → IfOk r (λ turn. TakesTurn turn s' left' (found_in turn ++ lines) s'' left'') → Appends mid new (read_in r ++ lines)
    → Converses s left old s'' left'' new
turned s left old s' left' mid r found lines s'' left'' new c is t a =
    turned_more s left old s' left' mid found (found_text found ++ lines) s'' left'' new c
    (subst (λ z. IfOk z (λ turn. TakesTurn turn s' left' (found_in turn ++ lines) s'' left'')) is t)
    (subst (λ z. Appends mid new (read_in z ++ lines)) is a)

-- a turn of which it is known that it was the last
pub ended : {size : Size} {kept : Kept} (s : SessionState size kept) (left old : Option (List ℕ)) (s' : SessionState size kept) (left' mid : Option (List ℕ)) (r : Result Turn TurnFault) (text : List ℕ) (s'' : SessionState size kept) (left'' new : Option (List ℕ))
    → Converses s left old s' left' mid → r ≡ Ok Last → IfOk r (λ turn. TakesTurn turn s' left' (found_in turn ++ text) s'' left'') → Appends mid new (read_in r ++ text)
    → EndsAfter s left old s'' new
ended {size} {kept} s left old s' left' mid r text s'' left'' new c is t a =
    let last : TakesTurn Last s' left' text s'' left'' = subst (λ z. IfOk z (λ turn. TakesTurn turn s' left' (found_in turn ++ text) s'' left'')) is t in
    record {
      rest = left';
      before = mid;
      converses = subst (λ (z : SessionState size kept). Converses s left old z left' mid) (sym last.1) c;
      over = left'';
      text = text;
      is_last = last.0;
      written = subst (λ z. Appends mid new (read_in z ++ text)) is a;
    }

pub short : {size : Size} {kept : Kept} (s : SessionState size kept) (left old : Option (List ℕ)) (s' : SessionState size kept) (left' mid : Option (List ℕ)) (part : List ℕ) (s'' : SessionState size kept) (over middle new : Option (List ℕ))
    → Converses s left old s' left' mid → FallsShort s' left' part s'' over → Appends mid middle part → Appends middle new (reply_line (reply.Refused reason.OutOfMemory)) → EndsShort s left old s'' new
short s left old s' left' mid part s'' over middle new c f a b = record {
  state = s';
  rest = left';
  before = mid;
  converses = c;
  part = part;
  over = over;
  short = f;
  written = Appends-trans mid middle new _ _ a b;
}

-- a turn whose reply may not be written
pub unread : {size : Size} {kept : Kept} (r : Result Turn TurnFault) (s : SessionState size kept) (left : Option (List ℕ)) (lines : List ℕ) (s' : SessionState size kept) (left' : Option (List ℕ))
    → IfOk r (λ turn. TakesTurn turn s left (found_in turn ++ lines) s' left') → IfErr r (λ f. BreaksTurn f s left lines s' left') → IsUnread s left s'
unread (Ok (More found)) s left lines s' left' ok err = inr (inl (ok.0, ok.1, ok.2, left', ok.3))
unread (Ok Last) s left lines s' left' ok err = inl ok.1
unread (Err (broken.Read error)) s left lines s' left' ok err = inl err.0
unread (Err broken.Memory) s left lines s' left' ok err = inr (inr (lines, left', err))

-- a write that failed
pub write_failed : {size : Size} {kept : Kept} (r : Result ⊤ SessionFault) (e : SessionFault) (s : SessionState size kept) (left old : Option (List ℕ)) (s' : SessionState size kept) (left' mid : Option (List ℕ)) (last : SessionState size kept) (new : Option (List ℕ))
    → Converses s left old s' left' mid → IsUnread s' left' last → IsErrAnd r (λ y. y ≡ e) → IsUnwritten e → Ends r s left old last new
write_failed (Ok t) e s left old s' left' mid last new c u is p = absurd is
write_failed (Err y) (fault.Read error) s left old s' left' mid last new c u is p = absurd p
write_failed (Err y) (fault.Write error) s left old s' left' mid last new c u is p =
    subst (λ z. Ends (Err z) s left old last new) (sym is) (record { state = s'; rest = left'; exchanges = c.exchanges; follow = c.follow; unread = u })

-- a read that failed, of which nothing was written
pub read_failed : {size : Size} {kept : Kept} (r : Result Turn TurnFault) (error : Error) (s : SessionState size kept) (left old : Option (List ℕ)) (s' : SessionState size kept) (left' mid : Option (List ℕ)) (lines : List ℕ) (s'' : SessionState size kept) (left'' new : Option (List ℕ))
    → Converses s left old s' left' mid → r ≡ Err (broken.Read error) → IfErr r (λ f. BreaksTurn f s' left' lines s'' left'') → Appends mid new (read_in r ++ lines)
    → BreaksAfter s left old s'' new
read_failed {size} {kept} r error s left old s' left' mid lines s'' left'' new c is p a =
    let broke : BreaksTurn (broken.Read error) s' left' lines s'' left'' = subst (λ z. IfErr z (λ f. BreaksTurn f s' left' lines s'' left'')) is p in
    let wrote : Appends mid new lines = subst (λ z. Appends mid new (read_in z ++ lines)) is a in
    let all : Appends old new (flat_map printed c.exchanges ++ []) = Appends-trans old mid new _ _ c.written (subst (Appends mid new) broke.1 wrote) in
    record {
      rest = left';
      converses = subst (λ (z : SessionState size kept). Converses s left old z left' new) (sym broke.0) (record {
        exchanges = c.exchanges;
        follow = c.follow;
        written = subst (Appends old new) (append-nil (flat_map printed c.exchanges)) all;
      });
    }

-- the line of a refusal, instead of what was there
pub refused_line : (a b : List ℕ) (r r' : Reason) → b ≡ a ++ reply_line (reply.Refused r) → a ≡ [] → r ≡ r' → b ≡ reply_line (reply.Refused r')
refused_line a b r r' is none same = is ∙ ap (λ l. l ++ reply_line (reply.Refused r)) none ∙ ap (λ z. reply_line (reply.Refused z)) same

-- no memory was found after some exchanges, and a part of what answers the next was written
pub unfinished : {size : Size} {kept : Kept} (r : Result ⊤ SessionFault) (s : SessionState size kept) (left old : Option (List ℕ)) (s' : SessionState size kept) (left' mid : Option (List ℕ)) (part : List ℕ) (s'' : SessionState size kept) (over middle new : Option (List ℕ))
    → Converses s left old s' left' mid → FallsShort s' left' part s'' over → Appends mid middle part → OnOk r (Appends middle new (reply_line (reply.Refused reason.OutOfMemory))) → IfErr r IsUnwritten
    → Ends r s left old s'' new
unfinished (Ok t) s left old s' left' mid part s'' over middle new c f a b e = inr (short s left old s' left' mid part s'' over middle new c f a b)
unfinished (Err (fault.Read error)) s left old s' left' mid part s'' over middle new c f a b e = absurd e
unfinished (Err (fault.Write error)) s left old s' left' mid part s'' over middle new c f a b e =
    record { state = s'; rest = left'; exchanges = c.exchanges; follow = c.follow; unread = inr (inr (part, over, f)) }

-- nor for the first
pub not_begun : {size : Size} {kept : Kept} (r : Result ⊤ SessionFault) (s : SessionState size kept) (left old new : Option (List ℕ))
    → OnOk r (Appends old new (reply_line (reply.Refused reason.OutOfMemory))) → IfErr r IsUnwritten → Ends r s left old s new
not_begun r s left old new b e = unfinished r s left old s left old [] s left old new (begun s left old) (inl (refl, refl)) (Appends-nil old) b e

-- a turn of which it is known that it met want of memory: nothing was found, and what it has of its lines was written
pub broke : {size : Size} {kept : Kept} (r : Result Turn TurnFault) (s : SessionState size kept) (left : Option (List ℕ)) (text : List ℕ) (s' : SessionState size kept) (left' mid new : Option (List ℕ)) → r ≡ Err broken.Memory
    → IfErr r (λ f. BreaksTurn f s left text s' left') → Appends mid new (read_in r ++ text) → FallsShort s left text s' left' × Appends mid new text
broke r s left text s' left' mid new is p a = (
  subst (λ z. IfErr z (λ f. BreaksTurn f s left text s' left')) is p,
  subst (λ z. Appends mid new (read_in z ++ text)) is a,
)

-- a turn that changed and printed nothing, whatever broke it
pub broke_still : {size : Size} {kept : Kept} (r : Result Turn TurnFault) (s : SessionState size kept) (left : Option (List ℕ)) (text : List ℕ) (left' : Option (List ℕ)) → text ≡ [] → IfErr r (λ f. BreaksTurn f s left text s left')
broke_still (Ok t) s left text left' none = tt
broke_still (Err (broken.Read error)) s left text left' none = (refl, none)
broke_still (Err broken.Memory) s left text left' none = inl (refl, none)

-- a turn that met want of memory
pub broke_short : {size : Size} {kept : Kept} (r : Result Turn TurnFault) (s : SessionState size kept) (left : Option (List ℕ)) (text : List ℕ) (s' : SessionState size kept) (left' : Option (List ℕ)) → IsErrAnd r (λ f. f ≡ broken.Memory) → FallsShort s left text s' left' → IfErr r (λ f. BreaksTurn f s left text s' left')
broke_short (Ok t) s left text s' left' is p = tt
broke_short (Err f) s left text s' left' is p = subst (λ z. BreaksTurn z s left text s' left') (sym is) p

-- a request was done and its last line not printed: the lines that are there then
short_lines : {size : Size} {kept : Kept} (request : SessionRequest) (s : SessionState size kept) (text lines : List ℕ) (answer : Reply) (s' : SessionState size kept)
    → Answers request s [] (text ++ lines) answer s' → AreApart request text lines → lines ≡ short_text (next.Request request) (text ++ lines)
short_lines (asked.Change change) s text lines answer s' met none = sym (ap (λ l. l ++ lines) none) ∙ met.2
short_lines (asked.Subscribe rule_set capacity program first) s text lines answer s' met none = sym (ap (λ l. l ++ lines) none) ∙ met.1
short_lines (asked.Pull id count) s text lines answer s' met none = sym (ap (λ l. l ++ lines) none)
short_lines (asked.Close id) s text lines answer s' met none = sym (ap (λ l. l ++ lines) none) ∙ met.1
short_lines (asked.Read query) s text lines answer s' met none = none

pub unanswered : {size : Size} {kept : Kept} (request : SessionRequest) (s : SessionState size kept) (left : Option (List ℕ)) (text lines : List ℕ) (answer : Reply) (s' : SessionState size kept) (left' : Option (List ℕ))
    → IsNext left (next.Request request) left' → Answers request s [] (text ++ lines) answer s' → AreApart request text lines → FallsShort s left lines s' left'
unanswered request s left text lines answer s' left' came met apart =
    inr (inl (next.Request request, text ++ lines, answer, record { next = came; met = met }, short_lines request s text lines answer s' met apart))

-- a pull that found no memory for its lines
pub pulled_short : (size : Size) (kept : Kept) (request : SessionRequest) (stores stores' : Bool) (v w : Seen) (held held' : List Held) (limits limits' : SessionLimits) (options : SessionOptions) (left : Option (List ℕ)) (lines : List ℕ) (left' : Option (List ℕ)) → stores' ≡ stores
    → IsNext left (next.Request request) left' → (id : ℕ) × (count : ℕ) × (request ≡ asked.Pull id count) × (limits' ≡ limits) × PullsShort size v w id count held held' [] lines
    → FallsShort (session_state size kept stores v held limits options) left lines (session_state size kept stores' w held' limits' options) left'
pulled_short size kept request stores stores' v w held held' limits limits' options left lines left' same came short =
    inr (inr (
      short.0,
      short.1,
      subst (λ (z : SessionRequest). IsNext left (next.Request z) left') short.2 came,
      short.4,
      ap (λ (z : SessionLimits). session_state size kept stores' w held' z options) short.3 ∙ ap (λ (z : Bool). session_state size kept z w held' limits options) same,
    ))

-- as it is told
pub told_short : {T E : Type 0} (r : Result T E) (size : Size) (request : SessionRequest) (v w : Seen) (id count : ℕ) (held held' : List Held) (left : SessionLimits) (out out' : List ℕ) → request ≡ asked.Pull id count → PullsShort size v w id count held held' out out' → out ≡ []
    → OnErr r ((i : ℕ) × (n : ℕ) × (request ≡ asked.Pull i n) × (left ≡ left) × PullsShort size v w i n held held' [] out')
told_short (Ok t) size request v w id count held held' left out out' is short none = tt
told_short (Err e) size request v w id count held held' left out out' is short none = (id, count, is, refl, subst (λ o. PullsShort size v w id count held held' o out') none short)

-- one more is closed behind others
pub closed_more : (size : Size) (v : Seen) (held : List Held) (one : Held) (found : Result (Unit {0}) NoSubscriber) (u w : Seen) → ClosesAll size v u held → IsCall size u (call.Close one.id) (told.Closed found) w → ClosesAll size v w (held ++ one ∷ [])
closed_more size v [] one found u w closed is = (found, w, subst (λ (z : Seen). IsCall size z (call.Close one.id) (told.Closed found) w) closed is, refl)
closed_more size v (first ∷ held) one found u w closed is = (closed.0, closed.1, closed.2, closed_more size closed.1 held one found u w closed.3 is)

pub nothing_left : {X : Type 0} (l : List X) → length l ≡ 0 → l ≡ []
nothing_left [] none = refl
nothing_left (x ∷ xs) none = absurd (omega (arith, none))

-- The shares of a history come together again in the hub's own.
use Rattle.std.proofs.Common.{◌≡◌, ◌⊎◌, ℕ, ◌+◌, ◌<◌, List, [], ◌∷◌, ◌++◌, length, sum, map, Contains, refl, ap, sym, ◌∙◌, subst, inl, inr, ⊎_elim, arith, not-suc-le-zero, length-append}
use Rattle.std.proofs.lemmas.List.Elements.{Contains-push, Contains-push_cases, Contains-append_left}
use Rattle.std.proofs.lemmas.List.Sums.{sum-map, sum_by_push}
use mathlib.Core.List.{IsPrefix}
use Rattle.change_ops.specs.declared.size.Size.{Size}
use Rattle.subscriber_queues.specs.Queue.{QueueSink}
use Rattle.call_history.specs.Calls.{Has, TakesIn, IsWhole}
use Rattle.call_history.proofs.Prefixes.{has_either}
use Rattle.core_history.specs.Runs.{Recorded}
use Rattle.core_history.specs.Shares.{accepted_count}
use Rattle.core_history.specs.Hubs.{HubEntry, Seen, IsHubRun, IsHubLegal}
use Rattle.ingest_workers.specs.Holdings.{Settles}
use Rattle.ingest_workers.proofs.Filling.{each_is_own}

abbrev parts_of : List Seen → ℕ
parts_of shares = sum (map (λ (share : Seen). share.parts) shares)

abbrev count_of : List Seen → ℕ
count_of shares = sum (map accepted_count shares)

abbrev calls_of : List Seen → ℕ
calls_of shares = sum (map (λ (share : Seen). length share.own) shares)

-- the call at this place is one of the shares'
abbrev IsOf : List Seen → ℕ → Type 0
IsOf all k = (share : Seen) × Contains all share × Has share.own k

-- some of all shares are left, and the house's has taken in the others
pub record Gathers (history : List HubEntry) (all left : List Seen) (house : Seen) : Type 0 where
  pub parts : house.parts + parts_of left ≡ parts_of all + 1
  pub counted : accepted_count house + count_of left ≡ count_of all
  pub called : length house.own + calls_of left ≡ calls_of all + 1
  pub seen : (share : Seen) → Contains all share → Contains left share ⊎ IsPrefix share.seen history
  pub own : (share : Seen) (k : ℕ) → Contains all share → Has share.own k → Contains left share ⊎ Has house.own k
  pub among : (share : Seen) → Contains left share → Contains all share
  pub from : (k : ℕ) → Has house.own k → (k ≡ 0) ⊎ IsOf all k

pub gathers_none : (history : List HubEntry) (all : List Seen) (house : Seen) → house.parts ≡ 1 → house.own ≡ 0 ∷ [] → accepted_count house ≡ 0 → Gathers history all all house
gathers_none history all house one start none = record {
  parts = omega (arith, one);
  counted = omega (arith, none);
  called = omega (arith, ap length start);
  seen = λ share among. inl among;
  own = λ share k among has. inl among;
  among = λ share left. left;
  from = λ k has. ⊎_elim (λ (e : 0 ≡ k). inl (sym e)) (λ (n : ⊥). absurd n) (subst (λ o. Has o k) start has);
}

has_left : (xs ys : List ℕ) (k : ℕ) → Has xs k → Has (xs ++ ys) k
has_left [] ys k h = absurd h
has_left (x ∷ xs) ys k h = ⊎_elim (λ (e : x ≡ k). inl e) (λ (r : Has xs k). inr (has_left xs ys k r)) h

has_right : (xs ys : List ℕ) (k : ℕ) → Has ys k → Has (xs ++ ys) k
has_right [] ys k h = h
has_right (x ∷ xs) ys k h = inr (has_right xs ys k h)

sum_push : (f : Seen → ℕ) (left rest : List Seen) (share : Seen) → left ≡ rest ++ share ∷ [] → sum (map f left) ≡ sum (map f rest) + f share
sum_push f left rest share last =
    ap (λ l. sum (map f l)) last
    ∙ sum-map f (rest ++ share ∷ [])
    ∙ sum_by_push f rest share
    ∙ ap (λ n. n + f share) (sym (sum-map f rest))

module _ (rule : List HubEntry → Type 0) (history : List HubEntry) (all left rest : List Seen) (house more share : Seen) where
  pub gathers_more : left ≡ rest ++ share ∷ [] → TakesIn rule house share more → more.seen ≡ history → accepted_count more ≡ accepted_count house + accepted_count share → Gathers history all left house
      → Gathers history all rest more
  gathers_more last took saw counted gathers = record {
    parts = omega (arith, gathers.parts, took.parts, sum_push (λ s. s.parts) left rest share last);
    counted = omega (arith, gathers.counted, counted, sum_push accepted_count left rest share last);
    called = omega (arith, gathers.called, ap length took.own, length-append house.own share.own, sum_push (λ s. length s.own) left rest share last);
    seen = λ other among. ⊎_elim (λ (l : Contains left other). of_left other l) (λ (p : IsPrefix other.seen history). inr p) (gathers.seen other among);
    own = λ other k among has. ⊎_elim (λ (l : Contains left other). own_of_left other k has l) (λ (h : Has house.own k). inr (mine k h)) (gathers.own other k among has);
    among = λ other r. gathers.among other (subst (λ (xs : List Seen). Contains xs other) (sym last) (Contains-append_left rest (share ∷ []) other r));
    from = λ k has. ⊎_elim (λ (h : Has house.own k). gathers.from k h) (λ (h : Has share.own k). inr (share, mine_too, h)) (has_either house.own share.own k (subst (λ o. Has o k) took.own has));
  }
    where
      mine_too : Contains all share
      mine_too = gathers.among share (subst (λ (xs : List Seen). Contains xs share) (sym last) (Contains-push rest share))

      mine : (k : ℕ) → Has house.own k → Has more.own k
      mine k h = subst (λ o. Has o k) (sym took.own) (has_left house.own share.own k h)

      theirs : (k : ℕ) → Has share.own k → Has more.own k
      theirs k h = subst (λ o. Has o k) (sym took.own) (has_right house.own share.own k h)

      of_left : (other : Seen) → Contains left other → Contains rest other ⊎ IsPrefix other.seen history
      of_left other l =
          ⊎_elim (λ (r : Contains rest other). inl r) (λ (same : share ≡ other). inr (subst (λ (x : Seen). IsPrefix x.seen history) same (subst (IsPrefix share.seen) saw took.second)))
          (Contains-push_cases rest share other (subst (λ (xs : List Seen). Contains xs other) last l))

      own_of_left : (other : Seen) (k : ℕ) → Has other.own k → Contains left other → Contains rest other ⊎ Has more.own k
      own_of_left other k h l =
          ⊎_elim (λ (r : Contains rest other). inl r) (λ (same : share ≡ other). inr (theirs k (subst (λ (x : Seen). Has x.own k) (sym same) h)))
          (Contains-push_cases rest share other (subst (λ (xs : List Seen). Contains xs other) last l))

nil_of : (left : List Seen) → length left ≡ 0 → left ≡ []
nil_of [] none = refl
nil_of (x ∷ xs) none = absurd (not-suc-le-zero (subst (λ n. 0 < n) none (omega arith)))

none_there : (left : List Seen) (other : Seen) → length left ≡ 0 → Contains left other → ⊥
none_there left other none l = not-suc-le-zero (subst (λ n. l.0 < n) none l.1)

-- none is left
pub all_parts : (history : List HubEntry) (all left : List Seen) (house : Seen) → length left ≡ 0 → Gathers history all left house → house.parts ≡ parts_of all + 1
all_parts history all left house none gathers = omega (arith, gathers.parts, ap parts_of (nil_of left none))

pub settled : (size : Size) (found now : Recorded QueueSink) (all left : List Seen) (house : Seen) (count : ℕ) → now ≡ found → length left ≡ 0 → Gathers found.history all left house
    → IsHubRun size now.history now.core → IsWhole (IsHubLegal size) now.history house → count ≡ accepted_count house → count ≡ length now.core.changes
    → Settles size found all count
settled size found now all left house count same none gathers run whole own changes = record {
  run = subst (λ (r : Recorded QueueSink). IsHubRun size r.history r.core) same run;
  changes = changes ∙ ap (λ (r : Recorded QueueSink). length r.core.changes) same;
  accepted = omega (arith, own, gathers.counted, ap count_of (nil_of left none));
  once = omega (arith, gathers.called, ap calls_of (nil_of left none), at_found.count);
  all = house;
  whole = at_found;
  seen = λ share among. ⊎_elim (λ (l : Contains left share). absurd (none_there left share none l)) (λ (p : IsPrefix share.seen found.history). p) (gathers.seen share among);
  own = λ share k among has. ⊎_elim (λ (l : Contains left share). absurd (none_there left share none l)) (λ (h : Has house.own k). h) (gathers.own share k among has);
  of_one = λ k above below. ⊎_elim (λ (e : k ≡ 0). absurd (not-suc-le-zero (subst (λ n. 0 < n) e above))) (λ (of : IsOf all k). of)
      (gathers.from k (each_is_own (IsHubLegal size) found.history house at_found k below));
}
  where
    at_found : IsWhole (IsHubLegal size) found.history house
    at_found = subst (λ (r : Recorded QueueSink). IsWhole (IsHubLegal size) r.history house) same whole

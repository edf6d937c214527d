-- What the calls of a share add up to.
use Rattle.std.proofs.Common.{◌≡◌, ℕ, zero, suc, ◌<◌, ◌≤◌, Some, List, [], ◌∷◌, ◌++◌, length, map, slice_get, refl, ap, sym, ◌∙◌, subst, inl, inr, ⊎_elim, arith, append_assoc, append-nil, length-append}
use Rattle.std.proofs.lemmas.List.{map-append}
use mathlib.Core.List.{IsPrefix}
use Rattle.change_ops.specs.declared.size.Size.{Size}
use Rattle.hub_core.specs.Machine.{Core}
use Rattle.subscriber_queues.specs.Queue.{QueueSink}
use Rattle.call_history.specs.Calls.{Has}
use Rattle.core_history.specs.Runs.{CoreCall, CoreReply, called}
use Rattle.core_history.specs.Hubs.{HubEntry, Seen}
use Rattle.ingest_workers.specs.Calls.{IsCall, IsSight, IsLook, AreRising, Makes, WasSo}

-- each list begins with itself
pub prefix_self : {A : Type 0} (xs : List A) → IsPrefix xs xs
prefix_self xs = ([], append-nil xs)

pub prefix_trans : {A : Type 0} (xs ys zs : List A) → IsPrefix xs ys → IsPrefix ys zs → IsPrefix xs zs
prefix_trans xs ys zs p q = (p.0 ++ q.0, sym (append_assoc xs p.0 q.0) ∙ (ap (λ w. w ++ q.0) p.1 ∙ q.1))

pub prefix_length : {A : Type 0} (xs ys : List A) → IsPrefix xs ys → length xs ≤ length ys
prefix_length xs ys p = omega (arith, sym (ap length p.1) ∙ length-append xs p.0)

-- what stands in a beginning stands in the whole, at the same place
pub prefix_get : {A : Type 0} (xs ys : List A) (k : ℕ) (x : A) → IsPrefix xs ys → slice_get xs k ≡ Some x → slice_get ys k ≡ Some x
prefix_get [] ys k x p h = absurd cc
prefix_get (y ∷ xs) [] k x p h = absurd (cc (p.1))
prefix_get (y ∷ xs) (z ∷ ys) zero x p h = cc (p.1, h)
prefix_get (y ∷ xs) (z ∷ ys) (suc k) x p h = prefix_get xs ys k x (p.0, cc (p.1)) h

-- the last stands at the place behind all others
pub get_last : {A : Type 0} (xs : List A) (x : A) → slice_get (xs ++ x ∷ []) (length xs) ≡ Some x
get_last [] x = refl
get_last (y ∷ xs) x = get_last xs x

get_below : {A : Type 0} (xs : List A) (k : ℕ) (x : A) → slice_get xs k ≡ Some x → k < length xs
get_below [] k x h = absurd cc
get_below (y ∷ xs) zero x h = omega arith
get_below (y ∷ xs) (suc k) x h = omega (arith, get_below xs k x h)

stand_within : (xs ys : List HubEntry) (ks : List ℕ) (calls : List HubEntry) → IsPrefix xs ys → map (slice_get xs) ks ≡ map Some calls → map (slice_get ys) ks ≡ map Some calls
stand_within xs ys [] [] p h = refl
stand_within xs ys [] (c ∷ calls) p h = absurd cc
stand_within xs ys (k ∷ ks) [] p h = absurd cc
stand_within xs ys (k ∷ ks) (c ∷ calls) p h =
    let here : slice_get xs k ≡ Some c = cc h in
    let more : map (slice_get xs) ks ≡ map Some calls = cc h in
    let there = prefix_get xs ys k c p here in
    let rest = stand_within xs ys ks calls p more in
    cc (there, rest)

stand_below : (xs : List HubEntry) (ks : List ℕ) (calls : List HubEntry) → map (slice_get xs) ks ≡ map Some calls → (k : ℕ) → Has ks k → k < length xs
stand_below xs [] calls h k has = absurd has
stand_below xs (j ∷ ks) [] h k has = absurd cc
stand_below xs (j ∷ ks) (c ∷ calls) h k has =
    let here : slice_get xs j ≡ Some c = cc h in
    let more : map (slice_get xs) ks ≡ map Some calls = cc h in
    ⊎_elim (λ (e : j ≡ k). subst (λ i. i < length xs) e (get_below xs j c here)) (λ (r : Has ks k). stand_below xs ks calls more k r) has

rising_down : (low mid : ℕ) (ks : List ℕ) → low ≤ mid → AreRising mid ks → AreRising low ks
rising_down low mid [] le rise = tt
rising_down low mid (k ∷ ks) le rise = (omega (arith, le, rise.0), rise.1)

rising_both : (low mid : ℕ) (ks js : List ℕ) → AreRising low ks → ((k : ℕ) → Has ks k → k < mid) → low ≤ mid → AreRising mid js → AreRising low (ks ++ js)
rising_both low mid [] js rise below le more = rising_down low mid js le more
rising_both low mid (k ∷ ks) js rise below le more =
    (rise.0, rising_both (suc k) mid ks js rise.1 (λ j has. below j (inr has)) (below k (inl refl)) more)

module _ (size : Size) where
  -- nothing was done
  pub makes_none : (v : Seen) → Makes size v [] v
  makes_none v = record {
    begins = prefix_self v.seen;
    places = [];
    own = sym (append-nil v.own);
    rising = tt;
    stand = refl;
    parts = refl;
    legal = λ legal. legal;
  }

  -- nor of what is no other
  pub makes_same : (v w : Seen) → w ≡ v → Makes size v [] w
  makes_same v w same = subst (Makes size v []) (sym same) (makes_none v)

  -- one call
  pub makes_call : (v w : Seen) (c : CoreCall QueueSink) (r : CoreReply) → IsCall size v c r w → Makes size v (called c r ∷ []) w
  makes_call v w c r made =
      let more = made.records.extends in
      let before = v.seen ++ more.between in record {
        begins = (more.between ++ called c r ∷ [], sym (append_assoc v.seen more.between (called c r ∷ [])) ∙ sym more.seen);
        places = length before ∷ [];
        own = more.own;
        rising = (omega (arith, length-append v.seen more.between), tt);
        stand = ap (λ log. slice_get log (length before) ∷ []) more.seen ∙ ap (λ o. o ∷ []) (get_last before (called c r));
        parts = more.parts;
        legal = λ legal. more.legal;
      }

  -- a look makes none
  pub makes_sight : (v w : Seen) (s : Core QueueSink) → IsSight size v s w → Makes size v [] w
  makes_sight v w s sight = record {
    begins = sight.looks.begins;
    places = [];
    own = sight.looks.own ∙ sym (append-nil v.own);
    rising = tt;
    stand = refl;
    parts = sight.looks.parts;
    legal = λ legal. sight.looks.legal;
  }

  pub makes_look : (v w : Seen) (fact : Core QueueSink → Type 0) → IsLook size v fact w → Makes size v [] w
  makes_look v w fact look = makes_sight v w look.0 look.1

  -- some calls, and then others
  pub makes_then : (v u w : Seen) (calls more : List HubEntry) → Makes size v calls u → Makes size u more w → Makes size v (calls ++ more) w
  makes_then v u w calls more a b = record {
    begins = prefix_trans v.seen u.seen w.seen a.begins b.begins;
    places = a.places ++ b.places;
    own = b.own ∙ ap (λ own. own ++ b.places) a.own ∙ append_assoc v.own a.places b.places;
    rising = rising_both (length v.seen) (length u.seen) a.places b.places a.rising (stand_below u.seen a.places calls a.stand) (prefix_length v.seen u.seen a.begins) b.rising;
    stand =
        map-append (slice_get w.seen) a.places b.places
        ∙ ap (λ l. l ++ map (slice_get w.seen) b.places) (stand_within u.seen w.seen a.places calls b.begins a.stand)
        ∙ ap (λ l. map Some calls ++ l) b.stand
        ∙ sym (map-append Some calls more);
    parts = b.parts ∙ a.parts;
    legal = λ legal. b.legal (a.legal legal);
  }

  -- what was seen was so between two moments around it
  pub was_seen : (v w : Seen) (s : Core QueueSink) (fact : Core QueueSink → Type 0) → IsSight size v s w → fact s → WasSo size v w fact
  was_seen v w s fact sight so = record {
    log = w.seen;
    state = s;
    from = sight.looks.begins;
    to = prefix_self w.seen;
    run = sight.run;
    consistent = sight.consistent;
    so = so;
  }

  pub was_looked : (v w : Seen) (fact : Core QueueSink → Type 0) → IsLook size v fact w → WasSo size v w fact
  was_looked v w fact look = was_seen v w look.0 fact look.1 look.2

  pub was_between : (v u t w : Seen) (fact : Core QueueSink → Type 0) → IsPrefix v.seen u.seen → IsPrefix t.seen w.seen → WasSo size u t fact → WasSo size v w fact
  was_between v u t w fact before after was = record {
    log = was.log;
    state = was.state;
    from = prefix_trans v.seen u.seen was.log before was.from;
    to = prefix_trans was.log t.seen w.seen was.to after;
    run = was.run;
    consistent = was.consistent;
    so = was.so;
  }

  -- and then some calls were made
  pub was_before : (v u w : Seen) (calls : List HubEntry) (fact : Core QueueSink → Type 0) → WasSo size v u fact → Makes size u calls w → WasSo size v w fact
  was_before v u w calls fact was more = was_between v v u w fact (prefix_self v.seen) more.begins was

  pub was_after : (v u w : Seen) (calls : List HubEntry) (fact : Core QueueSink → Type 0) → Makes size v calls u → WasSo size u w fact → WasSo size v w fact
  was_after v u w calls fact before was = was_between v u w w fact before.begins (prefix_self w.seen) was

  -- what follows from it was so
  pub was_also : (v w : Seen) (fact other : Core QueueSink → Type 0) → ((s : Core QueueSink) → fact s → other s) → WasSo size v w fact → WasSo size v w other
  was_also v w fact other follows was = record {
    log = was.log;
    state = was.state;
    from = was.from;
    to = was.to;
    run = was.run;
    consistent = was.consistent;
    so = follows was.state was.so;
  }

  pub look_also : (v w : Seen) (fact other : Core QueueSink → Type 0) → ((s : Core QueueSink) → fact s → other s) → IsLook size v fact w → IsLook size v other w
  look_also v w fact other follows look = (look.0, look.1, follows look.0 look.2)

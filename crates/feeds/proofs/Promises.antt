-- What is promised of a sink, and what a subscriber may send to it.
use Rattle.std.proofs.Common.{◌≡◌, ℕ, ◌+◌, ◌-◌, ◌≤◌, ◌<◌, List, [], ◌∷◌, ◌++◌, length, map, take, drop, get_or, refl, sym, ap, ◌∙◌, subst, arith, append_assoc, take-append-drop, ⊎_elim, inl, inr}
use Rattle.std.specs.Prelude.{Option, Some, None, slice_get}
use Rattle.std.proofs.Math.Nat.{zero-add}
use Rattle.std.proofs.lemmas.List.{map-append}
use Rattle.std.proofs.lemmas.List.Concat.{flat_map-append}
use Rattle.std.proofs.lemmas.Option.{slice_get_within}
use Rattle.change_ops.specs.Changes.{Change}
use Rattle.change_ops.specs.declared.size.Size.{Size}
use Rattle.semantics.specs.Step.{Program}
use Rattle.span_flatten.specs.Version.{Version}
use Rattle.version_history.specs.Tokens.{Token}
use Rattle.change_history.specs.Accepted.{AreAccepted}
use Rattle.feeds.specs.declared.item.Finding.{Finding}
use Rattle.feeds.specs.Batches.{Item, Job, items_of}
use Rattle.feeds.specs.Orderly.{RisesFrom, items_of_all}
use Rattle.feeds.specs.Stream.{IsStream, BeginsStream}
use Rattle.feeds.specs.Promise.{Promise, BeginsPromised, IsPromised, Suits, AreOfChanges}
use Rattle.feeds.specs.Feed.{Subscriber, IsFed}
use Rattle.feeds.proofs.Sends.{part_more}
use Rattle.feeds.proofs.Feeds.{owed_here, whole}
use Rattle.feeds.proofs.Feeding.{rises_are}
use Rattle.feeds.proofs.Streams.{drop_split, begins_stream}

front_none : (xs ys : List Item) → xs ++ ys ≡ [] → xs ≡ []
front_none [] ys e = refl
front_none (x ∷ xs) ys e = cc

begins_front : (p : Program) (changes : List Change) (first last : ℕ) (xs ys : List Item) → BeginsStream p changes first last (map (λ (e : Item). e.what) (xs ++ ys))
    → BeginsStream p changes first last (map (λ (e : Item). e.what) xs)
begins_front p changes first last xs ys b =
    let before : List Finding = map (λ (e : Item). e.what) xs in
    let after : List Finding = map (λ (e : Item). e.what) ys in
    record {
      rest = after ++ b.rest;
      stream = subst (IsStream p changes first last) (ap (λ l. l ++ b.rest) (map-append (λ (e : Item). e.what) xs ys) ∙ append_assoc before after b.rest) b.stream;
    }

-- a beginning of what is promised is promised
pub promised_front : (promise : Option Promise) (xs ys : List Item) → IsPromised promise (xs ++ ys) → IsPromised promise xs
promised_front None xs ys h = tt
promised_front (Some p) xs ys h =
    ⊎_elim (λ (none : xs ++ ys ≡ []). inl (front_none xs ys none))
    (λ (b : BeginsPromised p (xs ++ ys)). inr (record {
      changes = b.changes;
      accepted = b.accepted;
      first = b.first;
      named = b.named;
      begins = begins_front p.program b.changes b.first (length b.changes) xs ys b.begins;
    })) h

-- the items of a subscriber's versions from its first one on are promised
promised_items : (promise : Option Promise) (size : Size) (p : Token Program) (first : ℕ) (ts : List (Token Version)) (items rest : List Item) → Suits promise size p.value first → AreOfChanges size ts
    → first ≤ length ts → items ++ rest ≡ items_of_all p (drop first ts) → IsPromised promise items
promised_items None size p first ts items rest suits of behind is = tt
promised_items (Some m) size p first ts items rest suits of behind is = inr (record {
  changes = of.changes;
  accepted = subst (λ (s : Size). AreAccepted s of.changes) (sym suits.0) of.accepted;
  first = first;
  named = suits.2;
  begins = subst (λ (q : Program). BeginsStream q of.changes first (length of.changes) (map (λ (e : Item). e.what) items)) (sym suits.1)
      (begins_stream p of.changes ts first items rest of.all of.are behind is);
})

-- the numbers of such tokens rise from 0
pub changes_rise : (size : Size) (ts : List (Token Version)) → AreOfChanges size ts → RisesFrom 0 ts
changes_rise size ts of = rises_are 0 ts (λ n t e. (of.are n t e).numbered ∙ sym (zero-add n))

module _ {S : Type 0} (sent : S → List Item) (full : S → Type 0) where
  -- the rest of the batch at the cursor is promised
  pub may_promise : (promise : Option Promise) (size : Size) (ts : List (Token Version)) (s : Subscriber S) (b : Job) → Suits promise size s.program.value s.first → AreOfChanges size ts → IsFed sent full ts s
      → slice_get s.held 0 ≡ Some (Some b) → IsPromised promise (sent s.sink ++ drop s.count (items_of b.program b.version))
  may_promise promise size ts s b suits of fed at =
      let begun = fed.begun in
      let within : s.cursor < length ts = slice_get_within ts s.cursor b.version (owed_here sent full ts s b fed at).1 in
      let p = s.program in
      let items = sent s.sink ++ drop s.count (items_of b.program b.version) in
      let rest = items_of_all p (drop (s.cursor + 1) ts) in
      let is : items ++ rest ≡ items_of_all p (drop s.first ts) =
      ap (λ l. l ++ rest) (whole sent full ts s b fed at) ∙ sym (flat_map-append (items_of p) (drop s.first (take (s.cursor + 1) ts)) (drop (s.cursor + 1) ts))
      ∙ ap (items_of_all p) (drop_split s.first (s.cursor + 1) ts (omega arith) (omega arith)) in
      promised_items promise size p s.first ts items rest suits of (omega arith) is

-- what is sent with the next item is a beginning of what may be sent
pub promised_next : (promise promise' : Option Promise) (old now items : List Item) (from at : ℕ) (x : Item) → IsPromised promise (old ++ drop from items) → promise' ≡ promise
    → now ≡ old ++ take (at - from) (drop from items) → from ≤ at → at < length items → x ≡ get_or items at x → IsPromised promise' (now ++ x ∷ [])
promised_next promise promise' old now items from at x promised same is low high read =
    let rest = drop from items in
    let k = at + 1 - from in
    let e : now ++ x ∷ [] ≡ old ++ take k rest = ap (λ l. l ++ x ∷ []) is ∙ append_assoc old (take (at - from) rest) (x ∷ []) ∙ ap (λ l. old ++ l) (sym (part_more items from at x low high read)) in
    let whole : (old ++ take k rest) ++ drop k rest ≡ old ++ rest = append_assoc old (take k rest) (drop k rest) ∙ ap (λ l. old ++ l) (take-append-drop k rest) in
    subst (λ (z : Option Promise × List Item). IsPromised z.0 z.1) (λ i. (sym same i, sym e i))
    (promised_front promise (old ++ take k rest) (drop k rest) (subst (IsPromised promise) (sym whole) promised))

-- What the core keeps when something is added or changed.
use Rattle.std.proofs.Common.{◌≡◌, ℕ, zero, suc, ◌+◌, ◌<◌, ◌≤◌, Bool, true, false, true≢false, Result, Ok, Err, List, [], ◌∷◌, ◌++◌, length, take, set, get_or, refl, sym, ap, ◌∙◌, subst, arith, rules, length-append, length-set, ⊎_elim}
use Rattle.std.specs.Prelude.{slice_get, Option, Some, None, All}
use Rattle.std.proofs.lemmas.List.{take-append-le, take_all, get_or_default, set-get_or}
use Rattle.std.proofs.lemmas.List.Elements.{All-set, All-push, All-weaker, All-get_or}
use Rattle.std.proofs.lemmas.Option.{slice_get_within, slice_get_read, slice_get_past, same_Some, none-some}
use Rattle.change_ops.specs.Changes.{Change}
use Rattle.change_ops.specs.declared.size.Size.{Size}
use Rattle.change_ops.specs.Sizes.{most_changes}
use Rattle.semantics.specs.Step.{Program}
use Rattle.filters.specs.Filters.{IsFilter}
use Rattle.span_flatten.specs.Version.{Version, IsVersion}
use Rattle.version_history.specs.Tokens.{Token}
use Rattle.feeds.specs.Batches.{Item, Job}
use Rattle.feeds.specs.Promise.{AreOfChanges}
use Rattle.feeds.specs.Feed.{Subscriber, IsFed, IsWanted, Keeps, Moved, Stops, IsDue, IsNext, Finds, fresh, rewound, nothing_held}
use Rattle.feeds.proofs.Feeding.{get_push, fed_more, fresh_fed, fed_handed, fed_closed}
use Rattle.change_history.specs.Accepted.{AreAccepted, operations_of}
use Rattle.hub_core.specs.declared.error.CommitError.TheVariants.{Stale}
use Rattle.change_history.specs.VersionAt.{IsVersionAt}
use Rattle.change_history.specs.declared.refusal.SubmitError.{SubmitError}
use Rattle.hub_core.specs.Accepting.{Accepts, HasLatest}
use Rattle.hub_core.specs.Machine.{Core, IsOpen, HasNone, HasPlace, Submits, Subscribes, Commits, Pumps, Reissues, Closes, TakesJob, Misses, FindsAt, IsSound}
use Rattle.hub_core.proofs.Opened.{count_push, count_set}

-- the version of all changes
pub version_of_all : (changes : List Change) (c : Change) (v : Version) → IsVersion (operations_of (changes ++ c ∷ [])) (length changes + 1) v → IsVersionAt (changes ++ c ∷ []) (length changes + 1) v
version_of_all changes c v is =
    let all : take (length changes + 1) (changes ++ c ∷ []) ≡ changes ++ c ∷ [] = take_all (length changes + 1) (changes ++ c ∷ []) (omega (arith, length-append changes (c ∷ []))) in
    subst (λ l. IsVersion (operations_of l) (length changes + 1) v) (sym all) is

token_at : (versions : List (Token Version)) (n : ℕ) → n < length versions → (token : Token Version) × (slice_get versions n ≡ Some token)
token_at [] n within = absurd (omega arith)
token_at (token ∷ versions) zero within = (token, refl)
token_at (token ∷ versions) (suc n) within = token_at versions n (omega arith)

module _ {S : Type 0} (sent : S → List Item) (full : S → Type 0) where
  -- the token of the version of all changes
  pub has_latest : (s : Core S) → IsSound sent full s → HasLatest s.changes s.versions
  has_latest s sound =
      let r = token_at s.versions (length s.changes) (omega (arith, sound.named)) in
      (r.0, r.1, sound.versions_are (length s.changes) r.0 r.1)

  -- the tokens are of all versions of the changes
  pub of_changes : (s : Core S) → IsSound sent full s → AreAccepted s.size s.changes → AreOfChanges s.size s.versions
  of_changes s sound accepted = record { changes = s.changes; accepted = accepted; all = sound.named; are = sound.versions_are }

  pub sound_submit : (s : Core S) (c : Change) (t : Token Version) → IsSound sent full s → length s.changes < most_changes s.size → IsVersionAt (s.changes ++ c ∷ []) (length s.changes + 1) t.value
      → IsSound sent full (record s { changes = s.changes ++ c ∷ []; versions = s.versions ++ t ∷ [] })
  sound_submit s c t sound room is =
      record {
        named = omega (arith, length-append s.versions (t ∷ []), length-append s.changes (c ∷ []), sound.named);
        few = omega (arith, length-append s.changes (c ∷ []));
        few_subscribers = sound.few_subscribers;
        few_open = sound.few_open;
        versions_are = λ n u e. ⊎_elim
            (λ (old : slice_get s.versions n ≡ Some u).
            let within = slice_get_within s.versions n u old in
            let front : n ≤ length s.changes = omega (arith, sound.named) in
            subst (λ l. IsVersion (operations_of l) n u.value) (sym (take-append-le n s.changes (c ∷ []) front)) (sound.versions_are n u old))
            (λ (new : (n ≡ length s.versions) × (u ≡ t)).
            let n_is : length s.changes + 1 ≡ n = omega (arith, sound.named, new.0) in
            subst (λ (x : ℕ × Token Version). IsVersionAt (s.changes ++ c ∷ []) x.0 x.1.value) (λ i. (n_is i, sym new.1 i)) is)
            (get_push s.versions t n u e);
        fed = All-weaker (IsFed sent full s.versions) (IsFed sent full (s.versions ++ t ∷ [])) (λ a. fed_more sent full s.versions (t ∷ []) a) s.subscribers sound.fed;
      }

  pub sound_start : (s : Core S) (t : Token Version) → s.changes ≡ [] → s.versions ≡ [] ++ t ∷ [] → s.subscribers ≡ [] → IsVersionAt [] 0 t.value → IsSound sent full s
  sound_start s t changes versions subscribers is =
      let no_subs : All (IsFed sent full (t ∷ [])) [] = search rules in
      subst (λ (x : List Change × List (Token Version) × List (Subscriber S)). IsSound sent full (record { size = s.size; changes = x.0; versions = x.1; subscribers = x.2 }))
      (λ i. (sym changes i, sym versions i, sym subscribers i))
      (record {
        named = refl;
        few = omega arith;
        few_subscribers = omega arith;
        few_open = omega arith;
        versions_are = λ n u e. elim n as (λ (k : ℕ). slice_get (t ∷ []) k ≡ Some u → IsVersionAt [] k u.value)
            [ zero ↦ λ e. subst (λ (x : Token Version). IsVersionAt [] 0 x.value) (same_Some t u e) is | suc k ↦ λ e. absurd (none-some u e) ] e;
        fed = no_subs;
      })

  -- both lists have one more, or stay as they were
  pub sound_accepted : (s : Core S) (c : Change) (r : Result (Token Version) SubmitError) (size : Size) (changes : List Change) (versions : List (Token Version)) → IsSound sent full s
      → Accepts s.size s.changes s.versions c r changes versions → size ≡ s.size → IsSound sent full (record s { size = size; changes = changes; versions = versions })
  sound_accepted s c (Ok t) size changes versions sound h same =
      subst (λ (x : Size × List Change × List (Token Version)). IsSound sent full (record s { size = x.0; changes = x.1; versions = x.2 })) (λ i. (sym same i, sym h.2 i, sym h.3 i))
      (sound_submit s c t sound h.0.room h.1)
  sound_accepted s c (Err e) size changes versions sound h same =
      subst (λ (x : Size × List Change × List (Token Version)). IsSound sent full (record s { size = x.0; changes = x.1; versions = x.2 })) (λ i. (sym same i, sym h.0 i, sym h.1 i)) sound

  -- a subscriber is replaced by one that is open only where it was
  sound_replaced : (s : Core S) (id : ℕ) (a b : Subscriber S) → IsSound sent full s → id < length s.subscribers → a ≡ get_or s.subscribers id a → (a.closed ≡ true → b.closed ≡ true) → IsFed sent full s.versions b
      → IsSound sent full (record s { subscribers = set s.subscribers id b })
  sound_replaced s id a b sound within at stays fed = record {
    named = sound.named;
    few = sound.few;
    few_subscribers = omega (arith, length-set s.subscribers id b, sound.few_subscribers);
    few_open = omega (arith, count_set s.subscribers id a b (slice_get_read s.subscribers (length s.subscribers) id a refl within at) stays, sound.few_open);
    versions_are = sound.versions_are;
    fed = All-set (IsFed sent full s.versions) s.subscribers id b fed sound.fed;
  }

  pub sound_set : (s : Core S) (id : ℕ) (a b : Subscriber S) → IsSound sent full s → id < length s.subscribers → a ≡ get_or s.subscribers id a → b.closed ≡ a.closed → IsFed sent full s.versions b
      → IsSound sent full (record s { subscribers = set s.subscribers id b })
  sound_set s id a b sound within at same fed = sound_replaced s id a b sound within at (λ closed. same ∙ closed) fed

  pub sound_subscribe : (s : Core S) (p : Token Program) (first : ℕ) (sink : S) → IsSound sent full s → first ≤ length s.changes → HasPlace s → sent sink ≡ []
      → IsSound sent full (record s { subscribers = s.subscribers ++ fresh p first sink ∷ [] })
  sound_subscribe s p first sink sound published room none = record {
    named = sound.named;
    few = sound.few;
    few_subscribers = omega (arith, length-append s.subscribers (fresh p first sink ∷ []), room.added);
    few_open = omega (arith, count_push s.subscribers (fresh p first sink), room.at_once);
    versions_are = sound.versions_are;
    fed = All-push (IsFed sent full s.versions) s.subscribers (fresh p first sink) sound.fed (fresh_fed sent full s.versions p first sink (omega (arith, sound.named, published)) none);
  }

  -- what the code has is the state with a subscriber more
  pub sound_subscribed : (s : Core S) (p : Token Program) (sink : S) (n : ℕ) (a : Subscriber S) (old subscribers : List (Subscriber S)) → IsSound sent full s → n ≤ length s.changes → HasPlace s → sent sink ≡ []
      → a ≡ fresh p n sink → old ≡ s.subscribers → subscribers ≡ old ++ a ∷ [] → IsSound sent full (record s { subscribers = subscribers })
  sound_subscribed s p sink n a old subscribers sound published room none made same is =
      let now : subscribers ≡ s.subscribers ++ fresh p n sink ∷ [] =
      is ∙ ap (λ (x : Subscriber S × List (Subscriber S)). x.1 ++ x.0 ∷ []) (λ i. (made i, same i)) in
      subst (λ (l : List (Subscriber S)). IsSound sent full (record s { subscribers = l })) (sym now) (sound_subscribe s p n sink sound published room none)

  -- a subscriber that is read
  pub fed_at : (s : Core S) (id : ℕ) (a : Subscriber S) → IsSound sent full s → id < length s.subscribers → a ≡ get_or s.subscribers id a → IsFed sent full s.versions a
  fed_at s id a sound within is = subst (IsFed sent full s.versions) (sym is) (All-get_or (IsFed sent full s.versions) s.subscribers id a within sound.fed)

  pub pumped : (bare : S → S) (o s : Core S) (id m : ℕ) (x a b : Subscriber S) → s ≡ o → id < length s.subscribers → x ≡ get_or s.subscribers id x → x.closed ≡ false → a ≡ get_or s.subscribers id a
      → Moved sent full bare a m b → Stops sent full b → IsFed sent full s.versions b → Pumps sent full bare o id (Ok m) (record s { subscribers = set s.subscribers id b })
  pumped bare o s id m x a b same within read opened found moved stops fed =
      let one : a ≡ x = found ∙ get_or_default s.subscribers id a x within ∙ sym read in
      subst (λ z. Pumps sent full bare z id (Ok m) (record s { subscribers = set s.subscribers id b })) same
      (a, b, (slice_get_read s.subscribers (length s.subscribers) id a refl within found, ap (λ (z : Subscriber S). z.closed) one ∙ opened), moved, stops, fed, refl)

  -- the subscriber that was read as open
  pub open_at : (s : Core S) (id : ℕ) (x a : Subscriber S) → id < length s.subscribers → x ≡ get_or s.subscribers id x → x.closed ≡ false → a ≡ get_or s.subscribers id a → IsOpen s id a
  open_at s id x a within read opened found =
      let one : a ≡ x = found ∙ get_or_default s.subscribers id a x within ∙ sym read in
      (slice_get_read s.subscribers (length s.subscribers) id a refl within found, ap (λ (z : Subscriber S). z.closed) one ∙ opened)

module _ {S : Type 0} (sent : S → List Item) (full : S → Type 0) where
  pub committed : (o s : Core S) (b : Job) (ts : List (Token Version)) (id : ℕ) (x a a' : Subscriber S) (k : Bool) → s ≡ o → id ≡ b.subscriber → id < length s.subscribers
      → x ≡ get_or s.subscribers id x → x.closed ≡ false → a ≡ get_or s.subscribers id a → ts ≡ s.versions → Keeps ts a b k a' → k ≡ true
      → Commits o b (Ok tt) (record s { subscribers = set s.subscribers id a' })
  committed o s b ts id x a a' true same number within read opened found versions keeps kept =
      let here = subst (λ n. IsOpen s n a) number (open_at sent full s id x a within read opened found) in
      let wanted = subst (λ (l : List (Token Version)). IsWanted l a b) versions keeps.0 in
      subst (λ (y : Core S). Commits y b (Ok tt) (record s { subscribers = set s.subscribers id a' })) same
      (a, here, wanted, (λ i. record s { subscribers = set s.subscribers (number i) (keeps.1 i) }))
  committed o s b ts id x a a' false same number within read opened found versions keeps kept = absurd (true≢false (sym kept))

  -- neither opens nor closes the subscriber
  pub kept_closed : (ts : List (Token Version)) (a : Subscriber S) (b : Job) (k : Bool) (a' : Subscriber S) → Keeps ts a b k a' → a'.closed ≡ a.closed
  kept_closed ts a b true a' keeps = ap (λ (z : Subscriber S). z.closed) keeps.1
  kept_closed ts a b false a' keeps = ap (λ (z : Subscriber S). z.closed) keeps.1

  pub refused : (o s : Core S) (b : Job) (ts : List (Token Version)) (id : ℕ) (x a a' : Subscriber S) (k : Bool) → s ≡ o → id ≡ b.subscriber → id < length s.subscribers
      → x ≡ get_or s.subscribers id x → x.closed ≡ false → a ≡ get_or s.subscribers id a → ts ≡ s.versions → Keeps ts a b k a' → k ≡ false
      → Commits o b (Err Stale) (record s { subscribers = set s.subscribers id a' })
  refused o s b ts id x a a' true same number within read opened found versions keeps kept = absurd (true≢false kept)
  refused o s b ts id x a a' false same number within read opened found versions keeps kept =
      let here = subst (λ n. IsOpen s n a) number (open_at sent full s id x a within read opened found) in
      let back : set s.subscribers id a' ≡ s.subscribers = ap (set s.subscribers id) (keeps.1 ∙ found) ∙ set-get_or s.subscribers id a in
      subst (λ (y : Core S). Commits y b (Err Stale) (record s { subscribers = set s.subscribers id a' })) same
      (ap (λ (l : List (Subscriber S)). record s { subscribers = l }) back, a, here, subst (λ (l : List (Token Version)). ¬ IsWanted l a b) versions keeps.0)

  -- a subscriber from which something was handed out, or may be again
  pub sound_handed : (s : Core S) (id n : ℕ) (a a' : Subscriber S) → IsSound sent full s → id < length s.subscribers → a ≡ get_or s.subscribers id a → a' ≡ record a { handed = n }
      → IsSound sent full (record s { subscribers = set s.subscribers id a' })
  sound_handed s id n a a' sound within at made =
      sound_set sent full s id a a' sound within at (ap (λ (z : Subscriber S). z.closed) made)
      (subst (IsFed sent full s.versions) (sym made) (fed_handed sent full s.versions a n (fed_at sent full s id a sound within at)))

  pub sound_closed : (s : Core S) (id : ℕ) (a a' : Subscriber S) (sink : S) → IsSound sent full s → id < length s.subscribers → a ≡ get_or s.subscribers id a → a' ≡ record a { held = nothing_held; closed = true; sink = sink }
      → sent a'.sink ≡ sent a.sink → IsSound sent full (record s { subscribers = set s.subscribers id a' })
  sound_closed s id a a' sink sound within at made same =
      let sent_same : sent sink ≡ sent a.sink = ap (λ (z : Subscriber S). sent z.sink) (sym made) ∙ same in
      sound_replaced sent full s id a a' sound within at (λ _. ap (λ (z : Subscriber S). z.closed) made)
      (subst (IsFed sent full s.versions) (sym made) (fed_closed sent full s.versions a sink (fed_at sent full s id a sound within at) sent_same))

module _ {S : Type 0} where
  pub submitted : (o s : Core S) (c : Change) (r : Result (Token Version) SubmitError) (size : Size) (changes : List Change) (versions : List (Token Version)) → s ≡ o
      → Accepts s.size s.changes s.versions c r changes versions → size ≡ s.size → Submits o c r (record s { size = size; changes = changes; versions = versions })
  submitted o s c (Ok t) size changes versions same h kept =
      subst (λ (y : Core S). Submits y c (Ok t) (record s { size = size; changes = changes; versions = versions })) same
      (h.0, h.1, λ i. record s { size = kept i; changes = h.2 i; versions = h.3 i })
  submitted o s c (Err e) size changes versions same h kept =
      subst (λ (y : Core S). Submits y c (Err e) (record s { size = size; changes = changes; versions = versions })) same
      (λ i. record s { size = kept i; changes = h.0 i; versions = h.1 i }, h.2)

  -- the code has the state with a subscriber more
  pub subscribed_now : (o s : Core S) (p : Token Program) (sink : S) (n id : ℕ) (a : Subscriber S) (old subscribers : List (Subscriber S)) → s ≡ o → HasPlace o → n ≤ length s.changes → id ≡ length s.subscribers
      → a ≡ fresh p n sink → old ≡ s.subscribers → subscribers ≡ old ++ a ∷ [] → Subscribes o n p sink (Ok id) (record s { subscribers = subscribers })
  subscribed_now o s p sink n id a old subscribers same place published last made kept is =
      subst (λ (y : Core S). Subscribes y n p sink (Ok id) (record s { subscribers = subscribers })) same (
        subst (λ (y : Core S). HasPlace y) (sym same) place,
        published,
        last,
        λ i. record s { subscribers = (is ∙ (λ j. kept j ++ made j ∷ [])) i },
      )

  -- it is closed
  pub closed_by : (a a' : Subscriber S) (sink : S) → a' ≡ record a { held = nothing_held; closed = true; sink = sink } → a'.closed ≡ true
  closed_by a a' sink made = ap (λ (z : Subscriber S). z.closed) made

  reads : (s : Core S) (id : ℕ) (a : Subscriber S) → id < length s.subscribers → a ≡ get_or s.subscribers id a → slice_get s.subscribers id ≡ Some a
  reads s id a within at = slice_get_read s.subscribers (length s.subscribers) id a refl within at

  -- the subscriber that was read as open, and then to be changed
  open_both : (s : Core S) (id : ℕ) (x a : Subscriber S) → id < length s.subscribers → x ≡ get_or s.subscribers id x → x.closed ≡ false → a ≡ get_or s.subscribers id a → IsOpen s id a
  open_both s id x a within read opened found =
      let one : x ≡ a = same_Some x a (sym (reads s id x within read) ∙ reads s id a within found) in
      (reads s id a within found, ap (λ (z : Subscriber S). z.closed) (sym one) ∙ opened)

  pub reissued : (o s : Core S) (id : ℕ) (x a a' : Subscriber S) → s ≡ o → id < length s.subscribers → x ≡ get_or s.subscribers id x → x.closed ≡ false → a ≡ get_or s.subscribers id a
      → a' ≡ record a { handed = a.cursor } → Reissues o id (Ok tt) (record s { subscribers = set s.subscribers id a' })
  reissued o s id x a a' same within read opened found made =
      subst (λ (y : Core S). Reissues y id (Ok tt) (record s { subscribers = set s.subscribers id a' })) same
      (a, open_both s id x a within read opened found, ap (λ (z : Subscriber S). record s { subscribers = set s.subscribers id z }) made)

  pub closed_now : (closed_sink : S → S) (o s : Core S) (id : ℕ) (x a a' : Subscriber S) → s ≡ o → id < length s.subscribers → x ≡ get_or s.subscribers id x → x.closed ≡ false → a ≡ get_or s.subscribers id a
      → a' ≡ record a { held = nothing_held; closed = true; sink = closed_sink a.sink } → Closes closed_sink o id (Ok tt) (record s { subscribers = set s.subscribers id a' })
  closed_now closed_sink o s id x a a' same within read opened found made =
      subst (λ (y : Core S). Closes closed_sink y id (Ok tt) (record s { subscribers = set s.subscribers id a' })) same
      (a, open_both s id x a within read opened found, ap (λ (z : Subscriber S). record s { subscribers = set s.subscribers id z }) made)

  -- what was found of the subscriber that was read
  found_here : (s : Core S) (id latest : ℕ) (a : Subscriber S) (r : Option ℕ) → id < length s.subscribers → a ≡ get_or s.subscribers id a → a.closed ≡ false → latest ≡ length s.changes → Finds latest a r → FindsAt s id r
  found_here s id latest a (Some n) within at opened is found = (a, (reads s id a within at, opened), subst (λ k. IsNext k a n) is found)
  found_here s id latest a None within at opened is found = λ b is_open n due.
      let one : b ≡ a = same_Some b a (sym is_open.0 ∙ reads s id a within at) in
      found n (subst (λ (x : ℕ × Subscriber S). IsDue x.0 x.1 n) (λ i. (sym is i, one i)) due)

  -- an id that is one of an open subscriber is one of the list
  pub open_within : (o s : Core S) (id : ℕ) (x : Subscriber S) → s ≡ o → IsOpen o id x → id < length s.subscribers
  open_within o s id x same here = slice_get_within s.subscribers id x (subst (λ (y : Core S). slice_get y.subscribers id ≡ Some x) (sym same) here.0)

  pub found_at : (o s : Core S) (id latest : ℕ) (x a : Subscriber S) (r : Option ℕ) → s ≡ o → IsOpen o id x → a ≡ get_or s.subscribers id a → latest ≡ length s.changes → Finds latest a r → FindsAt o id r
  found_at o s id latest x a r same here at is found =
      let within = open_within o s id x same here in
      let one : x ≡ a = same_Some x a (sym (subst (λ (y : Core S). slice_get y.subscribers id ≡ Some x) (sym same) here.0) ∙ reads s id a within at) in
      subst (λ (y : Core S). FindsAt y id r) same (found_here s id latest a r within at (ap (λ (z : Subscriber S). z.closed) (sym one) ∙ here.1) is found)

  job_here : (s : Core S) (job : Job) (id number : ℕ) (a a' : Subscriber S) (ts : List (Token Version)) → FindsAt s id (Some number) → a ≡ get_or s.subscribers id a → a' ≡ record a { handed = number + 1 }
      → (job.subscriber ≡ id) × (job.number ≡ number) × (job.program ≡ a.program) → slice_get ts number ≡ Some job.version → ts ≡ s.versions
      → TakesJob s (Some job) (record s { subscribers = set s.subscribers id a' })
  job_here s job id number a a' ts found at made of version versions =
      let within = slice_get_within s.subscribers id found.0 found.1.0 in
      let here = reads s id a within at in
      let one : found.0 ≡ a = same_Some found.0 a (sym found.1.0 ∙ here) in
      let new : a' ≡ record a { handed = job.number + 1 } = made ∙ ap (λ k. record a { handed = k + 1 }) (sym of.1) in (
        a,
        (subst (λ k. slice_get s.subscribers k ≡ Some a) (sym of.0) here, ap (λ (z : Subscriber S). z.closed) (sym one) ∙ found.1.1),
        subst (λ (x : Subscriber S × ℕ). IsNext (length s.changes) x.0 x.1) (λ i. (one i, sym of.1 i)) found.2,
        of.2,
        subst (λ (x : List (Token Version) × ℕ). slice_get x.0 x.1 ≡ Some job.version) (λ i. (versions i, sym of.1 i)) version,
        (λ i. record s { subscribers = set s.subscribers (sym of.0 i) (new i) }),
      )

  pub job_taken : (o s : Core S) (job : Job) (id number : ℕ) (a a' : Subscriber S) (ts : List (Token Version)) → s ≡ o → FindsAt o id (Some number) → a ≡ get_or s.subscribers id a → a' ≡ record a { handed = number + 1 }
      → (job.subscriber ≡ id) × (job.number ≡ number) × (job.program ≡ a.program) → slice_get ts number ≡ Some job.version → ts ≡ s.versions
      → TakesJob o (Some job) (record s { subscribers = set s.subscribers id a' })
  job_taken o s job id number a a' ts same found at made of version versions =
      subst (λ (y : Core S). TakesJob y (Some job) (record s { subscribers = set s.subscribers id a' })) same
      (job_here s job id number a a' ts (subst (λ (y : Core S). FindsAt y id (Some number)) (sym same) found) at made of version versions)

  pub missed : (o s : Core S) (job : Job) (id number latest : ℕ) (x a : Subscriber S) (ts : List (Token Version)) → s ≡ o → id < length s.subscribers → x ≡ get_or s.subscribers id x → x.closed ≡ false → a ≡ get_or s.subscribers id a
      → latest ≡ length s.changes → IsNext latest (rewound a) number → (job.subscriber ≡ id) × (job.number ≡ number) × (job.program ≡ a.program) → slice_get ts number ≡ Some job.version → ts ≡ s.versions
      → Misses o id (Some job)
  missed o s job id number latest x a ts same within read opened found is next of version versions =
      subst (λ (y : Core S). Misses y id (Some job)) same (
        a,
        open_both s id x a within read opened found,
        subst (λ (z : ℕ × ℕ). IsNext z.0 (rewound a) z.1) (λ i. (is i, sym of.1 i)) next,
        of.0,
        of.2,
        subst (λ (z : List (Token Version) × ℕ). slice_get z.0 z.1 ≡ Some job.version) (λ i. (versions i, sym of.1 i)) version,
      )

  pub missed_none : (o s : Core S) (id latest : ℕ) (a : Subscriber S) → s ≡ o → id < length s.subscribers → a ≡ get_or s.subscribers id a → latest ≡ length s.changes
      → ((n : ℕ) → ¬ IsDue latest (rewound a) n) → Misses o id None
  missed_none o s id latest a same within found is none =
      subst (λ (y : Core S). Misses y id None) same (λ b is_open n due.
      let one : b ≡ a = same_Some b a (sym is_open.0 ∙ reads s id a within found) in
      none n (subst (λ (z : ℕ × Subscriber S). IsDue z.0 (rewound z.1) n) (λ i. (sym is i, one i)) due))

  -- no open subscriber has the id
  pub missed_unknown : (o : Core S) (id : ℕ) → HasNone o id → Misses o id None
  missed_unknown o id none = λ a is_open n due. true≢false (sym (none a is_open.0) ∙ is_open.1)

  -- the sink of the subscriber that was read
  pub sink_there : (o s : Core S) (id : ℕ) (a : Subscriber S) (sink : S) → s ≡ o → id < length s.subscribers → a ≡ get_or s.subscribers id a → sink ≡ a.sink → (x : Subscriber S) × (slice_get o.subscribers id ≡ Some x) × (sink ≡ x.sink)
  sink_there o s id a sink same within at is = (a, subst (λ (y : Core S). slice_get y.subscribers id ≡ Some a) same (reads s id a within at), is)

  -- the subscriber that was read stays what it is, and so does the core
  pub met_same : (o s : Core S) (id : ℕ) (a b : Subscriber S) → s ≡ o → a ≡ get_or s.subscribers id a → b ≡ a → record s { subscribers = set s.subscribers id b } ≡ o
  met_same o s id a b same at kept =
      let back : set s.subscribers id b ≡ s.subscribers = ap (set s.subscribers id) (kept ∙ at) ∙ set-get_or s.subscribers id a in
      ap (λ (l : List (Subscriber S)). record s { subscribers = l }) back ∙ same

  -- how far the subscriber that was read as open was sent, by its cursor, and what is so of its sink
  pub met_there : (o s : Core S) (id cursor : ℕ) (x a : Subscriber S) (Met : S → Type 0) → s ≡ o → id < length s.subscribers → x ≡ get_or s.subscribers id x → x.closed ≡ false → a ≡ get_or s.subscribers id a
      → cursor ≡ a.cursor → Met a.sink → (y : Subscriber S) × IsOpen o id y × (cursor ≡ y.cursor) × Met y.sink
  met_there o s id cursor x a Met same within read opened found at met =
      (a, subst (λ (y : Core S). IsOpen y id a) same (open_both s id x a within read opened found), at, met)

  -- what fits the sink of each open one with the id fits that of the one that was read as open
  pub fits_there : (o s : Core S) (id : ℕ) (x a : Subscriber S) (Fits : S → Type 0) → s ≡ o → id < length s.subscribers → x ≡ get_or s.subscribers id x → x.closed ≡ false → a ≡ get_or s.subscribers id a
      → ((y : Subscriber S) → IsOpen o id y → Fits y.sink) → Fits a.sink
  fits_there o s id x a Fits same within read opened found fits =
      fits a (subst (λ (y : Core S). IsOpen y id a) same (open_both s id x a within read opened found))

  -- what holds of it, its program is safe, holds of the one with the id
  pub safe_there : (o s : Core S) (id : ℕ) (a : Subscriber S) → s ≡ o → id < length s.subscribers → a ≡ get_or s.subscribers id a → IsFilter a.program.value → (x : Subscriber S) → slice_get o.subscribers id ≡ Some x → IsFilter x.program.value
  safe_there o s id a same within at safe x there =
      let read : slice_get o.subscribers id ≡ Some a = subst (λ (y : Core S). slice_get y.subscribers id ≡ Some a) same (reads s id a within at) in
      let one : a ≡ x = same_Some a x (sym read ∙ there) in
      subst (λ (y : Subscriber S). IsFilter y.program.value) one safe

  pub none_there : (o s : Core S) (id : ℕ) → s ≡ o → length s.subscribers ≤ id → (x : Subscriber S) → slice_get o.subscribers id ≡ Some x → IsFilter x.program.value
  none_there o s id same past x there =
      let none : slice_get s.subscribers id ≡ None = slice_get_past s.subscribers id past in
      absurd (none-some x (sym none ∙ subst (λ (y : Core S). slice_get y.subscribers id ≡ Some x) (sym same) there))

-- What a subscriber keeps when the hub has a version more, when it is made, and when a batch is held.
use Rattle.std.proofs.Common.{◌≡◌, ℕ, zero, suc, ◌+◌, ◌-◌, ◌<◌, ◌≤◌, true, false, true≢false, Option, None, Some, List, [], ◌∷◌, ◌++◌, length, take, drop, set, get_or, replicate, refl, sym, ap, ◌∙◌, subst, arith, length-append, length-set, length-take, ⊎_elim, inl, inr}
use Rattle.std.specs.Prelude.{slice_get, All, ◌⊎◌, is_some}
use Rattle.std.proofs.Math.Nat.{add-zero}
use Rattle.std.proofs.lemmas.List.{append-nil, take-append-le, drop_all}
use Rattle.std.proofs.lemmas.Bool.{cases_lt}
use Rattle.std.proofs.lemmas.List.Elements.{All-get_or}
use Rattle.std.proofs.lemmas.Option.{get_or_from_slice_get, slice_get_within, slice_get_read, same_Some, none-some}
use Rattle.semantics.specs.Step.{Program}
use Rattle.span_flatten.specs.Version.{Version}
use Rattle.version_history.specs.Tokens.{Token}
use Rattle.feeds.specs.Batches.{Item, Job}
use Rattle.feeds.specs.Orderly.{RisesFrom, items_of_all}
use Rattle.feeds.specs.Feed.{Subscriber, HeldBatches, IsHeldAt, IsWanted, IsDue, fresh, nothing_held, items_at, IsFed}

pub get_left : {X : Type 0} (xs ys : List X) (n : ℕ) (x : X) → slice_get xs n ≡ Some x → slice_get (xs ++ ys) n ≡ Some x
get_left [] ys n x e = absurd (none-some x e)
get_left (y ∷ xs) ys zero x e = e
get_left (y ∷ xs) ys (suc n) x e = get_left xs ys n x e

-- an element of a list with one more at the end is an old one or that one
pub get_push : {X : Type 0} (xs : List X) (y : X) (n : ℕ) (x : X) → slice_get (xs ++ y ∷ []) n ≡ Some x → (slice_get xs n ≡ Some x) ⊎ ((n ≡ length xs) × (x ≡ y))
get_push [] y zero x e = inr (refl, sym (same_Some y x e))
get_push [] y (suc n) x e = absurd (none-some x e)
get_push (z ∷ xs) y zero x e = inl e
get_push (z ∷ xs) y (suc n) x e = ⊎_elim (λ l. inl l) (λ r. inr (ap suc r.0, r.1)) (get_push xs y n x e)

items_at_left : (p : Token Program) (ts us : List (Token Version)) (n : ℕ) → n < length ts → items_at p (ts ++ us) n ≡ items_at p ts n
items_at_left p [] us n l = absurd (omega arith)
items_at_left p (t ∷ ts) us zero l = refl
items_at_left p (t ∷ ts) us (suc n) l = items_at_left p ts us n (omega arith)

items_at_past : (p : Token Program) (ts : List (Token Version)) (n : ℕ) → length ts ≤ n → items_at p ts n ≡ []
items_at_past p [] n l = refl
items_at_past p (t ∷ ts) zero l = absurd (omega arith)
items_at_past p (t ∷ ts) (suc n) l = items_at_past p ts n (omega arith)

pub none_held_at : (k i : ℕ) (b : Job) → slice_get (replicate k None) i ≡ Some (Some b) → ⊥
none_held_at zero i b e = none-some (Some b) e
none_held_at (suc k) zero b e = none-some b (same_Some None (Some b) e)
none_held_at (suc k) (suc i) b e = none_held_at k i b e

pub All_get : {X : Type 0} (P : X → Type 0) (xs : List X) (n : ℕ) (x : X) → slice_get xs n ≡ Some x → All P xs → P x
All_get P xs n x e h = subst P (get_or_from_slice_get xs n x x e) (All-get_or P xs n x (slice_get_within xs n x e) h)

-- numbers that are indexes rise by one
pub rises_are : (k : ℕ) (ts : List (Token Version)) → ((n : ℕ) (t : Token Version) → slice_get ts n ≡ Some t → t.value.number ≡ k + n) → RisesFrom k ts
rises_are k [] h = tt
rises_are k (t ∷ ts) h = (h 0 t refl ∙ add-zero k, rises_are (k + 1) ts (λ n u e. let m : k + suc n ≡ k + 1 + n = omega arith in h (suc n) u e ∙ m))

module _ {S : Type 0} (sent : S → List Item) (full : S → Type 0) where
  -- a version more changes nothing for a subscriber
  pub fed_more : (ts us : List (Token Version)) (a : Subscriber S) → IsFed sent full ts a → IsFed sent full (ts ++ us) a
  fed_more ts us a fed =
      let left : 0 < a.count → items_at a.program (ts ++ us) a.cursor ≡ items_at a.program ts a.cursor =
      λ some. ⊎_elim (λ (l : a.cursor < length ts). items_at_left a.program ts us a.cursor l)
      (λ (r : length ts ≤ a.cursor). let high = fed.part some in absurd (omega (arith, high, ap length (items_at_past a.program ts a.cursor r))))
      (cases_lt a.cursor (length ts)) in
      let same : take a.count (items_at a.program (ts ++ us) a.cursor) ≡ take a.count (items_at a.program ts a.cursor) =
      ⊎_elim (λ (l : 0 < a.count). ap (take a.count) (left l))
      (λ (r : a.count ≤ 0). let none : a.count ≡ 0 = omega arith in ap (λ n. take n (items_at a.program (ts ++ us) a.cursor)) none ∙ ap (λ n. take n (items_at a.program ts a.cursor)) (sym none))
      (cases_lt 0 a.count) in
      let behind = fed.behind in
      record {
        wide = fed.wide;
        begun = fed.begun;
        behind = omega (arith, length-append ts us);
        sent_is = fed.sent_is ∙ ap (λ l. items_of_all a.program (drop a.first l) ++ take a.count (items_at a.program ts a.cursor)) (sym (take-append-le a.cursor ts us behind))
            ∙ ap (λ l. items_of_all a.program (drop a.first (take a.cursor (ts ++ us))) ++ l) (sym same);
        part = λ some. subst (λ l. a.count < length l) (sym (left some)) (fed.part some);
        part_held = fed.part_held;
        owed = λ i b e. let o = fed.owed i b e in (o.0, o.1, get_left ts us (a.cursor + i) b.version o.2);
      }

  pub fresh_fed : (ts : List (Token Version)) (p : Token Program) (n : ℕ) (sink : S) → n ≤ length ts → sent sink ≡ [] → IsFed sent full ts (fresh p n sink)
  fresh_fed ts p n sink long none = record {
    wide = refl;
    begun = omega arith;
    behind = omega arith;
    sent_is = none ∙ ap (items_of_all p) (sym (drop_all n (take n ts) (omega (arith, length-take n ts)))) ∙ sym (append-nil (items_of_all p (drop n (take n ts))));
    part = λ some. absurd (omega arith);
    part_held = λ some _. absurd (omega arith);
    owed = λ i b e. absurd (none_held_at 8 i b e);
  }

get_set : {X : Type 0} (xs : List X) (k i : ℕ) (v y : X) → slice_get (set xs k v) i ≡ Some y → ((i ≡ k) × (y ≡ v)) ⊎ (slice_get xs i ≡ Some y)
get_set [] k i v y e = absurd (none-some y e)
get_set (x ∷ xs) zero zero v y e = inl (refl, sym (same_Some v y e))
get_set (x ∷ xs) zero (suc i) v y e = inr e
get_set (x ∷ xs) (suc k) zero v y e = inr e
get_set (x ∷ xs) (suc k) (suc i) v y e = ⊎_elim (λ l. inl (ap suc l.0, l.1)) (λ r. inr r) (get_set xs k i v y e)

held_set : (w : HeldBatches) (k i : ℕ) (b : Job) → IsHeldAt w i → IsHeldAt (set w k (Some b)) i
held_set [] k i b h = absurd (none-some (Some h.0) h.1)
held_set (x ∷ xs) zero zero b h = (b, refl)
held_set (x ∷ xs) zero (suc i) b h = h
held_set (x ∷ xs) (suc k) zero b h = h
held_set (x ∷ xs) (suc k) (suc i) b h = held_set xs k i b h

module _ {S : Type 0} (sent : S → List Item) (full : S → Type 0) where
  -- a batch that was waited for is kept
  pub fed_keep : (ts : List (Token Version)) (a : Subscriber S) (b : Job) → IsFed sent full ts a → IsWanted ts a b
      → IsFed sent full ts (record a { held = set a.held (b.number - a.cursor) (Some b) })
  fed_keep ts a b fed wanted =
      let low = wanted.low in
      record {
        wide = length-set a.held (b.number - a.cursor) (Some b) ∙ fed.wide;
        begun = fed.begun;
        behind = fed.behind;
        sent_is = fed.sent_is;
        part = fed.part;
        part_held = λ some opened. held_set a.held (b.number - a.cursor) 0 b (fed.part_held some opened);
        owed = λ i c e. ⊎_elim
            (λ (l : (i ≡ b.number - a.cursor) × (Some c ≡ Some b)).
            let n : b.number ≡ a.cursor + i = omega (arith, l.0) in
            let same : b ≡ c = sym (same_Some c b l.1) in
            subst (λ (z : Job). (z.number ≡ a.cursor + i) × (z.program ≡ a.program) × (slice_get ts (a.cursor + i) ≡ Some z.version)) same
            (n, wanted.program, subst (λ k. slice_get ts k ≡ Some b.version) n wanted.version))
            (λ (r : slice_get a.held i ≡ Some (Some c)). fed.owed i c r)
            (get_set a.held (b.number - a.cursor) i (Some b) (Some c) e);
      }

pub wanted_near : {S : Type 0} (ts : List (Token Version)) (a : Subscriber S) (b : Job) → IsWanted ts a b → (a.cursor ≤ b.number) × (b.number ≤ a.cursor + 7)
wanted_near ts a b w = (w.low, w.high)

module _ {S : Type 0} (sent : S → List Item) (full : S → Type 0) where
  pub kept_fed : (ts : List (Token Version)) (o s : Subscriber S) (b : Job) (n : ℕ) → s ≡ o → n ≡ b.number → IsFed sent full ts o → IsWanted ts o b
      → IsFed sent full ts (record s { held = set s.held (n - s.cursor) (Some b) })
  kept_fed ts o s b n same number fed wanted =
      subst (λ (x : Subscriber S × ℕ). IsFed sent full ts (record x.0 { held = set x.0.held (x.1 - x.0.cursor) (Some b) })) (λ i. (sym same i, sym number i)) (fed_keep sent full ts o b fed wanted)

module _ {S : Type 0} (sent : S → List Item) (full : S → Type 0) where
  -- what is handed out is no part of what a subscriber keeps
  pub fed_handed : (ts : List (Token Version)) (a : Subscriber S) (n : ℕ) → IsFed sent full ts a → IsFed sent full ts (record a { handed = n })
  fed_handed ts a n fed = record { wide = fed.wide; begun = fed.begun; behind = fed.behind; sent_is = fed.sent_is; part = fed.part; part_held = fed.part_held; owed = fed.owed }

  pub fed_closed : (ts : List (Token Version)) (a : Subscriber S) (sink : S) → IsFed sent full ts a → sent sink ≡ sent a.sink → IsFed sent full ts (record a { held = nothing_held; closed = true; sink = sink })
  fed_closed ts a sink fed same = record {
    wide = refl;
    begun = fed.begun;
    behind = fed.behind;
    sent_is = same ∙ fed.sent_is;
    part = fed.part;
    part_held = λ some opened. absurd (true≢false opened);
    owed = λ i b e. absurd (none_held_at 8 i b e);
  }

module _ {S : Type 0} (latest : ℕ) (a : Subscriber S) where
  -- a version that is held is not due
  pub held_skipped : (n : ℕ) (x : Option Job) → length a.held ≡ 8 → a.cursor ≤ n → n ≤ a.cursor + 7 → x ≡ get_or a.held (n - a.cursor) x → is_some x ≡ true → IsDue latest a n → ⊥
  held_skipped n (Some b) wide low near read some due = due.missing (b, slice_get_read a.held 8 (n - a.cursor) (Some b) (sym wide) (omega arith) read)
  held_skipped n None wide low near read some due = true≢false (sym some)

  pub none_missing : (n : ℕ) (x : Option Job) → length a.held ≡ 8 → a.cursor ≤ n → n ≤ a.cursor + 7 → x ≡ get_or a.held (n - a.cursor) x → is_some x ≡ false → ¬ IsHeldAt a.held (n - a.cursor)
  none_missing n (Some b) wide low near read none h = true≢false none
  none_missing n None wide low near read none h =
      none-some h.0 (same_Some None (Some h.0) (sym (slice_get_read a.held 8 (n - a.cursor) None (sym wide) (omega arith) read) ∙ h.1))

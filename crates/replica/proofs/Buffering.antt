-- What a buffer keeps, from one message to the next.
use Rattle.std.proofs.Common.{◌≡◌, ℕ, zero, suc, ◌+◌, ◌<◌, ◌≤◌, List, [], ◌∷◌, ◌++◌, Option, Some, ◌⊎◌, inl, inr, ⊎_elim, refl, sym, ap, ◌∙◌, subst, arith, take, drop, length, get_or, Contains, append_assoc}
use Rattle.std.specs.List.{slice_get, AllPairs, remove}
use Rattle.std.proofs.lemmas.Bool.{cases_lt, cases_eq}
use Rattle.std.proofs.lemmas.Option.{none-some, same_Some, slice_get_within, slice_get-get_or, get_or_from_slice_get}
use Rattle.std.proofs.lemmas.List.Elements.{Contains-append_left, Contains-append_right, Contains-append_cases, Contains-push}
use Rattle.std.proofs.lemmas.List.{append-nil}
use Rattle.change_ops.specs.declared.operation.Op.{Op}
use Rattle.change_history.specs.declared.refusal.SubmitError.{SubmitError}
use Rattle.change_ops.specs.Operations.{id_of}
use Rattle.change_ops.specs.Changes.{operations}
use Rattle.char_sequence.specs.Newest.{IsLastCounter}
use Rattle.mark_anchors.proofs.Lists.{contains_at, contains_from}
use Rattle.replica.specs.Messages.{Message, IsSound, Covers, Overlap, AreApart, SameMessages}
use Rattle.replica.specs.Readiness.{operations_in, IsCausalOrder}
use Rattle.replica.specs.Buffers.{Buffered, IsBuffered, IsOverlappedBy, all_of, Accepts, IsSettled, Settles}
use Rattle.std.proofs.lemmas.List.Quantifiers.{all_pairs_remove, all_pairs_push}
use Rattle.replica.proofs.Rising.{above}
use Rattle.replica.proofs.Accepting.{causal_push}
use Rattle.replica.proofs.Causality.{nothing_in, of_message, in_take, last_reached, last_covers, covered, overlaps_cover}

pub overlaps_itself : (m : Message) → IsSound m → Overlap m m
overlaps_itself m sound =
    let at = contains_at (operations m.change) sound.first sound.some in
    let over : m.previous < (id_of sound.first).counter = above m.previous (operations m.change) at.0 sound.first sound.rising at.1 in
    let mine : Covers m (id_of sound.first).counter = record { above = over; operation = sound.first; of = sound.some; within = omega arith } in
    (refl, ((id_of sound.first).counter, mine, mine))

pub turned : (a b : Message) → Overlap a b → Overlap b a
turned a b o = (sym o.0, (o.1.0, o.1.2, o.1.1))

-- ---- a message that no accepted one overlaps is not before its peer's last accepted operation
pub not_passed : (accepted : List Message) (m : Message) (last : ℕ) → IsCausalOrder accepted → IsSound m → (IsOverlappedBy accepted m → ⊥) → IsLastCounter (operations_in accepted) m.change.node last → last ≤ m.previous
not_passed accepted m last causal sound free is = elim (cases_lt m.previous last) [
  | inr low ↦ low
  | inl high ↦
      let some : 0 < last = omega arith in
      let reached = last_reached (operations_in accepted) m.change.node last is some in
      let same : (id_of reached.0).counter ≡ last = reached.3 in
      let over : m.previous < (id_of reached.0).counter = omega arith in
      let c = covered accepted causal m.change.node m.previous reached.0 reached.1 reached.2 over in
      absurd (free (c.message, c.there, overlaps_cover accepted m sound c))
]

-- the other way: what its peer's last accepted operation has passed is overlapped, and nothing else is
pub passed : (accepted : List Message) (m : Message) (last : ℕ) → IsCausalOrder accepted → IsSound m → IsLastCounter (operations_in accepted) m.change.node last → m.previous < last → IsOverlappedBy accepted m
passed accepted m last causal sound is high =
    let some : 0 < last = omega arith in
    let reached = last_reached (operations_in accepted) m.change.node last is some in
    let same : (id_of reached.0).counter ≡ last = reached.3 in
    let over : m.previous < (id_of reached.0).counter = omega arith in
    let c = covered accepted causal m.change.node m.previous reached.0 reached.1 reached.2 over in
    (c.message, c.there, overlaps_cover accepted m sound c)

pub free_behind : (accepted : List Message) (m : Message) (last : ℕ) → IsCausalOrder accepted → IsLastCounter (operations_in accepted) m.change.node last → last ≤ m.previous → IsOverlappedBy accepted m → ⊥
free_behind accepted m last causal is low h =
    let a = h.0 in
    let o = h.2 in
    let mine : m.previous < o.1.0 = o.1.2.above in
    let op = o.1.1.operation in
    let theirs : o.1.0 ≤ (id_of op).counter = o.1.1.within in
    let at = contains_at accepted a h.1 in
    let own : (id_of op).node ≡ a.change.node = (causal at.0 a at.1).0.own op o.1.1.of in
    let down : (id_of op).counter ≤ last = last_covers (operations_in accepted) m.change.node last op is (of_message accepted a op h.1 o.1.1.of) (own ∙ o.0) in
    omega arith

-- no operation has the id that a message waits for behind its peer's last one
pub not_there : (ops : List Op) (node last counter : ℕ) (o : Op) → IsLastCounter ops node last → last < counter → Contains ops o → (id_of o).node ≡ node → (id_of o).counter ≡ counter → ⊥
not_there ops node last counter o is less has of same =
    let down : (id_of o).counter ≤ last = last_covers ops node last o is has of in
    omega arith

-- ---- places in lists
slot_taken : {X : Type 0} (xs : List X) (n i : ℕ) (x : X) → i < n → slice_get xs i ≡ Some x → slice_get (take n xs) i ≡ Some x
slot_taken [] n i x low g = absurd (none-some x g)
slot_taken (y ∷ ys) zero i x low g = absurd (omega arith)
slot_taken (y ∷ ys) (suc n) zero x low g = g
slot_taken (y ∷ ys) (suc n) (suc i) x low g = slot_taken ys n i x (omega arith) g

pub in_taken : {X : Type 0} (xs : List X) (n i : ℕ) (x : X) → i < n → slice_get xs i ≡ Some x → Contains (take n xs) x
in_taken xs n i x low g = contains_from (take n xs) i x (slot_taken xs n i x low g)

slot_dropped : {X : Type 0} (xs : List X) (n k : ℕ) (x : X) → slice_get (drop n xs) k ≡ Some x → slice_get xs (n + k) ≡ Some x
slot_dropped [] zero k x g = absurd (none-some x g)
slot_dropped [] (suc n) k x g = absurd (none-some x g)
slot_dropped (y ∷ ys) zero k x g = subst (λ (i : ℕ). slice_get (y ∷ ys) i ≡ Some x) (let same : k ≡ 0 + k = omega arith in same) g
slot_dropped (y ∷ ys) (suc n) k x g = subst (λ (i : ℕ). slice_get (y ∷ ys) i ≡ Some x) (let same : suc (n + k) ≡ suc n + k = omega arith in same) (slot_dropped ys n k x g)

slot_behind : {X : Type 0} (xs : List X) (n i : ℕ) (x : X) → n ≤ i → slice_get xs i ≡ Some x → Contains (drop n xs) x
slot_behind [] n i x low g = absurd (none-some x g)
slot_behind (y ∷ ys) zero i x low g = contains_from (y ∷ ys) i x g
slot_behind (y ∷ ys) (suc n) zero x low g = absurd (omega arith)
slot_behind (y ∷ ys) (suc n) (suc i) x low g = slot_behind ys n i x (omega arith) g

-- what is left where one is taken out stood at another place
pub left_at : {X : Type 0} (xs : List X) (n : ℕ) (x : X) → Contains (remove xs n) x → (j : ℕ) × ((j < n) ⊎ (n < j)) × (slice_get xs j ≡ Some x)
left_at xs n x h = ⊎_elim
    (λ (front : Contains (take n xs) x). let at = contains_at (take n xs) x front in let was = in_take xs n at.0 x at.1 in (at.0, inl was.0, was.1))
    (λ (back : Contains (drop (suc n) xs) x). let at = contains_at (drop (suc n) xs) x back in (suc n + at.0, inr (let up : n < suc n + at.0 = omega arith in up), slot_dropped xs (suc n) at.0 x at.1))
    (Contains-append_cases (take n xs) (drop (suc n) xs) x h)

-- the others are left
pub others_left : {X : Type 0} (xs : List X) (n j : ℕ) (x : X) → (j < n) ⊎ (n < j) → slice_get xs j ≡ Some x → Contains (remove xs n) x
others_left xs n j x (inl low) g = Contains-append_left (take n xs) (drop (suc n) xs) x (in_taken xs n j x low g)
others_left xs n j x (inr high) g = Contains-append_right (take n xs) (drop (suc n) xs) x (slot_behind xs (suc n) j x (omega arith) g)

-- ---- accepted messages overlap no other accepted one
pub accepted_apart : (accepted : List Message) → IsCausalOrder accepted → (i j : ℕ) (a b : Message) → i < j → slice_get accepted i ≡ Some a → slice_get accepted j ≡ Some b → Overlap a b → ⊥
accepted_apart accepted causal i j a b less here there o =
    let before = in_taken accepted j i a less here in
    let step = causal j b there in
    let op = o.1.1.operation in
    let own : (id_of op).node ≡ a.change.node = (causal i a here).0.own op o.1.1.of in
    let down : (id_of op).counter ≤ b.previous = last_covers (operations_in (take j accepted)) b.change.node b.previous op step.1.earlier (of_message (take j accepted) a op before o.1.1.of) (own ∙ o.0) in
    let up : b.previous < o.1.0 = o.1.2.above in
    let within : o.1.0 ≤ (id_of op).counter = o.1.1.within in
    omega arith

-- ---- a held message is accepted
alone_at : (i : ℕ) (x y : Message) → slice_get (x ∷ []) i ≡ Some y → x ≡ y
alone_at zero x y g = same_Some x y g
alone_at (suc i) x y g = absurd (none-some y g)

pub alone : (x y : Message) → Contains (x ∷ []) y → x ≡ y
alone x y h = let at = contains_at (x ∷ []) y h in alone_at at.0 x y at.1

apart_numbers : (a b : ℕ) → a ≤ b → (b ≡ a → ⊥) → a < b
apart_numbers a b low other = elim (cases_lt a b) [ inl less ↦ less | inr high ↦ absurd (other (let same : b ≡ a = omega arith in same)) ]

module _ (old new : Buffered) (index : ℕ) (step : Accepts old index new) where
  in_held : Contains old.held step.message
  in_held = contains_from old.held index step.message step.at

  accepted_cases : (x : Message) → Contains new.accepted x → Contains old.accepted x ⊎ (step.message ≡ x)
  accepted_cases x h =
      ⊎_elim (λ (a : Contains old.accepted x). inl a) (λ (b : Contains (step.message ∷ []) x). inr (alone step.message x b))
      (Contains-append_cases old.accepted (step.message ∷ []) x (subst (λ (ms : List Message). Contains ms x) step.accepted h))

  held_at : (x : Message) → Contains new.held x → (j : ℕ) × ((j < index) ⊎ (index < j)) × (slice_get old.held j ≡ Some x)
  held_at x h = left_at old.held index x (subst (λ (ms : List Message). Contains ms x) step.held h)

  was_held : (x : Message) → Contains new.held x → Contains old.held x
  was_held x h = let at = held_at x h in contains_from old.held at.0 x at.2

  pub accepting_forth : (x : Message) → Contains (all_of new) x → Contains (all_of old) x
  accepting_forth x h =
      ⊎_elim
      (λ (a : Contains new.accepted x). ⊎_elim (λ (b : Contains old.accepted x). Contains-append_left old.accepted old.held x b)
      (λ (e : step.message ≡ x). subst (λ (y : Message). Contains (all_of old) y) e (Contains-append_right old.accepted old.held step.message in_held)) (accepted_cases x a))
      (λ (b : Contains new.held x). Contains-append_right old.accepted old.held x (was_held x b))
      (Contains-append_cases new.accepted new.held x h)

  now_accepted : (x : Message) → Contains (old.accepted ++ step.message ∷ []) x → Contains (all_of new) x
  now_accepted x h = Contains-append_left new.accepted new.held x (subst (λ (ms : List Message). Contains ms x) (sym step.accepted) h)

  still_held : (x : Message) (j : ℕ) → slice_get old.held j ≡ Some x → (j < index) ⊎ (index < j) → Contains (all_of new) x
  still_held x j g side = Contains-append_right new.accepted new.held x (subst (λ (ms : List Message). Contains ms x) (sym step.held) (others_left old.held index j x side g))

  pub accepting_back : (x : Message) → Contains (all_of old) x → Contains (all_of new) x
  accepting_back x h =
      ⊎_elim (λ (a : Contains old.accepted x). now_accepted x (Contains-append_left old.accepted (step.message ∷ []) x a))
      (λ (b : Contains old.held x).
      let at = contains_at old.held x b in
      elim (cases_eq at.0 index) [
        | inl same ↦
            let here : slice_get old.held index ≡ Some x = subst (λ (i : ℕ). slice_get old.held i ≡ Some x) same at.1 in
            now_accepted x (Contains-append_right old.accepted (step.message ∷ []) x (subst (λ (y : Message). Contains (step.message ∷ []) y) (same_Some step.message x (sym step.at ∙ here)) (Contains-push [] step.message)))
        | inr other ↦ elim (cases_lt at.0 index) [
          | inl low ↦ still_held x at.0 at.1 (inl low)
          | inr high ↦ still_held x at.0 at.1 (inr (apart_numbers index at.0 high other))
        ]
      ])
      (Contains-append_cases old.accepted old.held x h)

  pub accepting_same : SameMessages (all_of new) (all_of old)
  accepting_same = record { forth = accepting_forth; back = accepting_back }

pair_at : (xs : List Message) (i j : ℕ) (a b : Message) → AllPairs (λ x y. Overlap x y → ⊥) xs → i < j → slice_get xs i ≡ Some a → slice_get xs j ≡ Some b → Overlap a b → ⊥
pair_at xs i j a b all less here there =
    let both = all i j a less (slice_get_within xs j b there) in
    subst (λ (x : Message). Overlap x b → ⊥) (get_or_from_slice_get xs i a a here) (subst (λ (y : Message). Overlap (get_or xs i a) y → ⊥) (get_or_from_slice_get xs j b a there) both)

module _ (old new : Buffered) (index : ℕ) (step : Accepts old index new) (kept : IsBuffered old) where
  still_apart : (a b : Message) → Contains new.accepted a → Contains new.held b → Overlap a b → ⊥
  still_apart a b has waits o =
      let at = held_at old new index step b waits in
      ⊎_elim (λ (was : Contains old.accepted a). kept.apart a b was (was_held old new index step b waits) o)
      (λ (e : step.message ≡ a).
      let mine : Overlap step.message b = subst (λ (x : Message). Overlap x b) (sym e) o in
      elim at.1 [
        | inl low ↦ pair_at old.held at.0 index b step.message kept.held low at.2 step.at (turned step.message b mine)
        | inr high ↦ pair_at old.held index at.0 step.message b kept.held high step.at at.2 mine
      ])
      (accepted_cases old new index step a has)

  pub accepting_keeps : IsBuffered new
  accepting_keeps = record {
    causal = subst IsCausalOrder (sym step.accepted) (causal_push old.accepted step.message kept.causal (kept.sound step.message (in_held old new index step)) step.causes);
    sound = λ m h. kept.sound m (was_held old new index step m h);
    apart = still_apart;
    held = subst (λ (ms : List Message). AllPairs (λ x y. Overlap x y → ⊥) ms) (sym step.held) (all_pairs_remove (λ x y. Overlap x y → ⊥) old.held index (slice_get_within old.held index step.message step.at) kept.held);
  }

-- ---- what is kept says that no two different messages overlap, and that no held one is accepted
module _ (buffer : Buffered) (kept : IsBuffered buffer) where
  pub waits_alone : (m : Message) → Contains buffer.held m → Contains buffer.accepted m → ⊥
  waits_alone m waits has = kept.apart m m has waits (overlaps_itself m (kept.sound m waits))

  both_accepted : (a b : Message) (i j : ℕ) → slice_get buffer.accepted i ≡ Some a → slice_get buffer.accepted j ≡ Some b → Overlap a b → a ≡ b
  both_accepted a b i j here there o = elim (cases_eq i j) [
    | inl same ↦ same_Some a b (sym here ∙ ap (λ k. slice_get buffer.accepted k) same ∙ there)
    | inr other ↦ elim (cases_lt i j) [
      | inl low ↦ absurd (accepted_apart buffer.accepted kept.causal i j a b low here there o)
      | inr high ↦ absurd (accepted_apart buffer.accepted kept.causal j i b a (apart_numbers j i high other) there here (turned a b o))
    ]
  ]

  both_held : (a b : Message) (i j : ℕ) → slice_get buffer.held i ≡ Some a → slice_get buffer.held j ≡ Some b → Overlap a b → a ≡ b
  both_held a b i j here there o = elim (cases_eq i j) [
    | inl same ↦ same_Some a b (sym here ∙ ap (λ k. slice_get buffer.held k) same ∙ there)
    | inr other ↦ elim (cases_lt i j) [
      | inl low ↦ absurd (pair_at buffer.held i j a b kept.held low here there o)
      | inr high ↦ absurd (pair_at buffer.held j i b a kept.held (apart_numbers j i high other) there here (turned a b o))
    ]
  ]

  pub all_apart : AreApart (all_of buffer)
  all_apart a b one two o = elim (Contains-append_cases buffer.accepted buffer.held a one) [
    | inl ac ↦ elim (Contains-append_cases buffer.accepted buffer.held b two) [
      | inl bc ↦ let i = contains_at buffer.accepted a ac in let j = contains_at buffer.accepted b bc in both_accepted a b i.0 j.0 i.1 j.1 o
      | inr bh ↦ absurd (kept.apart a b ac bh o)
    ]
    | inr ah ↦ elim (Contains-append_cases buffer.accepted buffer.held b two) [
      | inl bc ↦ absurd (kept.apart b a bc ah (turned a b o))
      | inr bh ↦ let i = contains_at buffer.held a ah in let j = contains_at buffer.held b bh in both_held a b i.0 j.0 i.1 j.1 o
    ]
  ]

-- ---- a message joins the held ones
module _ (buffer : Buffered) (held : List Message) (message : Message) (kept : IsBuffered buffer) (sound : IsSound message) (free : IsOverlappedBy (all_of buffer) message → ⊥) (more : held ≡ buffer.held ++ message ∷ []) where
  joined_cases : (x : Message) → Contains held x → Contains buffer.held x ⊎ (message ≡ x)
  joined_cases x h =
      ⊎_elim (λ (a : Contains buffer.held x). inl a) (λ (b : Contains (message ∷ []) x). inr (alone message x b))
      (Contains-append_cases buffer.held (message ∷ []) x (subst (λ (ms : List Message). Contains ms x) more h))

  free_of : (a : Message) → Contains (all_of buffer) a → Overlap a message → ⊥
  free_of a has o = free (a, has, o)

  free_at : (k : ℕ) (d : Message) → k < length buffer.held → Overlap (get_or buffer.held k d) message → ⊥
  free_at k d low o = free_of (get_or buffer.held k d) (Contains-append_right buffer.accepted buffer.held (get_or buffer.held k d) (contains_from buffer.held k (get_or buffer.held k d) (slice_get-get_or buffer.held k d low))) o

  pub joining_keeps : IsBuffered (record { size = buffer.size; accepted = buffer.accepted; held = held })
  joining_keeps = record {
    causal = kept.causal;
    sound = λ x h. ⊎_elim (λ (old : Contains buffer.held x). kept.sound x old) (λ (same : message ≡ x). subst IsSound same sound) (joined_cases x h);
    apart = λ a x has h o.
        ⊎_elim (λ (old : Contains buffer.held x). kept.apart a x has old o)
        (λ (same : message ≡ x). free_of a (Contains-append_left buffer.accepted buffer.held a has) (subst (λ (y : Message). Overlap a y) (sym same) o))
        (joined_cases x h);
    held = subst (λ (ms : List Message). AllPairs (λ x y. Overlap x y → ⊥) ms) (sym more) (all_pairs_push (λ x y. Overlap x y → ⊥) buffer.held message kept.held free_at);
  }

-- ---- nothing was taken in
pub nothing_kept : (buffer : Buffered) → buffer.accepted ≡ [] → buffer.held ≡ [] → IsBuffered buffer
nothing_kept buffer none empty = record {
  causal = subst IsCausalOrder (sym none) (λ n m g. absurd (none-some m g));
  sound = λ m h. absurd (nothing_in m (subst (λ (ms : List Message). Contains ms m) empty h));
  apart = λ a b ha hb o. absurd (nothing_in b (subst (λ (ms : List Message). Contains ms b) empty hb));
  held = subst (λ (ms : List Message). AllPairs (λ x y. Overlap x y → ⊥) ms) (sym empty) (λ i j d less low. absurd (omega arith));
}

-- ---- held messages are accepted one after the other
pub record Settling (old new : Buffered) : Type 0 where
  pub size : new.size ≡ old.size
  pub more : List Message
  pub accepted : new.accepted ≡ old.accepted ++ more
  pub same : SameMessages (all_of new) (all_of old)

pub nothing_settled : (buffer : Buffered) → Settling buffer buffer
nothing_settled buffer = record { size = refl; more = []; accepted = sym (append-nil buffer.accepted); same = record { forth = λ m h. h; back = λ m h. h } }

pub settled_more : (old mid new : Buffered) (index : ℕ) → Settling old mid → Accepts mid index new → Settling old new
settled_more old mid new index so_far step =
    let now = accepting_same mid new index step in
    record {
      size = step.size ∙ so_far.size;
      more = so_far.more ++ step.message ∷ [];
      accepted = step.accepted ∙ ap (λ (ms : List Message). ms ++ step.message ∷ []) so_far.accepted ∙ append_assoc old.accepted so_far.more (step.message ∷ []);
      same = record { forth = λ m h. so_far.same.forth m (now.forth m h); back = λ m h. now.back m (so_far.same.back m h) };
    }

pub settled_all : (old new : Buffered) (stopped : Option SubmitError) → Settling old new → IsSettled new.size new.accepted new.held stopped → Settles old new stopped
settled_all old new stopped so_far is = record { size = so_far.size; more = so_far.more; accepted = so_far.accepted; same = so_far.same; settled = is }

-- Messages in causal orders, and the counters that they cover.
use Rattle.std.proofs.Common.{◌≡◌, ℕ, zero, suc, ◌+◌, ◌<◌, ◌≤◌, List, [], ◌∷◌, ◌++◌, Some, inl, inr, ⊎_elim, sym, ◌∙◌, subst, arith, take, Contains, append_assoc}
use Rattle.std.specs.List.{slice_get}
use Rattle.std.proofs.lemmas.Bool.{cases_lt}
use Rattle.std.proofs.lemmas.Option.{none-some, same_Some}
use Rattle.std.proofs.lemmas.List.{append-nil}
use Rattle.std.proofs.lemmas.List.Elements.{Contains-append_left, Contains-append_right, Contains-append_cases, Contains-push}
use Rattle.change_ops.specs.declared.operation.Op.{Op}
use Rattle.change_ops.specs.declared.operation.Op.TheVariants.{Insert, Remove}
use Rattle.change_ops.specs.Operations.{id_of}
use Rattle.change_ops.specs.Changes.{operations}
use Rattle.char_sequence.specs.Newest.{IsLastCounter}
use Rattle.change_history.specs.Accepted.{operations_of}
use Rattle.mark_anchors.proofs.Lists.{contains_at, contains_from}
use Rattle.replica.specs.Messages.{Message, IsSound, Overlap}
use Rattle.replica.proofs.Rising.{above}
use Rattle.replica.specs.Knowing.{CausesAreThere, AllCausesAreThere}
use Rattle.replica.specs.Readiness.{operations_in, IsCausalOrder}

pub nothing_in : {X : Type 0} (x : X) → Contains [] x → ⊥
nothing_in x h = let at = contains_at [] x h in none-some x at.1

-- an operation of messages is one of a message
pub in_message : (messages : List Message) (o : Op) → Contains (operations_in messages) o → (m : Message) × Contains messages m × Contains (operations m.change) o
unfolding operations_of
in_message [] o h = absurd (nothing_in o h)
in_message (m ∷ ms) o h =
    ⊎_elim (λ (here : Contains (operations m.change) o). (m, Contains-append_left (m ∷ []) ms m (Contains-push [] m), here))
    (λ (rest : Contains (operations_in ms) o). let r = in_message ms o rest in (r.0, Contains-append_right (m ∷ []) ms r.0 r.1, r.2))
    (Contains-append_cases (operations m.change) (operations_in ms) o h)

at_index : (messages : List Message) (i : ℕ) (m : Message) (o : Op) → slice_get messages i ≡ Some m → Contains (operations m.change) o → Contains (operations_in messages) o
unfolding operations_of
at_index [] i m o g h = absurd (none-some m g)
at_index (x ∷ xs) zero m o g h = Contains-append_left (operations x.change) (operations_in xs) o (subst (λ (y : Message). Contains (operations y.change) o) (sym (same_Some x m g)) h)
at_index (x ∷ xs) (suc i) m o g h = Contains-append_right (operations x.change) (operations_in xs) o (at_index xs i m o g h)

pub of_message : (messages : List Message) (m : Message) (o : Op) → Contains messages m → Contains (operations m.change) o → Contains (operations_in messages) o
of_message messages m o there h = let at = contains_at messages m there in at_index messages at.0 m o at.1 h

pub operations_grow : (xs ys : List Message) → ((m : Message) → Contains xs m → Contains ys m) → (o : Op) → Contains (operations_in xs) o → Contains (operations_in ys) o
operations_grow xs ys sub o h = let r = in_message xs o h in of_message ys r.0 o (sub r.0 r.1) r.2

-- ---- what is there stays there
more_behind : (xs ys zs : List Op) → ((o : Op) → Contains xs o → Contains ys o) → (o : Op) → Contains (xs ++ zs) o → Contains (ys ++ zs) o
more_behind xs ys zs sub o h =
    ⊎_elim (λ (a : Contains xs o). Contains-append_left ys zs o (sub o a)) (λ (b : Contains zs o). Contains-append_right ys zs o b)
    (Contains-append_cases xs zs o h)

causes_stay : (xs ys : List Op) (op : Op) → ((o : Op) → Contains xs o → Contains ys o) → CausesAreThere xs op → CausesAreThere ys op
causes_stay xs ys op sub was = record {
  characters = λ x names. let p = was.characters x names in (p.0, (p.1.0, sub (Insert x p.0 p.1.0) p.1.1));
  removals = λ r names. let q = was.removals r names in (q.0, sub (Remove r q.0) q.1);
}

pub causes_grow : (xs ys added : List Op) → ((o : Op) → Contains xs o → Contains ys o) → AllCausesAreThere xs added → AllCausesAreThere ys added
causes_grow xs ys [] sub all = tt
causes_grow xs ys (op ∷ added) sub all = (causes_stay xs ys op sub all.0, causes_grow (xs ++ op ∷ []) (ys ++ op ∷ []) added (more_behind xs ys (op ∷ []) sub) all.1)

pub causes_at : (ops added : List Op) (i : ℕ) (op : Op) → AllCausesAreThere ops added → slice_get added i ≡ Some op → CausesAreThere (ops ++ take i added) op
causes_at ops [] i op all g = absurd (none-some op g)
causes_at ops (o ∷ added) zero op all g = subst (λ (xs : List Op). CausesAreThere xs op) (sym (append-nil ops)) (subst (λ (p : Op). CausesAreThere ops p) (same_Some o op g) all.0)
causes_at ops (o ∷ added) (suc i) op all g = subst (λ (xs : List Op). CausesAreThere xs op) (append_assoc ops (o ∷ []) (take i added)) (causes_at (ops ++ o ∷ []) added i op all.1 g)

pub in_take : {X : Type 0} (xs : List X) (n i : ℕ) (x : X) → slice_get (take n xs) i ≡ Some x → (i < n) × (slice_get xs i ≡ Some x)
in_take [] zero i x g = absurd (none-some x g)
in_take [] (suc n) i x g = absurd (none-some x g)
in_take (y ∷ ys) zero i x g = absurd (none-some x g)
in_take (y ∷ ys) (suc n) zero x g = (omega arith, g)
in_take (y ∷ ys) (suc n) (suc i) x g = let r = in_take ys n i x g in (let low : i < n = r.0 in omega arith, r.1)

-- ---- last counters
pub last_reached : (ops : List Op) (node counter : ℕ) → IsLastCounter ops node counter → 0 < counter → (o : Op) × Contains ops o × ((id_of o).node ≡ node) × ((id_of o).counter ≡ counter)
last_reached ops node counter (inl last) some = last.reached
last_reached ops node counter (inr none) some = absurd (let nothing : counter ≡ 0 = none.0 in omega arith)

pub last_covers : (ops : List Op) (node counter : ℕ) (o : Op) → IsLastCounter ops node counter → Contains ops o → (id_of o).node ≡ node → (id_of o).counter ≤ counter
last_covers ops node counter o (inl last) has of = last.covered o has of
last_covers ops node counter o (inr none) has of = absurd (none.1 o has of)

-- ---- a counter that is not above a peer's last one is covered
pub record IsCovered (messages : List Message) (node counter : ℕ) : Type 0 where
  pub message : Message
  pub there : Contains messages message
  pub of : message.change.node ≡ node
  pub low : message.previous ≤ counter
  pub operation : Op
  pub has : Contains (operations message.change) operation
  pub high : counter < (id_of operation).counter

covered_at : (order : List Message) → IsCausalOrder order → (node counter bound n : ℕ) (m : Message) (o : Op) → n < bound → slice_get order n ≡ Some m → m.change.node ≡ node → Contains (operations m.change) o → counter < (id_of o).counter → IsCovered order node counter
covered_at order causal node counter zero n m o below here of has high = absurd (omega arith)
covered_at order causal node counter (suc bound) n m o below here of has high = elim (cases_lt counter m.previous) [
  | inr low ↦ record { message = m; there = contains_from order n m here; of = of; low = low; operation = o; has = has; high = high }
  | inl up ↦
      let some : 0 < m.previous = omega arith in
      let reached = last_reached (operations_in (take n order)) m.change.node m.previous (causal n m here).1.earlier some in
      let found = in_message (take n order) reached.0 reached.1 in
      let index = contains_at (take n order) found.0 found.1 in
      let was = in_take order n index.0 found.0 index.1 in
      let low : index.0 < n = was.0 in
      let earlier : index.0 < bound = omega arith in
      let same : (id_of reached.0).counter ≡ m.previous = reached.3 in
      let over : counter < (id_of reached.0).counter = omega arith in
      let own : (id_of reached.0).node ≡ found.0.change.node = (causal index.0 found.0 was.1).0.own reached.0 found.2 in
      covered_at order causal node counter bound index.0 found.0 reached.0 earlier was.1 (sym own ∙ reached.2 ∙ of) found.2 over
]

pub covered : (order : List Message) → IsCausalOrder order → (node counter : ℕ) (o : Op) → Contains (operations_in order) o → (id_of o).node ≡ node → counter < (id_of o).counter → IsCovered order node counter
covered order causal node counter o has of high =
    let found = in_message order o has in
    let at = contains_at order found.0 found.1 in
    let own : (id_of o).node ≡ found.0.change.node = (causal at.0 found.0 at.1).0.own o found.2 in
    covered_at order causal node counter (suc at.0) at.0 found.0 o (omega arith) at.1 (sym own ∙ of) found.2 high

-- the operations of causally ordered messages have counters above 0
pub above_none : (order : List Message) → IsCausalOrder order → (o : Op) → Contains (operations_in order) o → 0 < (id_of o).counter
above_none order causal o has =
    let found = in_message order o has in
    let at = contains_at order found.0 found.1 in
    let index = contains_at (operations found.0.change) o found.2 in
    let over : found.0.previous < (id_of o).counter = above found.0.previous (operations found.0.change) index.0 o (causal at.0 found.0 at.1).0.rising index.1 in
    omega arith

-- a sound message overlaps the one that covers the counter behind its previous one
pub overlaps_cover : (messages : List Message) (m : Message) → IsSound m → (c : IsCovered messages m.change.node m.previous) → Overlap c.message m
overlaps_cover messages m sound c =
    let low : c.message.previous ≤ m.previous = c.low in
    let high : m.previous < (id_of c.operation).counter = c.high in
    let index = contains_at (operations m.change) sound.first sound.some in
    let over : m.previous < (id_of sound.first).counter = above m.previous (operations m.change) index.0 sound.first sound.rising index.1 in
    (c.of, (m.previous + 1, record { above = omega arith; operation = c.operation; of = c.has; within = omega arith }, record { above = omega arith; operation = sound.first; of = sound.some; within = omega arith }))

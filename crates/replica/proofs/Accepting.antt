-- A message whose causes are there is accepted, unless a limit or want of memory stops it.
use Rattle.std.proofs.Common.{◌≡◌, ℕ, suc, ◌+◌, ◌<◌, ◌≤◌, Bool, ◌==◌, max, if◌then◌else◌, List, [], ◌∷◌, ◌++◌, Some, inl, inr, ⊎_elim, refl, sym, ap, ◌∙◌, subst, arith, take, length, Contains, append_assoc}
use Rattle.std.specs.List.{slice_get}
use Rattle.std.proofs.lemmas.Bool.{cases_lt, cases_Bool, eqb-true, eq-eqb, false≢true}
use Rattle.std.proofs.lemmas.List.{append-nil}
use Rattle.std.proofs.lemmas.List.Elements.{Contains-append_left, Contains-append_right, Contains-append_cases, Contains-push}
use Rattle.std.proofs.Math.Nat.{max-eq_left, max-eq_right, le-max_left, le-max_right}
use Rattle.change_ops.specs.declared.operation.Op.{Op}
use Rattle.change_ops.specs.declared.size.Size.{Size}
use Rattle.change_ops.specs.Operations.{id_of}
use Rattle.change_ops.specs.Changes.{Change, operations}
use Rattle.change_ops.specs.Lines.{ops_of_lines}
use Rattle.char_sequence.specs.Acceptance.{IsStale, IsUnknown}
use Rattle.char_sequence.specs.Newest.{IsLastCounter}
use Rattle.change_history.specs.Accepted.{operations_of, IsRefused, IsFirstRefused}
use Rattle.change_history.specs.declared.refusal.SubmitError.{SubmitError}
use Rattle.change_history.specs.declared.refusal.SubmitError.TheVariants.{HistoryFull, Refused, OutOfMemory}
use Rattle.change_history.specs.declared.refusal.Refusal.TheVariants.{StaleCounter, UnknownRef, DocumentFull, MarksFull}
use Rattle.change_history.proofs.Chronicle.{pushed_index}
use Rattle.mark_anchors.proofs.Lists.{contains_at, contains_from}
use Rattle.replica.specs.Messages.{Message, IsSound}
use Rattle.replica.specs.Knowing.{AllCausesAreThere}
use Rattle.replica.specs.Readiness.{changes_of, operations_in, HasCauses, IsCausalOrder}
use Rattle.replica.specs.Buffers.{last_counter, messages_behind, RefusesOne, IsStop}
use Rattle.replica.proofs.Causality.{nothing_in, in_take, last_covers, causes_at}
use Rattle.replica.proofs.Convergence.{only}
use Rattle.replica.proofs.Rising.{above, rising, above_named}

-- ---- the last counter of a peer
still_other : (node : ℕ) (op o : Op) (ops : List Op) → ((id_of op).node ≡ node → ⊥) → Contains (op ∷ ops) o → (id_of o).node ≡ node → Contains ops o
still_other node op o ops other has of =
    ⊎_elim (λ (here : Contains (op ∷ []) o). absurd (other (ap (λ (p : Op). (id_of p).node) (only op o here) ∙ of)))
    (λ (there : Contains ops o). there) (Contains-append_cases (op ∷ []) ops o has)

behind_other : (node rest : ℕ) (op : Op) (ops : List Op) → ((id_of op).node ≡ node → ⊥) → IsLastCounter ops node rest → IsLastCounter (op ∷ ops) node rest
behind_other node rest op ops other (inl last) =
    let r = last.reached in
    inl (record { covered = λ o has of. last.covered o (still_other node op o ops other has of) of; reached = (r.0, Contains-append_right (op ∷ []) ops r.0 r.1, r.2, r.3) })
behind_other node rest op ops other (inr none) = inr (none.0, λ o has of. none.1 o (still_other node op o ops other has of) of)

covered_both : (node rest : ℕ) (op o : Op) (ops : List Op) → IsLastCounter ops node rest → Contains (op ∷ ops) o → (id_of o).node ≡ node → (id_of o).counter ≤ max (id_of op).counter rest
covered_both node rest op o ops is has of =
    let left : (id_of op).counter ≤ max (id_of op).counter rest = le-max_left (id_of op).counter rest in
    let right : rest ≤ max (id_of op).counter rest = le-max_right (id_of op).counter rest in
    ⊎_elim (λ (here : Contains (op ∷ []) o). let same : op ≡ o = only op o here in subst (λ (p : Op). (id_of p).counter ≤ max (id_of op).counter rest) same left)
    (λ (there : Contains ops o). let low : (id_of o).counter ≤ rest = last_covers ops node rest o is there of in omega arith)
    (Contains-append_cases (op ∷ []) ops o has)

first_of_all : (op : Op) (ops : List Op) → Contains (op ∷ ops) op
first_of_all op ops = Contains-append_left (op ∷ []) ops op (Contains-push [] op)

behind_own : (node rest : ℕ) (op : Op) (ops : List Op) → (id_of op).node ≡ node → IsLastCounter ops node rest → IsLastCounter (op ∷ ops) node (max (id_of op).counter rest)
behind_own node rest op ops same (inl last) = elim (cases_lt rest (id_of op).counter) [
  | inl low ↦ inl (record { covered = λ o has of. covered_both node rest op o ops (inl last) has of; reached = (op, first_of_all op ops, same, sym (max-eq_left (let below : rest ≤ (id_of op).counter = omega arith in below))) })
  | inr high ↦ let r = last.reached in inl (record { covered = λ o has of. covered_both node rest op o ops (inl last) has of; reached = (r.0, Contains-append_right (op ∷ []) ops r.0 r.1, r.2, r.3 ∙ sym (max-eq_right high)) })
]
behind_own node rest op ops same (inr none) =
    let nothing : rest ≡ 0 = none.0 in
    let below : rest ≤ (id_of op).counter = omega arith in
    inl (record { covered = λ o has of. covered_both node rest op o ops (inr none) has of; reached = (op, first_of_all op ops, same, sym (max-eq_left below)) })

pub last_is : (node : ℕ) (ops : List Op) → IsLastCounter ops node (last_counter node ops)
unfolding last_counter
last_is node [] = inr (refl, λ o has of. nothing_in o has)
last_is node (op ∷ ops) =
    let rest = last_counter node ops in
    let one : Bool → ℕ = λ b. if b then max (id_of op).counter rest else rest in
    elim (cases_Bool ((id_of op).node == node)) [
      | inl is_own ↦ subst (λ n. IsLastCounter (op ∷ ops) node n) (sym (ap one is_own)) (behind_own node rest op ops (eqb-true (id_of op).node node is_own) (last_is node ops))
      | inr is_other ↦ subst (λ n. IsLastCounter (op ∷ ops) node n) (sym (ap one is_other)) (behind_other node rest op ops (λ same. false≢true (sym is_other ∙ eq-eqb (id_of op).node node same)) (last_is node ops))
    ]

pub last_is_one : (ops : List Op) (node a b : ℕ) → IsLastCounter ops node a → IsLastCounter ops node b → a ≡ b
last_is_one ops node a b (inl x) (inl y) =
    let p = x.reached in
    let q = y.reached in
    let up : (id_of p.0).counter ≤ b = y.covered p.0 p.1 p.2 in
    let down : (id_of q.0).counter ≤ a = x.covered q.0 q.1 q.2 in
    let first : (id_of p.0).counter ≡ a = p.3 in
    let second : (id_of q.0).counter ≡ b = q.3 in
    omega arith
last_is_one ops node a b (inl x) (inr y) = let p = x.reached in absurd (y.1 p.0 p.1 p.2)
last_is_one ops node a b (inr x) (inl y) = let q = y.reached in absurd (x.1 q.0 q.1 q.2)
last_is_one ops node a b (inr x) (inr y) = x.0 ∙ sym y.0

-- ---- accepted changes as messages
abbrev counted : ℕ → Change → Message
counted previous change = record { previous = previous; change = change }

behind_push : (ops : List Op) (changes : List Change) (change : Change) → messages_behind ops (changes ++ change ∷ []) ≡ messages_behind ops changes ++ counted (last_counter change.node (ops ++ operations_of changes)) change ∷ []
unfolding messages_behind operations_of
behind_push ops [] change = ap (λ (xs : List Op). counted (last_counter change.node xs) change ∷ []) (sym (append-nil ops))
behind_push ops (c ∷ changes) change =
    ap (λ (ms : List Message). counted (last_counter c.node ops) c ∷ ms)
    (behind_push (ops ++ operations c) changes change
    ∙ ap (λ (xs : List Op). messages_behind (ops ++ operations c) changes ++ counted (last_counter change.node xs) change ∷ []) (append_assoc ops (operations c) (operations_of changes)))

-- a message whose peer's last operation is its previous one, behind all others
pub behind_next : (changes : List Change) (m : Message) → IsLastCounter (operations_of changes) m.change.node m.previous → messages_behind [] (changes ++ m.change ∷ []) ≡ messages_behind [] changes ++ m ∷ []
behind_next changes m is =
    let same : last_counter m.change.node (operations_of changes) ≡ m.previous = last_is_one (operations_of changes) m.change.node (last_counter m.change.node (operations_of changes)) m.previous (last_is m.change.node (operations_of changes)) is in
    behind_push [] changes m.change ∙ ap (λ (n : ℕ). messages_behind [] changes ++ counted n m.change ∷ []) same

pub changes_behind : (ops : List Op) (changes : List Change) → changes_of (messages_behind ops changes) ≡ changes
unfolding messages_behind
changes_behind ops [] = refl
changes_behind ops (c ∷ changes) = ap (λ (cs : List Change). c ∷ cs) (changes_behind (ops ++ operations c) changes)

pub operations_behind : (changes : List Change) → operations_in (messages_behind [] changes) ≡ operations_of changes
operations_behind changes = ap operations_of (changes_behind [] changes)

pub length_behind : (ops : List Op) (changes : List Change) → length (messages_behind ops changes) ≡ length changes
unfolding messages_behind
length_behind ops [] = refl
length_behind ops (c ∷ changes) = ap suc (length_behind (ops ++ operations c) changes)

pub causal_push : (order : List Message) (message : Message) → IsCausalOrder order → IsSound message → HasCauses order message → IsCausalOrder (order ++ message ∷ [])
causal_push order message causal sound causes = λ n m g.
    ⊎_elim
    (λ (a : (slice_get order n ≡ Some m) × (take n (order ++ message ∷ []) ≡ take n order)).
    let step = causal n m a.0 in (step.0, subst (λ (ms : List Message). HasCauses ms m) (sym a.1) step.1))
    (λ (b : (message ≡ m) × (take n (order ++ message ∷ []) ≡ order)).
    (subst IsSound b.0 sound, subst (λ (ms : List Message). HasCauses ms m) (sym b.1) (subst (λ (x : Message). HasCauses order x) b.0 causes)))
    (pushed_index order message n m g)

-- ---- nothing but a limit or want of memory stops a message whose causes are there
refusing : (size : Size) (accepted held : List Message) (changes : List Change) (m : Message) (error : SubmitError) → changes_of accepted ≡ changes → Contains held m → HasCauses accepted m → IsRefused size changes m.change error → RefusesOne size accepted held error
refusing size accepted held changes m error same waits causes refused = record {
  message = m;
  waits = waits;
  causes = causes;
  refused = subst (λ (cs : List Change). IsRefused size cs m.change error) (sym same) refused;
}

module _ (ops : List Op) (m : Message) (sound : IsSound m) (earlier : IsLastCounter ops m.change.node m.previous) (named : AllCausesAreThere ops (operations m.change)) where
  not_used : (i : ℕ) (op o : Op) → slice_get (operations m.change) i ≡ Some op → Contains (ops ++ take i (operations m.change)) o → (id_of o).node ≡ (id_of op).node → (id_of op).counter ≤ (id_of o).counter → ⊥
  not_used i op o here has same up =
      let own : (id_of op).node ≡ m.change.node = sound.own op (contains_from (operations m.change) i op here) in
      let over : m.previous < (id_of op).counter = above m.previous (operations m.change) i op sound.rising here in
      ⊎_elim
      (λ (old : Contains ops o). let low : (id_of o).counter ≤ m.previous = last_covers ops m.change.node m.previous o earlier old (same ∙ own) in let wrong : ⊥ = omega arith in wrong)
      (λ (new : Contains (take i (operations m.change)) o).
      let at = contains_at (take i (operations m.change)) o new in
      let was = in_take (operations m.change) i at.0 o at.1 in
      let less : (id_of o).counter < (id_of op).counter = rising m.previous (operations m.change) at.0 i o op sound.rising was.0 was.1 here in
      let wrong : ⊥ = omega arith in wrong)
      (Contains-append_cases ops (take i (operations m.change)) o has)

  not_stale : (i : ℕ) (op : Op) → slice_get (operations m.change) i ≡ Some op → IsStale (ops ++ take i (operations m.change)) op → ⊥
  not_stale i op here (inl used) = not_used i op used.0 here used.1 used.2 used.3
  not_stale i op here (inr over) =
      let low : over.0.counter < (id_of op).counter = above_named m.previous (operations m.change) i op over.0 sound.rising here over.1 in
      let high : (id_of op).counter ≤ over.0.counter = over.2 in
      omega arith

  not_unknown : (i : ℕ) (op : Op) → slice_get (operations m.change) i ≡ Some op → IsUnknown (ops ++ take i (operations m.change)) op → ⊥
  not_unknown i op here (inl lost) = lost.2 ((causes_at ops (operations m.change) i op named here).characters lost.0 lost.1)
  not_unknown i op here (inr lost) = lost.2 ((causes_at ops (operations m.change) i op named here).removals lost.0 lost.1)

  -- the history's refusal of a held message whose causes are there
  pub stops : (size : Size) (accepted held : List Message) (changes : List Change) (error : SubmitError) → changes_of accepted ≡ changes → operations_of changes ≡ ops → Contains held m → HasCauses accepted m → IsRefused size changes m.change error → IsStop size accepted held error
  stops size accepted held changes HistoryFull same all waits causes refused = refusing size accepted held changes m HistoryFull same waits causes refused
  stops size accepted held changes (Refused index StaleCounter) same all waits causes refused =
      let first = subst (λ (xs : List Op). IsFirstRefused size xs (operations m.change) (length (ops_of_lines (take index m.change.lines)) + refused.1.offset) StaleCounter) all refused.1.first in
      not_stale (length (ops_of_lines (take index m.change.lines)) + refused.1.offset) first.operation first.here first.refused
  stops size accepted held changes (Refused index UnknownRef) same all waits causes refused =
      let first = subst (λ (xs : List Op). IsFirstRefused size xs (operations m.change) (length (ops_of_lines (take index m.change.lines)) + refused.1.offset) UnknownRef) all refused.1.first in
      not_unknown (length (ops_of_lines (take index m.change.lines)) + refused.1.offset) first.operation first.here first.refused.1
  stops size accepted held changes (Refused index DocumentFull) same all waits causes refused = refusing size accepted held changes m (Refused index DocumentFull) same waits causes refused
  stops size accepted held changes (Refused index MarksFull) same all waits causes refused = refusing size accepted held changes m (Refused index MarksFull) same waits causes refused
  stops size accepted held changes OutOfMemory same all waits causes refused = tt

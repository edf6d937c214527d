-- Just the ready messages are accepted where none that is held has its causes there.
use Rattle.std.proofs.Common.{◌≡◌, ℕ, zero, suc, ◌<◌, ◌≤◌, List, [], ◌∷◌, ◌++◌, Some, inl, inr, ⊎_elim, ap, ◌∙◌, subst, arith, take, Contains}
use Rattle.std.specs.List.{slice_get}
use Rattle.std.proofs.lemmas.Bool.{cases_lt, cases_eq}
use Rattle.std.proofs.lemmas.Option.{none-some, same_Some}
use Rattle.std.proofs.lemmas.List.Elements.{Contains-append_left, Contains-append_right, Contains-append_cases, Contains-push}
use Rattle.change_ops.specs.declared.id.OpId.{OpId}
use Rattle.change_ops.specs.declared.operation.Op.{Op}
use Rattle.change_ops.specs.Operations.{id_of}
use Rattle.change_ops.specs.Changes.{operations}
use Rattle.char_sequence.specs.Newest.{IsLastCounter}
use Rattle.char_sequence.specs.Order.{SameSet}
use Rattle.mark_anchors.proofs.Lists.{contains_at, contains_from}
use Rattle.replica.specs.Messages.{Message, IsSound, AreApart, SameMessages}
use Rattle.replica.specs.Readiness.{operations_in, HasCauses, IsCausalOrder, IsReady}
use Rattle.replica.specs.Buffers.{WaitsFor}
use Rattle.replica.specs.Replicas.{State, taken, ShowsTheReady}
use Rattle.replica.proofs.Missing.{waits_not}
use Rattle.replica.proofs.Causality.{nothing_in, operations_grow, causes_grow, in_take, covered, above_none, overlaps_cover}

-- the greatest counter of a peer's operations is at most one, or above it
pub data Beyond (ops : List Op) (node counter : ℕ) : Type 0 where
  none : ((o : Op) → Contains ops o → (id_of o).node ≡ node → (id_of o).counter ≤ counter) → Beyond ops node counter
  some : (o : Op) → Contains ops o → (id_of o).node ≡ node → counter < (id_of o).counter → Beyond ops node counter

only_at : (i : ℕ) (x y : Op) → slice_get (x ∷ []) i ≡ Some y → x ≡ y
only_at zero x y g = same_Some x y g
only_at (suc i) x y g = absurd (none-some y g)

pub only : (x y : Op) → Contains (x ∷ []) y → x ≡ y
only x y h = let at = contains_at (x ∷ []) y h in only_at at.0 x y at.1

extended : (op : Op) (ops : List Op) (node counter : ℕ) → ((id_of op).node ≡ node → (id_of op).counter ≤ counter) → Beyond ops node counter → Beyond (op ∷ ops) node counter
extended op ops node counter low (some o has of high) = some o (Contains-append_right (op ∷ []) ops o has) of high
extended op ops node counter low (none all) =
    none (λ o has of. ⊎_elim
    (λ (here : Contains (op ∷ []) o). let same : op ≡ o = only op o here in subst (λ (p : Op). (id_of p).counter ≤ counter) same (low (ap (λ (p : Op). (id_of p).node) same ∙ of)))
    (λ (rest : Contains ops o). all o rest of) (Contains-append_cases (op ∷ []) ops o has))

pub beyond : (node counter : ℕ) (ops : List Op) → Beyond ops node counter
beyond node counter [] = none (λ o has of. absurd (nothing_in o has))
beyond node counter (op ∷ ops) = elim (cases_eq (id_of op).node node) [
  | inl same ↦ elim (cases_lt counter (id_of op).counter) [
    | inl high ↦ some op (Contains-append_left (op ∷ []) ops op (Contains-push [] op)) same high
    | inr low ↦ extended op ops node counter (λ same'. low) (beyond node counter ops)
  ]
  | inr other ↦ extended op ops node counter (λ same. absurd (other same)) (beyond node counter ops)
]

module _ (accepted held : List Message) (causal : IsCausalOrder accepted) (apart : AreApart (accepted ++ held)) (settled : (m : Message) → Contains held m → HasCauses accepted m → ⊥) where
  -- the last counter before a message is still that of all accepted ones, where none of these goes beyond it
  still_last : (before : List Message) (m : Message) → ((x : Message) → Contains before x → Contains accepted x) → ((o : Op) → Contains (operations_in accepted) o → (id_of o).node ≡ m.change.node → (id_of o).counter ≤ m.previous) → IsLastCounter (operations_in before) m.change.node m.previous → IsLastCounter (operations_in accepted) m.change.node m.previous
  still_last before m sub low (inl last) =
      let reached = last.reached in
      inl (record { covered = low; reached = (reached.0, operations_grow before accepted sub reached.0 reached.1, reached.2, reached.3) })
  still_last before m sub low (inr start) =
      let zero_before : m.previous ≡ 0 = start.0 in
      inr (zero_before, λ o has of. absurd (let up : 0 < (id_of o).counter = above_none accepted causal o has in let down : (id_of o).counter ≤ m.previous = low o has of in omega arith))

  one_more : (before : List Message) (m : Message) → IsSound m → HasCauses before m → ((x : Message) → Contains before x → Contains accepted x) → Contains held m → Contains (accepted ++ held) m → Beyond (operations_in accepted) m.change.node m.previous → Contains accepted m
  one_more before m sound causes sub waits there (none low) =
      absurd (settled m waits (record {
        earlier = still_last before m sub low causes.earlier;
        named = causes_grow (operations_in before) (operations_in accepted) (operations m.change) (operations_grow before accepted sub) causes.named;
      }))
  one_more before m sound causes sub waits there (some o has of high) =
      let c = covered accepted causal m.change.node m.previous o has of high in
      let same : c.message ≡ m = apart c.message m (Contains-append_left accepted held c.message c.there) there (overlaps_cover accepted m sound c) in
      subst (λ (x : Message). Contains accepted x) same c.there

  accepted_at : (order : List Message) → IsCausalOrder order → ((x : Message) → Contains order x → Contains (accepted ++ held) x) → (bound n : ℕ) (m : Message) → n < bound → slice_get order n ≡ Some m → Contains accepted m
  accepted_at order ordered among zero n m below here = absurd (omega arith)
  accepted_at order ordered among (suc bound) n m below here =
      let there : Contains (accepted ++ held) m = among m (contains_from order n m here) in
      let before : (x : Message) → Contains (take n order) x → Contains accepted x = λ x has.
      let at = contains_at (take n order) x has in
      let was = in_take order n at.0 x at.1 in
      let low : at.0 < n = was.0 in
      accepted_at order ordered among bound at.0 x (omega arith) was.1 in
      let step = ordered n m here in
      ⊎_elim (λ (a : Contains accepted m). a)
      (λ (waits : Contains held m). one_more (take n order) m step.0 step.1 before waits there (beyond m.change.node m.previous (operations_in accepted)))
      (Contains-append_cases accepted held m there)

  pub ready_is_accepted : (m : Message) → IsReady (accepted ++ held) m → Contains accepted m
  ready_is_accepted m ready = let at = contains_at ready.order m ready.there in accepted_at ready.order ready.causal ready.among (suc at.0) at.0 m (omega arith) at.1

  pub accepted_is_ready : (m : Message) → Contains accepted m → IsReady (accepted ++ held) m
  accepted_is_ready m has = record { order = accepted; causal = causal; among = λ x h. Contains-append_left accepted held x h; there = has }

-- a replica of which each held message waits shows the ready messages
pub shows_the_ready : (state : State) → IsCausalOrder state.accepted → AreApart (taken state) → ((m : Message) → Contains state.held m → Contains state.accepted m → ⊥) → ((m : Message) → Contains state.held m → (id : OpId) × WaitsFor state.accepted m id) → ShowsTheReady state
shows_the_ready state causal apart alone waits =
    let settled : (m : Message) → Contains state.held m → HasCauses state.accepted m → ⊥ = λ m has causes. waits_not state.accepted m (waits m has).0 (waits m has).1 causes in
    record {
      accepted = λ m. (accepted_is_ready state.accepted state.held causal apart settled m, ready_is_accepted state.accepted state.held causal apart settled m);
      held = λ m. (
        λ has. (Contains-append_right state.accepted state.held m has, λ ready. alone m has (ready_is_accepted state.accepted state.held causal apart settled m ready)),
        λ h. ⊎_elim (λ (a : Contains state.accepted m). absurd (h.1 (accepted_is_ready state.accepted state.held causal apart settled m a))) (λ (b : Contains state.held m). b) (Contains-append_cases state.accepted state.held m h.0),
      );
      waits = waits;
    }

-- the ready messages of one set are those of the same set
pub ready_of_same : (first second : List Message) (m : Message) → SameMessages first second → IsReady first m → IsReady second m
ready_of_same first second m same ready = record { order = ready.order; causal = ready.causal; among = λ x h. same.forth x (ready.among x h); there = ready.there }

one_way : (a b : State) → ShowsTheReady a → ShowsTheReady b → SameMessages (taken a) (taken b) → (o : Op) → Contains (operations_in a.accepted) o → Contains (operations_in b.accepted) o
one_way a b first second same o has =
    operations_grow a.accepted b.accepted (λ m there. (second.accepted m).1 (ready_of_same (taken a) (taken b) m same ((first.accepted m).0 there))) o has

turned : (first second : List Message) → SameMessages first second → SameMessages second first
turned first second same = record { forth = same.back; back = same.forth }

-- replicas that took in one set of messages accepted one set of operations
pub same_operations : (a b : State) → ShowsTheReady a → ShowsTheReady b → SameMessages (taken a) (taken b) → SameSet (operations_in a.accepted) (operations_in b.accepted)
same_operations a b first second same = record { forth = one_way a b first second same; back = one_way b a second first (turned (taken a) (taken b) same) }

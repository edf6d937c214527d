-- A buffer's fields, and what is seen of it.
use Rattle.std.proofs.Common.{◌≡◌, ◌↔◌, ℕ, ◌+◌, ◌<◌, ◌≤◌, Bool, true, false, List, [], ◌∷◌, ◌++◌, Some, inl, inr, ⊎_elim, refl, sym, ap, ◌∙◌, subst, arith, Contains}
use Rattle.std.specs.List.{slice_get, remove}
use Rattle.std.proofs.lemmas.Bool.{cases_lt, cases_eq, false≢true}
use Rattle.std.proofs.lemmas.List.Elements.{Contains-append_left, Contains-append_right, Contains-append_cases}
use Rattle.std.proofs.lemmas.Option.{same_Some}
use Rattle.change_ops.specs.declared.operation.Op.{Op}
use Rattle.change_ops.specs.declared.size.Size.{Size}
use Rattle.change_ops.specs.Changes.{Change, operations}
use Rattle.char_sequence.specs.Newest.{IsLastCounter}
use Rattle.change_history.specs.Accepted.{operations_of, IsRefused}
use Rattle.change_history.specs.Chronicle.{Chronicle}
use Rattle.change_history.specs.declared.refusal.SubmitError.{SubmitError}
use Rattle.change_history.proofs.Chronicle.{operations_of-push}
use Rattle.mark_anchors.proofs.Lists.{contains_at, contains_from}
use Rattle.replica.specs.declared.known.Known.{Known}
use Rattle.replica.specs.declared.buffer.Ready.{Ready}
use Rattle.replica.specs.declared.buffer.Unready.TheVariants.{Stopped}
use Rattle.replica.specs.Messages.{Message, IsSound, Overlap}
use Rattle.replica.specs.Knowing.{Knows}
use Rattle.replica.specs.Readiness.{changes_of, operations_in}
use Rattle.replica.specs.Buffers.{Buffered, buffered, messages_behind, all_of, IsBuffered, IsBuffer, IsOverlappedBy, IsReadyAt, IsUnready, Accepts, Joins}
use Rattle.replica.proofs.Accepting.{changes_behind, operations_behind, behind_next, stops}
use Rattle.replica.proofs.Buffering.{nothing_kept, accepting_keeps, joining_keeps, passed, free_behind, not_passed}

abbrev with_change : Chronicle → Change → Chronicle
with_change history change = record { size = history.size; changes = history.changes ++ change ∷ [] }

abbrev with_held : Buffered → List Message → Buffered
with_held buffer held = record { size = buffer.size; accepted = buffer.accepted; held = held }

-- what the fields say of the value that is seen
pub record Opened (value : Buffered) (history : Chronicle) (held : List Message) (known : Known) : Type 0 where
  pub view : buffered history held ≡ value
  pub kept : IsBuffered value
  pub changes : changes_of value.accepted ≡ history.changes
  pub operations : operations_in value.accepted ≡ operations_of history.changes
  pub knows : Knows (operations_in value.accepted) known

fields_say : (history : Chronicle) (held : List Message) (known : Known) → IsBuffered (buffered history held) × IsBuffer history known → Opened (buffered history held) history held known
fields_say history held known is = record {
  view = refl;
  kept = is.0;
  changes = changes_behind [] history.changes;
  operations = operations_behind history.changes;
  knows = subst (λ (ops : List Op). Knows ops known) (sym (operations_behind history.changes)) is.1;
}

pub opened : (value : Buffered) (history : Chronicle) (held : List Message) (known : Known) → buffered history held ≡ value → IsBuffered (buffered history held) × IsBuffer history known → Opened value history held known
opened value history held known view is = subst (λ (b : Buffered). Opened b history held known) view (fields_say history held known is)

-- ---- no message
none_behind : messages_behind [] [] ≡ []
unfolding messages_behind
none_behind = refl

no_operations : operations_of [] ≡ []
unfolding operations_of
no_operations = refl

pub begun : (history : Chronicle) (held : List Message) (known : Known) (size : Size) → history ≡ record { size = size; changes = [] } → held ≡ [] → Knows [] known → IsBuffered (buffered history held) × IsBuffer history known
begun history held known size new empty knows = (
  nothing_kept (buffered history held) (ap (λ (h : Chronicle). messages_behind [] h.changes) new ∙ none_behind) empty,
  subst (λ (ops : List Op). Knows ops known) (sym (ap (λ (h : Chronicle). operations_of h.changes) new ∙ no_operations)) knows,
)

pub begun_view : (history : Chronicle) (held : List Message) (size : Size) → history ≡ record { size = size; changes = [] } → held ≡ [] → buffered history held ≡ record { size = size; accepted = []; held = [] }
begun_view history held size new empty =
    let accepted : messages_behind [] history.changes ≡ [] = ap (λ (h : Chronicle). messages_behind [] h.changes) new ∙ none_behind in
    let sized : history.size ≡ size = ap (λ (h : Chronicle). h.size) new in
    λ i. record { size = sized i; accepted = accepted i; held = empty i }

-- ---- what overlaps a message
module _ (value : Buffered) (history : Chronicle) (held : List Message) (known : Known) (o : Opened value history held known) (m : Message) (last : ℕ) (sound : IsSound m) (is : IsLastCounter (operations_of history.changes) m.change.node last) where
  pub last_there : IsLastCounter (operations_in value.accepted) m.change.node last
  last_there = subst (λ (ops : List Op). IsLastCounter ops m.change.node last) (sym o.operations) is

  pub last_low : (IsOverlappedBy value.accepted m → ⊥) → last ≤ m.previous
  last_low free = not_passed value.accepted m last o.kept.causal sound free last_there

  pub covered_there : m.previous < last → IsOverlappedBy (all_of value) m
  covered_there high =
      let p = passed value.accepted m last o.kept.causal sound last_there high in
      (p.0, Contains-append_left value.accepted value.held p.0 p.1, p.2)

  -- where the accepted ones don't overlap it, the held ones are asked
  pub covered_held : (answer : Bool) (messages : List Message) → last ≤ m.previous → messages ≡ held → ((answer ≡ true) ↔ IsOverlappedBy messages m) → (answer ≡ true) ↔ IsOverlappedBy (all_of value) m
  covered_held answer messages low read says =
      let all : value.held ≡ messages = ap (λ (b : Buffered). b.held) (sym o.view) ∙ sym read in (
        λ yes. let h = says.0 yes in (h.0, Contains-append_right value.accepted value.held h.0 (subst (λ (ms : List Message). Contains ms h.0) (sym all) h.1), h.2),
        λ h. ⊎_elim (λ (old : Contains value.accepted h.0). absurd (free_behind value.accepted m last o.kept.causal last_there low (h.0, old, h.2)))
            (λ (new : Contains value.held h.0). says.1 (h.0, subst (λ (ms : List Message). Contains ms h.0) all new, h.2))
            (Contains-append_cases value.accepted value.held h.0 h.1),
      )

-- ---- a message is held back
pub joined : (value : Buffered) (history : Chronicle) (held more : List Message) (known : Known) (message : Message) → Opened value history held known → IsSound message → (IsOverlappedBy (all_of value) message → ⊥) → more ≡ held ++ message ∷ [] → IsBuffered (buffered history more)
joined value history held more known message o sound free new =
    let sizes : value.size ≡ history.size = ap (λ (b : Buffered). b.size) (sym o.view) in
    let accepted : value.accepted ≡ messages_behind [] history.changes = ap (λ (b : Buffered). b.accepted) (sym o.view) in
    let all : value.held ≡ held = ap (λ (b : Buffered). b.held) (sym o.view) in
    let same : with_held value more ≡ buffered history more = λ i. record { size = sizes i; accepted = accepted i; held = more } in
    subst IsBuffered same (joining_keeps value more message o.kept sound free (new ∙ ap (λ (ms : List Message). ms ++ message ∷ []) (sym all)))

pub joins : (value : Buffered) (history : Chronicle) (held more : List Message) (message : Message) → buffered history held ≡ value → more ≡ held ++ message ∷ [] → Joins value message (buffered history more)
joins value history held more message view new = record {
  size = ap (λ (b : Buffered). b.size) view;
  accepted = ap (λ (b : Buffered). b.accepted) view;
  held = new ∙ ap (λ (b : Buffered). b.held ++ message ∷ []) view;
}

-- ---- a held message is accepted, or refused
module _ (value : Buffered) (history : Chronicle) (held : List Message) (known : Known) (index : ℕ) (ready : Ready) (o : Opened value history held known) (r : IsReadyAt value index ready) where
  earlier_there : IsLastCounter (operations_of history.changes) r.message.change.node r.message.previous
  earlier_there = subst (λ (ops : List Op). IsLastCounter ops r.message.change.node r.message.previous) o.operations r.follows.0.earlier

  pub accepts : (new : Chronicle) (left : List Message) → new ≡ with_change history ready.change → left ≡ remove held index → Accepts value index (buffered new left)
  accepts new left grown removed =
      let whole : new ≡ with_change history r.message.change = grown ∙ ap (λ (c : Change). with_change history c) r.change in
      record {
        message = r.message;
        at = r.at;
        causes = r.follows.0;
        size = ap (λ (h : Chronicle). h.size) whole ∙ ap (λ (b : Buffered). b.size) o.view;
        accepted = ap (λ (h : Chronicle). messages_behind [] h.changes) whole ∙ behind_next history.changes r.message earlier_there ∙ ap (λ (b : Buffered). b.accepted ++ r.message ∷ []) o.view;
        held = removed ∙ ap (λ (b : Buffered). remove b.held index) o.view;
      }

  pub accepts_knows : (new : Chronicle) → new ≡ with_change history ready.change → IsBuffer new ready.known
  accepts_knows new grown =
      let all : operations_of new.changes ≡ operations_in value.accepted ++ operations r.message.change =
      ap (λ (h : Chronicle). operations_of h.changes) grown ∙ operations_of-push history.changes ready.change
      ∙ ap (λ (c : Change). operations_of history.changes ++ operations c) r.change
      ∙ ap (λ (ops : List Op). ops ++ operations r.message.change) (sym o.operations) in
      subst (λ (ops : List Op). Knows ops ready.known) (sym all) r.follows.1

  pub keeps_accepting : (new : Chronicle) (left : List Message) → new ≡ with_change history ready.change → left ≡ remove held index → IsBuffered (buffered new left) × IsBuffer new ready.known
  keeps_accepting new left grown removed = (accepting_keeps value (buffered new left) index (accepts new left grown removed) o.kept, accepts_knows new grown)

  pub refuses : (new : Chronicle) (error : SubmitError) → new ≡ history → IsRefused history.size history.changes ready.change error → (buffered new held ≡ value) × IsUnready value index (Stopped error)
  refuses new error same refused =
      let sizes : history.size ≡ value.size = ap (λ (b : Buffered). b.size) o.view in
      let waits : Contains value.held r.message = contains_from value.held index r.message r.at in (
        ap (λ (h : Chronicle). buffered h held) same ∙ o.view,
        stops (operations_in value.accepted) r.message (o.kept.sound r.message waits) r.follows.0.earlier r.follows.0.named value.size value.accepted value.held history.changes error o.changes (sym o.operations) waits r.follows.0
            (subst (λ (n : Size). IsRefused n history.changes r.message.change error) sizes (subst (λ (c : Change). IsRefused history.size history.changes c error) r.change refused)),
      )

-- ---- looking for a message that overlaps one
pub next_free : (messages : List Message) (m x : Message) (count : ℕ) → slice_get messages count ≡ Some x → (Overlap x m → ⊥) → ((k : ℕ) (y : Message) → k < count → slice_get messages k ≡ Some y → Overlap y m → ⊥) → (k : ℕ) (y : Message) → k < count + 1 → slice_get messages k ≡ Some y → Overlap y m → ⊥
next_free messages m x count here free so_far = λ k y low g o. elim (cases_eq k count) [
  | inl same ↦ free (subst (λ (z : Message). Overlap z m) (sym (same_Some x y (sym here ∙ ap (λ i. slice_get messages i) (sym same) ∙ g))) o)
  | inr other ↦ elim (cases_lt k count) [
    | inl less ↦ so_far k y less g o
    | inr high ↦ absurd (other (let same : k ≡ count = omega arith in same))
  ]
]

pub found : (messages : List Message) (m x : Message) (count : ℕ) → slice_get messages count ≡ Some x → Overlap x m → (true ≡ true) ↔ IsOverlappedBy messages m
found messages m x count here o = (λ yes. (x, contains_from messages count x here, o), λ h. refl)

pub all_free : (messages : List Message) (m : Message) (count : ℕ) → ((k : ℕ) (y : Message) → slice_get messages k ≡ Some y → k < count) → ((k : ℕ) (y : Message) → k < count → slice_get messages k ≡ Some y → Overlap y m → ⊥) → (false ≡ true) ↔ IsOverlappedBy messages m
all_free messages m count all so_far = (
  λ yes. absurd (false≢true yes),
  λ h. let at = contains_at messages h.0 h.1 in absurd (so_far at.0 h.0 (all at.0 h.0 at.1) at.1 h.2),
)

-- What a look at the held messages one after the other says.
use Rattle.std.proofs.Common.{◌≡◌, ℕ, ◌+◌, ◌<◌, ◌≤◌, List, ◌++◌, Option, Some, None, Result, Ok, Err, IfOk, MatchOption, inl, inr, sym, ap, ◌∙◌, subst, arith, length}
use Rattle.std.specs.List.{slice_get, remove}
use Rattle.std.proofs.lemmas.List.Edits.{length-remove}
use Rattle.std.proofs.lemmas.Bool.{cases_lt, cases_eq}
use Rattle.std.proofs.lemmas.Option.{same_Some, slice_get_within}
use Rattle.change_ops.specs.declared.id.OpId.{OpId}
use Rattle.change_ops.specs.declared.line.Line.{Line}
use Rattle.change_ops.specs.Changes.{Change}
use Rattle.change_ops.specs.Lines.{ops_of_lines}
use Rattle.change_ops.specs.Spelling.{change_text}
use Rattle.char_sequence.specs.Newest.{IsLastCounter}
use Rattle.mark_anchors.proofs.Lists.{contains_at}
use Rattle.change_history.specs.declared.refusal.SubmitError.{SubmitError}
use Rattle.replica.specs.declared.known.Known.{Known}
use Rattle.replica.specs.declared.known.Blocked.{Blocked}
use Rattle.replica.specs.declared.known.Blocked.TheVariants.{Waits, OutOfMemory}
use Rattle.replica.specs.declared.buffer.Ready.{Ready}
use Rattle.replica.specs.declared.buffer.Unready.{Unready}
use Rattle.replica.specs.declared.buffer.Unready.TheVariants as why
use Rattle.replica.specs.Messages.{Message}
use Rattle.replica.specs.Knowing.{AllCausesAreThere, IsMissingAmong, Knows, Passes}
use Rattle.replica.specs.Readiness.{operations_in, HasCauses}
use Rattle.replica.specs.Buffers.{Buffered, WaitsFor, Blocks, earlier_id, unready_of, IsReadyAt, Accepts, Settles, Follows, IsBlocked, IsUnready, IsStop, IsSettled, stopped_after}
use Rattle.replica.proofs.Buffering.{not_there, Settling, settled_all}

-- ---- a message whose peer's last accepted operation isn't its previous one
pub behind_last : (accepted : List Message) (m : Message) (last : ℕ) (id : OpId) → last ≤ m.previous → IsLastCounter (operations_in accepted) m.change.node last → (last ≡ m.previous → ⊥) → id ≡ earlier_id m → WaitsFor accepted m id
behind_last accepted m last id low is other named =
    let less : last < m.previous = elim (cases_lt last m.previous) [ inl below ↦ below | inr above ↦ absurd (other (let same : last ≡ m.previous = omega arith in same)) ] in
    let some : 0 < m.previous = omega arith in
    inr (some, named, λ o has same. not_there (operations_in accepted) m.change.node last m.previous o is less has (ap (λ (i : OpId). i.node) (same ∙ named)) (ap (λ (i : OpId). i.counter) (same ∙ named)))

pub some_before : (last previous : ℕ) → last ≤ previous → (last ≡ previous → ⊥) → 0 < previous
some_before last previous low other = elim (cases_lt last previous) [ inl below ↦ (let some : 0 < previous = omega arith in some) | inr above ↦ absurd (other (let same : last ≡ previous = omega arith in same)) ]

-- ---- what looking at all operations of a message says
pub pass_blocked : (buffer : Buffered) (m : Message) (lines : List Line) (old new : Known) (error : Blocked) → lines ≡ m.change.lines → Knows (operations_in buffer.accepted) old → Passes (ops_of_lines lines) old new (Err error) → IsBlocked buffer m error
pass_blocked buffer m lines old new (Waits id) read knows not = inl (subst (λ (ls : List Line). IsMissingAmong (operations_in buffer.accepted) (ops_of_lines ls) id) read (not (operations_in buffer.accepted) knows))
pass_blocked buffer m lines old new OutOfMemory read knows not = tt

pub pass_follows : (buffer : Buffered) (m : Message) (lines : List Line) (old new : Known) (last : ℕ) → lines ≡ m.change.lines → Knows (operations_in buffer.accepted) old → IsLastCounter (operations_in buffer.accepted) m.change.node last → last ≡ m.previous → Passes (ops_of_lines lines) old new (Ok tt) → Follows buffer m new
pass_follows buffer m lines old new last read knows is same all =
    let both = subst (λ (ls : List Line). AllCausesAreThere (operations_in buffer.accepted) (ops_of_lines ls) × Knows (operations_in buffer.accepted ++ ops_of_lines ls) new) read (all (operations_in buffer.accepted) knows) in
    (record { earlier = subst (λ (n : ℕ). IsLastCounter (operations_in buffer.accepted) m.change.node n) same is; named = both.0 }, both.1)

-- ---- a look at the held messages one after the other
abbrev pub AreLookedAt : Buffered → ℕ → Option SubmitError → Type 0
AreLookedAt buffer count None = (k : ℕ) (m : Message) → k < count → slice_get buffer.held k ≡ Some m → (id : OpId) × WaitsFor buffer.accepted m id
AreLookedAt buffer count (Some error) = IsStop buffer.size buffer.accepted buffer.held error

pub looked_none : (buffer : Buffered) → AreLookedAt buffer 0 None
looked_none buffer = λ k m low g. absurd (omega arith)

looked_next : (buffer : Buffered) (count : ℕ) (stopped : Option SubmitError) (unready : Unready) → AreLookedAt buffer count stopped → IsUnready buffer count unready → AreLookedAt buffer (count + 1) (stopped_after stopped unready)
looked_next buffer count None (why.Waits id) so_far waits = λ k m low g. elim (cases_eq k count) [
  | inl same ↦ (id, waits m (subst (λ (i : ℕ). slice_get buffer.held i ≡ Some m) same g))
  | inr other ↦ elim (cases_lt k count) [
    | inl less ↦ so_far k m less g
    | inr high ↦ absurd (other (let same : k ≡ count = omega arith in same))
  ]
]
looked_next buffer count (Some error) (why.Waits id) so_far waits = so_far
looked_next buffer count None (why.Stopped error) so_far stop = stop
looked_next buffer count (Some before) (why.Stopped error) so_far stop = stop

pub looked_step : (old mid new : Buffered) (count : ℕ) (before after : Option SubmitError) (unready : Unready) → (mid ≡ old) × AreLookedAt old count before → (new ≡ mid) × IsUnready mid count unready → after ≡ stopped_after before unready → (new ≡ old) × AreLookedAt old (count + 1) after
looked_step old mid new count before after unready so_far step is =
    (step.0 ∙ so_far.0, subst (λ (s : Option SubmitError). AreLookedAt old (count + 1) s) (sym is) (looked_next old count before unready so_far.1 (subst (λ (b : Buffered). IsUnready b count unready) so_far.0 step.1)))

pub looked_all : (buffer : Buffered) (count : ℕ) (stopped : Option SubmitError) → length buffer.held ≤ count → AreLookedAt buffer count stopped → IsSettled buffer.size buffer.accepted buffer.held stopped
looked_all buffer count None all so_far = λ m has. let at = contains_at buffer.held m has in let within = slice_get_within buffer.held at.0 m at.1 in so_far at.0 m (omega arith) at.1
looked_all buffer count (Some error) all so_far = so_far

-- ---- a held message is looked at
pub blocked_unready : (buffer : Buffered) (index : ℕ) (m : Message) (error : Blocked) → slice_get buffer.held index ≡ Some m → IsBlocked buffer m error → IsUnready buffer index (unready_of error)
blocked_unready buffer index m (Waits id) at waits = λ x g. subst (λ (y : Message). WaitsFor buffer.accepted y id) (same_Some m x (sym at ∙ g)) waits
blocked_unready buffer index m OutOfMemory at waits = tt

pub waited : {E : Type 0} (buffer : Buffered) (index : ℕ) (m : Message) (error : Blocked) (result : Result (Option OpId) E) → slice_get buffer.held index ≡ Some m → IsBlocked buffer m error → IfOk result (Blocks error) → IfOk result (λ waited. (message : Message) → slice_get buffer.held index ≡ Some message → MatchOption waited (HasCauses buffer.accepted message) (WaitsFor buffer.accepted message))
waited buffer index m error (Ok None) at is blocks = absurd blocks
waited buffer index m error (Ok (Some id)) at is blocks = λ message g.
    let waits = subst (λ (b : Blocked). IsBlocked buffer m b) blocks is in
    subst (λ (y : Message). WaitsFor buffer.accepted y id) (same_Some m message (sym at ∙ g)) waits
waited buffer index m error (Err none) at is blocks = tt

pub is_ready : (buffer : Buffered) (index : ℕ) (m : Message) (change : Change) (known : Known) (ready : Ready) → slice_get buffer.held index ≡ Some m → Follows buffer m known → change ≡ m.change → ready.known ≡ known → ready.change ≡ change → ready.text ≡ change_text change → IsReadyAt buffer index ready
is_ready buffer index m change known ready at follows lent same copied spelled = record {
  message = m;
  at = at;
  follows = subst (λ (k : Known). Follows buffer m k) (sym same) follows;
  change = copied ∙ lent;
  text = spelled ∙ ap change_text lent;
}

-- ---- held messages are accepted until none can be
pub fewer : (old new : Buffered) (index : ℕ) → Accepts old index new → length new.held < length old.held
fewer old new index step =
    let within : index < length old.held = slice_get_within old.held index step.message step.at in
    let less : length (remove old.held index) + 1 ≡ length old.held = length-remove old.held index within in
    let same : length new.held ≡ length (remove old.held index) = ap length step.held in
    omega arith

pub settled_here : (old mid new : Buffered) (stopped : Option SubmitError) → Settling old mid → (new ≡ mid) × IsSettled mid.size mid.accepted mid.held stopped → Settles old new stopped
settled_here old mid new stopped so_far is =
    subst (λ (b : Buffered). Settles old b stopped) (sym is.0) (settled_all old mid stopped so_far is.1)

-- Edges that lead to labels.
use Rattle.std.proofs.Common.{◌≡◌, ◌↔◌, ℕ, ℤ, pos, List, Option, Some, None, refl, ap, subst, ◌∙◌}
use Rattle.std.specs.Prelude.{slice_get}
use Rattle.bpf_words.specs.declared.instruction.Insn.{Insn}
use Rattle.loop_labels.specs.Potential as law
use Rattle.loop_labels.specs.Rules.{Rules, LeadsTo, Leads}
use Rattle.label_potentials.specs.Views.{potential_of}
use Rattle.label_potentials.specs.declared.potential.Potential.{Potential}
use Rattle.semantics.specs.State.{State}
use Rattle.abstract_state.specs.Lent.{Lengths}
use Rattle.abstract_state.specs.State.{lengths_of}
use Rattle.tracked_state.specs.declared.state.TrackedState.{TrackedState}
use Rattle.tracked_state.specs.Tracked.{tracked_of}
use Rattle.loop_states.specs.Contained.{ContainsInLoop}
use Rattle.loop_states.specs.Within.{IsWithinInLoop}
use Rattle.loop_states.proofs.Bearing.{contains_tracked}
use Rattle.potential_edges.specs.Edges.{FallsBy, Falls}
use Rattle.loop_check.specs.declared.label.Label.{Label}
use Rattle.loop_check.specs.Labels.{labelled, labels_of}
use Rattle.loop_check.specs.Rules.{lent, states_in, IsLabelWithin, LabelFalls, loop_rules}
use Rattle.loop_check.specs.Meanings.{meanings}
use Rattle.loop_check.specs.Leads.{with_potential, Enters, LeadsOn, LeadsIf}
use Rattle.loop_check.proofs.Among.{same_label, at_among, stands}

same_pos : (m n : ℕ) → pos m ≡ pos n → m ≡ n
same_pos m n e = cc

-- ---- a label that is entered
pub enters_by : (from : Label) (insn : Insn) (behind : TrackedState) (label : Label)
    → IsWithinInLoop (tracked_of behind) (tracked_of label.state)
    → FallsBy from.state insn behind.state from.potential label.potential
    → Enters loop_rules from insn behind label
enters_by from insn behind label within falls = record {
  widens = record { states = within; potentials = refl };
  falls = record { first = refl; second = refl; falls = falls };
}

pub is_entered_within : (from : Label) (insn : Insn) (behind : TrackedState) (label : Label)
    → Enters loop_rules from insn behind label → IsWithinInLoop (tracked_of behind) (tracked_of label.state)
is_entered_within from insn behind label enters = enters.widens.states

pub is_entered_falling : (from : Label) (insn : Insn) (behind : TrackedState) (label : Label)
    → Enters loop_rules from insn behind label
    → FallsBy from.state insn behind.state from.potential label.potential
is_entered_falling from insn behind label enters = enters.falls.falls

pub enters_soundly : (from : Label) (insn : Insn) (behind : TrackedState) (label : Label)
    → ((lengths : Lengths) (s : State) → ContainsInLoop behind lengths s → ContainsInLoop label.state lengths s)
    → Falls from.state insn behind.state (potential_of from.potential) (potential_of label.potential)
    → Enters meanings from insn behind label
enters_soundly from insn behind label within falls = record {
  widens = λ bytes s held whole. within (lengths_of (lent bytes whole)) s (held whole);
  falls = λ bytes s next distance span before moves after.
      falls (lent bytes span) s next distance
      (contains_tracked from.state (lengths_of (lent bytes span)) s (before span)) moves (after span).state;
}

-- ---- an edge to a slot
entered_at : (rules : Rules Label) (all : List (Option Label)) (from : Label) (insn : Insn) (slot : ℕ)
    (behind : TrackedState) (label : Label) → slice_get all slot ≡ Some (Some label)
    → LeadsOn rules all from insn (pos slot) behind → Enters rules from insn behind label
entered_at rules all from insn slot behind label found leads =
    let same : leads.place ≡ slot = same_pos leads.place slot leads.there in
    let there : slice_get all slot ≡ Some (Some leads.label)
    = subst (λ (n : ℕ). slice_get all n ≡ Some (Some leads.label)) same leads.found in
    subst (Enters rules from insn behind) (same_label all slot leads.label label there found) leads.enters

pub leads_there : (rules : Rules Label) (all : List (Option Label)) (from : Label) (insn : Insn) (slot : ℕ)
    (behind : TrackedState) (label : Label) → slice_get all slot ≡ Some (Some label)
    → Enters rules from insn behind label → LeadsOn rules all from insn (pos slot) behind
leads_there rules all from insn slot behind label found enters =
    record { place = slot; there = refl; label = label; found = found; enters = enters }

pub leads_as : (rules : Rules Label) (all : List (Option Label)) (from : Label) (insn : Insn) (slot : ℕ)
    (behind : TrackedState) (label : Label) (Yes : Type 0) → slice_get all slot ≡ Some (Some label)
    → (Yes ↔ Enters rules from insn behind label) → (Yes ↔ LeadsOn rules all from insn (pos slot) behind)
leads_as rules all from insn slot behind label Yes found enters = (
  λ yes. leads_there rules all from insn slot behind label found (enters.0 yes),
  λ leads. enters.1 (entered_at rules all from insn slot behind label found leads),
)

pub leads_nowhere : (rules : Rules Label) (all : List (Option Label)) (from : Label) (insn : Insn) (to : ℤ)
    (behind : TrackedState) (Yes : Type 0) → (Yes → ⊥)
    → ((place : ℕ) (label : Label) → pos place ≡ to → slice_get all place ≡ Some (Some label) → ⊥)
    → (Yes ↔ LeadsOn rules all from insn to behind)
leads_nowhere rules all from insn to behind Yes never none = (
  λ yes. absurd (never yes),
  λ leads. absurd (none leads.place leads.label leads.there leads.found),
)

pub none_there : (all : List (Option Label)) (slot : ℕ)
    → ((label : Label) → slice_get all slot ≡ Some (Some label) → ⊥) → (place : ℕ) (label : Label) → pos place ≡ pos slot
    → slice_get all place ≡ Some (Some label) → ⊥
none_there all slot none place label there found =
    none label (subst (λ (n : ℕ). slice_get all n ≡ Some (Some label)) (same_pos place slot there) found)

-- ---- the labels of the law
pub leads_to : (rules : Rules Label) (all : List (Option Label)) (slot : ℕ) (from : Label) (insn : Insn) (to : ℤ)
    (behind : TrackedState) (leads : LeadsOn rules all from insn to behind)
    → LeadsTo rules (labels_of all) (labelled slot from) insn to (with_potential behind leads.label.potential)
leads_to rules all slot from insn to behind leads = record {
  label = labelled leads.place leads.label;
  among = at_among all leads.place leads.label leads.found;
  there = leads.there;
  widens = leads.enters.widens;
  falls = leads.enters.falls;
}

pub record Led (rules : Rules Label) (all : List (Option Label)) (slot : ℕ) (from : Label) (insn : Insn) (to : ℤ)
    (behind : Option TrackedState) : Type 0 where
  pub edge : Option Label
  pub states : states_in edge ≡ behind
  pub leads : Leads rules (labels_of all) (labelled slot from) insn to edge

pub led : (rules : Rules Label) (all : List (Option Label)) (slot : ℕ) (from : Label) (insn : Insn) (to : ℤ)
    (behind : Option TrackedState) → LeadsIf rules all from insn to behind → Led rules all slot from insn to behind
led rules all slot from insn to None leads = record { edge = None; states = refl; leads = tt }
led rules all slot from insn to (Some behind) leads = record {
  edge = Some (with_potential behind leads.label.potential);
  states = refl;
  leads = leads_to rules all slot from insn to behind leads;
}

-- ---- and back
same_known : (known : Label) (a : TrackedState) (p : Potential) → known.state ≡ a → known.potential ≡ p
    → known ≡ with_potential a p
same_known known a p one other =
    ap (λ (x : TrackedState). with_potential x known.potential) one ∙ ap (λ (y : Potential). with_potential a y) other

pub leads_back : (all : List (Option Label)) (slot : ℕ) (from : Label) (insn : Insn) (to : ℤ) (known : Label)
    (a : TrackedState) → known.state ≡ a → LeadsTo loop_rules (labels_of all) (labelled slot from) insn to known
    → LeadsOn loop_rules all from insn to a
leads_back all slot from insn to known a same leads =
    let label = leads.label.known in
    let at = stands all leads.label leads.among in
    let is : known ≡ with_potential a label.potential = same_known known a label.potential same leads.widens.potentials in
    let whole : leads.label.potential ≡ potential_of label.potential = ap (λ l. l.potential) at.whole in
    record {
      place = leads.label.slot;
      there = leads.there;
      label = label;
      found = at.found;
      enters = record {
        widens = subst (λ (k : Label). IsLabelWithin k label) is leads.widens;
        falls = subst (λ (k : Label). LabelFalls from insn k (potential_of from.potential) (potential_of label.potential)) is
            (subst (λ (q : law.Potential). LabelFalls from insn known (potential_of from.potential) q) whole leads.falls);
      };
    }

-- Labels of which each is kept are inductive.
use Rattle.std.proofs.Common.{◌≡◌, ◌<◌, ◌≤◌, ⊎_elim, ℕ, ◌+◌, List, length, Option, Some, None, Result, Ok, Err, refl, sym, subst, ◌∙◌, arith}
use Rattle.std.proofs.lemmas.Bool.{cases_lt}
use Rattle.std.specs.Result.{IfOk}
use Rattle.std.specs.Prelude.{slice_get, MatchOption}
use Rattle.span_context.specs.declared.profile.Profile.TheVariants.{Three}
use Rattle.bpf_words.specs.declared.instruction.Insn.{Insn}
use Rattle.bpf_words.specs.Flow.{StartsAt}
use Rattle.semantics.specs.State.{State}
use Rattle.semantics.specs.Step.{Program}
use Rattle.loop_labels.specs.Potential as law
use Rattle.loop_labels.specs.Bounded.{EndsWithin}
use Rattle.loop_labels.specs.Labels as labels
use Rattle.loop_labels.specs.Rules.{Rules, AreSound, BeginsBy, IsKeptBy, AreInductiveBy}
use Rattle.loop_labels.proofs.ByRules.{inductive_by}
use Rattle.loop_labels.proofs.Ends.{ends_within}
use Rattle.abstract_state.specs.Lent.{Lengths}
use Rattle.abstract_state.specs.State.{lengths_of}
use Rattle.value_marks.specs.declared.marks.Marks.{Marks}
use Rattle.value_marks.specs.Copies.{kept}
use Rattle.tracked_state.specs.declared.state.TrackedState.{TrackedState}
use Rattle.loop_states.specs.Contained.{BearIn, ContainsInLoop}
use Rattle.label_potentials.specs.Views.{potential_of}
use Rattle.loop_check.specs.declared.label.Label.{Label}
use Rattle.loop_check.specs.Labels.{labelled, labels_of}
use Rattle.loop_check.specs.Rules.{lent, contains}
use Rattle.loop_check.specs.Meanings.{meanings}
use Rattle.loop_check.specs.Leads.{GoesBy, IsKeptAt}
use Rattle.loop_check.proofs.Among.{first_found, same_label, stands, within}

-- ---- the instruction at a slot
no_insn : (insn : Insn) → Some None ≡ Some (Some insn) → ⊥
no_insn insn e = cc

pub starts_there : (program : Program) (slot : ℕ) (o : Option Insn) → slot < 4096 → slice_get program slot ≡ Some o
    → MatchOption o ((insn : Insn) → StartsAt program slot insn → ⊥)
    (λ insn. StartsAt program slot insn × (slot < 4096))
starts_there program slot None below there = λ insn starts. no_insn insn (sym there ∙ starts)
starts_there program slot (Some insn) below there = (there, below)

-- ---- one label
pub keeps : (rules : Rules Label) (program : Program) (all : List (Option Label)) (slot : ℕ) (label : Label)
    (insn : Insn) → StartsAt program slot insn → rules.is_positive label (potential_of label.potential)
    → GoesBy rules all slot label insn → IsKeptBy rules program (labels_of all) (labelled slot label)
keeps rules program all slot label insn starts positive goes = record {
  insn = insn;
  starts = starts;
  edges = goes.edges;
  granted = goes.granted;
  taken = goes.taken;
  untaken = goes.untaken;
  positive = positive;
}

-- ---- the first label
pub begins : (rules : Rules Label) (all : List (Option Label)) (bound : law.Bound) (first entry : Label)
    → slice_get all 0 ≡ Some (Some first) → potential_of first.potential ≡ law.potential_of bound → rules.entry entry
    → rules.widens entry first → BeginsBy rules (labels_of all) bound
begins rules all bound first entry found whole starts widens = record {
  first = labelled 0 first;
  found = first_found all first found;
  at_start = refl;
  whole = whole;
  entry = entry;
  starts = starts;
  widens = widens;
}

-- ---- the labels below a slot
pub record AreKeptBelow (rules : Rules Label) (program : Program) (all : List (Option Label)) (count : ℕ)
    : Type 0 where
  pub kept : (slot : ℕ) (label : Label) → slot < count → slice_get all slot ≡ Some (Some label)
      → IsKeptBy rules program (labels_of all) (labelled slot label)

pub none_kept : (rules : Rules Label) (program : Program) (all : List (Option Label)) → AreKeptBelow rules program all 0
none_kept rules program all = record { kept = λ slot label below found. absurd (omega arith) }

pub more_kept : (rules : Rules Label) (program : Program) (all : List (Option Label)) (count : ℕ)
    → AreKeptBelow rules program all count → IsKeptAt rules program all count
    → AreKeptBelow rules program all (count + 1)
more_kept rules program all count below here = record {
  kept = λ slot label less found.
      ⊎_elim (λ (before : slot < count). below.kept slot label before found)
      (λ (past : count ≤ slot).
      let same : slot ≡ count = omega arith in
      subst (λ (n : ℕ). IsKeptBy rules program (labels_of all) (labelled n label)) (sym same)
      (here label (subst (λ (n : ℕ). slice_get all n ≡ Some (Some label)) same found))) (cases_lt slot count);
}

pub kept_at : (rules : Rules Label) (program : Program) (all : List (Option Label)) (slot : ℕ) (label : Label)
    → slice_get all slot ≡ Some (Some label) → IsKeptBy rules program (labels_of all) (labelled slot label)
    → IsKeptAt rules program all slot
kept_at rules program all slot label found kept = λ other there.
    subst (λ (l : Label). IsKeptBy rules program (labels_of all) (labelled slot l))
    (same_label all slot label other found there) kept

pub none_kept_at : (rules : Rules Label) (program : Program) (all : List (Option Label)) (slot : ℕ)
    → ((label : Label) → slice_get all slot ≡ Some (Some label) → ⊥) → IsKeptAt rules program all slot
none_kept_at rules program all slot none = λ label found. absurd (none label found)

pub if_ok : {A E : Type 0} (r : Result A E) (P Q : Type 0) → (P → Q) → IfOk r (λ _. P) → IfOk r (λ _. Q)
if_ok (Ok a) P Q f ok = f ok
if_ok (Err e) P Q f ok = tt

pub each_kept : (rules : Rules Label) (program : Program) (all : List (Option Label)) (count : ℕ) → length all ≤ count
    → AreKeptBelow rules program all count → (label : labels.Label Label) → labels.IsAmong (labels_of all) label
    → IsKeptBy rules program (labels_of all) label
each_kept rules program all count up below label among =
    let at = stands all label among in
    let less : label.slot < length all = within all label.slot label.known at.found in
    subst (IsKeptBy rules program (labels_of all)) (sym at.whole)
    (below.kept label.slot label.known (omega arith) at.found)

-- ---- what the rules mean is right
bear_at : (lengths : Lengths) (o : Option Marks) (s : State) (slot : ℕ) → BearIn lengths o s
    → BearIn lengths o (record s { slot = slot })
bear_at lengths None s slot bears = tt
bear_at lengths (Some marks) s slot (origins, names, bears) =
    (origins, names, record { registers = bears.registers; slots = bears.slots })

in_loop_at : (a : TrackedState) (lengths : Lengths) (s : State) (slot : ℕ) → ContainsInLoop a lengths s
    → ContainsInLoop a lengths (record s { slot = slot })
in_loop_at a lengths s slot held =
    let was = held.state in
    record {
      state = record {
        eleven = was.eleven;
        long = was.long;
        bounds = was.bounds;
        registers = was.registers;
        stack = was.stack;
      };
      marks = bear_at lengths (kept a.copies) s slot held.marks;
    }

meanings_sound : AreSound Three meanings
meanings_sound = record {
  entry = λ label starts bytes span. starts bytes span;
  anywhere = λ label bytes s slot held whole. in_loop_at label.state (lengths_of (lent bytes whole)) s slot (held whole);
  edges = λ slot insn label edges lands bytes s span held. lands bytes s span held;
  widens = λ behind label less bytes s held. less bytes s held;
  is_positive = λ label p left bytes s span held. left bytes s span held;
  falls = λ label insn behind p q fewer bytes s next distance span before moves after.
      fewer bytes s next distance span before moves after;
}

pub inductive : (program : Program) (all : List (Option Label)) (bound : law.Bound)
    → AreInductiveBy meanings program (labels_of all) bound
    → labels.AreInductive contains Three program (labels_of all) bound
inductive program all bound by = inductive_by Three meanings meanings_sound program (labels_of all) bound by

pub ends : (program : Program) (all : List (Option Label)) (bound : law.Bound)
    → AreInductiveBy meanings program (labels_of all) bound → EndsWithin Three program bound
ends program all bound by =
    ends_within contains Three program (labels_of all) bound (inductive program all bound by)

-- The labels that there are, by their slots.
use Rattle.std.proofs.Common.{◌≡◌, ◌<◌, ℕ, zero, suc, ◌+◌, List, [], ◌∷◌, length, Option, Some, None, refl, sym, ap, subst, ◌∙◌, arith, zero-add}
use Rattle.std.specs.Prelude.{slice_get}
use Rattle.std.proofs.lemmas.Option.{slice_get_within}
use Rattle.loop_labels.specs.Labels as labels
use Rattle.loop_check.specs.declared.label.Label.{Label}
use Rattle.loop_check.specs.Labels.{labelled, labels_from, labels_of}

pub same_some : {A : Type 0} (a b : A) → Some a ≡ Some b → a ≡ b
same_some a b e = cc

none_some : {A : Type 0} (a : A) → None ≡ Some a → ⊥
none_some a e = cc

pub not_both : {A : Type 0} (o : Option A) (a : A) → None ≡ o → o ≡ Some a → ⊥
not_both o a one other = none_some a (one ∙ other)

same_two : (a b : Label) → Some (Some a) ≡ Some (Some b) → a ≡ b
same_two a b e = same_some a b (same_some (Some a) (Some b) e)

none_two : (a : Label) → Some None ≡ Some (Some a) → ⊥
none_two a e = none_some a (same_some None (Some a) e)

pub same_label : (all : List (Option Label)) (slot : ℕ) (a b : Label) → slice_get all slot ≡ Some (Some a)
    → slice_get all slot ≡ Some (Some b) → a ≡ b
same_label all slot a b one other = same_two a b (sym one ∙ other)

-- ---- each is among them
at_slot : (base slot : ℕ) (label : Label) (these : List (labels.Label Label))
    → labels.IsAmong these (labelled (base + 1 + slot) label) → labels.IsAmong these (labelled (base + suc slot) label)
at_slot base slot label these among =
    let e : base + 1 + slot ≡ base + suc slot = omega arith in
    subst (λ (n : ℕ). labels.IsAmong these (labelled n label)) e among

among_more : (first label : labels.Label Label) (these : List (labels.Label Label)) → labels.IsAmong these label
    → labels.IsAmong (first ∷ these) label
among_more first label these among = record { place = suc among.place; found = among.found }

among_from : (base : ℕ) (all : List (Option Label)) (slot : ℕ) (label : Label) → slice_get all slot ≡ Some (Some label)
    → labels.IsAmong (labels_from base all) (labelled (base + slot) label)
unfolding labels_from
among_from base [] slot label found = absurd (none_some (Some label) found)
among_from base (None ∷ rest) zero label found = absurd (none_two label found)
among_from base (None ∷ rest) (suc slot) label found =
    at_slot base slot label (labels_from (base + 1) rest) (among_from (base + 1) rest slot label found)
among_from base (Some first ∷ rest) zero label found =
    let same : first ≡ label = same_two first label found in
    let e : base ≡ base + 0 = omega arith in
    record {
      place = 0;
      found = ap (λ (l : Label). Some (labelled base l)) same ∙ ap (λ (n : ℕ). Some (labelled n label)) e;
    }
among_from base (Some first ∷ rest) (suc slot) label found =
    at_slot base slot label (labelled base first ∷ labels_from (base + 1) rest)
    (among_more (labelled base first) (labelled (base + 1 + slot) label) (labels_from (base + 1) rest)
    (among_from (base + 1) rest slot label found))

pub at_among : (all : List (Option Label)) (slot : ℕ) (label : Label) → slice_get all slot ≡ Some (Some label)
    → labels.IsAmong (labels_of all) (labelled slot label)
at_among all slot label found =
    subst (λ (n : ℕ). labels.IsAmong (labels_of all) (labelled n label)) (zero-add slot) (among_from 0 all slot label found)

pub first_found : (all : List (Option Label)) (first : Label) → slice_get all 0 ≡ Some (Some first)
    → slice_get (labels_of all) 0 ≡ Some (labelled 0 first)
unfolding labels_from
first_found [] first found = absurd (none_some (Some first) found)
first_found (None ∷ rest) first found = absurd (none_two first found)
first_found (Some label ∷ rest) first found = ap (λ (l : Label). Some (labelled 0 l)) (same_two label first found)

-- ---- each of them stands at its slot
record StandsFrom (base : ℕ) (all : List (Option Label)) (label : labels.Label Label) : Type 0 where
  place : ℕ
  slot : label.slot ≡ base + place
  found : slice_get all place ≡ Some (Some label.known)
  whole : label ≡ labelled label.slot label.known

one_more : (slot base place : ℕ) → slot ≡ base + 1 + place → slot ≡ base + suc place
one_more slot base place e = omega arith

stands_from : (base : ℕ) (all : List (Option Label)) (place : ℕ) (label : labels.Label Label)
    → slice_get (labels_from base all) place ≡ Some label → StandsFrom base all label
unfolding labels_from
stands_from base [] place label found = absurd (none_some label found)
stands_from base (None ∷ rest) place label found =
    let later = stands_from (base + 1) rest place label found in
    record {
      place = suc later.place;
      slot = one_more label.slot base later.place later.slot;
      found = later.found;
      whole = later.whole;
    }
stands_from base (Some first ∷ rest) zero label found =
    let e : base ≡ base + 0 = omega arith in
    subst (StandsFrom base (Some first ∷ rest)) (same_some (labelled base first) label found)
    (record { place = 0; slot = e; found = refl; whole = refl })
stands_from base (Some first ∷ rest) (suc place) label found =
    let later = stands_from (base + 1) rest place label found in
    record {
      place = suc later.place;
      slot = one_more label.slot base later.place later.slot;
      found = later.found;
      whole = later.whole;
    }

pub record Stands (all : List (Option Label)) (label : labels.Label Label) : Type 0 where
  pub found : slice_get all label.slot ≡ Some (Some label.known)
  pub whole : label ≡ labelled label.slot label.known

pub stands : (all : List (Option Label)) (label : labels.Label Label) → labels.IsAmong (labels_of all) label
    → Stands all label
stands all label among =
    let from = stands_from 0 all among.place label among.found in
    let same : from.place ≡ label.slot = sym (from.slot ∙ zero-add from.place) in
    record {
      found = subst (λ (n : ℕ). slice_get all n ≡ Some (Some label.known)) same from.found;
      whole = from.whole;
    }

pub within : (all : List (Option Label)) (slot : ℕ) (label : Label) → slice_get all slot ≡ Some (Some label)
    → slot < length all
within all slot label found = slice_get_within all slot (Some label) found

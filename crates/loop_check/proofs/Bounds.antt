-- Potentials that are a bound: their terms weigh nothing.
use Rattle.std.proofs.Common.{◌≡◌, ◌<◌, ◌≤◌, ⊎_elim, ℕ, zero, suc, ◌+◌, ℤ, pos, Bool, true, false, if◌then◌else◌, List, [], ◌∷◌, length, refl, sym, ap, ◌∙◌, arith}
use Rattle.std.specs.Prelude.{slice_index_or}
use Rattle.std.specs.Ordering.{int_eq}
use Rattle.std.proofs.lemmas.Bool.{cases_lt}
use Rattle.std.proofs.lemmas.Bool.Decides.{Decides-int_eq}
use Rattle.loop_labels.specs.Potential as law
use Rattle.label_potentials.specs.declared.potential.Term.{Term}
use Rattle.label_potentials.specs.declared.potential.Potential.{Potential}
use Rattle.label_potentials.specs.Views.{term_of, terms_of, potential_of}
use Rattle.label_potentials.proofs.Sums.{zero_weight}
use Rattle.loop_check.specs.declared.label.Bound.{Bound}
use Rattle.loop_check.specs.Labels.{bound_of, HasForm}

-- the terms below a place weigh nothing
abbrev pub WeighNothing : List Term → ℕ → Type 0
WeighNothing terms count = (k : ℕ) → k < count → (none : Term) → (slice_index_or terms k none).weight ≡ pos 0

no_weight : (z : ℤ) → z ≡ pos 0 → int_eq z (pos 0) ≡ true
no_weight z e = grind (arith, Decides-int_eq)

some_term : (first : law.Term) (rest : List law.Term) → first ∷ rest ≡ [] → ⊥
some_term first rest e = cc

later : (term : Term) (rest : List Term) → WeighNothing (term ∷ rest) (length (term ∷ rest))
    → WeighNothing rest (length rest)
later term rest all = λ k below none.
    let more : suc k < length (term ∷ rest) = omega arith in
    all (suc k) more none

pub weigh_nothing : (terms : List Term) → WeighNothing terms (length terms) → terms_of terms ≡ []
unfolding terms_of
weigh_nothing [] all = refl
weigh_nothing (term ∷ rest) all =
    let first : 0 < length (term ∷ rest) = omega arith in
    let none : int_eq term.weight (pos 0) ≡ true = no_weight term.weight (all 0 first term) in
    ap (λ (b : Bool). if b then terms_of rest else term_of term ∷ terms_of rest) none
    ∙ weigh_nothing rest (later term rest all)

-- ---- and back
first_nothing : (b : Bool) (first : law.Term) (rest : List law.Term)
    → (if b then rest else first ∷ rest) ≡ [] → (b ≡ true) × (rest ≡ [])
first_nothing true first rest e = (refl, e)
first_nothing false first rest e = absurd (some_term first rest e)

pub none_weighs : (terms : List Term) → terms_of terms ≡ [] → (k : ℕ) → k < length terms → (none : Term)
    → (slice_index_or terms k none).weight ≡ pos 0
unfolding terms_of
none_weighs [] e k below none = absurd (omega arith)
none_weighs (term ∷ rest) e zero below none =
    zero_weight term.weight (first_nothing (int_eq term.weight (pos 0)) (term_of term) (terms_of rest) e).0
none_weighs (term ∷ rest) e (suc k) below none =
    let less : k < length rest = omega arith in
    none_weighs rest (first_nothing (int_eq term.weight (pos 0)) (term_of term) (terms_of rest) e).1 k less none

pub none_weigh : (terms : List Term) → WeighNothing terms 0
none_weigh terms = λ k below none. absurd (omega arith)

pub more_weigh : (terms : List Term) (i : ℕ) (term : Term) → WeighNothing terms i
    → ((none : Term) → term ≡ slice_index_or terms i none) → term.weight ≡ pos 0 → WeighNothing terms (i + 1)
more_weigh terms i term all is nothing = λ k below none.
    ⊎_elim (λ (before : k < i). all k before none)
    (λ (past : i ≤ k).
    let same : k ≡ i = omega arith in
    ap (λ (n : ℕ). (slice_index_or terms n none).weight) same
    ∙ ap (λ (t : Term). t.weight) (sym (is none))
    ∙ nothing) (cases_lt k i)

pub weighs_nothing : (terms : List Term) (i : ℕ) (term : Term) → terms_of terms ≡ [] → i < length terms
    → ((none : Term) → term ≡ slice_index_or terms i none) → term.weight ≡ pos 0
weighs_nothing terms i term e below is = ap (λ (t : Term). t.weight) (is term) ∙ none_weighs terms e i below term

-- ---- a potential that is the bound, part by part
pub is_bound : (p : Potential) (b : Bound) → HasForm p b → terms_of p.less ≡ []
    → potential_of p ≡ law.potential_of (bound_of b)
is_bound p b has less =
    let form : ℤ → ℤ → ℤ → List law.Term → law.Potential
    = λ c t l terms. record { constant = c; per_byte = t; per_link_byte = l; less = terms } in
    ap (λ (c : ℤ). form c p.per_byte p.per_link_byte (terms_of p.less)) has.constant
    ∙ ap (λ (t : ℤ). form (pos b.constant) t p.per_link_byte (terms_of p.less)) has.per_byte
    ∙ ap (λ (l : ℤ). form (pos b.constant) (pos b.per_byte) l (terms_of p.less)) has.per_link_byte
    ∙ ap (λ (terms : List law.Term). form (pos b.constant) (pos b.per_byte) (pos b.per_link_byte) terms) less

pub bound_form : (p : Potential) (b : Bound) → potential_of p ≡ law.potential_of (bound_of b) → HasForm p b
bound_form p b e = record {
  constant = ap (λ (q : law.Potential). q.constant) e;
  per_byte = ap (λ (q : law.Potential). q.per_byte) e;
  per_link_byte = ap (λ (q : law.Potential). q.per_link_byte) e;
}

pub bound_less : (p : Potential) (b : Bound) → potential_of p ≡ law.potential_of (bound_of b) → terms_of p.less ≡ []
bound_less p b e = ap (λ (q : law.Potential). q.less) e

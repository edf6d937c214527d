-- When a line is a case's.
use Rattle.std.proofs.Common.{◌≡◌, ℕ, List, ◌∷◌, sym, subst, ◌∙◌}
use Rattle.filter_cases.specs.Cases.{Case, CaseForm, SaysCase}
use Rattle.filter_cases.specs.Escapes.{Quoted}
use Rattle.filter_cases.proofs.Quotes.{quoted_once}

rest_same : {a b : ℕ} {one two : List ℕ} → a ∷ one ≡ b ∷ two → one ≡ two
rest_same e = cc

pub unquoted_line : (line : List ℕ) → ((input : List ℕ) → line ≡ 34 ∷ input → ⊥) → (case : Case) → CaseForm case line → ⊥
unquoted_line line wrong case form = wrong form.input form.begun

module _ (line input : List ℕ) (begun : line ≡ 34 ∷ input) where
  here : (case : Case) (form : CaseForm case line) → Quoted form.text (32 ∷ form.rest) input
  here case form = subst (λ (l : List ℕ). Quoted form.text (32 ∷ form.rest) l) (rest_same (sym form.begun ∙ begun)) form.quoted

  pub endless_line : ((text rest : List ℕ) → Quoted text rest input → ⊥) → (case : Case) → CaseForm case line → ⊥
  endless_line wrong case form = wrong form.text (32 ∷ form.rest) (here case form)

  pub unspaced_line : (text after : List ℕ) → Quoted text after input → ((rest : List ℕ) → after ≡ 32 ∷ rest → ⊥) → (case : Case) → CaseForm case line → ⊥
  unspaced_line text after quoted wrong case form =
      wrong form.rest (sym (quoted_once text after input form.text (32 ∷ form.rest) quoted (here case form)).1)

  pub other_line : (text after rest : List ℕ) → Quoted text after input → after ≡ 32 ∷ rest → ((case : Case) → SaysCase case text rest → ⊥)
      → (case : Case) → CaseForm case line → ⊥
  other_line text after rest quoted space wrong case form =
      let same = quoted_once text after input form.text (32 ∷ form.rest) quoted (here case form) in
      let behind : form.rest ≡ rest = rest_same (same.1 ∙ space) in
      wrong case (subst (λ (l : List ℕ). SaysCase case l rest) same.0 (subst (λ (l : List ℕ). SaysCase case form.text l) behind form.says))

  pub case_line : (text after rest : List ℕ) (case : Case) → Quoted text after input → after ≡ 32 ∷ rest → SaysCase case text rest → CaseForm case line
  case_line text after rest case quoted space says = record {
    input = input;
    text = text;
    rest = rest;
    begun = begun;
    quoted = subst (λ (l : List ℕ). Quoted text l input) space quoted;
    says = says;
  }

-- Sums of what terms weigh.
use Rattle.std.proofs.Common.{◌≡◌, ℕ, ℤ, pos, ◌+ℤ◌, ◌-ℤ◌, ◌*ℤ◌, ◌≤ℤ◌, ◌<ℤ◌, Bool, true, false, cond, List, [], ◌∷◌, refl, ap, ◌∙◌, arith}
use Rattle.std.proofs.lemmas.Int.{ints}
use Rattle.std.proofs.lemmas.Bool.Decides.{Decides-int_eq}
use Rattle.std.proofs.Math.IntN.{zero-*ℤ}
use Rattle.std.specs.Ordering.{int_eq}
use Rattle.span_context.specs.Context.{SpanBytes}
use Rattle.semantics.specs.State.{State}
use Rattle.loop_labels.specs.Potential as labels
use Rattle.label_potentials.specs.declared.potential.Term.{Term}
use Rattle.label_potentials.specs.declared.potential.Potential.{Potential}
use Rattle.label_potentials.specs.Views.{term_of, terms_of, potential_of, weight_at, weights_at, form_at, left_at}

-- ---- a term of weight 0
pub no_weight_at : (state : State) (term : Term) → term.weight ≡ pos 0 → weight_at state term ≡ pos 0
no_weight_at state term none =
    let count : ℤ = labels.counted_from (term_of term).base (labels.number_in state (term_of term).holder) in
    ap (λ z. z *ℤ count) none ∙ zero-*ℤ count

pub zero_weight : (z : ℤ) → int_eq z (pos 0) ≡ true → z ≡ pos 0
zero_weight z e = grind (arith, Decides-int_eq)

pub sum_of_terms : (state : State) (terms : List Term)
    → labels.all_weighed state (terms_of terms) ≡ weights_at state terms
unfolding labels.all_weighed terms_of weights_at
sum_of_terms state [] = refl
sum_of_terms state (term ∷ rest) = go (int_eq term.weight (pos 0)) refl (sum_of_terms state rest)
  where
    go : (b : Bool) → int_eq term.weight (pos 0) ≡ b
        → labels.all_weighed state (terms_of rest) ≡ weights_at state rest
        → labels.all_weighed state (cond b (terms_of rest) (term_of term ∷ terms_of rest))
        ≡ weight_at state term +ℤ weights_at state rest
    go true e same =
        let none : weight_at state term ≡ pos 0 = no_weight_at state term (zero_weight term.weight e) in
        omega (arith, ints)
    go false e same = ap (λ z. weight_at state term +ℤ z) same

pub left_is : (bytes : SpanBytes) (state : State) (p : Potential)
    → labels.potential_at bytes state (potential_of p) ≡ left_at bytes state p
left_is bytes state p = ap (λ z. form_at bytes p -ℤ z) (sum_of_terms state p.less)

-- `==` of two formats tells whether they are one.
use Rattle.std.proofs.Common.{◌≡◌, ◌∙◌, ℕ, zero, suc, [], ◌∷◌, Bool, List, Option, Some, None, get_or, refl, sym, ap, true≢false}
use Rattle.std.specs.Prelude.{nat_eq, unwrap_or}
use Rattle.std.specs.Bool.{Decides}
use Rattle.std.specs.Option.{option_eq}
use Rattle.std.specs.Cmp.{unsigned_Decides}
use Rattle.std.specs.Cmp.Lexicographic.{pointwise, pointwise_decides}
use Rattle.std.proofs.lemmas.Bool.Decides.{Decides-and, Decides-like}
use Rattle.std.proofs.lemmas.Option.{none-some}
use Rattle.change_ops.specs.declared.value.Value.{Value}
use Rattle.change_ops.specs.declared.value.Value.TheVariants as value
use Rattle.mark_anchors.specs.Formatting.{Format, formatting_eq, numbers_of, value_eq, values_eq}

pub options_Decides : {X : Type 0} (E : X → X → Bool) → ((x y : X) → Decides (E x y) (x ≡ y)) → (a b : Option X) → Decides (option_eq E a b) (a ≡ b)
options_Decides E decides None None = (λ e. refl, λ e. refl)
options_Decides E decides None (Some y) = (λ e. absurd (true≢false (sym e)), λ e. absurd (none-some y e))
options_Decides E decides (Some x) None = (λ e. absurd (true≢false (sym e)), λ e. absurd (none-some x (sym e)))
options_Decides E decides (Some x) (Some y) = (λ e. ap Some ((decides x y).0 e), λ e. (decides x y).1 (ap (λ o. unwrap_or o x) e))

pub lists_Decides : (xs ys : List ℕ) → Decides (pointwise nat_eq xs ys) (xs ≡ ys)
lists_Decides = pointwise_decides unsigned_Decides

-- a value is told by its numbers
value_from : List ℕ → Value
value_from [] = value.Nothing
value_from (zero ∷ xs) = value.Nothing
value_from (suc zero ∷ xs) = value.Link xs
value_from (suc (suc zero) ∷ xs) = value.Color (get_or xs 0 0)
value_from (suc (suc (suc n)) ∷ xs) = value.LineKind (get_or xs 0 0)

from_numbers : (v : Value) → value_from (numbers_of v) ≡ v
unfolding value_from
from_numbers value.Nothing = refl
from_numbers (value.Link target) = refl
from_numbers (value.Color rgb) = refl
from_numbers (value.LineKind kind) = refl

pub value_Decides : (a b : Value) → Decides (value_eq a b) (a ≡ b)
value_Decides a b =
    Decides-like (value_eq a b) (λ e. sym (from_numbers a) ∙ ap value_from e ∙ from_numbers b) (λ e. ap numbers_of e)
    (lists_Decides (numbers_of a) (numbers_of b))

pub values_Decides : (a b : List (Option Value)) → Decides (values_eq a b) (a ≡ b)
values_Decides = pointwise_decides (options_Decides value_eq value_Decides)

pub same_fields : (a b : Format) → a.values ≡ b.values → a.comments ≡ b.comments → a ≡ b
same_fields a b values comments = λ i. record { values = values i; comments = comments i }

pub formatting_eq_Decides : (a b : Format) → Decides (formatting_eq a b) (a ≡ b)
formatting_eq_Decides a b =
    let all = Decides-and _ _ (values_Decides a.values b.values) (lists_Decides a.comments b.comments) in (
      λ e. let f = all.0 e in same_fields a b f.0 f.1,
      λ e. all.1 (ap (λ f. f.values) e, ap (λ f. f.comments) e),
    )

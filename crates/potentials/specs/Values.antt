-- A linear form in the lengths of the texts that a span lends, less values by their weights; and what is known of
-- these.
use Rattle.std.specs.Prelude.{◌≡◌, ℕ, ℤ, pos, ◌+◌, ◌≤◌, ◌+ℤ◌, ◌-ℤ◌, ◌*ℤ◌, ◌≤ℤ◌, List, [], ◌∷◌, Option, Some, None}
use Rattle.span_context.specs.Context.{text_limit, link_limit}
use Rattle.potentials.specs.declared.Form.{Form}
use Rattle.potentials.specs.declared.Weighed.{Weighed}

-- how long the text and the link's text are, at least as long as is known, and within their limits
pub record AreLengths (least_text least_link text link : ℕ) : Type 0 where
  pub text_long : least_text ≤ text
  pub text_short : text ≤ text_limit
  pub link_long : least_link ≤ link
  pub link_short : link ≤ link_limit

-- with a tail t, the value and t are at most the length
abbrev pub HasTail : Option ℕ → ℕ → ℕ → Type 0
HasTail None long value = Unit {0}
HasTail (Some t) long value = value + t ≤ long

-- the value is one of those that are known to be possible
pub record IsOf (weighed : Weighed) (text link value : ℕ) : Type 0 where
  pub low : weighed.low ≤ value
  pub high : value ≤ weighed.high
  pub tail : HasTail weighed.tail text value
  pub link_tail : HasTail weighed.link_tail link value

-- each value is
unfoldable pub AreOf : List Weighed → ℕ → ℕ → List ℕ → Type 0
AreOf [] text link [] = Unit {0}
AreOf [] text link (value ∷ values) = ⊥
AreOf (weighed ∷ rest) text link [] = ⊥
AreOf (weighed ∷ rest) text link (value ∷ values) = IsOf weighed text link value × AreOf rest text link values

-- the form, less values by their weights
abbrev pub at_lengths : Form → ℕ → ℕ → ℤ
at_lengths form text link =
    form.constant +ℤ (form.per_byte *ℤ pos text +ℤ form.per_link_byte *ℤ pos link)

unfoldable pub all_weighed : List Weighed → List ℕ → ℤ
all_weighed [] values = pos 0
all_weighed (weighed ∷ rest) [] = pos 0
all_weighed (weighed ∷ rest) (value ∷ values) = weighed.weight *ℤ pos value +ℤ all_weighed rest values

abbrev pub value_at : Form → List Weighed → ℕ → ℕ → List ℕ → ℤ
value_at form weighed text link values = at_lengths form text link -ℤ all_weighed weighed values

-- ---- values of which any is possible, whatever the lengths are
pub record IsFree (weighed : Weighed) : Type 0 where
  pub possible : weighed.low ≤ weighed.high
  pub no_tail : weighed.tail ≡ None
  pub no_link_tail : weighed.link_tail ≡ None

unfoldable pub AreFree : List Weighed → Type 0
AreFree [] = Unit {0}
AreFree (weighed ∷ rest) = IsFree weighed × AreFree rest

-- there are lengths and values at which the form has a number
pub record IsReached (form : Form) (weighed : List Weighed) (least_text least_link : ℕ) (number : ℤ) : Type 0 where
  pub text : ℕ
  pub link : ℕ
  pub values : List ℕ
  pub lengths : AreLengths least_text least_link text link
  pub of : AreOf weighed text link values
  pub is : value_at form weighed text link values ≡ number

-- at all lengths and values the form is at least a number
abbrev pub IsAtLeast : Form → List Weighed → ℕ → ℕ → ℤ → Type 0
IsAtLeast form weighed least_text least_link number =
    (text link : ℕ) (values : List ℕ) → AreLengths least_text least_link text link → AreOf weighed text link values
    → number ≤ℤ value_at form weighed text link values

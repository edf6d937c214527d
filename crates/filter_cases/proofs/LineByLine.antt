-- An input, line by line.
use Rattle.std.proofs.Common.{◌≡◌, ◌≢◌, ℕ, ◌+◌, ◌<◌, arith, true, false, List, [], ◌∷◌, length, refl, sym, subst, ◌∙◌}
use Rattle.std.specs.Prelude.{◌==◌}
use Rattle.filter_cases.specs.Cases.{Case, Adds, AreCases, Begins, IsNoCase, StopsAt, first_line, none, more}

abbrev Parts : Type 0
Parts = List ℕ × List ℕ

pub begins_none : (input : List ℕ) (cases : List Case) → cases ≡ [] → Begins input cases 1 input
begins_none input cases e = subst (λ (l : List Case). Begins input l 1 input) (sym e) none

pub some_left : (text : List ℕ) → (length text == 0) ≡ false → text ≢ []
some_left text e is = absurd (let f : (length text == 0) ≡ true = subst (λ (l : List ℕ). (length l == 0) ≡ true) (sym is) refl in let g = sym e ∙ f in cc)

pub begins_more : (input text line behind : List ℕ) (before after : List Case) (number : ℕ) → (line, behind) ≡ first_line text → text ≢ []
    → Adds line number before after → Begins input before number text → Begins input after (number + 1) behind
begins_more input text line behind before after number e some adds begins =
    subst (λ (p : Parts). Begins input after (number + 1) p.1) (sym e)
    (more before after number text begins some (subst (λ (p : Parts). Adds p.0 number before after) e adds))

pub stops_here : (input text line behind : List ℕ) (cases : List Case) (number : ℕ) → (line, behind) ≡ first_line text → text ≢ []
    → IsNoCase line → Begins input cases number text → StopsAt input number
stops_here input text line behind cases number e some no_case begins = record {
  cases = cases;
  text = text;
  before = begins;
  left = some;
  here = subst (λ (p : Parts). IsNoCase p.0) e no_case;
}

pub all_read : (input text : List ℕ) (cases : List Case) (number : ℕ) → text ≡ [] → Begins input cases number text → AreCases input cases
all_read input text cases number e begins = (number, subst (λ (l : List ℕ). Begins input cases number l) e begins)

pub positive : (text : List ℕ) → text ≢ [] → 0 < length text
positive [] some = absurd (some refl)
positive (b ∷ text) some = omega arith

-- The first line of a change, and what stands behind it.
use Rattle.std.proofs.Common.{◌≡◌, ℕ, zero, suc, ◌<◌, ◌≤◌, List, [], ◌∷◌, length, get_or, Option, Some, None, refl, subst, arith, lit≤}
use Rattle.std.specs.Prelude.{◌≢◌}
use Rattle.std.specs.Borrow.{Bor}
use Rattle.std.specs.Fmt.{decimal}
use Rattle.std.proofs.lemmas.Bool.{eqb-false}
use Rattle.std.proofs.lemmas.Str.Pattern.{IsSplitOnceResult, split_after}
use Rattle.change_ops.specs.Changes.{Change, IsChange}
use Rattle.change_ops.specs.Spelling.{◌␣◌, lines_text, form_text, header_text, change_text}
use Rattle.change_ops.specs.Refusals.{IsUnended, Line}
use Rattle.change_ops.proofs.Grammar.{Lacks}
use Rattle.change_ops.proofs.Phrases.{lacks_joined, decimal_lacks}
use Rattle.change_ops.proofs.LineForms.{form_lacks}
use Rattle.change_join.proofs.Both.{few_lines}

-- ---- a line that ends nowhere before its LF
unended : (line : List ℕ) → Lacks 10 line → IsUnended line
unended [] lacks = tt
unended (b ∷ line) lacks = (λ same. eqb-false b 10 (lacks 0 (omega arith)) same, unended line (λ k lt. lacks (suc k) (omega arith)))

other_byte : (line : List ℕ) → IsUnended line → (i : ℕ) → i < length line → get_or line i 0 ≢ 10
other_byte [] one i lt = absurd (omega arith)
other_byte (b ∷ line) one zero lt = one.0
other_byte (b ∷ line) one (suc i) lt = other_byte line one.1 i (omega arith)

abbrev Parts : Type 0
Parts = Bor (List ℕ) × Bor (List ℕ)

pub behind_line : (text line rest : List ℕ) (found : Option Parts) (before behind : Bor (List ℕ)) → IsSplitOnceResult 10 text found → found ≡ Some (before, behind) → Line text line rest → behind.now ≡ rest
behind_line text line rest found before behind split is first =
    let P : Option Parts → Type 0 = λ o. IsSplitOnceResult 10 text o in
    (split_after 10 text line rest (Some (before, behind)) (subst P is split) (omega arith) first.whole (other_byte line first.one)).1

pub some_line : (text line rest : List ℕ) (found : Option Parts) → IsSplitOnceResult 10 text found → found ≡ None → Line text line rest → ⊥
some_line text line rest found split is first =
    let P : Option Parts → Type 0 = λ o. IsSplitOnceResult 10 text o in
    split_after 10 text line rest None (subst P is split) (omega arith) first.whole (other_byte line first.one)

-- ---- that of a change
header_lacks : (change : Change) → IsChange change → Lacks 10 (header_text change)
header_lacks change h =
    let count = length change.lines in
    let named = h.named in
    let known = h.known in
    let some = h.some in
    let few : count ≤ 256 = few_lines change h in
    lacks_joined 10 (form_text change.form) (decimal change.node ␣ decimal count) 32 (form_lacks 10 change.form (omega arith)) refl
    (lacks_joined 10 (decimal change.node) (decimal count) 32 (decimal_lacks 10 change.node (lit≤ tt) (omega arith) (omega arith)) refl (decimal_lacks 10 count (lit≤ tt) (omega arith) (omega arith)))

pub first_line : (change : Change) → IsChange change → Line (change_text change) (header_text change) (lines_text change.lines)
unfolding change_text
first_line change h = record { whole = refl; one = unended (header_text change) (header_lacks change h) }

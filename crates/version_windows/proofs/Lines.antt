-- The operations of lines.
use Rattle.std.proofs.Common.{◌≡◌, ℕ, zero, suc, List, [], ◌∷◌, Some, refl, sym, subst, ⊎_elim}
use Rattle.std.specs.List.{slice_get, Contains}
use Rattle.std.proofs.lemmas.Option.{same_Some, none-some}
use Rattle.std.proofs.lemmas.List.Elements.{Contains-append_left, Contains-append_right, Contains-append_cases}
use Rattle.change_ops.specs.Lines.{ops_of, ops_of_lines}
use Rattle.change_ops.specs.declared.line.Line.{Line}
use Rattle.change_ops.specs.declared.operation.Op.{Op}
use Rattle.span_flatten.proofs.Showing.{at_contains}

-- those of one line are among those of all
pub line_within : (lines : List Line) (k : ℕ) (line : Line) → slice_get lines k ≡ Some line → (o : Op) → Contains (ops_of line) o → Contains (ops_of_lines lines) o
unfolding ops_of_lines
line_within [] k line g o held = absurd (none-some line g)
line_within (x ∷ lines) zero line g o held =
    Contains-append_left (ops_of x) (ops_of_lines lines) o (subst (λ l. Contains (ops_of l) o) (sym (same_Some x line g)) held)
line_within (x ∷ lines) (suc k) line g o held = Contains-append_right (ops_of x) (ops_of_lines lines) o (line_within lines k line g o held)

-- each of all is one of a line
pub line_of : (lines : List Line) (o : Op) → Contains (ops_of_lines lines) o → (k : ℕ) × ((line : Line) × (slice_get lines k ≡ Some line) × Contains (ops_of line) o)
unfolding ops_of_lines
line_of [] o held = let at = at_contains [] o held in absurd (none-some o at.1)
line_of (x ∷ lines) o held =
    ⊎_elim
    (λ (u : Contains (ops_of x) o). (zero, (x, refl, u)))
    (λ (u : Contains (ops_of_lines lines) o). let r = line_of lines o u in (suc r.0, (r.1.0, r.1.1, r.1.2)))
    (Contains-append_cases (ops_of x) (ops_of_lines lines) o held)

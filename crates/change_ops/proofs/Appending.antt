-- Lines are appended one after the other.
use Rattle.std.proofs.Common.{◌≡◌, ℕ, ◌+◌, ◌<◌, ◌≤◌, List, [], ◌∷◌, ◌++◌, length, get_or, drop, refl, sym, ap, ◌∙◌, append_assoc, add-one, drop-cons}
use Rattle.std.proofs.lemmas.List.{append-nil, drop_all}
use Rattle.change_ops.specs.Spelling.{codes_text, hexadecimal, line_text, lines_text}
use Rattle.change_ops.specs.declared.line.Line.{Line}

-- what is written, with the lines that are left
pub line_more : (lines : List Line) (line : Line) (i : ℕ) (old new total : List ℕ) → i < length lines → line ≡ get_or lines i line → new ≡ (old ++ line_text line) ++ 10 ∷ []
    → old ++ lines_text (drop i lines) ≡ total → new ++ lines_text (drop (i + 1) lines) ≡ total
unfolding lines_text
line_more lines line i old new total lt is appended so_far =
    let left : drop i lines ≡ line ∷ drop (i + 1) lines = rw (add-one, drop-cons lines i line lt, ← is) refl in
    let one : lines_text (drop i lines) ≡ line_text line ++ 10 ∷ lines_text (drop (i + 1) lines) = rw left refl in
    let group : ((old ++ line_text line) ++ 10 ∷ []) ++ lines_text (drop (i + 1) lines) ≡ old ++ (line_text line ++ 10 ∷ lines_text (drop (i + 1) lines)) = simp append_assoc in
    rw appended (group ∙ ap (λ (x : List ℕ). old ++ x) (sym one) ∙ so_far)

pub lines_done : (lines : List Line) (i : ℕ) (new total : List ℕ) → length lines ≤ i → new ++ lines_text (drop i lines) ≡ total → new ≡ total
unfolding lines_text
lines_done lines i new total le so_far = let none : drop i lines ≡ [] = drop_all i lines le in sym (append-nil new) ∙ rw none at so_far

-- the same of the codes of a run
pub code_more : (cs : List ℕ) (c i : ℕ) (old new total : List ℕ) → i < length cs → c ≡ get_or cs i c → new ≡ old ++ 32 ∷ hexadecimal c
    → old ++ codes_text (drop i cs) ≡ total → new ++ codes_text (drop (i + 1) cs) ≡ total
unfolding codes_text
code_more cs c i old new total lt is appended so_far =
    let left : drop i cs ≡ c ∷ drop (i + 1) cs = rw (add-one, drop-cons cs i c lt, ← is) refl in
    let one : codes_text (drop i cs) ≡ (32 ∷ hexadecimal c) ++ codes_text (drop (i + 1) cs) = rw left refl in
    let group : (old ++ 32 ∷ hexadecimal c) ++ codes_text (drop (i + 1) cs) ≡ old ++ ((32 ∷ hexadecimal c) ++ codes_text (drop (i + 1) cs)) = append_assoc old (32 ∷ hexadecimal c) _ in
    rw appended (group ∙ ap (λ (x : List ℕ). old ++ x) (sym one) ∙ so_far)

pub codes_done : (cs : List ℕ) (i : ℕ) (new total : List ℕ) → length cs ≤ i → new ++ codes_text (drop i cs) ≡ total → new ≡ total
unfolding codes_text
codes_done cs i new total le so_far = let none : drop i cs ≡ [] = drop_all i cs le in sym (append-nil new) ∙ rw none at so_far

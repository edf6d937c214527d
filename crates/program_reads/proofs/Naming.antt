-- The names of marked fields, from one on.
use Rattle.std.proofs.Common.{◌≡◌, ℕ, zero, suc, ◌+◌, ◌<◌, ◌≤◌, Bool, true, false, List, [], ◌∷◌, ◌++◌, codes, drop, length, get_or, refl, ap, ◌∙◌, subst, sym, append_assoc, arith}
use Rattle.std.proofs.Math.ListN.{drop_of_length-le}
use Rattle.std.proofs.Math.Seq.{drop-cons}
use Rattle.std.specs.List.{flat_map}
use Rattle.span_context.specs.declared.context_field.ContextField.{ContextField}
use Rattle.span_context.specs.ContextField.{name_of}
use Rattle.program_reads.specs.Positions.{marked}
use Rattle.program_reads.specs.Lines.{comma, names_text}

-- what is still to be printed of the names, where there was one before them or not
abbrev pub names_left : Bool → List ContextField → List ℕ
names_left true fields = flat_map (λ field. codes ", " ++ name_of field) fields
names_left false fields = names_text fields

one_left : (some : Bool) (field : ContextField) (fields : List ContextField) → names_left some (field ∷ fields) ≡ (comma some ++ name_of field) ++ names_left true fields
one_left true field fields = refl
one_left false field fields = refl

within : (marks : List Bool) (i : ℕ) → get_or marks i false ≡ true → i < length marks
within [] i e = absurd (cc)
within (mark ∷ marks) zero e = omega arith
within (mark ∷ marks) (suc i) e = let less = within marks i e in omega arith

marked_one : (marks : List Bool) (fields : List ContextField) (i : ℕ) (d : ContextField) → i < length fields → get_or marks i false ≡ true → marked (drop i marks) (drop i fields) ≡ get_or fields i d ∷ marked (drop (suc i) marks) (drop (suc i) fields)
unfolding marked
marked_one marks fields i d less is = rw (drop-cons marks i false (within marks i is), drop-cons fields i d less, is) refl

marked_nil : (marks : List Bool) → marked marks [] ≡ []
unfolding marked
marked_nil [] = refl
marked_nil (mark ∷ marks) = refl

marked_none : (marks : List Bool) (fields : List ContextField) (i : ℕ) → get_or marks i false ≡ false → marked (drop i marks) (drop i fields) ≡ marked (drop (suc i) marks) (drop (suc i) fields)
unfolding marked
marked_none [] fields zero is = refl
marked_none [] fields (suc i) is = refl
marked_none (mark ∷ marks) [] zero is = sym (marked_nil marks)
marked_none (mark ∷ marks) [] (suc i) is = marked_nil (drop i marks) ∙ sym (marked_nil (drop (suc i) marks))
marked_none (true ∷ marks) (field ∷ fields) zero is = absurd (cc)
marked_none (false ∷ marks) (field ∷ fields) zero is = refl
marked_none (mark ∷ marks) (field ∷ fields) (suc i) is = marked_none marks fields i is

pub named_more : (before : List ℕ) (some : Bool) (marks : List Bool) (fields : List ContextField) (i : ℕ) (d : ContextField) → i < length fields → get_or marks i false ≡ true
    → ((before ++ comma some) ++ name_of (get_or fields i d)) ++ names_left true (marked (drop (i + 1) marks) (drop (i + 1) fields)) ≡ before ++ names_left some (marked (drop i marks) (drop i fields))
named_more before some marks fields i d less is =
    let more : suc i ≡ i + 1 = omega arith in
    let field = get_or fields i d in
    let rest = names_left true (marked (drop (i + 1) marks) (drop (i + 1) fields)) in
    let one : marked (drop i marks) (drop i fields) ≡ field ∷ marked (drop (i + 1) marks) (drop (i + 1) fields) =
    subst (λ (n : ℕ). marked (drop i marks) (drop i fields) ≡ field ∷ marked (drop n marks) (drop n fields)) more (marked_one marks fields i d less is) in
    ap (λ (text : List ℕ). text ++ rest) (append_assoc before (comma some) (name_of field))
    ∙ append_assoc before (comma some ++ name_of field) rest
    ∙ ap (λ (text : List ℕ). before ++ text) (sym (one_left some field (marked (drop (i + 1) marks) (drop (i + 1) fields))) ∙ ap (names_left some) (sym one))

pub named_none : (some : Bool) (marks : List Bool) (fields : List ContextField) (i : ℕ) → get_or marks i false ≡ false
    → names_left some (marked (drop (i + 1) marks) (drop (i + 1) fields)) ≡ names_left some (marked (drop i marks) (drop i fields))
named_none some marks fields i is =
    let more : suc i ≡ i + 1 = omega arith in
    ap (names_left some) (sym (subst (λ (n : ℕ). marked (drop i marks) (drop i fields) ≡ marked (drop n marks) (drop n fields)) more (marked_none marks fields i is)))

pub named_all : (some : Bool) (marks : List Bool) (fields : List ContextField) (i : ℕ) → length fields ≤ i → names_left some (marked (drop i marks) (drop i fields)) ≡ names_left some []
named_all some marks fields i all = ap (names_left some) (ap (marked (drop i marks)) (drop_of_length-le fields all) ∙ marked_nil (drop i marks))

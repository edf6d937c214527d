-- The fields that give a span's position, and the bytes of the others.
use Rattle.std.proofs.Common.{◌≡◌, ◌⊎◌, ◌↔◌, ◌||◌, not, IsTrue, ℕ, zero, suc, ◌+◌, ◌<◌, ◌≤◌, Bool, true, false, Option, Some, None, List, [], ◌∷◌, drop, get_or, refl, sym, ap, ◌∙◌, inl, inr, arith}
use Rattle.std.specs.List.{slice_get, slice_index_or}
use Rattle.std.proofs.lemmas.List.{get_or-drop}
use Rattle.span_context.specs.declared.context_field.ContextField.{ContextField}
use Rattle.span_context.specs.declared.context_field.ContextField.TheVariants.{Text, End, Length, Characters, Flags, Color, LinkLength, Comments, Index, Count, Version, Link, LinkEnd}
use Rattle.span_context.specs.ContextField.{offset_of, bytes_of, every_field}
use Rattle.program_reads.specs.declared.reads.Reads.{Reads}
use Rattle.program_reads.specs.Positions.{marked, position_fields, positions_in, IsPositionless}
use Rattle.program_reads.specs.Reads.{HasByte}

-- a field's index among all
index_of : Option ContextField → ℕ
index_of None = 13
index_of (Some Text) = 0
index_of (Some End) = 1
index_of (Some Length) = 2
index_of (Some Characters) = 3
index_of (Some Flags) = 4
index_of (Some Color) = 5
index_of (Some LinkLength) = 6
index_of (Some Comments) = 7
index_of (Some Index) = 8
index_of (Some Count) = 9
index_of (Some Version) = 10
index_of (Some Link) = 11
index_of (Some LinkEnd) = 12

index_is : (i : ℕ) (field : ContextField) → slice_get every_field i ≡ Some field → i ≡ index_of (Some field)
unfolding index_of
index_is zero field g = ap index_of g
index_is (suc zero) field g = ap index_of g
index_is (suc (suc zero)) field g = ap index_of g
index_is (suc (suc (suc zero))) field g = ap index_of g
index_is (suc (suc (suc (suc zero)))) field g = ap index_of g
index_is (suc (suc (suc (suc (suc zero))))) field g = ap index_of g
index_is (suc (suc (suc (suc (suc (suc zero)))))) field g = ap index_of g
index_is (suc (suc (suc (suc (suc (suc (suc zero))))))) field g = ap index_of g
index_is (suc (suc (suc (suc (suc (suc (suc (suc zero)))))))) field g = ap index_of g
index_is (suc (suc (suc (suc (suc (suc (suc (suc (suc zero))))))))) field g = ap index_of g
index_is (suc (suc (suc (suc (suc (suc (suc (suc (suc (suc zero)))))))))) field g = ap index_of g
index_is (suc (suc (suc (suc (suc (suc (suc (suc (suc (suc (suc zero))))))))))) field g = ap index_of g
index_is (suc (suc (suc (suc (suc (suc (suc (suc (suc (suc (suc (suc zero)))))))))))) field g = ap index_of g
index_is (suc (suc (suc (suc (suc (suc (suc (suc (suc (suc (suc (suc (suc i))))))))))))) field g = absurd (cc)

-- where none of the three is marked, none of their marks holds
pub unmarked : (marks : List Bool) → marked marks position_fields ≡ [] → (get_or marks 0 false ≡ false) × (get_or marks 1 false ≡ false) × (get_or marks 2 false ≡ false)
unfolding marked
unmarked [] e = (refl, refl, refl)
unmarked (true ∷ marks) e = absurd (cc)
unmarked (false ∷ []) e = (refl, refl, refl)
unmarked (false ∷ true ∷ marks) e = absurd (cc)
unmarked (false ∷ false ∷ []) e = (refl, refl, refl)
unmarked (false ∷ false ∷ true ∷ marks) e = absurd (cc)
unmarked (false ∷ false ∷ false ∷ marks) e = (refl, refl, refl)

-- the three marks tell which of the three are marked
pub three_marks : (marks : List Bool) → marked marks position_fields ≡ marked (get_or marks 0 false ∷ get_or marks 1 false ∷ get_or marks 2 false ∷ []) position_fields
unfolding marked
three_marks [] = refl
three_marks (true ∷ []) = refl
three_marks (true ∷ true ∷ []) = refl
three_marks (true ∷ true ∷ true ∷ marks) = more marks
  where
    more : (marks : List Bool) → marked (true ∷ true ∷ true ∷ marks) position_fields ≡ marked (true ∷ true ∷ true ∷ []) position_fields
    more [] = refl
    more (m ∷ marks) = refl
three_marks (true ∷ true ∷ false ∷ marks) = more marks
  where
    more : (marks : List Bool) → marked (true ∷ true ∷ false ∷ marks) position_fields ≡ marked (true ∷ true ∷ false ∷ []) position_fields
    more [] = refl
    more (m ∷ marks) = refl
three_marks (true ∷ false ∷ []) = refl
three_marks (true ∷ false ∷ true ∷ marks) = more marks
  where
    more : (marks : List Bool) → marked (true ∷ false ∷ true ∷ marks) position_fields ≡ marked (true ∷ false ∷ true ∷ []) position_fields
    more [] = refl
    more (m ∷ marks) = refl
three_marks (true ∷ false ∷ false ∷ marks) = more marks
  where
    more : (marks : List Bool) → marked (true ∷ false ∷ false ∷ marks) position_fields ≡ marked (true ∷ false ∷ false ∷ []) position_fields
    more [] = refl
    more (m ∷ marks) = refl
three_marks (false ∷ []) = refl
three_marks (false ∷ true ∷ []) = refl
three_marks (false ∷ true ∷ true ∷ marks) = more marks
  where
    more : (marks : List Bool) → marked (false ∷ true ∷ true ∷ marks) position_fields ≡ marked (false ∷ true ∷ true ∷ []) position_fields
    more [] = refl
    more (m ∷ marks) = refl
three_marks (false ∷ true ∷ false ∷ marks) = more marks
  where
    more : (marks : List Bool) → marked (false ∷ true ∷ false ∷ marks) position_fields ≡ marked (false ∷ true ∷ false ∷ []) position_fields
    more [] = refl
    more (m ∷ marks) = refl
three_marks (false ∷ false ∷ []) = refl
three_marks (false ∷ false ∷ true ∷ marks) = more marks
  where
    more : (marks : List Bool) → marked (false ∷ false ∷ true ∷ marks) position_fields ≡ marked (false ∷ false ∷ true ∷ []) position_fields
    more [] = refl
    more (m ∷ marks) = refl
three_marks (false ∷ false ∷ false ∷ marks) = more marks
  where
    more : (marks : List Bool) → marked (false ∷ false ∷ false ∷ marks) position_fields ≡ marked (false ∷ false ∷ false ∷ []) position_fields
    more [] = refl
    more (m ∷ marks) = refl

-- a byte of a field that is marked is none of theirs, where they aren't marked
beside : (fields : List Bool) (k i : ℕ) (field : ContextField) → slice_get every_field i ≡ Some field → slice_index_or fields i false ≡ true
    → slice_index_or fields 8 false ≡ false → slice_index_or fields 9 false ≡ false → slice_index_or fields 10 false ≡ false
    → offset_of field ≤ k → k < offset_of field + bytes_of field → (k < 40) ⊎ ((56 ≤ k) × (k < 72))
unfolding index_of
beside fields k i Text at on no8 no9 no10 low high = inl (omega arith)
beside fields k i End at on no8 no9 no10 low high = inl (omega arith)
beside fields k i Length at on no8 no9 no10 low high = inl (omega arith)
beside fields k i Characters at on no8 no9 no10 low high = inl (omega arith)
beside fields k i Flags at on no8 no9 no10 low high = inl (omega arith)
beside fields k i Color at on no8 no9 no10 low high = inl (omega arith)
beside fields k i LinkLength at on no8 no9 no10 low high = inl (omega arith)
beside fields k i Comments at on no8 no9 no10 low high = inl (omega arith)
beside fields k i Index at on no8 no9 no10 low high =
    let here : i ≡ 8 = index_is i Index at in
    let marked_there : slice_index_or fields 8 false ≡ true = ap (λ n. slice_index_or fields n false) (sym here) ∙ on in absurd (cc)
beside fields k i Count at on no8 no9 no10 low high =
    let here : i ≡ 9 = index_is i Count at in
    let marked_there : slice_index_or fields 9 false ≡ true = ap (λ n. slice_index_or fields n false) (sym here) ∙ on in absurd (cc)
beside fields k i Version at on no8 no9 no10 low high =
    let here : i ≡ 10 = index_is i Version at in
    let marked_there : slice_index_or fields 10 false ≡ true = ap (λ n. slice_index_or fields n false) (sym here) ∙ on in absurd (cc)
beside fields k i Link at on no8 no9 no10 low high = inr (omega arith, omega arith)
beside fields k i LinkEnd at on no8 no9 no10 low high = inr (omega arith, omega arith)

pub beside_position : (reads : Reads) (k : ℕ) → IsPositionless reads → HasByte reads.fields k → (k < 40) ⊎ ((56 ≤ k) × (k < 72))
beside_position reads k positionless has =
    let off = unmarked (drop 8 reads.fields) positionless in
    beside reads.fields k has.0 has.1.0 has.1.1 has.1.2
    (sym (get_or-drop 8 reads.fields 0 false) ∙ off.0) (sym (get_or-drop 8 reads.fields 1 false) ∙ off.1)
    (sym (get_or-drop 8 reads.fields 2 false) ∙ off.2) has.1.3 has.1.4

test_three : (marks : List Bool) → IsTrue (not (get_or marks 0 false || get_or marks 1 false || get_or marks 2 false)) ↔ (marked marks position_fields ≡ [])
unfolding marked
test_three [] = (λ t. refl, λ e. refl)
test_three (true ∷ marks) = (λ t. absurd (cc), λ e. absurd (cc))
test_three (false ∷ []) = (λ t. refl, λ e. refl)
test_three (false ∷ true ∷ marks) = (λ t. absurd (cc), λ e. absurd (cc))
test_three (false ∷ false ∷ []) = (λ t. refl, λ e. refl)
test_three (false ∷ false ∷ true ∷ marks) = (λ t. absurd (cc), λ e. absurd (cc))
test_three (false ∷ false ∷ false ∷ []) = (λ t. refl, λ e. refl)
test_three (false ∷ false ∷ false ∷ m ∷ marks) = (λ t. refl, λ e. refl)

-- none of the three is listed where none of the three marks holds
pub positionless_test : (reads : Reads) → IsTrue (not (get_or reads.fields 8 false || get_or reads.fields 9 false || get_or reads.fields 10 false)) ↔ IsPositionless reads
positionless_test reads = simp (get_or-drop {A = Bool} 8 reads.fields) at (test_three (drop 8 reads.fields))

-- the marks of the three tell which of them are marked
pub three_of : (fields : List Bool) → marked (drop 8 fields) position_fields ≡ marked (get_or fields 8 false ∷ get_or fields 9 false ∷ get_or fields 10 false ∷ []) position_fields
three_of fields = simp (get_or-drop {A = Bool} 8 fields) at (three_marks (drop 8 fields))

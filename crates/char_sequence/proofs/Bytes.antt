-- The bytes of the visible text, as a chunk takes the place of another.
use Rattle.std.proofs.Common.{◌≡◌, ℕ, zero, suc, ◌+◌, ◌-◌, ◌≤◌, List, [], ◌∷◌, Some, length, set, ap, arith}
use Rattle.std.specs.List.{slice_get}
use Rattle.std.proofs.lemmas.Option.{same_Some, none-some}
use Rattle.char_sequence.specs.declared.sequence.Element.{Element}
use Rattle.char_sequence.specs.Chunks.{joined}
use Rattle.char_sequence.specs.Visible.{visible_text}
use Rattle.char_sequence.proofs.VisibleText.{bytes_append}

bytes_set : (cs : List (List Element)) (p : ℕ) (c d : List Element) → slice_get cs p ≡ Some c → length (visible_text (joined (set cs p d))) + length (visible_text c) ≡ length (visible_text (joined cs)) + length (visible_text d)
bytes_set [] p c d g = absurd (none-some c g)
bytes_set (x ∷ xs) zero c d g =
    let same = ap (λ z. length (visible_text z)) (same_Some x c g) in
    let old = bytes_append x (joined xs) in
    let new = bytes_append d (joined xs) in
    omega (arith, same, old, new)
bytes_set (x ∷ xs) (suc p) c d g =
    let rest = bytes_set xs p c d g in
    let old = bytes_append x (joined xs) in
    let new = bytes_append x (joined (set xs p d)) in
    omega (arith, rest, old, new)

pub bytes_within : (cs : List (List Element)) (p : ℕ) (c : List Element) → slice_get cs p ≡ Some c → length (visible_text c) ≤ length (visible_text (joined cs))
bytes_within [] p c g = absurd (none-some c g)
bytes_within (x ∷ xs) zero c g =
    let same = ap (λ z. length (visible_text z)) (same_Some x c g) in
    let whole = bytes_append x (joined xs) in
    omega (arith, same, whole)
bytes_within (x ∷ xs) (suc p) c g =
    let rest = bytes_within xs p c g in
    let whole = bytes_append x (joined xs) in
    omega (arith, rest, whole)

-- those of all chunks, without the old chunk's, and with the new one's
pub recounted : (cs : List (List Element)) (p : ℕ) (c d : List Element) (total : ℕ) → slice_get cs p ≡ Some c → total ≡ length (visible_text (joined cs)) → (total - length (visible_text c)) + length (visible_text d) ≡ length (visible_text (joined (set cs p d)))
recounted cs p c d total g is =
    let moved = bytes_set cs p c d g in
    let within = bytes_within cs p c g in
    omega (arith, is, moved, within)

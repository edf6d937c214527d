-- A name ends with a 0.
use Rattle.std.proofs.Common.{arith, sym, ap, ◌∙◌, ◌≡◌, ℕ, ◌+◌, ◌-◌, ◌≤◌, ◌==◌, true, List, Some, length, take, drop, get_or, position, slice_index}
use Rattle.std.proofs.lemmas.List.{get_or-drop, length-take-le, take_all}
use Rattle.std.proofs.lemmas.List.Quantifiers.{position-Some}
use Rattle.std.proofs.lemmas.Grind.{common_steps}

is_zero : (byte : ℕ) → (byte == 0) ≡ true → byte ≡ 0
is_zero byte is = grind (arith, common_steps)

rest-length : (strings : List ℕ) (offset : ℕ) → length (drop offset strings) ≤ length strings - offset
rest-length strings offset = grind (arith, common_steps)

ends : (strings rest : List ℕ) (offset end : ℕ) → rest ≡ drop offset strings
    → position (λ byte. byte == 0) rest ≡ Some end → slice_index strings (offset + length (take end rest)) ≡ 0
ends strings rest offset end is found =
    let at = position-Some (λ byte. byte == 0) rest end 0 found in
    let within : end ≤ length rest = omega (arith, at.0) in
    let same : offset + length (take end rest) ≡ offset + end = ap (λ n. offset + n) (length-take-le end rest within) in
    ap (λ n. get_or strings n 0) same
    ∙ sym (get_or-drop offset strings end 0)
    ∙ ap (λ (l : List ℕ). get_or l end 0) (sym is)
    ∙ is_zero (get_or rest end 0) at.1

-- where the first 0 is behind an offset
pub name-ends : (strings : List ℕ) (offset end : ℕ)
    → Some end ≡ position (λ byte. byte == 0) (take (length strings - offset) (drop offset strings))
    → slice_index strings (offset + length (take end (take (length strings - offset) (drop offset strings)))) ≡ 0
name-ends strings offset end found =
    ends strings (take (length strings - offset) (drop offset strings)) offset end
    (take_all (length strings - offset) (drop offset strings) (rest-length strings offset)) (sym found)

-- Where a text is split.
use Rattle.std.proofs.Common.{◌≡◌, ℕ, ◌+◌, ◌<◌, true, false, ltb, eqb, List, length, get_or, take, drop, Some, None, refl, arith}
use Rattle.std.specs.List.{position_or_len}
use Rattle.std.proofs.lemmas.Bool.{lt-ltb, le-ltb}
use Rattle.std.proofs.lemmas.List.Sums.{position_or_len_is}
use Rattle.change_ops.specs.Words.{split}

pub split_here : (mark : ℕ) (bytes : List ℕ) (i : ℕ) → i < length bytes → ((k : ℕ) → k < i → eqb (get_or bytes k 0) mark ≡ false) → eqb (get_or bytes i 0) mark ≡ true
    → split mark bytes ≡ Some (take i bytes, drop (i + 1) bytes)
unfolding split
split_here mark bytes i lt before here =
    let at : position_or_len (λ b. eqb b mark) bytes ≡ i = position_or_len_is (λ b. eqb b mark) bytes i 0 (omega arith) before (λ _. here) in
    let yes : ltb (position_or_len (λ b. eqb b mark) bytes) (length bytes) ≡ true = lt-ltb _ _ (omega arith) in
    rw (yes, at) refl

pub split_none : (mark : ℕ) (bytes : List ℕ) → ((k : ℕ) → k < length bytes → eqb (get_or bytes k 0) mark ≡ false) → split mark bytes ≡ None
unfolding split
split_none mark bytes before =
    let at : position_or_len (λ b. eqb b mark) bytes ≡ length bytes = position_or_len_is (λ b. eqb b mark) bytes (length bytes) 0 (omega arith) before (λ lt. absurd (omega arith)) in
    let no : ltb (position_or_len (λ b. eqb b mark) bytes) (length bytes) ≡ false = le-ltb _ _ (omega arith) in
    rw no refl

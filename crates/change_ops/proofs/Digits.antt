-- Reading a number digit by digit.
use Rattle.std.proofs.Common.{◌≡◌, ℕ, ◌+◌, ◌*◌, ◌<◌, ◌≤◌, Option, List, length, get_or, drop, add-one, Some, None, refl, sym, drop-cons}
use Rattle.std.proofs.lemmas.Bool.{lt-ltb, le-ltb}
use Rattle.std.proofs.lemmas.List.{drop_all}
use Rattle.change_ops.specs.Words.{digit_of, digits_after, small_number}

-- What is kept behind some digits of a word is their number, where it has 64 bits.
pub record Kept (base : ℕ) (word rest : List ℕ) (value : Option ℕ) : Type 0 where
  pub number : ℕ
  pub held : value ≡ small_number number
  pub same : digits_after base number rest ≡ digits_after base 0 word

-- one digit more
pub digit_more : (base : ℕ) (word : List ℕ) (i number digit : ℕ) → i < length word → digit ≡ digit_of (get_or word i 0) → digit < base
    → digits_after base (number * base + digit) (drop (i + 1) word) ≡ digits_after base number (drop i word)
unfolding digits_after
digit_more base word i number digit lt is small =
    rw (add-one, drop-cons word i 0 lt, sym is, lt-ltb _ _ small) refl

-- a byte that is no digit
pub digit_none : (base : ℕ) (word : List ℕ) (i number : ℕ) → i < length word → base ≤ digit_of (get_or word i 0)
    → digits_after base number (drop i word) ≡ None
unfolding digits_after
digit_none base word i number lt big = rw (drop-cons word i 0 lt, le-ltb _ _ big) refl

-- no digit is left
pub digit_end : (base : ℕ) (word : List ℕ) (i number : ℕ) → length word ≤ i → digits_after base number (drop i word) ≡ Some number
unfolding digits_after
digit_end base word i number le = rw (drop_all i word le) refl

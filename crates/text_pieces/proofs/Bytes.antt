-- How many bytes characters have.
use Rattle.std.proofs.Common.{◌≡◌, ℕ, ◌+◌, ◌-◌, ◌≤◌, List, ◌++◌, length, take, drop, sym, ap, ◌∙◌, arith, length-append, encode_utf8_all, IsUtf8}
use Rattle.std.specs.List.{slice_range}
use Rattle.std.specs.Str.{chars}
use Rattle.std.proofs.lemmas.List.{drop-drop, take-append-drop}
use Rattle.std.proofs.lemmas.Str.{encodes-append, encodes-chars}

pub bytes_append : (xs ys : List ℕ) → length (encode_utf8_all (xs ++ ys)) ≡ length (encode_utf8_all xs) + length (encode_utf8_all ys)
bytes_append xs ys = ap length (encodes-append xs ys) ∙ length-append (encode_utf8_all xs) (encode_utf8_all ys)

pub bytes_parted : (xs : List ℕ) (k : ℕ) → length (encode_utf8_all xs) ≡ length (encode_utf8_all (take k xs)) + length (encode_utf8_all (drop k xs))
bytes_parted xs k = ap (λ (l : List ℕ). length (encode_utf8_all l)) (sym (take-append-drop k xs)) ∙ bytes_append (take k xs) (drop k xs)

-- a text's characters have its bytes
pub bytes_of_chars : (text : List ℕ) → IsUtf8 text → length (encode_utf8_all (chars text)) ≡ length text
bytes_of_chars text utf8 = ap length (encodes-chars text utf8)

pub bytes_between : (xs : List ℕ) (i j : ℕ) → length (encode_utf8_all (slice_range xs i j)) ≤ length (encode_utf8_all xs)
bytes_between xs i j = omega (arith, bytes_parted xs i, bytes_parted (drop i xs) (j - i))

-- a later place has no more bytes behind it
bytes_behind : (xs : List ℕ) (i j : ℕ) → i ≤ j → length (encode_utf8_all (drop j xs)) ≤ length (encode_utf8_all (drop i xs))
bytes_behind xs i j le =
    let on : j ≡ i + (j - i) = omega arith in
    let e : drop j xs ≡ drop (j - i) (drop i xs) = ap (λ (n : ℕ). drop n xs) on ∙ sym (drop-drop (j - i) i xs) in
    omega (arith, ap (λ (l : List ℕ). length (encode_utf8_all l)) e, bytes_parted (drop i xs) (j - i))

-- a text with a window
pub bytes_with : (xs new : List ℕ) (from to : ℕ) → IsUtf8 new → from ≤ to
    → length (encode_utf8_all (take from xs ++ (chars new ++ drop to xs))) ≤ length (encode_utf8_all xs) + length new
bytes_with xs new from to utf8 order =
    omega (
      arith,
      bytes_append (take from xs) (chars new ++ drop to xs),
      bytes_append (chars new) (drop to xs),
      bytes_of_chars new utf8,
      bytes_parted xs from,
      bytes_behind xs from to order,
    )

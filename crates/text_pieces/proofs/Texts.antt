-- Texts by their characters.
use Rattle.std.proofs.Common.{◌≡◌, ℕ, ◌+◌, ◌-◌, ◌<◌, ◌≤◌, true, List, [], ◌∷◌, ◌++◌, Option, Some, length, take, drop, refl, sym, ap, subst, ◌∙◌, arith, length-append, IsUtf8, MatchOption, encode_utf8_all}
use Rattle.std.specs.List.{slice_get, slice_range}
use Rattle.std.specs.Str.{chars, IsCharBoundary}
use Rattle.std.specs.Char.{encode_utf8}
use Rattle.std.proofs.Math.Utf8.{scalars, scalar}
use Rattle.std.proofs.lemmas.Bool.{and_parts}
use Rattle.std.proofs.lemmas.List.{append_cancel_left, take-append-drop, take_at, drop_at}
use Rattle.std.proofs.lemmas.Str.{encodes-chars, chars-encodes, chars-append, IsUtf8-take, IsUtf8-drop, length-le-encodes}
use Rattle.text_pieces.specs.Texts.{IsPiece}

pub scalars_of : (text : List ℕ) → IsUtf8 text → scalars (chars text) ≡ true
scalars_of text utf8 = subst (λ l. scalars l ≡ true) (sym (chars-encodes utf8.0 utf8.1.0) ∙ ap chars utf8.1.1) utf8.1.0

-- a text has no more characters than bytes
pub chars_few : (text : List ℕ) → IsUtf8 text → length (chars text) ≤ length text
chars_few text utf8 =
    let few = length-le-encodes (chars text) in
    let same = ap length (encodes-chars text utf8) in
    omega (arith, few, same)

-- a text without its first character
pub record IsLess (r r' : List ℕ) : Type 0 where
  pub character : ℕ
  pub cut : r ≡ encode_utf8 character ++ r'
  pub size : length (chars r) ≡ 1 + length (chars r')
  pub utf8 : IsUtf8 r'

pub one_less : (P : Type 0) (r r' : List ℕ) (o : Option ℕ) → IsUtf8 r → MatchOption o P (λ c. r ≡ encode_utf8 c ++ r') → o ≡ slice_get (chars r) 0 → 0 < length (chars r) → IsLess r r'
one_less P r r' o utf8 step first some = from (chars r) refl
  where
    from : (cs : List ℕ) → cs ≡ chars r → IsLess r r'
    from [] e = absurd (omega (arith, ap length e))
    from (c ∷ cs) e =
        let is : o ≡ Some c = first ∙ ap (λ l. slice_get l 0) (sym e) in
        let cut : r ≡ encode_utf8 c ++ r' = subst (λ (z : Option ℕ). MatchOption z P (λ d. r ≡ encode_utf8 d ++ r')) is step in
        let spelt : encode_utf8 c ++ encode_utf8_all cs ≡ r = ap encode_utf8_all e ∙ encodes-chars r utf8 in
        let rest : encode_utf8_all cs ≡ r' = append_cancel_left (encode_utf8 c) (encode_utf8_all cs) r' (spelt ∙ cut) in
        let good : scalars (c ∷ cs) ≡ true = ap scalars e ∙ scalars_of r utf8 in
        let rest_good : scalars cs ≡ true = (and_parts (scalar c) (scalars cs) good).1 in
        let fewer : cs ≡ chars r' = sym (chars-encodes cs rest_good) ∙ ap chars rest in
        record {
          character = c;
          cut = cut;
          size = let all : length (chars r) ≡ length (c ∷ cs) = ap length (sym e) in omega (arith, all, ap length fewer);
          utf8 = (cs, (rest_good, rest));
        }

pub split_first : (text before rest first second : List ℕ) (count : ℕ) → text ≡ before ++ rest → second ≡ rest → first ≡ slice_range text 0 (length text - length second) → IsUtf8 first → length (chars rest) + count ≡ length (chars text) → (chars first ≡ take count (chars text)) × (chars second ≡ drop count (chars text))
split_first text before rest first second count whole same cut utf8 counted =
    let size : (length text - length second) - 0 ≡ length before = omega (arith, ap length whole, ap length same, length-append before rest) in
    let front : first ≡ before = cut ∙ ap (λ n. take n text) size ∙ ap (take (length before)) whole ∙ take_at before rest (length before) refl in
    let all : chars text ≡ chars first ++ chars second = ap chars (whole ∙ ap (λ l. l ++ rest) (sym front) ∙ ap (λ l. first ++ l) (sym same)) ∙ chars-append first second utf8 in
    let many : count ≡ length (chars first) = omega (arith, ap length all, length-append (chars first) (chars second), ap length (ap chars same)) in (
      sym (ap (take count) all ∙ ap (λ n. take n (chars first ++ chars second)) many ∙ take_at (chars first) (chars second) (length (chars first)) refl),
      sym (ap (drop count) all ∙ ap (λ n. drop n (chars first ++ chars second)) many ∙ drop_at (chars first) (chars second) (length (chars first)) refl),
    )

-- a text of as many characters as bytes is cut by bytes
pub split_bytes : (text first second : List ℕ) (count : ℕ) → IsUtf8 text → length (chars text) ≡ length text → IsCharBoundary text count → first ≡ take count text → second ≡ drop count text → length first ≡ count → (chars first ≡ take count (chars text)) × (chars second ≡ drop count (chars text))
split_bytes text first second count utf8 narrow boundary front back size =
    let utf8_first : IsUtf8 first = subst IsUtf8 (sym front) (IsUtf8-take text count utf8 boundary) in
    let utf8_second : IsUtf8 second = subst IsUtf8 (sym back) (IsUtf8-drop text count utf8 boundary) in
    let whole : text ≡ first ++ second = sym (take-append-drop count text) ∙ ap (λ l. l ++ drop count text) (sym front) ∙ ap (λ l. first ++ l) (sym back) in
    let all : chars text ≡ chars first ++ chars second = ap chars whole ∙ chars-append first second utf8_first in
    let many : count ≡ length (chars first) = omega (arith, narrow, size, ap length whole, length-append first second, ap length all, length-append (chars first) (chars second), chars_few first utf8_first, chars_few second utf8_second) in (
      sym (ap (take count) all ∙ ap (λ n. take n (chars first ++ chars second)) many ∙ take_at (chars first) (chars second) (length (chars first)) refl),
      sym (ap (drop count) all ∙ ap (λ n. drop n (chars first ++ chars second)) many ∙ drop_at (chars first) (chars second) (length (chars first)) refl),
    )

-- a text with bytes has a character
pub some_chars : (text : List ℕ) → IsUtf8 text → 0 < length text → 0 < length (chars text)
some_chars text utf8 some = from (chars text) refl
  where
    from : (cs : List ℕ) → cs ≡ chars text → 0 < length (chars text)
    from [] e =
        let none : length text ≡ 0 = ap length (sym (encodes-chars text utf8) ∙ ap encode_utf8_all (sym e)) in
        absurd (omega arith)
    from (c ∷ cs) e = omega (arith, ap length e)

pub piece_of : (text : List ℕ) → IsUtf8 text → 0 < length text → length text ≤ 256 → IsPiece (chars text)
piece_of text utf8 some few = record {
  some = some_chars text utf8 some;
  few = omega (arith, ap length (encodes-chars text utf8));
  spelt = (text, utf8, refl);
}

pub chars_none : chars [] ≡ []
unfolding chars
chars_none = refl

-- a text cut in two
pub chars_split : (text first second : List ℕ) (at : ℕ) → IsUtf8 text → IsCharBoundary text at → first ≡ take at text → second ≡ drop at text
    → chars first ++ chars second ≡ chars text
chars_split text first second at utf8 boundary front back =
    let utf8_first : IsUtf8 first = subst IsUtf8 (sym front) (IsUtf8-take text at utf8 boundary) in
    sym (chars-append first second utf8_first)
    ∙ ap chars (ap (λ l. l ++ second) front ∙ ap (λ l. take at text ++ l) back ∙ take-append-drop at text)

-- a text behind a part at its front
pub chars_behind : (text part rest : List ℕ) (n : ℕ) → IsUtf8 part → text ≡ part ++ drop n text → rest ≡ drop n text → chars text ≡ chars part ++ chars rest
chars_behind text part rest n utf8 whole is = ap chars (whole ∙ ap (λ l. part ++ l) (sym is)) ∙ chars-append part rest utf8

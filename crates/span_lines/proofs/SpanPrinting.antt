-- Which bytes are escaped.
use Rattle.std.proofs.Common.{◌≡◌, ◌≢◌, ℕ, suc, ◌<◌, List, [], ◌∷◌, ◌++◌, length, get_or, refl, sym, ap, ◌∙◌, arith, inl, inr}
use Rattle.std.specs.Prelude.{encode_utf8, encode_utf8_all}
use Rattle.std.proofs.lemmas.List.{append-nil}
use Rattle.std.proofs.lemmas.Bool.Decides.{eqb_tells}
use Rattle.std.proofs.lemmas.Grind.{flat_map-append}
use Rattle.std.proofs.lemmas.Str.{encodes-append, encodes-chars, inside_one}
use Rattle.std.specs.Str.{chars, IsUtf8}
use Rattle.span_lines.specs.SpanLines.{escaped_byte, escaped}

-- a byte that is neither of the two
escaped_other : (b : ℕ) → b ≢ 10 → b ≢ 92 → escaped_byte b ≡ b ∷ []
escaped_other b feed slash = elim (eqb_tells b 10) [
  | inl one ↦ absurd (feed one.1)
  | inr other ↦ elim (eqb_tells b 92) [
    | inl two ↦ absurd (slash two.1)
    | inr neither ↦ rw (other.0, neither.0) refl
  ]
]

escaped_none : (bs : List ℕ) → ((k : ℕ) → k < length bs → get_or bs k 0 ≢ 10) → ((k : ℕ) → k < length bs → get_or bs k 0 ≢ 92) → escaped bs ≡ bs
escaped_none [] feed slash = refl
escaped_none (b ∷ bs) feed slash =
    let first : escaped_byte b ≡ b ∷ [] = escaped_other b (feed 0 (omega arith)) (slash 0 (omega arith)) in
    let others : escaped bs ≡ bs = escaped_none bs (λ k h. feed (suc k) (omega arith)) (λ k h. slash (suc k) (omega arith)) in
    rw (first, others) refl

-- a character that is neither of the two
pub escaped_character : (c : ℕ) → c ≢ 10 → c ≢ 92 → escaped (encode_utf8 c) ≡ encode_utf8 c
escaped_character c feed slash =
    let whole : encode_utf8 c ≡ encode_utf8 c ++ [] = sym (append-nil (encode_utf8 c)) in
    escaped_none (encode_utf8 c)
    (λ k h e. feed (inside_one c [] (encode_utf8 c) k whole h (omega arith) ∙ e))
    (λ k h e. slash (inside_one c [] (encode_utf8 c) k whole h (omega arith) ∙ e))

-- the first part of a text and what is left of it, escaped one after the other
pub escaped_part : (part text rest : List ℕ) → IsUtf8 part → text ≡ chars part ++ rest → escaped (encode_utf8_all text) ≡ escaped part ++ escaped (encode_utf8_all rest)
escaped_part part text rest utf8 is =
    let cut : encode_utf8_all text ≡ part ++ encode_utf8_all rest =
    ap encode_utf8_all is ∙ encodes-append (chars part) rest ∙ ap (λ l. l ++ encode_utf8_all rest) (encodes-chars part utf8) in
    ap escaped cut ∙ flat_map-append escaped_byte part (encode_utf8_all rest)

-- The tokens of a text that begins with a word, a sign or a blank; and of a line that is laid out in pieces.
use Rattle.std.proofs.Common.{◌≡◌, ℕ, zero, suc, true, false, eqb, List, [], ◌∷◌, ◌++◌, Option, ◌+◌, ◌<◌, ◌≤◌, length, get_or, take, drop, add-one, drop-cons, refl, sym, ap, subst, ◌∙◌, arith, inl, inr}
use Rattle.std.proofs.lemmas.List.{length-take, take-append-drop}
use Rattle.std.proofs.lemmas.Bool.Decides.{eqb_tells}
use Rattle.assembler_lines.specs.declared.token.Sign.{Sign}
use Rattle.assembler_lines.specs.declared.token.Sign.TheVariants.{Comma, Open, Close, Plus, Minus, Colon}
use Rattle.assembler_lines.specs.Tokens.{Lexeme, Mark, Word, is_word_byte, is_blank, byte_of, sign_of, sign_or_stray, begins_word, before_rest, tokens_of}
use Rattle.assembler_lines.specs.Pieces.{AreWordBytes, Piece, Space, Sig, Text, spell, lexemes, BeginsApart, WellLaid}

no_comment : (b : ℕ) → is_word_byte b ≡ true → eqb b 59 ≡ false
unfolding is_word_byte
no_comment b h = elim (eqb_tells b 59) [ inl same ↦ absurd (let f : is_word_byte 59 ≡ true = subst (λ (x : ℕ). is_word_byte x ≡ true) same.1 h in cc) | inr other ↦ other.0 ]

alone : (b : ℕ) (rest : List ℕ) (ts : List Lexeme) → is_word_byte b ≡ true → begins_word rest ≡ false → before_rest b rest ts ≡ Word (b ∷ []) ∷ ts
alone b rest ts h n = rw (h, n) refl

joins : (b c : ℕ) (w bs : List ℕ) (ts : List Lexeme) → is_word_byte b ≡ true → is_word_byte c ≡ true
    → before_rest b (c ∷ bs) (Word (c ∷ w) ∷ ts) ≡ Word (b ∷ c ∷ w) ∷ ts
joins b c w bs ts h k = rw (h, k) refl

pub word_step : (b : ℕ) (w rest : List ℕ) → AreWordBytes (b ∷ w) → begins_word rest ≡ false → tokens_of ((b ∷ w) ++ rest) ≡ Word (b ∷ w) ∷ tokens_of rest
unfolding tokens_of
word_step b [] rest h n = rw (no_comment b h.0) (alone b rest (tokens_of rest) h.0 n)
word_step b (c ∷ w) rest h n =
    rw (no_comment b h.0, word_step c w rest h.1 n) (joins b c w (w ++ rest) (tokens_of rest) h.0 h.1.0)

pub space_step : (rest : List ℕ) → tokens_of (32 ∷ rest) ≡ tokens_of rest
unfolding tokens_of is_word_byte is_blank
space_step rest = refl

pub sign_step : (s : Sign) (rest : List ℕ) → tokens_of (byte_of s ∷ rest) ≡ Mark s ∷ tokens_of rest
unfolding tokens_of is_word_byte is_blank sign_of
sign_step Comma rest = refl
sign_step Open rest = refl
sign_step Close rest = refl
sign_step Plus rest = refl
sign_step Minus rest = refl
sign_step Colon rest = refl

apart : (ps : List Piece) → BeginsApart ps → begins_word (spell ps) ≡ false
unfolding is_word_byte
apart [] h = refl
apart (Space ∷ ps) h = refl
apart (Sig Comma ∷ ps) h = refl
apart (Sig Open ∷ ps) h = refl
apart (Sig Close ∷ ps) h = refl
apart (Sig Plus ∷ ps) h = refl
apart (Sig Minus ∷ ps) h = refl
apart (Sig Colon ∷ ps) h = refl
apart (Text w ∷ ps) h = absurd h

-- a line that is laid out well has just its words and signs as tokens
pub tokens_again : (ps : List Piece) → WellLaid ps → tokens_of (spell ps) ≡ lexemes ps
unfolding tokens_of
tokens_again [] h = refl
tokens_again (Space ∷ ps) h = space_step (spell ps) ∙ tokens_again ps h
tokens_again (Sig s ∷ ps) h = sign_step s (spell ps) ∙ ap (λ (ts : List Lexeme). Mark s ∷ ts) (tokens_again ps h)
tokens_again (Text [] ∷ ps) h = absurd h
tokens_again (Text (b ∷ w) ∷ ps) h = word_step b w (spell ps) h.0 (apart ps h.1) ∙ ap (λ (ts : List Lexeme). Word (b ∷ w) ∷ ts) (tokens_again ps h.2)

abbrev Other : ℕ → Type 0
Other b = (is_word_byte b ≡ false) × (eqb b 59 ≡ false)

blank_is_other : (b : ℕ) → is_blank b ≡ true → (is_word_byte b ≡ false) × (eqb b 59 ≡ false)
unfolding is_word_byte is_blank
blank_is_other b h = elim (eqb_tells b 32) [
  | inl same ↦ subst Other (sym same.1) (refl, refl)
  | inr no_space ↦ elim (eqb_tells b 9) [
    | inl same ↦ subst Other (sym same.1) (refl, refl)
    | inr no_tab ↦ elim (eqb_tells b 13) [
      | inl same ↦ subst Other (sym same.1) (refl, refl)
      | inr no_return ↦ absurd (let f = rw (no_space.0, no_tab.0, no_return.0) at h in cc)
    ]
  ]
]

blank_step : (b : ℕ) (rest : List ℕ) → is_blank b ≡ true → tokens_of (b ∷ rest) ≡ tokens_of rest
unfolding tokens_of
blank_step b rest h = let o = blank_is_other b h in rw (o.1, o.0, h) refl

words_more_suc : (xs : List ℕ) (i : ℕ) → i < length xs → AreWordBytes (take i xs) → is_word_byte (get_or xs i 0) ≡ true → AreWordBytes (take (suc i) xs)
words_more_suc [] i lt h w = absurd (omega arith)
words_more_suc (x ∷ xs) zero lt h w = (w, tt)
words_more_suc (x ∷ xs) (suc i) lt h w = (h.0, words_more_suc xs i (omega arith) h.1 w)

pub words_more : (xs : List ℕ) (i : ℕ) → i < length xs → AreWordBytes (take i xs) → is_word_byte (get_or xs i 0) ≡ true → AreWordBytes (take (i + 1) xs)
words_more xs i lt h w = rw add-one (words_more_suc xs i lt h w)

-- a word at the front, as the scanner cuts it
word_cut : (xs : List ℕ) (n : ℕ) → 0 < n → n ≤ length xs → AreWordBytes (take n xs) → begins_word (drop n xs) ≡ false
    → tokens_of xs ≡ Word (take n xs) ∷ tokens_of (drop n xs)
word_cut xs n some le h ends = go (take n xs) (omega (arith, length-take n xs)) h (take-append-drop n xs) where
  go : (w : List ℕ) → 0 < length w → AreWordBytes w → w ++ drop n xs ≡ xs → tokens_of xs ≡ Word w ∷ tokens_of (drop n xs)
  go [] some h e = absurd (omega arith)
  go (b ∷ w) some h e = ap tokens_of (sym e) ∙ word_step b w (drop n xs) h ends

comment_step : (rest : List ℕ) → tokens_of (59 ∷ rest) ≡ []
unfolding tokens_of
comment_step rest = refl

marked_step : (b : ℕ) (rest : List ℕ) → eqb b 59 ≡ false → is_word_byte b ≡ false → is_blank b ≡ false → tokens_of (b ∷ rest) ≡ sign_or_stray (sign_of b) ∷ tokens_of rest
unfolding tokens_of
marked_step b rest c h k = rw (c, h, k) refl

-- one blank more is skipped
pub blank_more : (xs : List ℕ) (i : ℕ) → i < length xs → is_blank (get_or xs i 0) ≡ true → tokens_of (drop i xs) ≡ tokens_of xs → tokens_of (drop (i + 1) xs) ≡ tokens_of xs
blank_more xs i lt blank h = let e : drop i xs ≡ get_or xs i 0 ∷ drop (i + 1) xs = rw add-one (drop-cons xs i 0 lt) in sym (ap tokens_of e ∙ blank_step (get_or xs i 0) (drop (i + 1) xs) blank) ∙ h

pub ruleset scanning = (words_more, blank_more)

pub empty_at : (xs : List ℕ) → length xs < 1 → tokens_of xs ≡ []
unfolding tokens_of
empty_at [] h = refl
empty_at (x ∷ xs) h = absurd (omega arith)

pub marked_at : (xs : List ℕ) (o : Option Sign) → 0 < length xs → eqb (get_or xs 0 0) 59 ≡ false → is_word_byte (get_or xs 0 0) ≡ false → is_blank (get_or xs 0 0) ≡ false
    → sign_of (get_or xs 0 0) ≡ o → tokens_of xs ≡ sign_or_stray o ∷ tokens_of (drop 1 xs)
marked_at [] o some c h k e = absurd (omega arith)
marked_at (b ∷ xs) o some c h k e = rw (← e) (marked_step b xs c h k)

pub word_cut_at : (xs : List ℕ) (n : ℕ) → 0 < length xs → is_word_byte (get_or xs 0 0) ≡ true → n ≤ length xs → AreWordBytes (take n xs) → begins_word (drop n xs) ≡ false
    → tokens_of xs ≡ Word (take n xs) ∷ tokens_of (drop n xs)
word_cut_at [] n some first le h ends = absurd (omega arith)
word_cut_at (b ∷ xs) zero some first le h ends = absurd (let f = rw first at ends in cc)
word_cut_at (b ∷ xs) (suc n) some first le h ends = word_cut (b ∷ xs) (suc n) (omega arith) le h ends

pub comment_at : (xs : List ℕ) → 0 < length xs → get_or xs 0 0 ≡ 59 → tokens_of xs ≡ []
comment_at [] some c = absurd (omega arith)
comment_at (b ∷ xs) some c = let e : b ≡ 59 = c in rw e (comment_step xs)

pub ruleset fronts = (empty_at, comment_at, marked_at, word_cut_at)

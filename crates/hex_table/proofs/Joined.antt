-- What a text stands for whose front is read.
use Rattle.std.proofs.Common.{◌≡◌, ℕ, zero, suc, ◌+◌, ◌*◌, ◌%◌, ◌<◌, Bool, true, false, List, [], ◌∷◌, ◌++◌, length, take, drop, get_or, Result, Ok, Err, refl, sym, ap, subst, ◌∙◌, append_assoc, length-append, arith}
use Rattle.std.specs.List.{concat, list_all}
use Rattle.std.specs.Simd.{first_chunks}
use Rattle.std.specs.Result.{result_unwrap_or}
use Rattle.std.proofs.lemmas.Bool.{and_parts}
use Rattle.std.proofs.lemmas.List.{append-nil, drop-drop, drop_more, take-append-drop}
use Rattle.std.proofs.lemmas.List.Folds.{list_all-append}
use Rattle.std.proofs.lemmas.List.Sums.{AllPass-from_list_all, list_all-from_AllPass}
use Rattle.hex.specs.Hex.{decode_of, decode_pairs, is_hex_digit, pair_value}
use Rattle.hex.specs.declared.error.FromHexError.{FromHexError}
use Rattle.hex.proofs.HexLemmas.{decode_of-digits, decode_of-even, decode_of-ok}
use Rattle.hex.proofs.Pairs.{cons_byte, decode_pairs-err_pair, decode_pairs-ok_pair}

-- a text that stands for no bytes
abbrev pub Fails : List ℕ → Type 0
Fails digits = (error : FromHexError) × (decode_of digits ≡ Err error)

-- ---- two texts, one behind the other
bytes_same : (a b : List ℕ) → ◌≡◌ {A = Result (List ℕ) FromHexError} (Ok a) (Ok b) → a ≡ b
bytes_same a b e = ap (λ (r : Result (List ℕ) FromHexError). result_unwrap_or r []) e

-- a pair is the same byte at any place
pair_any : (a b i j v : ℕ) → pair_value a b i ≡ Ok v → pair_value a b j ≡ Ok v
pair_any a b i j v h = grind (arith)

more_pairs : (i j a b : ℕ) (rest behind all end : List ℕ) → ((bytes : List ℕ) → decode_pairs (i + 2) rest ≡ Ok bytes → decode_pairs (j + 2) (rest ++ behind) ≡ Ok (bytes ++ end))
    → decode_pairs i (a ∷ b ∷ rest) ≡ Ok all → decode_pairs j (a ∷ b ∷ (rest ++ behind)) ≡ Ok (all ++ end)
more_pairs i j a b rest behind all end more h = go (pair_value a b i) refl (decode_pairs (i + 2) rest) refl where
  go : (p : Result ℕ FromHexError) → pair_value a b i ≡ p → (r : Result (List ℕ) FromHexError) → decode_pairs (i + 2) rest ≡ r → decode_pairs j (a ∷ b ∷ (rest ++ behind)) ≡ Ok (all ++ end)
  go (Err e) pair r is = absurd (let none = sym (decode_pairs-err_pair i a b e rest pair) ∙ h in cc)
  go (Ok v) pair (Err e) is = absurd (let none = sym (decode_pairs-ok_pair i a b v rest pair ∙ ap (cons_byte v) is) ∙ h in cc)
  go (Ok v) pair (Ok bytes) is =
      let whole : v ∷ bytes ≡ all = bytes_same (v ∷ bytes) all (sym (decode_pairs-ok_pair i a b v rest pair ∙ ap (cons_byte v) is) ∙ h) in
      decode_pairs-ok_pair j a b v (rest ++ behind) (pair_any a b i j v pair) ∙ ap (cons_byte v) (more bytes is) ∙ ap (λ (xs : List ℕ). Ok (xs ++ end)) whole

pairs_joined : (a b x y : List ℕ) (i j : ℕ) → ((k : ℕ) → decode_pairs k b ≡ Ok y) → decode_pairs i a ≡ Ok x → decode_pairs j (a ++ b) ≡ Ok (x ++ y)
unfolding decode_pairs
pairs_joined [] b x y i j behind h = behind j ∙ ap (λ (xs : List ℕ). Ok (xs ++ y)) (bytes_same [] x h)
pairs_joined (p ∷ []) b x y i j behind h = cc h
pairs_joined (p ∷ q ∷ rest) b x y i j behind h = more_pairs i j p q rest b x y (λ bytes is. pairs_joined rest b bytes y (i + 2) (j + 2) behind is) h

-- pairs stand for the same bytes at any place
pairs_any : (s y : List ℕ) (i j : ℕ) → decode_pairs i s ≡ Ok y → decode_pairs j s ≡ Ok y
unfolding decode_pairs
pairs_any s y i j h = ap (decode_pairs j) (sym (append-nil s)) ∙ pairs_joined s [] y [] i j (λ k. refl) h ∙ ap Ok (append-nil y)

joined_ok : (a b x y : List ℕ) → decode_of a ≡ Ok x → decode_of b ≡ Ok y → decode_of (a ++ b) ≡ Ok (x ++ y)
joined_ok a b x y front behind =
    let first = (decode_of-ok a x front).0 in
    let second = (decode_of-ok b y behind).0 in
    let pairs : decode_pairs 0 b ≡ Ok y = sym (decode_of-even b second) ∙ behind in
    decode_of-even (a ++ b) (omega (arith, first, second, length-append a b))
    ∙ pairs_joined a b x y 0 0 (λ k. pairs_any b y 0 k pairs) (sym (decode_of-even a first) ∙ front)

fails_unless : (s : List ℕ) → ((bytes : List ℕ) → decode_of s ≡ Ok bytes → ⊥) → Fails s
fails_unless s never = go (decode_of s) refl where
  go : (r : Result (List ℕ) FromHexError) → decode_of s ≡ r → Fails s
  go (Err error) is = (error, is)
  go (Ok bytes) is = absurd (never bytes is)

stands_for : (s : List ℕ) → length s % 2 ≡ 0 → list_all is_hex_digit s ≡ true → Fails s → ⊥
stands_for s even right fails =
    let is = decode_of-digits s even (AllPass-from_list_all is_hex_digit s right) in
    let none = sym is.1 ∙ fails.1 in cc

-- where an even number of bytes stands for nothing, one is no digit
pub wrong_of : (s : List ℕ) → length s % 2 ≡ 0 → Fails s → list_all is_hex_digit s ≡ false
wrong_of s even fails = go (list_all is_hex_digit s) refl where
  go : (right : Bool) → list_all is_hex_digit s ≡ right → list_all is_hex_digit s ≡ false
  go true is = absurd (stands_for s even is fails)
  go false is = is

parts_right : (a b bytes : List ℕ) → decode_of (a ++ b) ≡ Ok bytes → (list_all is_hex_digit a ≡ true) × (list_all is_hex_digit b ≡ true)
parts_right a b bytes h =
    and_parts (list_all is_hex_digit a) (list_all is_hex_digit b)
    (sym (list_all-append is_hex_digit a b) ∙ list_all-from_AllPass is_hex_digit (a ++ b) (decode_of-ok (a ++ b) bytes h).1)

fails_front : (a b : List ℕ) → list_all is_hex_digit a ≡ false → Fails (a ++ b)
fails_front a b wrong = fails_unless (a ++ b) (λ bytes h. let right = sym (parts_right a b bytes h).0 ∙ wrong in cc)

fails_behind : (a b : List ℕ) → length a % 2 ≡ 0 → Fails b → Fails (a ++ b)
fails_behind a b even fails =
    fails_unless (a ++ b) (λ bytes h. stands_for b (omega (arith, even, (decode_of-ok (a ++ b) bytes h).0, length-append a b)) (parts_right a b bytes h).1 fails)

-- ---- from slot to slot
-- what is left of a text says what the text stands for, whose front stands for these bytes
pub record IsRead (digits bytes rest : List ℕ) : Type 0 where
  pub right : (more : List ℕ) → decode_of rest ≡ Ok more → decode_of digits ≡ Ok (bytes ++ more)
  pub wrong : Fails rest → Fails digits

none_read : (digits : List ℕ) → IsRead digits [] digits
none_read digits = record { right = λ more h. h; wrong = λ fails. fails }

slot_read : (digits bytes slot rest part : List ℕ) → decode_of slot ≡ Ok part → IsRead digits bytes (slot ++ rest) → IsRead digits (bytes ++ part) rest
slot_read digits bytes slot rest part h read =
    record {
      right = λ more behind. read.right (part ++ more) (joined_ok slot rest part more h behind) ∙ ap Ok (sym (append_assoc bytes part more));
      wrong = λ fails. read.wrong (fails_behind slot rest (decode_of-ok slot part h).0 fails);
    }

-- what is left behind some of a text's chunks
abbrev pub behind : List (List ℕ) → List ℕ → ℕ → List ℕ
behind slots rest at = concat (drop at slots) ++ rest

behind_none : (k : ℕ) (xs : List ℕ) → concat (first_chunks 16 k xs) ++ drop (k * 16) xs ≡ xs
behind_none zero xs = refl
behind_none (suc k) xs =
    let rest = drop 16 xs in
    let end : drop (suc k * 16) xs ≡ drop (k * 16) rest = ap (λ (n : ℕ). drop n xs) (omega arith) ∙ sym (drop-drop (k * 16) 16 xs) in
    ap (λ (l : List ℕ). (take 16 xs ++ concat (first_chunks 16 k rest)) ++ l) end
    ∙ append_assoc (take 16 xs) (concat (first_chunks 16 k rest)) (drop (k * 16) rest)
    ∙ ap (λ (l : List ℕ). take 16 xs ++ l) (behind_none k rest) ∙ take-append-drop 16 xs

behind_one : (slots : List (List ℕ)) (rest d : List ℕ) (at : ℕ) → at < length slots → behind slots rest at ≡ get_or slots at d ++ behind slots rest (at + 1)
behind_one slots rest d at within = rw (drop_more slots at d within) (append_assoc (get_or slots at d) (concat (drop (at + 1) slots)) rest)

pub begun : (digits bytes : List ℕ) (slots : List (List ℕ)) (rest : List ℕ) (k : ℕ) → bytes ≡ [] → slots ≡ first_chunks 16 k digits → rest ≡ drop (k * 16) digits
    → IsRead digits bytes (behind slots rest 0)
begun digits bytes slots rest k none front back =
    let text : behind slots rest 0 ≡ digits =
    ap (λ (s : List (List ℕ)). concat s ++ rest) front ∙ ap (λ (l : List ℕ). concat (first_chunks 16 k digits) ++ l) back ∙ behind_none k digits in
    subst (λ (b : List ℕ). IsRead digits b (behind slots rest 0)) (sym none) (subst (λ (l : List ℕ). IsRead digits [] l) (sym text) (none_read digits))

pub one_more : (digits bytes made part rest d : List ℕ) (slots : List (List ℕ)) (at : ℕ) → at < length slots → decode_of (get_or slots at d) ≡ Ok part → made ≡ bytes ++ part
    → IsRead digits bytes (behind slots rest at) → IsRead digits made (behind slots rest (at + 1))
one_more digits bytes made part rest d slots at within h same read =
    let here : IsRead digits bytes (get_or slots at d ++ behind slots rest (at + 1)) = subst (λ (l : List ℕ). IsRead digits bytes l) (behind_one slots rest d at within) read in
    subst (λ (b : List ℕ). IsRead digits b (behind slots rest (at + 1))) (sym same) (slot_read digits bytes (get_or slots at d) (behind slots rest (at + 1)) part h here)

pub stopped : (digits bytes rest d : List ℕ) (slots : List (List ℕ)) (at : ℕ) → at < length slots → list_all is_hex_digit (get_or slots at d) ≡ false
    → IsRead digits bytes (behind slots rest at) → Fails digits
stopped digits bytes rest d slots at within wrong read =
    read.wrong (subst Fails (sym (behind_one slots rest d at within)) (fails_front (get_or slots at d) (behind slots rest (at + 1)) wrong))

-- Digits with blanks between them, run by run.
use Rattle.std.proofs.Common.{◌≡◌, ℕ, zero, suc, ◌+◌, ◌%◌, ◌==◌, ◌<◌, ◌≤◌, Bool, true, false, not, ◌&&◌, List, [], ◌∷◌, ◌++◌, length, take, drop, slice_index, refl, sym, ap, subst, ◌∙◌, append_assoc, length-append, inl, inr, arith}
use Rattle.std.specs.Bool.{beq}
use Rattle.std.specs.List.{list_all}
use Rattle.std.proofs.lemmas.Bool.{cases_lt}
use Rattle.std.proofs.lemmas.List.{append-nil, drop_all, drop_more, length-drop, take_more, take-append-drop}
use Rattle.std.proofs.lemmas.List.Elements.{filter-append}
use Rattle.std.proofs.lemmas.List.Folds.{list_all-append}
use Rattle.hub_commands.specs.Digits.{AreDigits}
use Rattle.hub_commands.specs.Hexadecimal.{is_blank, without_blanks}
use Rattle.hub_commands.specs.declared.digits.Digits.{Digits}

-- ---- digits behind digits
odd_by : (x y z : ℕ) → x < 2 → y < 2 → z ≡ (x + y) % 2 → not (beq (x == 1) (y == 1)) ≡ (z == 1)
odd_by zero zero z hx hy h = rw h refl
odd_by zero (suc zero) z hx hy h = rw h refl
odd_by (suc zero) zero z hx hy h = rw h refl
odd_by (suc zero) (suc zero) z hx hy h = rw h refl
odd_by (suc (suc x)) y z hx hy h = absurd (omega arith)
odd_by zero (suc (suc y)) z hx hy h = absurd (omega arith)
odd_by (suc zero) (suc (suc y)) z hx hy h = absurd (omega arith)

pub odd_joined : (digits more : List ℕ) (odd : Bool) → odd ≡ (length digits % 2 == 1) → not (beq odd (length more % 2 == 1)) ≡ (length (digits ++ more) % 2 == 1)
odd_joined digits more odd h =
    ap (λ (b : Bool). not (beq b (length more % 2 == 1))) h
    ∙ odd_by (length digits % 2) (length more % 2) (length (digits ++ more) % 2) (omega arith) (omega arith) (omega (arith, length-append digits more))

pub all_joined : (test : ℕ → Bool) (front more : List ℕ) (all now : Bool) → all ≡ list_all test front → now ≡ list_all test more
    → (all && now) ≡ list_all test (front ++ more)
all_joined test front more all now h more_h = rw (h, more_h) (sym (list_all-append test front more))

-- ---- runs
-- a byte that is no blank, or one that is
one_kept : (byte : ℕ) → is_blank byte ≡ false → without_blanks (byte ∷ []) ≡ byte ∷ []
one_kept byte h = rw h refl

blank_gone : (byte : ℕ) (rest : List ℕ) → is_blank byte ≡ true → without_blanks (byte ∷ rest) ≡ without_blanks rest
blank_gone byte rest h = rw h refl

pub run_goes_on : (text : List ℕ) (index : ℕ) → index < length text → is_blank (slice_index text index) ≡ false → without_blanks (take index text) ≡ take index text
    → without_blanks (take (index + 1) text) ≡ take (index + 1) text
run_goes_on text index within h run =
    let byte = slice_index text index in
    let more : take (index + 1) text ≡ take index text ++ byte ∷ [] = take_more text index 0 within in
    ap without_blanks more ∙ filter-append _ (take index text) (byte ∷ []) ∙ ap (λ (l : List ℕ). l ++ without_blanks (byte ∷ [])) run
    ∙ ap (λ (l : List ℕ). take index text ++ l) (one_kept byte h) ∙ sym more

-- a run, and what stands behind the blank that ends it
behind_run : (text : List ℕ) (n : ℕ) → n ≤ length text → (n < length text → is_blank (slice_index text n) ≡ true) → without_blanks (drop n text) ≡ without_blanks (drop (n + 1) text)
behind_run text n within end =
    elim (cases_lt n (length text)) [
      | inl less ↦ ap without_blanks (drop_more text n 0 less) ∙ blank_gone (slice_index text n) (drop (n + 1) text) (end less)
      | inr whole ↦ ap without_blanks (drop_all n text whole ∙ sym (drop_all (n + 1) text (omega arith)))
    ]

run_first : (text : List ℕ) (n : ℕ) → n ≤ length text → without_blanks (take n text) ≡ take n text → (n < length text → is_blank (slice_index text n) ≡ true)
    → without_blanks text ≡ take n text ++ without_blanks (drop (n + 1) text)
run_first text n within run end =
    ap without_blanks (sym (take-append-drop n text)) ∙ filter-append _ (take n text) (drop n text) ∙ ap (λ (l : List ℕ). l ++ without_blanks (drop n text)) run
    ∙ ap (λ (l : List ℕ). take n text ++ l) (behind_run text n within end)

-- ---- from run to run
-- of all these digits those are kept that don't stand in the rest
pub record AreTaken (all rest : List ℕ) (kept : Digits) : Type 0 where
  pub front : List ℕ
  pub whole : all ≡ front ++ without_blanks rest
  pub right : AreDigits front kept

pub none_taken : (digits text : List ℕ) (kept : Digits) → AreDigits digits kept → AreTaken (digits ++ without_blanks text) text kept
none_taken digits text kept are = record { front = digits; whole = refl; right = are }

pub run_taken : (all text rest run : List ℕ) (n : ℕ) (old new : Digits) → n ≤ length text → without_blanks (take n text) ≡ take n text
    → (n < length text → is_blank (slice_index text n) ≡ true) → without_blanks rest ≡ without_blanks (drop (n + 1) text) → run ≡ take n text
    → ((digits : List ℕ) → AreDigits digits old → AreDigits (digits ++ run) new) → AreTaken all text old → AreTaken all rest new
run_taken all text rest run n old new within right end rest_is run_is more taken =
    let front : without_blanks text ≡ run ++ without_blanks rest =
    run_first text n within right end ∙ ap (λ (l : List ℕ). l ++ without_blanks (drop (n + 1) text)) (sym run_is) ∙ ap (λ (l : List ℕ). run ++ l) (sym rest_is) in
    record {
      front = taken.front ++ run;
      whole = taken.whole ∙ ap (λ (l : List ℕ). taken.front ++ l) front ∙ sym (append_assoc taken.front run (without_blanks rest));
      right = more taken.front taken.right;
    }

all_taken : (all text : List ℕ) (kept : Digits) → length text ≡ 0 → AreTaken all text kept → AreDigits all kept
all_taken all [] kept none taken = subst (λ (l : List ℕ). AreDigits l kept) (sym (taken.whole ∙ append-nil taken.front)) taken.right
all_taken all (byte ∷ rest) kept none taken = absurd (omega arith)

-- what stands behind a blank
pub behind_blank : (text rest : List ℕ) (blank n : ℕ) → drop n text ≡ blank ∷ rest → without_blanks rest ≡ without_blanks (drop (n + 1) text)
behind_blank text rest blank n h =
    elim (cases_lt n (length text)) [
      | inl less ↦ ap (λ (l : List ℕ). without_blanks (drop 1 l)) (sym h ∙ drop_more text n 0 less)
      | inr most ↦ absurd (let none = sym h ∙ drop_all n text most in cc)
    ]

pub last_taken : (all text run behind : List ℕ) (n : ℕ) (old new : Digits) → length behind ≡ 0 → n ≤ length text → without_blanks (take n text) ≡ take n text
    → (n < length text → is_blank (slice_index text n) ≡ true) → run ≡ take n text → behind ≡ drop n text
    → ((digits : List ℕ) → AreDigits digits old → AreDigits (digits ++ run) new) → AreTaken all text old → AreDigits all new
last_taken all text run behind n old new none within right end run_is behind_is more taken =
    let none_left : length (drop (n + 1) text) ≡ 0 = omega (arith, none, ap length behind_is, length-drop n text, length-drop (n + 1) text) in
    all_taken all (drop (n + 1) text) new none_left (run_taken all text (drop (n + 1) text) run n old new within right end refl run_is more taken)

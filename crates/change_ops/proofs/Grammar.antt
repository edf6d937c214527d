-- What is read is spelled so, and what is spelled so is read: the parts of a line.
use Rattle.std.proofs.Common.{◌≡◌, ℕ, zero, suc, ◌+◌, ◌*◌, ◌<◌, ◌≤◌, Bool, true, false, cond, ltb, eqb, List, [], ◌∷◌, ◌++◌, length, get_or, drop, Option, Some, None, refl, ap, subst, ◌∙◌, arith, inl, inr, length-append, append_assoc}
use Rattle.std.specs.List.{position_or_len, before_first, after_first}
use Rattle.std.proofs.lemmas.Bool.{cases_lt, lt-ltb, le-ltb, ltb-true, eq-eqb, eqb-true}
use Rattle.std.proofs.lemmas.Bool.Decides.{eqb_tells}
use Rattle.std.proofs.Math.ListN.{get_or-append}
use Rattle.std.proofs.Math.Seq.{get_or-append_seam}
use Rattle.std.proofs.lemmas.List.{take_at, drop_at, length-take, get_or-take}
use Rattle.std.proofs.lemmas.List.Sums.{split_at_first, fails_before_first, passes_at_first}
use Rattle.change_ops.specs.Words.{split, digit_of, digits_after, number_in, is_no_front}
use Rattle.change_ops.specs.Reading.{◌>>=◌}
use Rattle.change_ops.proofs.Splitting.{split_here}

-- no byte of a word is the mark
abbrev pub Lacks : ℕ → List ℕ → Type 0
Lacks mark word = (k : ℕ) → k < length word → eqb (get_or word k 0) mark ≡ false

pub bind_some : {A B : Type 0} (o : Option A) (f : A → Option B) (y : B) → (o >>= f) ≡ Some y → (x : A) × (o ≡ Some x) × (f x ≡ Some y)
bind_some None f y e = absurd cc
bind_some (Some x) f y e = (x, refl, e)

pub split_again : (mark : ℕ) (word rest : List ℕ) → Lacks mark word → split mark (word ++ mark ∷ rest) ≡ Some (word, rest)
split_again mark word rest lacks =
    let long : length word < length (word ++ mark ∷ rest) = omega (arith, length-append word (mark ∷ rest)) in
    let here : eqb (get_or (word ++ mark ∷ rest) (length word) 0) mark ≡ true = rw get_or-append_seam (eq-eqb mark mark refl) in
    let before : (k : ℕ) → k < length word → eqb (get_or (word ++ mark ∷ rest) k 0) mark ≡ false = λ k lt. rw (get_or-append word (mark ∷ rest) 0 k lt) (lacks k lt) in
    let cut : drop (length word + 1) (word ++ mark ∷ rest) ≡ rest = rw (← append_assoc word (mark ∷ []) rest) (drop_at (word ++ mark ∷ []) rest (length word + 1) (length-append word (mark ∷ []))) in
    split_here mark (word ++ mark ∷ rest) (length word) long before here ∙ rw (take_at word (mark ∷ rest) (length word) refl, cut) refl

abbrev Parts : Type 0
Parts = List ℕ × List ℕ

guard_some : (b : Bool) (x y : Parts) → cond b (Some x) None ≡ Some y → (b ≡ true) × (x ≡ y)
guard_some true x y e = (refl, cc)
guard_some false x y e = absurd cc

pub split_takes : (mark : ℕ) (bytes word rest : List ℕ) → split mark bytes ≡ Some (word, rest) → (bytes ≡ word ++ mark ∷ rest) × Lacks mark word
unfolding split
split_takes mark bytes word rest e =
    let p : ℕ → Bool = λ b. eqb b mark in
    let n = position_or_len p bytes in
    let g = guard_some (ltb n (length bytes)) (before_first p bytes, after_first p bytes) (word, rest) e in
    let lt : n < length bytes = ltb-true _ _ g.0 in
    let front : before_first p bytes ≡ word = ap (λ (x : Parts). x.0) g.1 in
    let back : after_first p bytes ≡ rest = ap (λ (x : Parts). x.1) g.1 in
    let here : get_or bytes n 0 ≡ mark = eqb-true _ _ (passes_at_first p bytes 0 lt) in
    let whole : bytes ≡ before_first p bytes ++ (get_or bytes n 0 ∷ after_first p bytes) = split_at_first p bytes 0 lt in
    let each : Lacks mark (before_first p bytes) = λ k small. let j : k < n = omega (arith, length-take n bytes) in rw (get_or-take n bytes k 0 j) (fails_before_first p bytes k 0 j) in
    (whole ∙ rw (here, front, back) refl, subst (Lacks mark) front each)

-- digits of a number
pub data Digits (base : ℕ) : List ℕ → Type 0 where
  none : Digits base []
  more : {b : ℕ} {bs : List ℕ} → digit_of b < base → Digits base bs → Digits base (b ∷ bs)

pub are_digits : (base : ℕ) (bs : List ℕ) (n m : ℕ) → digits_after base n bs ≡ Some m → Digits base bs
unfolding digits_after
are_digits base [] n m e = none
are_digits base (b ∷ bs) n m e = elim (cases_lt (digit_of b) base) [
  | inl lt ↦ more lt (are_digits base bs (n * base + digit_of b) m (rw lt-ltb at e))
  | inr le ↦ let no : ltb (digit_of b) base ≡ false = le-ltb _ _ le in absurd (let f = rw no at e in cc)
]

pub no_digit : (base mark : ℕ) (bs : List ℕ) → base ≤ digit_of mark → Digits base bs → Lacks mark bs
no_digit base mark [] h ds k lt = absurd (omega arith)
no_digit base mark (b ∷ bs) h (more small ds) zero lt = elim (eqb_tells b mark) [ inl same ↦ absurd (let one : digit_of b ≡ digit_of mark = ap digit_of same.1 in omega arith) | inr other ↦ other.0 ]
no_digit base mark (b ∷ bs) h (more small ds) (suc k) lt = no_digit base mark bs h ds k (omega arith)

-- a number's word has no byte that is no digit
pub number_lacks : (base mark : ℕ) (word : List ℕ) (n : ℕ) → base ≤ digit_of mark → number_in base word ≡ Some n → Lacks mark word
unfolding number_in
number_lacks base mark word n h e = no_digit base mark word h (number_digits (is_no_front word) base word n e) where
  number_digits : (b : Bool) (base : ℕ) (word : List ℕ) (n : ℕ) → cond b None (digits_after base 0 word) ≡ Some n → Digits base word
  number_digits true base word n e = absurd cc
  number_digits false base word n e = are_digits base word 0 n e

-- A quoted text, read from its front.
use Rattle.std.proofs.Common.{◌≡◌, ◌≢◌, ℕ, List, [], ◌∷◌, ◌++◌, length, Some, None, refl, sym, ap, subst, ◌∙◌, append_assoc, arith}
use Rattle.std.proofs.lemmas.List.{append-nil}
use Rattle.filter_cases.specs.Escapes.{escape_at, Quoted, end, plain, escape}

first_same : {a b : ℕ} {one two : List ℕ} → a ∷ one ≡ b ∷ two → a ≡ b
first_same e = cc

rest_same : {a b : ℕ} {one two : List ℕ} → a ∷ one ≡ b ∷ two → one ≡ two
rest_same e = cc

not_both : {byte : ℕ} → byte ≡ 34 → byte ≡ 92 → ⊥
not_both e f = omega (arith, e, f)

none_in_nothing : (text rest : List ℕ) → Quoted text rest [] → ⊥
none_in_nothing text rest (end _ _ _ e _) = absurd cc
none_in_nothing text rest (plain byte _ _ _ more behind e _ _ _ _) = absurd cc
none_in_nothing text rest (escape byte _ _ _ more inner behind e _ _ _) = absurd cc

at_end : (text rest behind : List ℕ) → Quoted text rest (34 ∷ behind) → (text ≡ []) × (rest ≡ behind)
at_end text rest behind (end _ _ _ e t) = (t, sym (rest_same e))
at_end text rest behind (plain byte _ _ _ more left e unquoted _ _ _) = absurd (unquoted (sym (first_same e)))
at_end text rest behind (escape byte _ _ _ more inner left e _ _ _) = absurd (not_both refl (first_same e))

after_plain : (byte : ℕ) (text rest behind : List ℕ) → byte ≢ 34 → byte ≢ 92 → Quoted text rest (byte ∷ behind)
    → (more : List ℕ) × (text ≡ byte ∷ more) × Quoted more rest behind
after_plain byte text rest behind unquoted unescaped (end _ _ _ e _) = absurd (unquoted (first_same e))
after_plain byte text rest behind unquoted unescaped (plain other _ _ _ more left e _ _ t q) =
    (more, t ∙ ap (λ (b : ℕ). b ∷ more) (sym (first_same e)), subst (λ (l : List ℕ). Quoted more rest l) (sym (rest_same e)) q)
after_plain byte text rest behind unquoted unescaped (escape other _ _ _ more inner left e _ _ _) = absurd (unescaped (first_same e))

same_escape : (one other : ℕ × List ℕ) → Some one ≡ Some other → one ≡ other
same_escape one other e = cc

after_escape : (byte : ℕ) (text rest inner behind : List ℕ) → escape_at inner ≡ Some (byte, behind) → Quoted text rest (92 ∷ inner)
    → (more : List ℕ) × (text ≡ byte ∷ more) × Quoted more rest behind
after_escape byte text rest inner behind is (end _ _ _ e _) = absurd (not_both (first_same e) refl)
after_escape byte text rest inner behind is (plain other _ _ _ more left e _ unescaped _ _) = absurd (unescaped (sym (first_same e)))
after_escape byte text rest inner behind is (escape other _ _ _ more within left e found t q) =
    let same : (byte, behind) ≡ (other, left) = same_escape (byte, behind) (other, left) (sym is ∙ ap escape_at (rest_same e) ∙ found) in
    let one : byte ≡ other = ap (λ (p : ℕ × List ℕ). p.0) same in
    let tail : behind ≡ left = ap (λ (p : ℕ × List ℕ). p.1) same in
    (more, t ∙ ap (λ (b : ℕ). b ∷ more) (sym one), subst (λ (l : List ℕ). Quoted more rest l) (sym tail) q)

none_some : {A : Type 0} (x : A) → None ≡ Some x → ⊥
none_some x e = absurd cc

bad_escape : (text rest inner : List ℕ) → escape_at inner ≡ None → Quoted text rest (92 ∷ inner) → ⊥
bad_escape text rest inner is (end _ _ _ e _) = not_both (first_same e) refl
bad_escape text rest inner is (plain other _ _ _ more left e _ unescaped _ _) = unescaped (sym (first_same e))
bad_escape text rest inner is (escape other _ _ _ more within left e found t q) =
    none_some (other, left) (sym is ∙ ap escape_at (rest_same e) ∙ found)

-- an input is quoted in one way
pub quoted_once : (text rest input other after : List ℕ) → Quoted text rest input → Quoted other after input → (other ≡ text) × (after ≡ rest)
quoted_once text rest input other after (end _ _ _ e t) q =
    let same = at_end other after rest (subst (λ (l : List ℕ). Quoted other after l) e q) in
    (same.0 ∙ sym t, same.1)
quoted_once text rest input other after (plain byte _ _ _ more behind e unquoted unescaped t p) q =
    let step = after_plain byte other after behind unquoted unescaped (subst (λ (l : List ℕ). Quoted other after l) e q) in
    let same = quoted_once more rest behind step.0 after p step.2 in
    (step.1 ∙ ap (λ (l : List ℕ). byte ∷ l) same.0 ∙ sym t, same.1)
quoted_once text rest input other after (escape byte _ _ _ more inner behind e found t p) q =
    let step = after_escape byte other after inner behind found (subst (λ (l : List ℕ). Quoted other after l) e q) in
    let same = quoted_once more rest behind step.0 after p step.2 in
    (step.1 ∙ ap (λ (l : List ℕ). byte ∷ l) same.0 ∙ sym t, same.1)

-- so much of an input was read, and the rest is still to be read
pub record Reading (input text rest : List ℕ) : Type 0 where
  pub sound : (more tail : List ℕ) → Quoted more tail rest → Quoted (text ++ more) tail input
  pub whole : (said tail : List ℕ) → Quoted said tail input → (more : List ℕ) × Quoted more tail rest

pub reading_begun : (input text : List ℕ) → text ≡ [] → Reading input text input
reading_begun input text e = record {
  sound = λ more tail q. subst (λ (l : List ℕ). Quoted (l ++ more) tail input) (sym e) q;
  whole = λ said tail q. (said, q);
}

longer : (input text new more tail : List ℕ) (byte : ℕ) → new ≡ text ++ byte ∷ [] → Quoted (text ++ byte ∷ more) tail input → Quoted (new ++ more) tail input
longer input text new more tail byte e q =
    subst (λ (l : List ℕ). Quoted l tail input) (sym (ap (λ (l : List ℕ). l ++ more) e ∙ append_assoc text (byte ∷ []) more)) q

pub reading_plain : (input text rest new behind : List ℕ) (byte : ℕ) → rest ≡ byte ∷ behind → byte ≢ 34 → byte ≢ 92 → new ≡ text ++ byte ∷ []
    → Reading input text rest → Reading input new behind
reading_plain input text rest new behind byte is unquoted unescaped pushed reading = record {
  sound = λ more tail q.
      longer input text new more tail byte pushed (reading.sound (byte ∷ more) tail (plain byte (byte ∷ more) tail rest more behind is unquoted unescaped refl q));
  whole = λ said tail q.
      let here = reading.whole said tail q in
      let step = after_plain byte here.0 tail behind unquoted unescaped (subst (λ (l : List ℕ). Quoted here.0 tail l) is here.1) in
      (step.0, step.2);
}

pub reading_escape : (input text rest new inner behind : List ℕ) (byte : ℕ) → rest ≡ 92 ∷ inner → escape_at inner ≡ Some (byte, behind)
    → new ≡ text ++ byte ∷ [] → Reading input text rest → Reading input new behind
reading_escape input text rest new inner behind byte is found pushed reading = record {
  sound = λ more tail q.
      longer input text new more tail byte pushed (reading.sound (byte ∷ more) tail (escape byte (byte ∷ more) tail rest more inner behind is found refl q));
  whole = λ said tail q.
      let here = reading.whole said tail q in
      let step = after_escape byte here.0 tail inner behind found (subst (λ (l : List ℕ). Quoted here.0 tail l) is here.1) in
      (step.0, step.2);
}

empty : (rest : List ℕ) → length rest ≡ 0 → rest ≡ []
empty [] e = refl
empty (b ∷ rest) e = absurd (omega (arith, e))

pub reading_over : (input text rest : List ℕ) → length rest ≡ 0 → Reading input text rest → (said tail : List ℕ) → Quoted said tail input → ⊥
reading_over input text rest is reading said tail q =
    let here = reading.whole said tail q in
    none_in_nothing here.0 tail (subst (λ (l : List ℕ). Quoted here.0 tail l) (empty rest is) here.1)

pub reading_stuck : (input text rest inner : List ℕ) → rest ≡ 92 ∷ inner → escape_at inner ≡ None → Reading input text rest
    → (said tail : List ℕ) → Quoted said tail input → ⊥
reading_stuck input text rest inner is none reading said tail q =
    let here = reading.whole said tail q in
    bad_escape here.0 tail inner none (subst (λ (l : List ℕ). Quoted here.0 tail l) is here.1)

pub reading_ends : (input text rest behind : List ℕ) → rest ≡ 34 ∷ behind → Reading input text rest → Quoted text behind input
reading_ends input text rest behind is reading =
    subst (λ (l : List ℕ). Quoted l behind input) (append-nil text) (reading.sound [] behind (end [] behind rest is refl))

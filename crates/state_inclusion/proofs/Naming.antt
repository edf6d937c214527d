-- Values for names: where each two holders of one name are as far apart as their marks say, there are values that the
-- names name.
use Rattle.std.proofs.Common.{◌≡◌, ◌⊎◌, ⊎_elim, ℕ, ◌+◌, ◌-◌, ◌%◌, ◌^◌, ◌<◌, ◌≤◌, zero, suc, Option, Some, None, cond, nat_eq, refl, sym, ap, ◌∙◌, subst, arith}
use Rattle.std.proofs.lemmas.Bool.{cases_lt, cases_eq}
use Rattle.std.proofs.lemmas.Bool.Decides.{nat_tests}
use Rattle.bpf_words.specs.declared.instruction.Width.{Width}
use Rattle.bpf_words.specs.declared.instruction.Width.TheVariants.{Narrow, Full}
use Rattle.semantics.specs.Value.{cut}
use Rattle.value_marks.specs.declared.mark.Mark.{Mark}
use Rattle.value_marks.specs.Mark.{narrower, distance, Agrees}

-- what stands in places that bear marks: it can be told whether there is something, it is one number, and what stands
-- in two places of one name is as far apart as the marks say
pub record Places (marks : ℕ → Option Mark) (Stands : ℕ → ℕ → Type 0) (count : ℕ) : Type 0 where
  pub told : (i : ℕ) → i < count → ((n : ℕ) × Stands i n) ⊎ ((n : ℕ) → Stands i n → ⊥)
  pub one : (i m n : ℕ) → Stands i m → Stands i n → m ≡ n
  pub apart : (i j : ℕ) (m n : Mark) (x y : ℕ) → i < count → j < i → marks j ≡ Some m → marks i ≡ Some n → m.origin ≡ n.origin → Stands j x → Stands i y → cut (narrower m.width n.width) y ≡ cut (narrower m.width n.width) (x + distance (narrower m.width n.width) m n)

-- ---- a name is given a value
abbrev pub named : ℕ → ℕ → (ℕ → ℕ) → ℕ → ℕ
named name value origins o = cond (nat_eq o name) value (origins o)

named_same : (name value : ℕ) (origins : ℕ → ℕ) (o : ℕ) → o ≡ name → named name value origins o ≡ value
named_same name value origins o e = grind (arith, nat_tests)

named_other : (name value : ℕ) (origins : ℕ → ℕ) (o : ℕ) → (o ≡ name → ⊥) → named name value origins o ≡ origins o
named_other name value origins o e = grind (arith, nat_tests)

-- the value that a mark's name has where a number stands
abbrev pub value_of : Mark → ℕ → ℕ
value_of m x = x + (2 ^ 64 - m.addend % 2 ^ 64)

itself : (w : Width) (x a : ℕ) → cut w x ≡ cut w (x + (2 ^ 64 - a % 2 ^ 64) + a)
itself Full x a = omega arith
itself Narrow x a = omega arith

-- a number ahead of another, and one behind
ahead : (w : Width) (x y a b : ℕ) → cut w x ≡ cut w (y + cut w ((a + (2 ^ 64 - b % 2 ^ 64)) % 2 ^ 64)) → cut w x ≡ cut w (y + (2 ^ 64 - b % 2 ^ 64) + a)
ahead Full x y a b e = omega arith
ahead Narrow x y a b e = omega arith

behind : (w : Width) (x y a b : ℕ) → cut w y ≡ cut w (x + cut w ((b + (2 ^ 64 - a % 2 ^ 64)) % 2 ^ 64)) → cut w x ≡ cut w (y + (2 ^ 64 - b % 2 ^ 64) + a)
behind Full x y a b e = omega arith
behind Narrow x y a b e = omega arith

-- ---- widths
narrower_turned : (v w : Width) → narrower v w ≡ narrower w v
narrower_turned Full Full = refl
narrower_turned Full Narrow = refl
narrower_turned Narrow Full = refl
narrower_turned Narrow Narrow = refl

narrower_full : (w : Width) → narrower w Full ≡ w
narrower_full Full = refl
narrower_full Narrow = refl

under_full : (v w : Width) → w ≡ Full → narrower v w ≡ v
under_full v w e = ap (narrower v) e ∙ narrower_full v

under_any : (v w : Width) → v ≡ Narrow → narrower v w ≡ v
under_any v w e = ap (λ (u : Width). narrower u w) e ∙ sym e

-- ---- the value that one holder gives its name fits another holder of the name whose mark tells of no more bits
one_mark : (marks : ℕ → Option Mark) (i k : ℕ) (m n : Mark) → i ≡ k → marks i ≡ Some m → marks k ≡ Some n → m ≡ n
one_mark marks i k m n same e f = some_mark m n (sym e ∙ ap marks same ∙ f)
  where
    some_mark : (m n : Mark) → Some m ≡ Some n → m ≡ n
    some_mark m n e = cc

fits : (marks : ℕ → Option Mark) (Stands : ℕ → ℕ → Type 0) (count : ℕ) → Places marks Stands count → (h k : ℕ) (m n : Mark) (x y : ℕ) → h < count → k < count → marks h ≡ Some m → marks k ≡ Some n → m.origin ≡ n.origin → Stands h x → Stands k y → narrower m.width n.width ≡ m.width → cut m.width x ≡ cut m.width (value_of n y + m.addend)
fits marks Stands count p h k m n x y inside within e f same s t wide =
    ⊎_elim
    (λ (less : h < k).
    subst (λ (w : Width). cut w x ≡ cut w (value_of n y + m.addend)) wide
    (behind (narrower m.width n.width) x y m.addend n.addend (p.apart k h m n x y within less e f same s t)))
    (λ (most : k ≤ h).
    ⊎_elim
    (λ (less : k < h).
    subst (λ (w : Width). cut w x ≡ cut w (value_of n y + m.addend)) (narrower_turned n.width m.width ∙ wide)
    (ahead (narrower n.width m.width) x y m.addend n.addend (p.apart h k n m y x inside less f e (sym same) t s)))
    (λ (more : h ≤ k).
    let at : h ≡ k = omega arith in
    let marked = one_mark marks h k m n at e f in
    let number = p.one k x y (subst (λ (i : ℕ). Stands i x) at s) t in
    itself m.width x m.addend
    ∙ ap (λ (z : ℕ). cut m.width (z + (2 ^ 64 - m.addend % 2 ^ 64) + m.addend)) number
    ∙ ap (λ (z : Mark). cut m.width (y + (2 ^ 64 - z.addend % 2 ^ 64) + m.addend)) marked)
    (cases_lt k h))
    (cases_lt h k)

agrees_at : (origins : ℕ → ℕ) (m : Mark) (n v : ℕ) → origins m.origin ≡ v → cut m.width n ≡ cut m.width (v + m.addend) → Agrees origins m n
agrees_at origins m n v e h = h ∙ ap (λ (x : ℕ). cut m.width (x + m.addend)) (sym e)

-- so a holder agrees once another has given the name its value; one of another name agrees as before
agrees_on : (marks : ℕ → Option Mark) (Stands : ℕ → ℕ → Type 0) (count : ℕ) → Places marks Stands count → (origins : ℕ → ℕ) (h k : ℕ) (m n : Mark) (x y : ℕ) → h < count → k < count → marks h ≡ Some m → marks k ≡ Some n → Stands h x → Stands k y → narrower m.width n.width ≡ m.width → ((m.origin ≡ n.origin → ⊥) → Agrees origins m x) → Agrees (named n.origin (value_of n y) origins) m x
agrees_on marks Stands count p origins h k m n x y inside within e f s t wide before =
    ⊎_elim
    (λ (same : m.origin ≡ n.origin).
    agrees_at (named n.origin (value_of n y) origins) m x (value_of n y) (named_same n.origin (value_of n y) origins m.origin same)
    (fits marks Stands count p h k m n x y inside within e f same s t wide))
    (λ (other : m.origin ≡ n.origin → ⊥).
    agrees_at (named n.origin (value_of n y) origins) m x (origins m.origin) (named_other n.origin (value_of n y) origins m.origin other)
    (before other))
    (cases_eq m.origin n.origin)

-- ---- values that fit the first so many places whose marks are of a width
abbrev pub Fit : (ℕ → Option Mark) → (ℕ → ℕ → Type 0) → (ℕ → ℕ) → Width → ℕ → Type 0
Fit marks Stands origins w count = (i : ℕ) (m : Mark) (n : ℕ) → i < count → marks i ≡ Some m → m.width ≡ w → Stands i n → Agrees origins m n

-- they fit one more, of which nothing is asked
one_more : (marks : ℕ → Option Mark) (Stands : ℕ → ℕ → Type 0) (origins : ℕ → ℕ) (w : Width) (k : ℕ) → Fit marks Stands origins w k → ((m : Mark) (n : ℕ) → marks k ≡ Some m → m.width ≡ w → Stands k n → ⊥) → Fit marks Stands origins w (suc k)
one_more marks Stands origins w k fit none = λ i m n less e is s.
    ⊎_elim
    (λ (below : i < k). fit i m n below e is s)
    (λ (most : k ≤ i).
    let at : i ≡ k = omega arith in
    absurd (none m n (sym (ap marks at) ∙ e) is (subst (λ (j : ℕ). Stands j n) at s)))
    (cases_lt i k)

-- what they fit below, or one of the name of the place itself
before : (marks : ℕ → Option Mark) (Stands : ℕ → ℕ → Type 0) (origins : ℕ → ℕ) (w : Width) (k i : ℕ) (m n : Mark) (x : ℕ) → Fit marks Stands origins w k → marks k ≡ Some n → i < suc k → marks i ≡ Some m → m.width ≡ w → Stands i x → (m.origin ≡ n.origin → ⊥) → Agrees origins m x
before marks Stands origins w k i m n x fit f less e is s other =
    ⊎_elim
    (λ (below : i < k). fit i m x below e is s)
    (λ (most : k ≤ i).
    let at : i ≡ k = omega arith in
    absurd (other (ap (λ (z : Mark). z.origin) (one_mark marks i k m n at e f))))
    (cases_lt i k)

some_none : {A : Type 0} (o : Option A) (a : A) → o ≡ Some a → o ≡ None → ⊥
some_none o a e f = cc

narrow_full : (w : Width) → w ≡ Narrow → w ≡ Full → ⊥
narrow_full w e f = cc

full_narrow : (w : Width) → w ≡ Full → w ≡ Narrow → ⊥
full_narrow w e f = cc

one_width : (marks : ℕ → Option Mark) (k : ℕ) (m n : Mark) (w : Width) → marks k ≡ Some m → marks k ≡ Some n → m.width ≡ w → n.width ≡ w
one_width marks k m n w e f is = ap (λ (z : Mark). z.width) (sym (one_mark marks k k m n refl e f)) ∙ is

-- ---- first the marks of 32 bits
abbrev NarrowFit : (ℕ → Option Mark) → (ℕ → ℕ → Type 0) → ℕ → Type 0
NarrowFit marks Stands k = (origins : ℕ → ℕ) × Fit marks Stands origins Narrow k

narrow_place : (marks : ℕ → Option Mark) (Stands : ℕ → ℕ → Type 0) (count : ℕ) → Places marks Stands count → (k : ℕ) → k < count → NarrowFit marks Stands k → (o : Option Mark) → marks k ≡ o → NarrowFit marks Stands (suc k)
narrow_place marks Stands count p k within (origins, fit) None f = (origins, one_more marks Stands origins Narrow k fit (λ m n e is s. some_none (marks k) m e f))
narrow_place marks Stands count p k within (origins, fit) (Some n) f = of_width n.width refl
  where
    of_width : (w : Width) → n.width ≡ w → NarrowFit marks Stands (suc k)
    of_width Full wide = (origins, one_more marks Stands origins Narrow k fit (λ m x e is s. narrow_full n.width (one_width marks k m n Narrow e f is) wide))
    of_width Narrow wide =
        ⊎_elim
        (λ (here : (y : ℕ) × Stands k y). (
          named n.origin (value_of n here.0) origins,
          λ i m x less e is s.
              agrees_on marks Stands count p origins i k m n x here.0 (omega arith) within e f s here.1 (under_any m.width n.width is)
              (before marks Stands origins Narrow k i m n x fit f less e is s),
        ))
        (λ (none : (y : ℕ) → Stands k y → ⊥). (origins, one_more marks Stands origins Narrow k fit (λ m x e is s. none x s)))
        (p.told k within)

narrow_all : (marks : ℕ → Option Mark) (Stands : ℕ → ℕ → Type 0) (count : ℕ) → Places marks Stands count → (k : ℕ) → k ≤ count → NarrowFit marks Stands k
narrow_all marks Stands count p zero h = (λ o. 0, λ i m n less e is s. absurd (omega arith))
narrow_all marks Stands count p (suc k) h = narrow_place marks Stands count p k (omega arith) (narrow_all marks Stands count p k (omega arith)) (marks k) refl

-- ---- then those of 64, which fit the others too
abbrev FullFit : (ℕ → Option Mark) → (ℕ → ℕ → Type 0) → ℕ → ℕ → Type 0
FullFit marks Stands count k = (origins : ℕ → ℕ) × Fit marks Stands origins Narrow count × Fit marks Stands origins Full k

full_place : (marks : ℕ → Option Mark) (Stands : ℕ → ℕ → Type 0) (count : ℕ) → Places marks Stands count → (k : ℕ) → k < count → FullFit marks Stands count k → (o : Option Mark) → marks k ≡ o → FullFit marks Stands count (suc k)
full_place marks Stands count p k within (origins, narrow, fit) None f = (origins, narrow, one_more marks Stands origins Full k fit (λ m n e is s. some_none (marks k) m e f))
full_place marks Stands count p k within (origins, narrow, fit) (Some n) f = of_width n.width refl
  where
    of_width : (w : Width) → n.width ≡ w → FullFit marks Stands count (suc k)
    of_width Narrow wide = (origins, narrow, one_more marks Stands origins Full k fit (λ m x e is s. full_narrow n.width (one_width marks k m n Full e f is) wide))
    of_width Full wide =
        ⊎_elim
        (λ (here : (y : ℕ) × Stands k y). (
          named n.origin (value_of n here.0) origins,
          λ i m x less e is s.
              agrees_on marks Stands count p origins i k m n x here.0 less within e f s here.1 (under_full m.width n.width wide)
              (λ other. narrow i m x less e is s),
          λ i m x less e is s.
              agrees_on marks Stands count p origins i k m n x here.0 (omega arith) within e f s here.1 (under_full m.width n.width wide)
              (before marks Stands origins Full k i m n x fit f less e is s),
        ))
        (λ (none : (y : ℕ) → Stands k y → ⊥). (origins, narrow, one_more marks Stands origins Full k fit (λ m x e is s. none x s)))
        (p.told k within)

full_all : (marks : ℕ → Option Mark) (Stands : ℕ → ℕ → Type 0) (count : ℕ) → Places marks Stands count → (k : ℕ) → k ≤ count → FullFit marks Stands count k
full_all marks Stands count p zero h =
    let narrow = narrow_all marks Stands count p count (omega arith) in
    (narrow.0, narrow.1, λ i m n less e is s. absurd (omega arith))
full_all marks Stands count p (suc k) h = full_place marks Stands count p k (omega arith) (full_all marks Stands count p k (omega arith)) (marks k) refl

-- ---- so there are values with which each holder agrees
pub names_have_values : (marks : ℕ → Option Mark) (Stands : ℕ → ℕ → Type 0) (count : ℕ) → Places marks Stands count → (origins : ℕ → ℕ) × ((i : ℕ) (m : Mark) (n : ℕ) → i < count → marks i ≡ Some m → Stands i n → Agrees origins m n)
names_have_values marks Stands count p =
    let all = full_all marks Stands count p count (omega arith) in
    (all.0, λ i m n less e s. of_width all.0 all.1 all.2 i m n less e s m.width refl)
  where
    of_width : (origins : ℕ → ℕ) → Fit marks Stands origins Narrow count → Fit marks Stands origins Full count → (i : ℕ) (m : Mark) (n : ℕ) → i < count → marks i ≡ Some m → Stands i n → (w : Width) → m.width ≡ w → Agrees origins m n
    of_width origins narrow full i m n less e s Narrow is = narrow i m n less e is s
    of_width origins narrow full i m n less e s Full is = full i m n less e is s

-- What terms weigh in the machine, by what is known of them.
use Rattle.std.proofs.Common.{◌≡◌, ◌↔◌, ℕ, zero, suc, ℤ, pos, ◌+◌, ◌<◌, ◌≤◌, ◌+ℤ◌, ◌-ℤ◌, ◌*ℤ◌, ◌≤ℤ◌, List, [], ◌∷◌, ◌++◌, length, get_or, set, take, map, Bool, true, false, cond, Option, Some, None, option_map, refl, sym, ap, subst, ◌∙◌, arith}
use Rattle.std.proofs.lemmas.Int.{ints}
use Rattle.std.proofs.lemmas.List.{map-append, take_more, take_more_set}
use Rattle.std.specs.Ordering.{int_eq}
use Rattle.std.proofs.lemmas.Bool.Decides.{Decides-int_eq}
use Rattle.potentials.specs.Least.{least_of}
use Rattle.potentials.proofs.Sound.{sound}
use Rattle.semantics.specs.State.{State}
use Rattle.potentials.specs.declared.Form.{Form}
use Rattle.potentials.specs.declared.Weighed.{Weighed}
use Rattle.potentials.specs.Values as values
use Rattle.potentials.specs.Values.{AreLengths, AreOf, IsAtLeast}
use Rattle.loop_labels.specs.Potential.{potential_at}
use Rattle.abstract_state.specs.declared.quantity.Quantity.{Quantity}
use Rattle.abstract_state.specs.declared.state.AbsState.{AbsState}
use Rattle.abstract_state.specs.Lent.{Lengths, HasTail}
use Rattle.abstract_state.specs.State.{Span, lengths_of, Contains}
use Rattle.label_potentials.specs.declared.potential.Term.{Term}
use Rattle.label_potentials.specs.declared.potential.Potential.{Potential}
use Rattle.label_potentials.specs.Views.{potential_of, weight_at, weights_at, form_at}
use Rattle.label_potentials.specs.Counts.{counted_in, Counts}
use Rattle.label_potentials.specs.Weights.{weighed_as, no_weight, weighed_in, Weighs, form_of, IsPositive}
use Rattle.label_potentials.proofs.Sums.{no_weight_at, zero_weight, left_is}
use Rattle.label_potentials.proofs.Held.{IsWhole, counted_sound}

unfoldable pub WeighEach : AbsState → List Term → List Weighed → Type 0
WeighEach a [] [] = Unit {0}
WeighEach a [] (one ∷ more) = ⊥
WeighEach a (term ∷ rest) [] = ⊥
WeighEach a (term ∷ rest) (one ∷ more) = Weighs a term one × WeighEach a rest more

-- ---- with a weight
tail_is : (o : Option ℕ) (long x : ℕ) → HasTail o long x → values.HasTail o long x
tail_is None long x h = tt
tail_is (Some t) long x h = h t refl

pub weighs : (a : AbsState) (term : Term) (q : Quantity) → Counts a term.holder term.base q
    → Weighs a term (weighed_as term.weight q)
weighs a term q counts lengths s c =
    let n = counts lengths s c in (
      n.0,
      record {
        low = n.2.range.low;
        high = n.2.range.high;
        tail = tail_is q.tails.text lengths.text n.0 n.2.tails.text;
        link_tail = tail_is q.tails.link lengths.link n.0 n.2.tails.link;
      },
      ap (λ z. term.weight *ℤ z) (sym n.1),
    )

pub weighs_nothing : (a : AbsState) (term : Term) → term.weight ≡ pos 0 → Weighs a term no_weight
weighs_nothing a term none lengths s c = (
  0,
  record { low = omega arith; high = omega arith; tail = tt; link_tail = tt },
  sym (no_weight_at s term none),
)

pub weighed_sound : (a : AbsState) (term : Term) (weighed : Weighed) → IsWhole a → weighed_in a term ≡ Some weighed
    → Weighs a term weighed
weighed_sound a term weighed whole e = by_weight (int_eq term.weight (pos 0)) refl e
  where
    by_count : (o : Option Quantity) → counted_in a term.holder term.base ≡ o
        → option_map (weighed_as term.weight) o ≡ Some weighed → Weighs a term weighed
    by_count None is f = absurd (cc)
    by_count (Some q) is f =
        let same : weighed_as term.weight q ≡ weighed = cc in
        subst (λ (w : Weighed). Weighs a term w) same
        (weighs a term q (counted_sound a term.holder term.base q whole is))

    by_weight : (b : Bool) → int_eq term.weight (pos 0) ≡ b
        → cond b (Some no_weight) (option_map (weighed_as term.weight) (counted_in a term.holder term.base)) ≡ Some weighed
        → Weighs a term weighed
    by_weight true none f =
        let same : no_weight ≡ weighed = cc in
        subst (λ (w : Weighed). Weighs a term w) same (weighs_nothing a term (zero_weight term.weight none))
    by_weight false some f = by_count (counted_in a term.holder term.base) refl f

-- by the weight
is_zero : (z : ℤ) → z ≡ pos 0 → int_eq z (pos 0) ≡ true
is_zero z e = grind (arith, Decides-int_eq)

is_other : (z : ℤ) → (z ≡ pos 0 → ⊥) → int_eq z (pos 0) ≡ false
is_other z other = grind (arith, Decides-int_eq)

abbrev by_test : AbsState → Term → Bool → Option Weighed
by_test a term b =
    cond b (Some no_weight) (option_map (weighed_as term.weight) (counted_in a term.holder term.base))

pub weighed_zero : (a : AbsState) (term : Term) → term.weight ≡ pos 0 → weighed_in a term ≡ Some no_weight
weighed_zero a term none = ap (by_test a term) (is_zero term.weight none)

pub weighed_other : (a : AbsState) (term : Term) → (term.weight ≡ pos 0 → ⊥)
    → weighed_in a term ≡ option_map (weighed_as term.weight) (counted_in a term.holder term.base)
weighed_other a term other = ap (by_test a term) (is_other term.weight other)

-- ---- each term
each_sound : (a : AbsState) (terms : List Term) (weighed : List Weighed) → IsWhole a
    → map (weighed_in a) terms ≡ map Some weighed → WeighEach a terms weighed
unfolding WeighEach
each_sound a [] [] whole e = tt
each_sound a [] (w ∷ more) whole e = absurd (cc)
each_sound a (t ∷ rest) [] whole e = absurd (cc)
each_sound a (t ∷ rest) (w ∷ more) whole e =
    let first : weighed_in a t ≡ Some w = cc in
    let others : map (weighed_in a) rest ≡ map Some more = cc in
    (weighed_sound a t w whole first, each_sound a rest more whole others)

pub values_of : (a : AbsState) (lengths : Lengths) (s : State) (terms : List Term) (weighed : List Weighed)
    → WeighEach a terms weighed → Contains a lengths s
    → (xs : List ℕ) × AreOf weighed lengths.text lengths.link xs
    × (values.all_weighed weighed xs ≡ weights_at s terms)
unfolding WeighEach AreOf values.all_weighed weights_at
values_of a lengths s [] [] each c = ([], tt, refl)
values_of a lengths s [] (w ∷ more) each c = absurd each
values_of a lengths s (t ∷ rest) [] each c = absurd each
values_of a lengths s (t ∷ rest) (w ∷ more) each c =
    let x = each.0 lengths s c in
    let xs = values_of a lengths s rest more each.1 c in (
      x.0 ∷ xs.0,
      (x.1, xs.1),
      ap (λ z. z +ℤ values.all_weighed more xs.0) x.2 ∙ ap (λ z. weight_at s t +ℤ z) xs.2,
    )

-- ---- the potential
raised : (a b c : ℤ) → a ≤ℤ b → b ≤ℤ c → a ≤ℤ c
raised a b c h i = omega (arith, ints)

at_least_one : (a : AbsState) (p : Potential) (weighed : List Weighed) (span : Span) (s : State)
    → WeighEach a p.less weighed → IsAtLeast (form_of p) weighed a.bounds.text a.bounds.link (pos 1)
    → Contains a (lengths_of span) s → pos 1 ≤ℤ potential_at span.bytes s (potential_of p)
at_least_one a p weighed span s each least c =
    let lengths : Lengths = lengths_of span in
    let xs = values_of a lengths s p.less weighed each c in
    let are : AreLengths a.bounds.text a.bounds.link lengths.text lengths.link = record {
      text_long = c.bounds.text;
      text_short = lengths.short;
      link_long = c.bounds.link;
      link_short = lengths.link_short;
    } in
    subst (λ z. pos 1 ≤ℤ z) (sym (left_is span.bytes s p))
    (subst (λ z. pos 1 ≤ℤ (form_at span.bytes p -ℤ z)) xs.2 (least lengths.text lengths.link xs.0 are xs.1))

pub positive_sound : (a : AbsState) (p : Potential) → IsWhole a → IsPositive a p → (span : Span) (s : State)
    → Contains a (lengths_of span) s → pos 1 ≤ℤ potential_at span.bytes s (potential_of p)
positive_sound a p whole is span s c =
    at_least_one a p is.weighed span s (each_sound a p.less is.weighed whole is.known)
    (λ text link xs lengths of. raised (pos 1) _ _ is.enough
    (sound (form_of p) is.weighed a.bounds.text a.bounds.link text link xs lengths of)) c

-- ---- what is known of each
pub known_more : (A B : Type 0) (f : A → Option B) (xs : List A) (ys : List B) (x : A) (y : B)
    → map f xs ≡ map Some ys → f x ≡ Some y → map f (xs ++ x ∷ []) ≡ map Some (ys ++ y ∷ [])
known_more A B f xs ys x y e one =
    map-append f xs (x ∷ [])
    ∙ ap (λ l. l ++ f x ∷ []) e
    ∙ ap (λ o. map Some ys ++ o ∷ []) one
    ∙ sym (map-append (λ (b : B). Some b) ys (y ∷ []))

pub known_next : (A B : Type 0) (f : A → Option B) (xs : List A) (ys : List B) (i : ℕ) (d : A) (y : B) → i < length xs
    → i < length ys → map f (take i xs) ≡ map Some (take i ys) → f (get_or xs i d) ≡ Some y
    → map f (take (i + 1) xs) ≡ map Some (take (i + 1) (set ys i y))
known_next A B f xs ys i d y inside room e one =
    ap (map f) (take_more xs i d inside)
    ∙ known_more A B f (take i xs) (take i ys) (get_or xs i d) y e one
    ∙ sym (ap (map (λ (b : B). Some b)) (take_more_set ys i y room))

-- what the first terms weigh is known
pub record AreKnown (a : AbsState) (terms : List Term) (n : ℕ) (weighed : List Weighed) : Type 0 where
  pub long : length weighed ≡ 8
  pub known : map (weighed_in a) (take n terms) ≡ map Some (take n weighed)

pub none_unknown : (A B : Type 0) (f : A → Option B) (xs : List A) (ys : List B) (i : ℕ) (d : A) → i < length xs
    → map f xs ≡ map Some ys → f (get_or xs i d) ≡ None → ⊥
none_unknown A B f [] ys i d h e none = absurd (omega arith)
none_unknown A B f (x ∷ xs) [] i d h e none = absurd (cc)
none_unknown A B f (x ∷ xs) (y ∷ ys) zero d h e none = let one : f x ≡ Some y = cc in absurd (cc)
none_unknown A B f (x ∷ xs) (y ∷ ys) (suc i) d h e none =
    let rest : map f xs ≡ map Some ys = cc in none_unknown A B f xs ys i d (omega arith) rest none

pub one_knowledge : (B : Type 0) (xs ys : List B) → map Some xs ≡ map Some ys → xs ≡ ys
one_knowledge B [] [] e = refl
one_knowledge B [] (y ∷ ys) e = absurd (cc)
one_knowledge B (x ∷ xs) [] e = absurd (cc)
one_knowledge B (x ∷ xs) (y ∷ ys) e =
    let first : x ≡ y = cc in
    let rest : map Some xs ≡ map Some ys = cc in
    ap (λ z. z ∷ xs) first ∙ ap (λ l. y ∷ l) (one_knowledge B xs ys rest)

-- ---- whether it is positive, by what is known of each
abbrev pub form_from : ℤ → ℤ → ℤ → Form
form_from constant per_byte per_link_byte =
    record { constant = constant; per_byte = per_byte; per_link_byte = per_link_byte }

pub form_is : (p : Potential) (constant per_byte per_link_byte : ℤ) → constant ≡ p.constant → per_byte ≡ p.per_byte
    → per_link_byte ≡ p.per_link_byte → form_from constant per_byte per_link_byte ≡ form_of p
form_is p constant per_byte per_link_byte e f g =
    ap (λ z. form_from z per_byte per_link_byte) e
    ∙ ap (λ z. form_from p.constant z per_link_byte) f
    ∙ ap (λ z. form_from p.constant p.per_byte z) g

pub positive_by : (a : AbsState) (p : Potential) (weighed : List Weighed) (Yes : Type 0)
    → map (weighed_in a) p.less ≡ map Some weighed
    → (Yes ↔ (pos 1 ≤ℤ least_of (form_of p) weighed a.bounds.text a.bounds.link)) → Yes ↔ IsPositive a p
positive_by a p weighed Yes known is = (
  λ (yes : Yes). record { weighed = weighed; known = known; enough = is.0 yes },
  λ (q : IsPositive a p). is.1 (subst
      (λ (l : List Weighed). pos 1 ≤ℤ least_of (form_of p) l a.bounds.text a.bounds.link)
      (one_knowledge Weighed q.weighed weighed (sym q.known ∙ known)) q.enough),
)

pub not_positive : (a : AbsState) (p : Potential)
    → ((weighed : List Weighed) → map (weighed_in a) p.less ≡ map Some weighed → ⊥) → IsPositive a p → ⊥
not_positive a p unknown q = unknown q.weighed q.known

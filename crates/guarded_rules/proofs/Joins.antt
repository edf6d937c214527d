-- Where ways join, each fact that holds on both still holds.
use Rattle.std.proofs.Common.{◌≡◌, ℕ, zero, suc, ◌%◌, ◌/◌, ◌<◌, nat_eq, ◌&&◌, Bool, true, false, Option, Some, None, List, refl, sym, ap, ◌∙◌, subst, arith}
use Rattle.std.specs.Prelude.{option_map}
use Rattle.std.specs.Option.{option_map_or}
use Rattle.std.proofs.lemmas.Bool.Decides.{nat_tests}
use Rattle.intervals.specs.Interval.{hull_of}
use Rattle.abstract_state.specs.declared.region.Region.{Region}
use Rattle.abstract_state.specs.declared.region.Region.TheVariants.{Text, Link}
use Rattle.abstract_state.specs.declared.region.Tails.{Tails}
use Rattle.abstract_state.specs.Lent.{tail_of}
use Rattle.abstract_state.specs.Estimate.{Estimate, joined, both_tails, lesser_tail, greater_tail}
use Rattle.abstract_state.specs.Addresses.{Content, ANumber, InContext, InStack, InRegion, either, either_estimate, if_same}
use Rattle.abstract_state.specs.Stacks.{Eight, Marked, Whole, mark, marks_of, marks_by, none_set, both_set, either_eight, whole_in, is_set}
use Rattle.abstract_state.specs.Situation.{Situation, Least, least_at, tail_within, with_tail, bounded_offset, bounded, bounded_eight, bounded_all, either_register, either_situation}
use Rattle.guarded_rules.specs.Facts.{Register, Slot, Kind, Number, AddressIn, Property, Any, AtLeast, AtMost, Behind, Value, Of, ContextAt, StackAt, Fact, Holds, Long, Stored}
use Rattle.guarded_rules.specs.Says.{of_kind, HasTail, HasProperty, Says, SaysIn, Has, Entails}
use Rattle.guarded_rules.proofs.Bounds.{join_keeps}
use Rattle.guarded_rules.proofs.Kept.{seen, says_kept, unwrap_says, none_has}

-- ---- numbers
tail_joins : (n : ℕ) (t u : Option ℕ) → HasTail n t → HasTail n u → HasTail n (lesser_tail t u)
tail_joins n None u h j = absurd h
tail_joins n (Some t) None h j = absurd j
tail_joins n (Some t) (Some u) h j = omega (arith, h, j)

tails_join : (r : Region) (n : ℕ) (t u : Tails) → HasTail n (tail_of t r) → HasTail n (tail_of u r) → HasTail n (tail_of (both_tails lesser_tail t u) r)
tails_join Text n t u h j = tail_joins n t.text u.text h j
tails_join Link n t u h j = tail_joins n t.link u.link h j

property_joins : (p : Property) (x y : Estimate) → HasProperty p x → HasProperty p y → HasProperty p (seen (hull_of x.range y.range) (both_tails lesser_tail x.tails y.tails))
unfolding hull_of
property_joins Any x y h j = tt
property_joins (AtLeast n) x y h j = omega (arith, h, j)
property_joins (AtMost n) x y h j = omega (arith, h, j)
property_joins (Behind r n) x y h j = tails_join r n x.tails y.tails h j

says_joined : (k : Kind) (p : Property) (x y : Estimate) → Says k p x → Says k p y → SaysIn k p (joined x y)
unfolding hull_of
says_joined k p x y h j =
    says_kept k p (hull_of x.range y.range) (both_tails lesser_tail x.tails y.tails) (joined x y) (omega (arith, h.word, j.word)) (join_keeps x y)
    (property_joins p x y h.has j.has)

either_says : (k : Kind) (p : Property) (x y : Estimate) → Says k p x → Says k p y → Says k p (either_estimate x y)
either_says k p x y h j = unwrap_says k p (joined x y) x (says_joined k p x y h j) h

-- ---- what places hold
either_kind : (k : Kind) (x y : Estimate) → either (of_kind k x) (of_kind k y) ≡ Some (of_kind k (either_estimate x y))
unfolding either
either_kind Number x y = refl
either_kind (AddressIn Text) x y = refl
either_kind (AddressIn Link) x y = refl

same_there : (n : ℕ) (x : Content) → if_same n n x ≡ Some x
same_there n x = let yes : nat_eq n n ≡ true = grind (arith, nat_tests) in rw yes refl

same_context : (n : ℕ) → either (InContext n) (InContext n) ≡ Some (InContext n)
unfolding either
same_context n = same_there n (InContext n)

same_stack : (n : ℕ) → either (InStack n) (InStack n) ≡ Some (InStack n)
unfolding either
same_stack n = same_there n (InStack n)

both_are : (a b : Option Content) (x y z : Content) → a ≡ Some x → b ≡ Some y → either x y ≡ Some z → either_register a b ≡ Some z
both_are a b x y z is was made = ap (λ (o : Option Content). either_register o b) is ∙ ap (λ (o : Option Content). either_register (Some x) o) was ∙ made

pub register_joins : (v : Value) (a b : Option Content) → Has v a → Has v b → Has v (either_register a b)
register_joins (Of k p) a b h j = record {
  estimate = either_estimate h.estimate j.estimate;
  is = both_are a b (of_kind k h.estimate) (of_kind k j.estimate) (of_kind k (either_estimate h.estimate j.estimate)) h.is j.is (either_kind k h.estimate j.estimate);
  says = either_says k p h.estimate j.estimate h.says j.says;
}
register_joins (ContextAt n) a b h j = both_are a b (InContext n) (InContext n) (InContext n) h j (same_context n)
register_joins (StackAt n) a b h j = both_are a b (InStack n) (InStack n) (InStack n) h j (same_stack n)

-- ---- the stack
whole_of : (o : Option Content) → whole_in (option_map_or Whole o (Marked none_set)) ≡ o
whole_of None = refl
whole_of (Some x) = refl

whole_joins : (v : Value) (a b : Eight) → Has v (whole_in a) → Has v (whole_in b) → Has v (whole_in (either_eight a b))
unfolding either_eight
whole_joins v (Marked m) b h j = absurd (none_has v h)
whole_joins v (Whole x) (Marked m) h j = absurd (none_has v j)
whole_joins v (Whole x) (Whole y) h j = subst (λ (o : Option Content). Has v o) (sym (whole_of (either x y))) (register_joins v (Some x) (Some y) h j)

pub mark_by : (f : ℕ → Bool) (j : ℕ) → j < 8 → mark (marks_by f) j ≡ f j
mark_by f zero h = refl
mark_by f (suc zero) h = refl
mark_by f (suc (suc zero)) h = refl
mark_by f (suc (suc (suc zero))) h = refl
mark_by f (suc (suc (suc (suc zero)))) h = refl
mark_by f (suc (suc (suc (suc (suc zero))))) h = refl
mark_by f (suc (suc (suc (suc (suc (suc zero)))))) h = refl
mark_by f (suc (suc (suc (suc (suc (suc (suc zero))))))) h = refl
mark_by f (suc (suc (suc (suc (suc (suc (suc (suc j)))))))) h = absurd (omega (arith, h))

and_true : (a b : Bool) → a ≡ true → b ≡ true → (a && b) ≡ true
and_true a b h j = cc

set_in_both : (a b : List Bool) (j : ℕ) → j < 8 → mark a j ≡ true → mark b j ≡ true → mark (both_set a b) j ≡ true
unfolding both_set
set_in_both a b j few h k = mark_by (λ i. mark a i && mark b i) j few ∙ and_true (mark a j) (mark b j) h k

never_set : (j : ℕ) → j < 8 → mark none_set j ≡ true → ⊥
never_set j few h = let no : mark none_set j ≡ false = mark_by (λ i. false) j few in absurd (cc)

-- a whole slot whose bytes are set holds a number
abbrev IsNumber : Content → Type 0
IsNumber (ANumber a) = Unit {0}
IsNumber (InContext n) = ⊥
IsNumber (InStack n) = ⊥
IsNumber (InRegion r a) = ⊥

number_set : (x : Content) (j : ℕ) → j < 8 → mark (marks_of (Whole x)) j ≡ true → IsNumber x
unfolding marks_of
number_set (ANumber a) j few h = tt
number_set (InContext n) j few h = never_set j few h
number_set (InStack n) j few h = never_set j few h
number_set (InRegion r a) j few h = never_set j few h

numbers_set : (x y : Content) (j : ℕ) → j < 8 → IsNumber x → IsNumber y → mark (marks_of (either_eight (Whole x) (Whole y))) j ≡ true
unfolding either_eight either marks_of
numbers_set (ANumber a) (ANumber b) j few h k = mark_by (λ i. true) j few
numbers_set (ANumber a) (InContext n) j few h k = absurd k
numbers_set (ANumber a) (InStack n) j few h k = absurd k
numbers_set (ANumber a) (InRegion r b) j few h k = absurd k
numbers_set (InContext n) y j few h k = absurd h
numbers_set (InStack n) y j few h k = absurd h
numbers_set (InRegion r a) y j few h k = absurd h

pub byte_joins : (a b : Eight) (j : ℕ) → j < 8 → mark (marks_of a) j ≡ true → mark (marks_of b) j ≡ true → mark (marks_of (either_eight a b)) j ≡ true
unfolding either_eight marks_of
byte_joins (Whole x) (Whole y) j few h k = numbers_set x y j few (number_set x j few h) (number_set y j few k)
byte_joins (Whole x) (Marked n) j few h k = set_in_both (marks_of (Whole x)) n j few h k
byte_joins (Marked m) (Whole y) j few h k = set_in_both m (marks_of (Whole y)) j few h k
byte_joins (Marked m) (Marked n) j few h k = set_in_both m n j few h k

-- ---- tails by how long the regions are only add to what is known
tail_kept : (n : ℕ) (t u : Option ℕ) → HasTail n t → HasTail n (greater_tail t u)
tail_kept n None u h = absurd h
tail_kept n (Some t) None h = h
tail_kept n (Some t) (Some u) h = omega (arith, h)

with_tail_kept : (r region : Region) (n : ℕ) (u : Option ℕ) (tails : Tails) → HasTail n (tail_of tails r) → HasTail n (tail_of (with_tail region u tails) r)
with_tail_kept Text Text n u tails h = tail_kept n tails.text u h
with_tail_kept Text Link n u tails h = h
with_tail_kept Link Text n u tails h = h
with_tail_kept Link Link n u tails h = tail_kept n tails.link u h

bounded_property : (p : Property) (region : Region) (least : ℕ) (a : Estimate) → HasProperty p a → HasProperty p (bounded_offset region least a)
bounded_property Any region least a h = tt
bounded_property (AtLeast n) region least a h = h
bounded_property (AtMost n) region least a h = h
bounded_property (Behind r n) region least a h = with_tail_kept r region n (tail_within least a.range.high) a.tails h

pub bounded_has : (least : Least) (v : Value) (o : Option Content) → Has v o → Has v (option_map (bounded least) o)
bounded_has least (Of Number p) o h = record { estimate = h.estimate; is = ap (λ (c : Option Content). option_map (bounded least) c) h.is; says = h.says }
bounded_has least (Of (AddressIn r) p) o h = record {
  estimate = bounded_offset r (least_at least r) h.estimate;
  is = ap (λ (c : Option Content). option_map (bounded least) c) h.is;
  says = record { proper = h.says.proper; word = h.says.word; has = bounded_property p r (least_at least r) h.estimate h.says.has };
}
bounded_has least (ContextAt n) o h = ap (λ (c : Option Content). option_map (bounded least) c) h
bounded_has least (StackAt n) o h = ap (λ (c : Option Content). option_map (bounded least) c) h

bounded_whole : (least : Least) (e : Eight) → option_map (bounded least) (whole_in e) ≡ whole_in (bounded_eight least e)
bounded_whole least (Marked m) = refl
bounded_whole least (Whole x) = refl

bounded_marks : (least : Least) (e : Eight) → marks_of e ≡ marks_of (bounded_eight least e)
unfolding marks_of
bounded_marks least (Marked m) = refl
bounded_marks least (Whole (ANumber a)) = refl
bounded_marks least (Whole (InContext n)) = refl
bounded_marks least (Whole (InStack n)) = refl
bounded_marks least (Whole (InRegion r a)) = refl

-- ---- situations
eighth_few : (at : ℕ) → at % 8 < 8
eighth_few at = omega arith

pub bounded_entails : (f : Fact) (s : Situation) → Entails s f → Entails (bounded_all s) f
unfolding is_set
bounded_entails (Holds (Register r) v) s h = bounded_has s.least v (s.registers r) h
bounded_entails (Holds (Slot i) v) s h = subst (λ (o : Option Content). Has v o) (bounded_whole s.least (s.slots i)) (bounded_has s.least v (whole_in (s.slots i)) h)
bounded_entails (Long region n) s h = h
bounded_entails (Stored at) s h = subst (λ (m : List Bool). mark m (at % 8) ≡ true) (bounded_marks s.least (s.slots (at / 8))) h

pub situation_joins : (f : Fact) (a b : Situation) → Entails a f → Entails b f → Entails (either_situation a b) f
unfolding is_set
situation_joins (Holds (Register r) v) a b h j = register_joins v (a.registers r) (b.registers r) h j
situation_joins (Holds (Slot i) v) a b h j = whole_joins v (a.slots i) (b.slots i) h j
situation_joins (Long Text n) a b h j = omega (arith, h, j)
situation_joins (Long Link n) a b h j = omega (arith, h, j)
situation_joins (Stored at) a b h j = byte_joins (a.slots (at / 8)) (b.slots (at / 8)) (at % 8) (eighth_few at) h j

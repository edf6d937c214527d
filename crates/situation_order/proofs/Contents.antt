-- Of what an operation makes of contents context 3 knows no less than context 2, and it refuses no more.
use Rattle.std.proofs.Common.{◌≡◌, ℕ, ◌+◌, ◌-◌, ◌%◌, ◌^◌, ◌<◌, ◌≤◌, nat_le, true, false, Option, Some, None, Ok, refl, sym, subst, ap, ◌∙◌, arith, ⊎_elim}
use Rattle.std.specs.Prelude.{option_map}
use Rattle.std.proofs.lemmas.Bool.Decides.{nat_tests}
use Rattle.span_context.specs.declared.profile.Profile.TheVariants.{Two, Three}
use Rattle.bpf_words.specs.declared.instruction.Arithmetic.{Arithmetic}
use Rattle.bpf_words.specs.declared.instruction.Arithmetic.TheVariants as is
use Rattle.bpf_words.specs.declared.instruction.Width.{Width}
use Rattle.bpf_words.specs.declared.instruction.Width.TheVariants.{Narrow, Full}
use Rattle.abstract_state.specs.declared.region.Region.{Region}
use Rattle.abstract_state.specs.Estimate.{Estimate, only, normal_cut}
use Rattle.abstract_state.specs.Transfer.{added, taken_away, transferred}
use Rattle.abstract_state.specs.Addresses.{Content, ANumber, InContext, InStack, InRegion, answer_of, displaced, staying, from_context, from_stack, near, from_region, onto_region, between, computed, moved}
use Rattle.estimate_order.specs.Order.{IsWithin, IsBelow}
use Rattle.estimate_order.proofs.Cut.{cut_within}
use Rattle.estimate_order.proofs.Inside.{IsNumberIn}
use Rattle.estimate_order.proofs.Sums.{IsOne, single, several, one_or, one_kept, cases_le}
use Rattle.estimate_order.proofs.Added.{cut_number, added_within, taken_within}
use Rattle.estimate_order.proofs.Table.{full_fits, transferred_within}
use Rattle.estimate_order.proofs.Results.{added_number, taken_number, transferred_number}
use Rattle.situation_order.specs.Order.{AreOrdered, IsContentWithin, IsAnswerWithin}

-- ---- contents of one kind
pub data Alike : Content → Content → Type 0 where
  numbers : (a b : Estimate) → AreOrdered a b → Alike (ANumber a) (ANumber b)
  contexts : (p q : ℕ) → p ≡ q → Alike (InContext p) (InContext q)
  stacks : (p q : ℕ) → p ≡ q → Alike (InStack p) (InStack q)
  regions : (r s : Region) (a b : Estimate) → r ≡ s → AreOrdered a b → Alike (InRegion r a) (InRegion s b)

pub alike : (a x : Content) → IsContentWithin a x → Alike a x
alike (ANumber a) (ANumber b) h = numbers a b h
alike (InContext p) (InContext q) h = contexts p q h
alike (InStack p) (InStack q) h = stacks p q h
alike (InRegion r a) (InRegion s b) h = regions r s a b h.0 h.1
alike (ANumber a) (InContext q) h = absurd h
alike (ANumber a) (InStack q) h = absurd h
alike (ANumber a) (InRegion s b) h = absurd h
alike (InContext p) (ANumber b) h = absurd h
alike (InContext p) (InStack q) h = absurd h
alike (InContext p) (InRegion s b) h = absurd h
alike (InStack p) (ANumber b) h = absurd h
alike (InStack p) (InContext q) h = absurd h
alike (InStack p) (InRegion s b) h = absurd h
alike (InRegion r a) (ANumber b) h = absurd h
alike (InRegion r a) (InContext q) h = absurd h
alike (InRegion r a) (InStack q) h = absurd h

-- ---- answers
ordered_in : (o p : Option Estimate) → IsNumberIn o → IsNumberIn p → IsBelow IsWithin o p → IsBelow AreOrdered o p
ordered_in None p on pn below = tt
ordered_in (Some a) None on pn below = absurd below
ordered_in (Some a) (Some b) on pn below = record { first = on; second = pn; within = below }

number_answer : (o p : Option Estimate) → IsBelow AreOrdered o p → IsAnswerWithin IsContentWithin (Ok (option_map ANumber o)) (Ok (option_map ANumber p))
number_answer None p below = tt
number_answer (Some a) None below = absurd below
number_answer (Some a) (Some b) below = below

near_some : (r : Region) (o : Option Estimate) (b : Estimate) → IsBelow AreOrdered o (Some b) → IsAnswerWithin IsContentWithin (near r o) (near r (Some b))
unfolding near
near_some r None b below =
    ⊎_elim
    (λ (there : b.range.high ≤ 1048576). let yes : nat_le b.range.high 1048576 ≡ true = grind (arith, nat_tests) in rw yes tt)
    (λ (far : 1048576 < b.range.high). let no : nat_le b.range.high 1048576 ≡ false = grind (arith, nat_tests) in rw no tt)
    (cases_le b.range.high 1048576)
near_some r (Some a) b below =
    let high = below.within.range.1 in
    ⊎_elim
    (λ (there : b.range.high ≤ 1048576).
    let yes : nat_le b.range.high 1048576 ≡ true = grind (arith, nat_tests) in
    let also : nat_le a.range.high 1048576 ≡ true = grind (arith, nat_tests) in
    rw (yes, also) (refl, below))
    (λ (far : 1048576 < b.range.high). let no : nat_le b.range.high 1048576 ≡ false = grind (arith, nat_tests) in rw no tt)
    (cases_le b.range.high 1048576)

near_within : (r : Region) (o p : Option Estimate) → IsBelow AreOrdered o p → IsAnswerWithin IsContentWithin (near r o) (near r p)
unfolding near
near_within r None None below = tt
near_within r (Some a) None below = absurd below
near_within r o (Some b) below = near_some r o b below

added_near : (r : Region) (a b x y : Estimate) → AreOrdered a x → AreOrdered b y → IsAnswerWithin IsContentWithin (near r (added Three Full a b)) (near r (added Two Full x y))
added_near r a b x y one other =
    near_within r (added Three Full a b) (added Two Full x y)
    (ordered_in (added Three Full a b) (added Two Full x y) (added_number Three Full a b one.first other.first) (added_number Two Full x y one.second other.second)
    (added_within Full a b x y one.first other.first one.second other.second (full_fits (Some a) one.first) (full_fits (Some b) other.first) one.within other.within))

taken_near : (r : Region) (a b x y : Estimate) → AreOrdered a x → AreOrdered b y → IsAnswerWithin IsContentWithin (near r (taken_away Three Full a b)) (near r (taken_away Two Full x y))
taken_near r a b x y one other =
    near_within r (taken_away Three Full a b) (taken_away Two Full x y)
    (ordered_in (taken_away Three Full a b) (taken_away Two Full x y) (taken_number Three Full a b one.first other.first) (taken_number Two Full x y one.second other.second)
    (taken_within Full a b x y one.first other.first one.second other.second (full_fits (Some a) one.first) one.within other.within))

-- ---- addresses
stays : (end : ℕ) (f : ℕ → Content) (o p : Option ℕ) → ((n : ℕ) → IsContentWithin (f n) (f n)) → ((n : ℕ) → p ≡ Some n → o ≡ Some n) → IsAnswerWithin IsContentWithin (answer_of Some (staying end f o)) (answer_of Some (staying end f p))
stays end f o None each same = tt
stays end f o (Some n) each same =
    rw (same n refl)
    (⊎_elim
    (λ (there : n ≤ end). let yes : nat_le n end ≡ true = grind (arith, nat_tests) in rw yes (each n))
    (λ (far : end < n). let no : nat_le n end ≡ false = grind (arith, nat_tests) in rw no tt)
    (cases_le n end))

same_only : (a x : Estimate) (n : ℕ) → AreOrdered a x → IsOne x → only x ≡ Some n → only a ≡ Some n
same_only a x n one (single xe xs) is = one_kept a x one.first.range one.within xe ∙ is
same_only a x n one (several xs) is = let wrong : None ≡ Some n = sym xs ∙ is in absurd (cc)

map_kept : (f : ℕ → ℕ) (o p : Option ℕ) → ((n : ℕ) → p ≡ Some n → o ≡ Some n) → (m : ℕ) → option_map f p ≡ Some m → option_map f o ≡ Some m
map_kept f o None same m is = absurd (cc)
map_kept f o (Some n) same m is = ap (option_map f) (same n refl) ∙ is

displaced_kept : (operation : Arithmetic) (width : Width) (offset : ℕ) (a x : Estimate) → AreOrdered a x → (n : ℕ) → displaced operation width offset x ≡ Some n → displaced operation width offset a ≡ Some n
unfolding displaced
displaced_kept is.Add Full offset a x one n is = map_kept (λ m. (offset + m) % 2 ^ 64) (only a) (only x) (λ m. same_only a x m one (one_or x)) n is
displaced_kept is.Sub Full offset a x one n is = map_kept (λ m. (offset + (2 ^ 64 - m)) % 2 ^ 64) (only a) (only x) (λ m. same_only a x m one (one_or x)) n is
displaced_kept is.Add Narrow offset a x one n is = absurd (cc)
displaced_kept is.Sub Narrow offset a x one n is = absurd (cc)
displaced_kept is.Mul width offset a x one n is = absurd (cc)
displaced_kept is.Div width offset a x one n is = absurd (cc)
displaced_kept is.Or width offset a x one n is = absurd (cc)
displaced_kept is.And width offset a x one n is = absurd (cc)
displaced_kept is.Lsh width offset a x one n is = absurd (cc)
displaced_kept is.Rsh width offset a x one n is = absurd (cc)
displaced_kept is.Mod width offset a x one n is = absurd (cc)
displaced_kept is.Xor width offset a x one n is = absurd (cc)
displaced_kept is.Mov width offset a x one n is = absurd (cc)
displaced_kept is.Arsh width offset a x one n is = absurd (cc)
displaced_kept is.SignedDiv width offset a x one n is = absurd (cc)
displaced_kept is.SignedMod width offset a x one n is = absurd (cc)

contexts_within : (operation : Arithmetic) (width : Width) (p : ℕ) (b y : Estimate) → AreOrdered b y → IsAnswerWithin IsContentWithin (answer_of Some (from_context Three operation width p b)) (answer_of Some (from_context Two operation width p y))
unfolding from_context
contexts_within operation width p b y other = stays 72 InContext (displaced operation width p b) (displaced operation width p y) (λ n. refl) (displaced_kept operation width p b y other)

stacks_within : (operation : Arithmetic) (width : Width) (p : ℕ) (b y : Estimate) → AreOrdered b y → IsAnswerWithin IsContentWithin (answer_of Some (from_stack operation width p b)) (answer_of Some (from_stack operation width p y))
unfolding from_stack
stacks_within operation width p b y other = stays 512 InStack (displaced operation width p b) (displaced operation width p y) (λ n. refl) (displaced_kept operation width p b y other)

from_regions : (operation : Arithmetic) (width : Width) (r : Region) (a b x y : Estimate) → AreOrdered a x → AreOrdered b y → IsAnswerWithin IsContentWithin (from_region Three operation width r a b) (from_region Two operation width r x y)
unfolding from_region
from_regions is.Add Full r a b x y one other = added_near r a b x y one other
from_regions is.Sub Full r a b x y one other = taken_near r a b x y one other
from_regions is.Add Narrow r a b x y one other = tt
from_regions is.Sub Narrow r a b x y one other = tt
from_regions is.Mul width r a b x y one other = tt
from_regions is.Div width r a b x y one other = tt
from_regions is.Or width r a b x y one other = tt
from_regions is.And width r a b x y one other = tt
from_regions is.Lsh width r a b x y one other = tt
from_regions is.Rsh width r a b x y one other = tt
from_regions is.Mod width r a b x y one other = tt
from_regions is.Xor width r a b x y one other = tt
from_regions is.Mov width r a b x y one other = tt
from_regions is.Arsh width r a b x y one other = tt
from_regions is.SignedDiv width r a b x y one other = tt
from_regions is.SignedMod width r a b x y one other = tt

onto_regions : (operation : Arithmetic) (width : Width) (r : Region) (a b x y : Estimate) → AreOrdered a x → AreOrdered b y → IsAnswerWithin IsContentWithin (onto_region Three operation width r a b) (onto_region Two operation width r x y)
unfolding onto_region
onto_regions is.Add Full r a b x y one other = added_near r a b x y one other
onto_regions is.Add Narrow r a b x y one other = tt
onto_regions is.Sub width r a b x y one other = tt
onto_regions is.Mul width r a b x y one other = tt
onto_regions is.Div width r a b x y one other = tt
onto_regions is.Or width r a b x y one other = tt
onto_regions is.And width r a b x y one other = tt
onto_regions is.Lsh width r a b x y one other = tt
onto_regions is.Rsh width r a b x y one other = tt
onto_regions is.Mod width r a b x y one other = tt
onto_regions is.Xor width r a b x y one other = tt
onto_regions is.Mov width r a b x y one other = tt
onto_regions is.Arsh width r a b x y one other = tt
onto_regions is.SignedDiv width r a b x y one other = tt
onto_regions is.SignedMod width r a b x y one other = tt

-- ---- operations
computed_alike : {a b x y : Content} (operation : Arithmetic) (width : Width) → Alike a x → Alike b y → IsAnswerWithin IsContentWithin (computed Three operation width a b) (computed Two operation width x y)
unfolding computed between
computed_alike operation width (numbers a x one) (numbers b y other) =
    number_answer (transferred Three operation width a b) (transferred Two operation width x y)
    (ordered_in (transferred Three operation width a b) (transferred Two operation width x y) (transferred_number Three operation width a b one.first other.first) (transferred_number Two operation width x y one.second other.second)
    (transferred_within operation width a b x y one.first other.first one.second other.second one.within other.within))
computed_alike operation width (numbers a x one) (contexts q t there) = tt
computed_alike operation width (numbers a x one) (stacks q t there) = tt
computed_alike operation width (numbers a x one) (regions r s b y here other) =
    subst (λ (t : Region). IsAnswerWithin IsContentWithin (onto_region Three operation width r a b) (onto_region Two operation width t x y)) here (onto_regions operation width r a b x y one other)
computed_alike operation width (contexts p q there) (numbers b y other) =
    subst (λ (n : ℕ). IsAnswerWithin IsContentWithin (answer_of Some (from_context Three operation width p b)) (answer_of Some (from_context Two operation width n y))) there (contexts_within operation width p b y other)
computed_alike operation width (contexts p m there) (contexts q n here) = tt
computed_alike operation width (contexts p m there) (stacks q n here) = tt
computed_alike operation width (contexts p m there) (regions r s b y here other) = tt
computed_alike operation width (stacks p q there) (numbers b y other) =
    subst (λ (n : ℕ). IsAnswerWithin IsContentWithin (answer_of Some (from_stack operation width p b)) (answer_of Some (from_stack operation width n y))) there (stacks_within operation width p b y other)
computed_alike operation width (stacks p m there) (contexts q n here) = tt
computed_alike operation width (stacks p m there) (stacks q n here) = tt
computed_alike operation width (stacks p m there) (regions r s b y here other) = tt
computed_alike operation width (regions r s a x here one) (numbers b y other) =
    subst (λ (t : Region). IsAnswerWithin IsContentWithin (from_region Three operation width r a b) (from_region Two operation width t x y)) here (from_regions operation width r a b x y one other)
computed_alike operation width (regions r s a x here one) (contexts q n there) = tt
computed_alike operation width (regions r s a x here one) (stacks q n there) = tt
computed_alike operation width (regions r t a x here one) (regions s u b y there other) = tt

pub computed_within : (operation : Arithmetic) (width : Width) (a b x y : Content) → IsContentWithin a x → IsContentWithin b y → IsAnswerWithin IsContentWithin (computed Three operation width a b) (computed Two operation width x y)
computed_within operation width a b x y one other = computed_alike operation width (alike a x one) (alike b y other)

moved_number : (width : Width) (a x : Estimate) → AreOrdered a x → IsBelow AreOrdered (normal_cut width a.bits a.range a.tails) (normal_cut width x.bits x.range x.tails)
moved_number width a x one =
    ordered_in (normal_cut width a.bits a.range a.tails) (normal_cut width x.bits x.range x.tails) (cut_number width a.bits a.range a.tails one.first.words one.first.range.fits) (cut_number width x.bits x.range x.tails one.second.words one.second.range.fits)
    (cut_within width a.bits x.bits a.range x.range a.tails x.tails one.first.words one.second.words one.second.range.fits one.within.bits one.within.range one.within.tails)

moved_alike : {a x : Content} (width : Width) → Alike a x → IsAnswerWithin IsContentWithin (moved width a) (moved width x)
unfolding moved
moved_alike Narrow (numbers a x one) = number_answer (normal_cut Narrow a.bits a.range a.tails) (normal_cut Narrow x.bits x.range x.tails) (moved_number Narrow a x one)
moved_alike Full (numbers a x one) = number_answer (normal_cut Full a.bits a.range a.tails) (normal_cut Full x.bits x.range x.tails) (moved_number Full a x one)
moved_alike Narrow (contexts p q there) = tt
moved_alike Full (contexts p q there) = there
moved_alike Narrow (stacks p q there) = tt
moved_alike Full (stacks p q there) = there
moved_alike Narrow (regions r s a x here one) = tt
moved_alike Full (regions r s a x here one) =
    subst (λ (t : Region). IsAnswerWithin IsContentWithin (near r (normal_cut Full a.bits a.range a.tails)) (near t (normal_cut Full x.bits x.range x.tails))) here
    (near_within r (normal_cut Full a.bits a.range a.tails) (normal_cut Full x.bits x.range x.tails) (moved_number Full a x one))

pub moved_within : (width : Width) (a x : Content) → IsContentWithin a x → IsAnswerWithin IsContentWithin (moved width a) (moved width x)
moved_within width a x one = moved_alike width (alike a x one)

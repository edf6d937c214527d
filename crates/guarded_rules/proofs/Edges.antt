-- Facts on the edges of a comparison.
use Rattle.std.proofs.Common.{◌≡◌, ℕ, ◌+◌, nat_eq, if◌then◌else◌, Bool, true, false, Option, Some, None, Result, Ok, Err, refl, sym, subst, arith}
use Rattle.std.specs.Prelude.{option_map}
use Rattle.std.proofs.lemmas.Bool.Decides.{nat_tests}
use Rattle.bpf_words.specs.declared.instruction.Comparison.{Comparison}
use Rattle.bpf_words.specs.declared.instruction.Width.{Width}
use Rattle.bpf_words.specs.declared.instruction.Width.TheVariants.{Narrow, Full}
use Rattle.bpf_words.specs.declared.instruction.Operand.{Operand}
use Rattle.bpf_words.specs.declared.instruction.Operand.TheVariants.{Immediate, Source}
use Rattle.abstract_state.specs.declared.region.Region.{Region}
use Rattle.abstract_state.specs.declared.region.Region.TheVariants.{Text, Link}
use Rattle.abstract_state.specs.declared.refusal.Refusal.{Refusal}
use Rattle.abstract_state.specs.declared.refusal.Refusal.TheVariants.{PointerCompare}
use Rattle.abstract_state.specs.Estimate.{Estimate}
use Rattle.abstract_state.specs.Comparing.{Told, told_on}
use Rattle.abstract_state.specs.Addresses.{Content, ANumber, InRegion, then_answer}
use Rattle.abstract_state.specs.Situation.{Situation, read, put}
use Rattle.abstract_state.specs.Edges.{Both, two, two_numbers, two_addresses, is_order, sides_on, is_register, unless, right_side, put_right, raised, refined, edge}
use Rattle.guarded_rules.specs.Facts.{Register, Slot, Kind, Number, AddressIn, Property, AtLeast, Behind, Of, Fact, Holds, Long, Stored}
use Rattle.guarded_rules.specs.Says.{of_kind, Says, Has, Entails, EntailsIn, OnSituation}
use Rattle.guarded_rules.specs.Tests.{Side, Left, Right}
use Rattle.guarded_rules.proofs.Tests.{ToldSays, told_keeps}
use Rattle.guarded_rules.proofs.Places.{Replaces, kind_replaces, put_replaces, put_has, put_here, raised_entails, raised_long, then_raised, after_raised}

-- ---- what both sides hold then
abbrev both_of_kind : Kind → Told → Both
both_of_kind k t = two (of_kind k t.left) (of_kind k t.right)

one_answer : (a o : Option Both) (r : Result (Option Both) Refusal) → r ≡ Ok a → r ≡ Ok o → o ≡ a
one_answer a o r e is = cc

no_answer : (o : Option Both) (r : Result (Option Both) Refusal) → r ≡ Err PointerCompare → r ≡ Ok o → ⊥
no_answer o r e is = cc

one_ordered : (b : Bool) (a o : Option Both) (r : Result (Option Both) Refusal) → r ≡ (if b then Ok a else Err PointerCompare) → r ≡ Ok o → o ≡ a
one_ordered true a o r e is = one_answer a o r e is
one_ordered false a o r e is = absurd (no_answer o r e is)

-- the answer is what a test of two of one kind tells, where it isn't refused
sides_are : (width : Width) (c : Comparison) (taken : Bool) (k : Kind) (x y : Estimate) (o : Option Both) → sides_on width c taken (of_kind k x) (of_kind k y) ≡ Ok o → o ≡ option_map (both_of_kind k) (told_on width c taken x y)
unfolding sides_on
sides_are width c taken Number x y o is = one_answer (option_map two_numbers (told_on width c taken x y)) o (sides_on width c taken (ANumber x) (ANumber y)) refl is
sides_are Full c taken (AddressIn Text) x y o is = one_ordered (is_order c) (option_map (two_addresses Text) (told_on Full c taken x y)) o (sides_on Full c taken (InRegion Text x) (InRegion Text y)) refl is
sides_are Full c taken (AddressIn Link) x y o is = one_ordered (is_order c) (option_map (two_addresses Link) (told_on Full c taken x y)) o (sides_on Full c taken (InRegion Link x) (InRegion Link y)) refl is
sides_are Narrow c taken (AddressIn Text) x y o is = absurd (no_answer o (sides_on Narrow c taken (InRegion Text x) (InRegion Text y)) refl is)
sides_are Narrow c taken (AddressIn Link) x y o is = absurd (no_answer o (sides_on Narrow c taken (InRegion Link x) (InRegion Link y)) refl is)

-- each side is what it was, or more is known of it
abbrev BothReplace : Content → Content → Option Both → Type 0
BothReplace a b None = Unit {0}
BothReplace a b (Some p) = Replaces a p.left × Replaces b p.right

both_replace : (k : Kind) (x y : Estimate) (o : Option Told) → ((p : Property) → Says k p x → ToldSays k Left p o) → ((p : Property) → Says k p y → ToldSays k Right p o) → BothReplace (of_kind k x) (of_kind k y) (option_map (both_of_kind k) o)
both_replace k x y None left right = tt
both_replace k x y (Some t) left right = (kind_replaces k x t.left left, kind_replaces k y t.right right)

kinds_replace : (width : Width) (c : Comparison) (taken : Bool) (k : Kind) (x y : Estimate) (o : Option Both) → sides_on width c taken (of_kind k x) (of_kind k y) ≡ Ok o → BothReplace (of_kind k x) (of_kind k y) o
kinds_replace width c taken k x y o is =
    subst (λ (q : Option Both). BothReplace (of_kind k x) (of_kind k y) q) (sym (sides_are width c taken k x y o is))
    (both_replace k x y (told_on width c taken x y) (λ p h. told_keeps width c taken x y k Left p h) (λ p h. told_keeps width c taken x y k Right p h))

sides_replace : (width : Width) (c : Comparison) (taken : Bool) (a b : Content) (o : Option Both) → sides_on width c taken a b ≡ Ok o → BothReplace a b o
unfolding sides_on
sides_replace width c taken (ANumber x) (ANumber y) o is = kinds_replace width c taken Number x y o is
sides_replace Full c taken (InRegion Text x) (InRegion Text y) o is = kinds_replace Full c taken (AddressIn Text) x y o is
sides_replace Full c taken (InRegion Link x) (InRegion Link y) o is = kinds_replace Full c taken (AddressIn Link) x y o is
sides_replace width c taken a b o is = absurd (no_answer o (sides_on width c taken a b) refl is)

-- ---- an edge, by what was read of both sides
on_then : {A : Type 0} (f : Fact) (r : Result A Refusal) (h : A → Result (Option Situation) Refusal) → ((a : A) → r ≡ Ok a → OnSituation f (h a)) → OnSituation f (then_answer h r)
on_then f (Ok a) h each = each a refl
on_then f (Err refusal) h each = tt

read_is : (o : Option Content) (a : Content) → read o ≡ Ok a → o ≡ Some a
read_is None a is = absurd (cc)
read_is (Some x) a is = cc

abbrev refined_by : Width → ℕ → Operand → Situation → Content → Content → Option Both → Option Situation
refined_by width left right s a b told = refined left right (unless (is_register left right) (two a b) told) s

pub edge_on : (f : Fact) (width : Width) (c : Comparison) (left : ℕ) (right : Operand) (taken : Bool) (s : Situation) → ((a b : Content) (o : Option Both) → s.registers left ≡ Some a → right_side width s.registers right ≡ Ok b → sides_on width c taken a b ≡ Ok o → EntailsIn (refined_by width left right s a b o) f) → OnSituation f (edge width c left right taken s)
unfolding edge
edge_on f width c left right taken s each =
    on_then f (read (s.registers left))
    (λ a. then_answer (λ b. then_answer (λ told. Ok (refined_by width left right s a b told)) (sides_on width c taken a b)) (right_side width s.registers right))
    (λ a ea. on_then f (right_side width s.registers right)
    (λ b. then_answer (λ told. Ok (refined_by width left right s a b told)) (sides_on width c taken a b))
    (λ b eb. on_then f (sides_on width c taken a b) (λ told. Ok (refined_by width left right s a b told))
    (λ o eo. each a b o (read_is (s.registers left) a ea) eb eo)))

-- ---- a comparison keeps each fact
put_two : (f : Fact) (left r : ℕ) (a b x y : Content) (s : Situation) → s.registers left ≡ Some a → s.registers r ≡ Some b → Replaces a x → Replaces b y → Entails s f → Entails (put r y (put left x s)) f
put_two (Holds (Register i) v) left r a b x y s ea eb one two h =
    put_has v i r y (put left x s)
    (λ is. two v (subst (λ (o : Option Content). Has v o) eb (subst (λ (j : ℕ). Has v (s.registers j)) is h)))
    (λ no. put_has v i left x s (λ is. one v (subst (λ (o : Option Content). Has v o) ea (subst (λ (j : ℕ). Has v (s.registers j)) is h))) (λ no. h))
put_two (Holds (Slot i) v) left r a b x y s ea eb one two h = h
put_two (Long region n) left r a b x y s ea eb one two h = h
put_two (Stored at) left r a b x y s ea eb one two h = h

put_sides : (f : Fact) (width : Width) (left : ℕ) (right : Operand) (a b x y : Content) (s : Situation) → s.registers left ≡ Some a → right_side width s.registers right ≡ Ok b → Replaces a x → Replaces b y → Entails s f → Entails (put_right right y (put left x s)) f
put_sides f width left (Immediate value) a b x y s ea eb one two h = put_replaces f left a x s ea one h
put_sides f width left (Source r) a b x y s ea eb one two h = put_two f left r a b x y s ea (read_is (s.registers r) b eb) one two h

refined_keeps : (f : Fact) (width : Width) (left : ℕ) (right : Operand) (a b : Content) (o : Option Both) (s : Situation) → s.registers left ≡ Some a → right_side width s.registers right ≡ Ok b → BothReplace a b o → Entails s f → EntailsIn (refined left right o s) f
unfolding refined
refined_keeps f width left right a b None s ea eb more h = tt
refined_keeps f width left right a b (Some p) s ea eb more h =
    let t = put_right right p.right (put left p.left s) in
    then_raised f p.right (raised p.left t) (raised_entails f p.left t (put_sides f width left right a b p.left p.right s ea eb more.0 more.1 h))

unless_replace : (same : Bool) (a b : Content) (o : Option Both) → BothReplace a b o → BothReplace a b (unless same (two a b) o)
unless_replace true a b o h = (λ v held. held, λ v held. held)
unless_replace false a b o h = h

pub edge_keeps : (f : Fact) (width : Width) (c : Comparison) (left : ℕ) (right : Operand) (taken : Bool) (s : Situation) → Entails s f → OnSituation f (edge width c left right taken s)
edge_keeps f width c left right taken s h =
    edge_on f width c left right taken s
    (λ a b o ea eb eo. refined_keeps f width left right a b (unless (is_register left right) (two a b) o) s ea eb
    (unless_replace (is_register left right) a b o (sides_replace width c taken a b o eo)) h)

-- ---- what a comparison of two registers, or of one and a constant, tells
one_some : (o : Option Content) (a b : Content) → o ≡ Some a → o ≡ Some b → a ≡ b
one_some o a b e f = cc

one_ok : (r : Result Content Refusal) (a b : Content) → r ≡ Ok a → r ≡ Ok b → a ≡ b
one_ok r a b e f = cc

abbrev told_by : Kind → Option Told → Option Both
told_by k o = option_map (both_of_kind k) o

edge_of : (f : Fact) (width : Width) (c : Comparison) (left : ℕ) (right : Operand) (taken : Bool) (s : Situation) (k : Kind) (x y : Estimate) → is_register left right ≡ false → s.registers left ≡ Some (of_kind k x) → right_side width s.registers right ≡ Ok (of_kind k y) → EntailsIn (refined left right (told_by k (told_on width c taken x y)) s) f → OnSituation f (edge width c left right taken s)
edge_of f width c left right taken s k x y apart ex ey h =
    edge_on f width c left right taken s
    (λ a b o ea eb eo.
    let one : a ≡ of_kind k x = one_some (s.registers left) a (of_kind k x) ea ex in
    let two_is : b ≡ of_kind k y = one_ok (right_side width s.registers right) b (of_kind k y) eb ey in
    let half : sides_on width c taken (of_kind k x) b ≡ Ok o = subst (λ (z : Content). sides_on width c taken z b ≡ Ok o) one eo in
    let both : sides_on width c taken (of_kind k x) (of_kind k y) ≡ Ok o = subst (λ (z : Content). sides_on width c taken (of_kind k x) z ≡ Ok o) two_is half in
    subst (λ (u : Bool). EntailsIn (refined left right (unless u (two a b) o) s) f) (sym apart)
    (subst (λ (q : Option Both). EntailsIn (refined left right q s) f) (sym (sides_are width c taken k x y o both)) h))

-- the left side's register
no_register : (left r : ℕ) → nat_eq r left ≡ false → left ≡ r → ⊥
no_register left r differ is = grind (arith, nat_tests, differ, is)

left_in : (k : Kind) (p : Property) (left : ℕ) (right : Operand) (x y : Content) (s : Situation) → is_register left right ≡ false → Has (Of k p) (Some x) → Has (Of k p) ((put_right right y (put left x s)).registers left)
left_in k p left (Immediate value) x y s apart h = put_here (Of k p) left x s h
left_in k p left (Source r) x y s apart h = put_has (Of k p) left r y (put left x s) (λ is. absurd (no_register left r apart is)) (λ no. put_here (Of k p) left x s h)

left_refined : (k : Kind) (p : Property) (left : ℕ) (right : Operand) (s : Situation) (o : Option Told) → is_register left right ≡ false → ToldSays k Left p o → EntailsIn (refined left right (told_by k o) s) (Holds (Register left) (Of k p))
unfolding refined
left_refined k p left right s None apart h = tt
left_refined k p left right s (Some t) apart h =
    let f = Holds (Register left) (Of k p) in
    let u = put_right right (of_kind k t.right) (put left (of_kind k t.left) s) in
    then_raised f (of_kind k t.right) (raised (of_kind k t.left) u)
    (raised_entails f (of_kind k t.left) u (left_in k p left right (of_kind k t.left) (of_kind k t.right) s apart (record { estimate = t.left; is = refl; says = h })))

pub edge_left : (width : Width) (c : Comparison) (left : ℕ) (right : Operand) (taken : Bool) (s : Situation) (k : Kind) (p : Property) (x y : Estimate) → is_register left right ≡ false → s.registers left ≡ Some (of_kind k x) → right_side width s.registers right ≡ Ok (of_kind k y) → ToldSays k Left p (told_on width c taken x y) → OnSituation (Holds (Register left) (Of k p)) (edge width c left right taken s)
edge_left width c left right taken s k p x y apart ex ey h =
    edge_of (Holds (Register left) (Of k p)) width c left right taken s k x y apart ex ey (left_refined k p left right s (told_on width c taken x y) apart h)

-- the right side's register
right_refined : (k : Kind) (p : Property) (left r : ℕ) (s : Situation) (o : Option Told) → ToldSays k Right p o → EntailsIn (refined left (Source r) (told_by k o) s) (Holds (Register r) (Of k p))
unfolding refined
right_refined k p left r s None h = tt
right_refined k p left r s (Some t) h =
    let f = Holds (Register r) (Of k p) in
    let u = put r (of_kind k t.right) (put left (of_kind k t.left) s) in
    then_raised f (of_kind k t.right) (raised (of_kind k t.left) u)
    (raised_entails f (of_kind k t.left) u (put_here (Of k p) r (of_kind k t.right) (put left (of_kind k t.left) s) (record { estimate = t.right; is = refl; says = h })))

pub edge_right : (width : Width) (c : Comparison) (left r : ℕ) (taken : Bool) (s : Situation) (k : Kind) (p : Property) (x y : Estimate) → is_register left (Source r) ≡ false → s.registers left ≡ Some (of_kind k x) → right_side width s.registers (Source r) ≡ Ok (of_kind k y) → ToldSays k Right p (told_on width c taken x y) → OnSituation (Holds (Register r) (Of k p)) (edge width c left (Source r) taken s)
edge_right width c left r taken s k p x y apart ex ey h =
    edge_of (Holds (Register r) (Of k p)) width c left (Source r) taken s k x y apart ex ey (right_refined k p left r s (told_on width c taken x y) h)

-- the region is as long as a side says
long_refined : (k : Kind) (region : Region) (m n : ℕ) (side : Side) (left : ℕ) (right : Operand) (s : Situation) (o : Option Told) → ToldSays k side (AtLeast m) o → ToldSays k side (Behind region n) o → EntailsIn (refined left right (told_by k o) s) (Long region (m + n))
unfolding refined
long_refined k region m n side left right s None low tail = tt
long_refined k region m n Left left right s (Some t) low tail =
    let u = put_right right (of_kind k t.right) (put left (of_kind k t.left) s) in
    then_raised (Long region (m + n)) (of_kind k t.right) (raised (of_kind k t.left) u) (raised_long region m n k t.left u low.has tail.has)
long_refined k region m n Right left right s (Some t) low tail =
    let u = put_right right (of_kind k t.right) (put left (of_kind k t.left) s) in
    after_raised (Long region (m + n)) (of_kind k t.right) (raised (of_kind k t.left) u) (λ v. raised_long region m n k t.right v low.has tail.has)

pub edge_long : (width : Width) (c : Comparison) (left : ℕ) (right : Operand) (taken : Bool) (s : Situation) (k : Kind) (region : Region) (m n : ℕ) (side : Side) (x y : Estimate) → is_register left right ≡ false → s.registers left ≡ Some (of_kind k x) → right_side width s.registers right ≡ Ok (of_kind k y) → ToldSays k side (AtLeast m) (told_on width c taken x y) → ToldSays k side (Behind region n) (told_on width c taken x y) → OnSituation (Long region (m + n)) (edge width c left right taken s)
edge_long width c left right taken s k region m n side x y apart ex ey low tail =
    edge_of (Long region (m + n)) width c left right taken s k x y apart ex ey (long_refined k region m n side left right s (told_on width c taken x y) low tail)

-- no run takes the edge
never_refined : (f : Fact) (k : Kind) (left : ℕ) (right : Operand) (s : Situation) (o : Option Told) → o ≡ None → EntailsIn (refined left right (told_by k o) s) f
unfolding refined
never_refined f k left right s None is = tt
never_refined f k left right s (Some t) is = absurd (cc)

pub edge_never : (f : Fact) (width : Width) (c : Comparison) (left : ℕ) (right : Operand) (taken : Bool) (s : Situation) (k : Kind) (x y : Estimate) → is_register left right ≡ false → s.registers left ≡ Some (of_kind k x) → right_side width s.registers right ≡ Ok (of_kind k y) → told_on width c taken x y ≡ None → OnSituation f (edge width c left right taken s)
edge_never f width c left right taken s k x y apart ex ey never =
    edge_of f width c left right taken s k x y apart ex ey (never_refined f k left right s (told_on width c taken x y) never)

-- Where a side of a comparison tells its copies, each fact still holds.
use Rattle.std.proofs.Common.{◌≡◌, ℕ, zero, suc, ◌%◌, ◌/◌, ◌^◌, nat_lt, nat_eq, if◌then◌else◌, ◌&&◌, Bool, true, false, Option, Some, None, List, refl, ap, ◌∙◌, subst, arith}
use Rattle.std.specs.Prelude.{option_map, option_and_then}
use Rattle.std.specs.Option.{IfSome}
use Rattle.std.proofs.lemmas.Bool.Decides.{nat_tests}
use Rattle.span_context.specs.declared.profile.Profile.TheVariants.{Three}
use Rattle.bpf_words.specs.declared.instruction.Comparison.TheVariants.{Equal}
use Rattle.bpf_words.specs.declared.instruction.Width.{Width}
use Rattle.bpf_words.specs.declared.instruction.Width.TheVariants.{Full}
use Rattle.bpf_words.specs.declared.instruction.Operand.{Operand}
use Rattle.bpf_words.specs.declared.instruction.Operand.TheVariants.{Immediate, Source}
use Rattle.semantics.specs.Value.{bits_of}
use Rattle.abstract_state.specs.declared.region.Region.TheVariants.{Text, Link}
use Rattle.abstract_state.specs.Estimate.{Estimate, constant}
use Rattle.abstract_state.specs.Transfer.{added}
use Rattle.abstract_state.specs.Comparing.{Told, told_on}
use Rattle.abstract_state.specs.Addresses.{Content, ANumber, InRegion}
use Rattle.abstract_state.specs.Stacks.{Eight, Marked, Whole, mark, marks_of, whole_in, is_set}
use Rattle.abstract_state.specs.Situation.{Situation, put}
use Rattle.abstract_state.specs.Edges.{raised}
use Rattle.value_marks.specs.declared.mark.Mark.{Mark}
use Rattle.value_marks.specs.Mark.{narrower, distance}
use Rattle.value_marks.specs.Marking.{Marking}
use Rattle.value_marks.specs.Telling.{Teller, teller, left_of, told, told_content, learned, lesson, noted, heard, register_hears, fill, slot_hears, each, all_hear, tells, register_tells, operand_tells, sides_tell}
use Rattle.value_marks.specs.Copies.{copies_tell}
use Rattle.guarded_rules.specs.Facts.{Register, Slot, Kind, Number, AddressIn, Property, Fact, Holds, Long, Stored}
use Rattle.guarded_rules.specs.Says.{of_kind, Says, SaysIn, Has, Entails, EntailsIn}
use Rattle.guarded_rules.specs.Tests.{Left}
use Rattle.guarded_rules.proofs.Kept.{if_says}
use Rattle.guarded_rules.proofs.Tests.{ToldSays, told_keeps}
use Rattle.guarded_rules.proofs.Places.{Replaces, kind_replaces, put_replaces, raised_entails}

-- ---- one value
left_says : (k : Kind) (p : Property) (o : Option Told) → ToldSays k Left p o → SaysIn k p (option_map left_of o)
left_says k p None h = tt
left_says k p (Some t) h = h

each_says : (k : Kind) (p : Property) (o : Option Estimate) (f : Estimate → Option Estimate) → ((e : Estimate) → SaysIn k p (f e)) → SaysIn k p (option_and_then f o)
each_says k p None f h = tt
each_says k p (Some e) f h = h e

told_says : (width : Width) (ahead : ℕ) (x y : Estimate) (k : Kind) (p : Property) → Says k p y → SaysIn k p (told width ahead x y)
unfolding told
told_says width ahead x y k p h =
    if_says k p (nat_lt x.range.high (2 ^ bits_of width) && nat_lt y.range.high (2 ^ bits_of width)) (option_and_then (λ sum. option_map left_of (told_on Full Equal true y sum)) (added Three width x (constant ahead))) (Some y)
    (each_says k p (added Three width x (constant ahead)) (λ sum. option_map left_of (told_on Full Equal true y sum))
    (λ sum. left_says k p (told_on Full Equal true y sum) (told_keeps Full Equal true y sum k Left p h)))
    h

-- as much is known of the second as of the first, and it is of the same kind
abbrev More : Content → Content → Type 0
More x y = Replaces x y × (marks_of (Whole x) ≡ marks_of (Whole y))

more_self : (x : Content) → More x x
more_self x = (λ v h. h, refl)

same_marks : (k : Kind) (x y : Estimate) → marks_of (Whole (of_kind k x)) ≡ marks_of (Whole (of_kind k y))
unfolding marks_of
same_marks Number x y = refl
same_marks (AddressIn r) x y = refl

some_says : (k : Kind) (p : Property) (o : Option Estimate) (e : Estimate) → o ≡ Some e → SaysIn k p o → Says k p e
some_says k p o e is h = subst (λ (q : Option Estimate). SaysIn k p q) is h

mapped_more : (k : Kind) (y : Estimate) (o : Option Estimate) → ((p : Property) → Says k p y → SaysIn k p o) → IfSome (option_map (of_kind k) o) (More (of_kind k y))
mapped_more k y None h = tt
mapped_more k y (Some e) h = (kind_replaces k y e h, same_marks k y e)

told_more : (width : Width) (ahead : ℕ) (x y : Content) → IfSome (told_content width ahead x y) (More y)
unfolding told_content
told_more width ahead (ANumber x) (ANumber y) = mapped_more Number y (told width ahead x y) (λ p h. told_says width ahead x y Number p h)
told_more width ahead (InRegion Text x) (InRegion Text y) = mapped_more (AddressIn Text) y (told width ahead x y) (λ p h. told_says width ahead x y (AddressIn Text) p h)
told_more width ahead (InRegion Link x) (InRegion Link y) = mapped_more (AddressIn Link) y (told width ahead x y) (λ p h. told_says width ahead x y (AddressIn Link) p h)
told_more width ahead x y = more_self y

-- ---- all of a situation
abbrev KeepsAll : Situation → Situation → Type 0
KeepsAll s t = (f : Fact) → Entails s f → Entails t f

further : (s t : Situation) (o : Option Situation) → KeepsAll s t → IfSome o (KeepsAll t) → IfSome o (KeepsAll s)
further s t None h k = tt
further s t (Some u) h k = λ f held. k f (h f held)

then_keeps : (s : Situation) (o : Option Situation) (g : Situation → Option Situation) → IfSome o (KeepsAll s) → ((t : Situation) → IfSome (g t) (KeepsAll t)) → IfSome (option_and_then g o) (KeepsAll s)
then_keeps s None g h on = tt
then_keeps s (Some t) g h on = further s t (g t) h (on t)

all_facts : (s : Situation) (o : Option Situation) → ((f : Fact) → Entails s f → EntailsIn o f) → IfSome o (KeepsAll s)
all_facts s None h = tt
all_facts s (Some t) h = h

raised_keeps : (x : Content) (s : Situation) → IfSome (raised x s) (KeepsAll s)
raised_keeps x s = all_facts s (raised x s) (λ f h. raised_entails f x s h)

-- ---- a place learns
by_eight : (P : Eight → Type 0) (b : Bool) (x y : Eight) → (b ≡ true → P x) → P y → P (if b then x else y)
by_eight P true x y here there = here refl
by_eight P false x y here there = there

at_place : (i j : ℕ) → nat_eq i j ≡ true → i ≡ j
at_place i j e = grind (arith, nat_tests, e)

slot_is : (s : Situation) (j i : ℕ) (x : Content) → j ≡ i → s.slots i ≡ Whole x → s.slots j ≡ Whole x
slot_is s j i x same there = ap s.slots same ∙ there

fill_keeps : (i : ℕ) (x y : Content) (s : Situation) → s.slots i ≡ Whole x → More x y → KeepsAll s (fill i y s)
unfolding is_set
fill_keeps i x y s there more (Holds (Register r) v) h = h
fill_keeps i x y s there more (Holds (Slot j) v) h =
    by_eight (λ (e : Eight). Has v (whole_in e)) (nat_eq j i) (Whole y) (s.slots j)
    (λ yes. more.0 v (subst (λ (e : Eight). Has v (whole_in e)) (slot_is s j i x (at_place j i yes) there) h)) h
fill_keeps i x y s there more (Long region n) h = h
fill_keeps i x y s there more (Stored at) h =
    by_eight (λ (e : Eight). mark (marks_of e) (at % 8) ≡ true) (nat_eq (at / 8) i) (Whole y) (s.slots (at / 8))
    (λ yes. subst (λ (m : List Bool). mark m (at % 8) ≡ true) more.1 (subst (λ (e : Eight). mark (marks_of e) (at % 8) ≡ true) (slot_is s (at / 8) i x (at_place (at / 8) i yes) there) h)) h

learned_more : (t : Teller) (m : Mark) (x : Content) → IfSome (learned t m x) (More x)
unfolding learned
learned_more t m x = told_more (narrower t.mark.width m.width) (distance (narrower t.mark.width m.width) t.mark m) t.content x

abbrev IfMore : Content → Option Content → Type 0
IfMore x o = IfSome o (More x)

mapped_lesson : (x : Content) (o : Option Content) → IfSome o (More x) → IfSome (option_map Some o) (IfMore x)
mapped_lesson x None h = tt
mapped_lesson x (Some y) h = h

if_lesson : (x : Content) (b : Bool) (o : Option (Option Content)) → IfSome o (IfMore x) → IfSome (if b then o else Some None) (IfMore x)
if_lesson x true o h = h
if_lesson x false o h = tt

lesson_more : (t : Teller) (m : Option Mark) (x : Content) → IfSome (lesson t m x) (IfMore x)
unfolding lesson
lesson_more t None x = tt
lesson_more t (Some m) x = if_lesson x (nat_eq m.origin t.mark.origin) (option_map Some (learned t m x)) (mapped_lesson x (learned t m x) (learned_more t m x))

noted_keeps : (stand : Content → Situation) (s : Situation) (x : Content) (o : Option (Option Content)) → ((y : Content) → More x y → KeepsAll s (stand y)) → IfSome o (IfMore x) → IfSome (noted stand s o) (KeepsAll s)
noted_keeps stand s x None stands h = tt
noted_keeps stand s x (Some None) stands h = λ f held. held
noted_keeps stand s x (Some (Some y)) stands h = further s (stand y) (raised y (stand y)) (stands y h) (raised_keeps y (stand y))

heard_keeps : (t : Teller) (stand : Content → Situation) (m : Option Mark) (o : Option Content) (s : Situation) → ((x y : Content) → o ≡ Some x → More x y → KeepsAll s (stand y)) → IfSome (heard t stand m o s) (KeepsAll s)
unfolding heard
heard_keeps t stand m None s stands = λ f held. held
heard_keeps t stand m (Some x) s stands = noted_keeps stand s x (lesson t m x) (λ y more. stands x y refl more) (lesson_more t m x)

if_hears : (s : Situation) (b : Bool) (o : Option Situation) → IfSome o (KeepsAll s) → IfSome (if b then Some s else o) (KeepsAll s)
if_hears s true o h = λ f held. held
if_hears s false o h = h

register_keeps : (t : Teller) (w : Marking) (i : ℕ) (s : Situation) → IfSome (register_hears t w i s) (KeepsAll s)
unfolding register_hears
register_keeps t w i s =
    if_hears s (nat_eq i t.register) (heard t (λ c. put i c s) (w.registers i) (s.registers i) s)
    (heard_keeps t (λ c. put i c s) (w.registers i) (s.registers i) s (λ x y there more f held. put_replaces f i x y s there more.0 held))

one_content : (x y : Content) → Some x ≡ Some y → x ≡ y
one_content x y e = cc

whole_is : (e : Eight) (x : Content) → whole_in e ≡ Some x → e ≡ Whole x
whole_is (Marked m) x is = absurd (cc)
whole_is (Whole y) x is = ap Whole (one_content y x is)

slot_keeps : (t : Teller) (w : Marking) (i : ℕ) (s : Situation) → IfSome (slot_hears t w i s) (KeepsAll s)
unfolding slot_hears
slot_keeps t w i s = heard_keeps t (λ c. fill i c s) (w.slots i) (whole_in (s.slots i)) s (λ x y there more. fill_keeps i x y s (whole_is (s.slots i) x there) more)

-- ---- all of them learn
each_keeps : (hears : ℕ → Situation → Option Situation) (count : ℕ) (s : Situation) → ((i : ℕ) (t : Situation) → IfSome (hears i t) (KeepsAll t)) → IfSome (each hears count s) (KeepsAll s)
unfolding each
each_keeps hears zero s on = λ f held. held
each_keeps hears (suc count) s on = then_keeps s (each hears count s) (hears count) (each_keeps hears count s on) (on count)

all_keep : (t : Teller) (w : Marking) (s : Situation) → IfSome (all_hear t w s) (KeepsAll s)
unfolding all_hear
all_keep t w s =
    then_keeps s (each (register_hears t w) 11 s) (each (slot_hears t w) 64) (each_keeps (register_hears t w) 11 s (register_keeps t w))
    (λ u. each_keeps (slot_hears t w) 64 u (slot_keeps t w))

tells_keep : (register : ℕ) (m : Option Mark) (o : Option Content) (w : Marking) (s : Situation) → IfSome (tells register m o w s) (KeepsAll s)
unfolding tells
tells_keep register None o w s = λ f held. held
tells_keep register (Some m) None w s = λ f held. held
tells_keep register (Some m) (Some x) w s = all_keep (teller register m x) w s

operand_keeps : (right : Operand) (w : Marking) (s : Situation) → IfSome (operand_tells right w s) (KeepsAll s)
unfolding operand_tells
operand_keeps (Immediate value) w s = λ f held. held
operand_keeps (Source register) w s = tells_keep register (w.registers register) (s.registers register) w s

sides_keep : (left : ℕ) (right : Operand) (w : Marking) (s : Situation) → IfSome (sides_tell left right w s) (KeepsAll s)
unfolding sides_tell
sides_keep left right w s =
    then_keeps s (register_tells left w s) (operand_tells right w) (tells_keep left (w.registers left) (s.registers left) w s) (λ t. operand_keeps right w t)

copies_keep : (left : ℕ) (right : Operand) (o : Option Marking) (s : Situation) → IfSome (copies_tell left right o s) (KeepsAll s)
copies_keep left right None s = λ f held. held
copies_keep left right (Some w) s = sides_keep left right w s

told_fact : (f : Fact) (s : Situation) (o : Option Situation) → IfSome o (KeepsAll s) → Entails s f → EntailsIn o f
told_fact f s None h held = tt
told_fact f s (Some t) h held = h f held

pub copies_entail : (f : Fact) (left : ℕ) (right : Operand) (o : Option Marking) (s : Situation) → Entails s f → EntailsIn (copies_tell left right o s) f
copies_entail f left right o s held = told_fact f s (copies_tell left right o s) (copies_keep left right o s) held

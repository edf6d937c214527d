-- What a register's copies learn leaves the rest as it is.
use Rattle.std.proofs.Common.{◌≡◌, ℕ, zero, suc, ◌≤◌, Bool, true, false, cond, nat_eq, nat_le, max, Option, Some, None, option_map, refl, sym, subst, ◌+◌, ◌∙◌, ap, arith}
use Rattle.std.specs.Option.{IfSome, option_and_then}
use Rattle.bpf_words.specs.declared.instruction.Width.{Width}
use Rattle.bpf_words.specs.declared.instruction.Operand.{Operand}
use Rattle.bpf_words.specs.declared.instruction.Operand.TheVariants.{Immediate, Source}
use Rattle.abstract_state.specs.declared.region.Region.{Region}
use Rattle.abstract_state.specs.declared.region.Region.TheVariants.{Text, Link}
use Rattle.abstract_state.specs.Lent.{limit_of}
use Rattle.abstract_state.specs.Estimate.{Estimate}
use Rattle.abstract_state.specs.Addresses.{Content, ANumber, InContext, InStack, InRegion}
use Rattle.abstract_state.specs.Stacks.{Eight, Marked, Whole, whole_in}
use Rattle.abstract_state.specs.Situation.{Situation, Least, least_at, put, raised_bound, both_bounds, longer, lengthened, with_least}
use Rattle.abstract_state.specs.Edges.{raised}
use Rattle.value_marks.specs.declared.mark.Mark.{Mark}
use Rattle.value_marks.specs.Mark.{narrower, distance}
use Rattle.value_marks.specs.Marking.{Marking}
use Rattle.value_marks.specs.Telling.{Teller, teller, told, told_content, learned, lesson, noted, heard, register_hears, fill, slot_hears, each, all_hear, tells, register_tells, operand_tells, sides_tell}
use Rattle.value_marks.specs.Copies.{copies_tell}
use Rattle.value_marks.proofs.Moved.{at_place}
use Rattle.tracked_state.specs.Learning.{LearnsContent, LearnsRegister, LearnsEight, LearnsAll}
use Rattle.tracked_state.proofs.Parts.{if_then, if_map, if_cond, if_else, part_self, part_trans, PartOf, told_part}

-- ---- one value
pub content_self : (x : Content) → LearnsContent x x
content_self (ANumber a) = part_self a.range
content_self (InContext p) = refl
content_self (InStack p) = refl
content_self (InRegion r a) = (refl, part_self a.range)

content_trans : (x y z : Content) → LearnsContent x y → LearnsContent y z → LearnsContent x z
content_trans (ANumber a) (ANumber b) (ANumber d) h k = part_trans a.range b.range d.range h k
content_trans (InContext p) (InContext q) (InContext r) h k = h ∙ k
content_trans (InStack p) (InStack q) (InStack r) h k = h ∙ k
content_trans (InRegion r a) (InRegion s b) (InRegion t d) (e, h) (f, k) = (e ∙ f, part_trans a.range b.range d.range h k)
content_trans (ANumber a) (ANumber b) _ h k = absurd k
content_trans (InContext p) (InContext q) _ h k = absurd k
content_trans (InStack p) (InStack q) _ h k = absurd k
content_trans (InRegion r a) (InRegion s b) _ h k = absurd k
content_trans x y z h k = absurd h

told_learns : (width : Width) (ahead : ℕ) (x y : Content) → IfSome (told_content width ahead x y) (LearnsContent y)
unfolding told_content
told_learns width ahead (ANumber x) (ANumber y) = if_map ANumber (told width ahead x y) (PartOf y.range) (LearnsContent (ANumber y)) (told_part width ahead x y) (λ a part. part)
told_learns width ahead (InRegion Text x) (InRegion Text y) = if_map (InRegion Text) (told width ahead x y) (PartOf y.range) (LearnsContent (InRegion Text y)) (told_part width ahead x y) (λ a part. (refl, part))
told_learns width ahead (InRegion Link x) (InRegion Link y) = if_map (InRegion Link) (told width ahead x y) (PartOf y.range) (LearnsContent (InRegion Link y)) (told_part width ahead x y) (λ a part. (refl, part))
told_learns width ahead x y = content_self y

-- ---- all of a situation
register_self : (o : Option Content) → LearnsRegister o o
register_self None = refl
register_self (Some x) = content_self x

eight_self : (e : Eight) → LearnsEight e e
eight_self (Marked marks) = refl
eight_self (Whole x) = content_self x

pub all_self : (s : Situation) → LearnsAll s s
all_self s = record {
  registers = λ i. register_self (s.registers i);
  slots = λ i. eight_self (s.slots i);
  least = λ region. omega arith;
}

register_trans : (a b d : Option Content) → LearnsRegister a b → LearnsRegister b d → LearnsRegister a d
register_trans None b d h k = subst (λ (o : Option Content). LearnsRegister o d) h k
register_trans (Some x) None d h k = absurd h
register_trans (Some x) (Some y) None h k = absurd k
register_trans (Some x) (Some y) (Some z) h k = content_trans x y z h k

eight_trans : (a b d : Eight) → LearnsEight a b → LearnsEight b d → LearnsEight a d
eight_trans (Marked marks) b d h k = subst (λ (e : Eight). LearnsEight e d) h k
eight_trans (Whole x) (Marked marks) d h k = absurd h
eight_trans (Whole x) (Whole y) (Marked marks) h k = absurd k
eight_trans (Whole x) (Whole y) (Whole z) h k = content_trans x y z h k

pub all_trans : (a b d : Situation) → LearnsAll a b → LearnsAll b d → LearnsAll a d
all_trans a b d h k = record {
  registers = λ i. register_trans (a.registers i) (b.registers i) (d.registers i) (h.registers i) (k.registers i);
  slots = λ i. eight_trans (a.slots i) (b.slots i) (d.slots i) (h.slots i) (k.slots i);
  least = λ region. let one = h.least region in let two = k.least region in omega (arith, one, two);
}

-- one after another
further : (s t : Situation) (o : Option Situation) → LearnsAll s t → IfSome o (LearnsAll t) → IfSome o (LearnsAll s)
further s t None h k = tt
further s t (Some u) h k = all_trans s t u h k

then_learns : (s : Situation) (o : Option Situation) (f : Situation → Option Situation) → IfSome o (LearnsAll s) → ((t : Situation) → IfSome (f t) (LearnsAll t)) → IfSome (option_and_then f o) (LearnsAll s)
then_learns s None f h on = tt
then_learns s (Some t) f h on = further s t (f t) h (on t)

-- ---- a bound is raised
bound_grows : (limit bound low : ℕ) (t : Option ℕ) → IfSome (raised_bound limit bound low t) (λ b. bound ≤ b)
unfolding raised_bound
bound_grows limit bound low None = omega arith
bound_grows limit bound low (Some t) = if_cond (nat_le (low + t) limit) (Some (max bound (low + t))) (λ b. bound ≤ b) (omega arith)

abbrev Grows : Least → Least → Type 0
Grows a b = (a.text ≤ b.text) × (a.link ≤ b.link)

longer_grows : (a : Estimate) (least : Least) → IfSome (longer a least) (Grows least)
unfolding longer
longer_grows a least =
    if_then (λ text. option_map (both_bounds text) (raised_bound (limit_of Link) least.link a.range.low a.tails.link)) (raised_bound (limit_of Text) least.text a.range.low a.tails.text) (λ b. least.text ≤ b) (Grows least) (bound_grows (limit_of Text) least.text a.range.low a.tails.text)
    (λ text more. if_map (both_bounds text) (raised_bound (limit_of Link) least.link a.range.low a.tails.link) (λ b. least.link ≤ b) (Grows least) (bound_grows (limit_of Link) least.link a.range.low a.tails.link)
    (λ link further. (more, further)))

at_region : (a b : Least) (region : Region) → Grows a b → least_at a region ≤ least_at b region
at_region a b Text grows = grows.0
at_region a b Link grows = grows.1

with_least_learns : (s : Situation) (least : Least) → Grows s.least least → LearnsAll s (with_least s least)
with_least_learns s least grows = record {
  registers = λ i. register_self (s.registers i);
  slots = λ i. eight_self (s.slots i);
  least = λ region. at_region s.least least region grows;
}

lengthened_learns : (a : Estimate) (s : Situation) → IfSome (lengthened a s) (LearnsAll s)
unfolding lengthened
lengthened_learns a s = if_map (with_least s) (longer a s.least) (Grows s.least) (LearnsAll s) (longer_grows a s.least) (λ least grows. with_least_learns s least grows)

raised_learns : (x : Content) (s : Situation) → IfSome (raised x s) (LearnsAll s)
unfolding raised
raised_learns (ANumber a) s = lengthened_learns a s
raised_learns (InRegion region a) s = lengthened_learns a s
raised_learns (InContext p) s = all_self s
raised_learns (InStack p) s = all_self s

-- ---- a place learns
by_bool : {A : Type 0} (P : A → Type 0) (b : Bool) (x y : A) → (b ≡ true → P x) → P y → P (cond b x y)
by_bool P true x y here other = here refl
by_bool P false x y here other = other

test_place : {A : Type 0} (P : A → Type 0) (i k : ℕ) (x y : A) → (k ≡ i → P x) → P y → P (cond (nat_eq k i) x y)
test_place P i k x y here other = by_bool P (nat_eq k i) x y (λ yes. here (at_place k i yes)) other

put_learns : (i : ℕ) (x y : Content) (s : Situation) → s.registers i ≡ Some x → LearnsContent x y → LearnsAll s (put i y s)
put_learns i x y s there learns = record {
  registers = λ k.
      test_place (λ (o : Option Content). LearnsRegister (s.registers k) o) i k (Some y) (s.registers k)
      (λ same. subst (λ (o : Option Content). LearnsRegister o (Some y)) (sym (ap s.registers same ∙ there)) learns)
      (register_self (s.registers k));
  slots = λ k. eight_self (s.slots k);
  least = λ region. omega arith;
}

fill_learns : (i : ℕ) (x y : Content) (s : Situation) → s.slots i ≡ Whole x → LearnsContent x y → LearnsAll s (fill i y s)
fill_learns i x y s there learns = record {
  registers = λ k. register_self (s.registers k);
  slots = λ k.
      test_place (λ (e : Eight). LearnsEight (s.slots k) e) i k (Whole y) (s.slots k)
      (λ same. subst (λ (e : Eight). LearnsEight e (Whole y)) (sym (ap s.slots same ∙ there)) learns)
      (eight_self (s.slots k));
  least = λ region. omega arith;
}

learned_learns : (t : Teller) (mark : Mark) (x : Content) → IfSome (learned t mark x) (LearnsContent x)
unfolding learned
learned_learns t mark x = told_learns (narrower t.mark.width mark.width) (distance (narrower t.mark.width mark.width) t.mark mark) t.content x

abbrev IfLearned : Content → Option Content → Type 0
IfLearned x o = IfSome o (LearnsContent x)

lesson_learns : (t : Teller) (mark : Option Mark) (x : Content) → IfSome (lesson t mark x) (IfLearned x)
unfolding lesson
lesson_learns t None x = tt
lesson_learns t (Some mark) x =
    if_else (nat_eq mark.origin t.mark.origin) (option_map Some (learned t mark x)) (Some None) (IfLearned x)
    (if_map Some (learned t mark x) (LearnsContent x) (IfLearned x) (learned_learns t mark x) (λ y more. more))
    tt

noted_learns : (stand : Content → Situation) (s : Situation) (x : Content) (o : Option (Option Content)) → ((y : Content) → LearnsContent x y → LearnsAll s (stand y)) → IfSome o (IfLearned x) → IfSome (noted stand s o) (LearnsAll s)
noted_learns stand s x None stands h = tt
noted_learns stand s x (Some None) stands h = all_self s
noted_learns stand s x (Some (Some y)) stands h = further s (stand y) (raised y (stand y)) (stands y h) (raised_learns y (stand y))

heard_learns : (t : Teller) (stand : Content → Situation) (mark : Option Mark) (o : Option Content) (s : Situation) → ((x y : Content) → o ≡ Some x → LearnsContent x y → LearnsAll s (stand y)) → IfSome (heard t stand mark o s) (LearnsAll s)
unfolding heard
heard_learns t stand mark None s stands = all_self s
heard_learns t stand mark (Some x) s stands = noted_learns stand s x (lesson t mark x) (λ y more. stands x y refl more) (lesson_learns t mark x)

register_learns : (t : Teller) (w : Marking) (i : ℕ) (s : Situation) → IfSome (register_hears t w i s) (LearnsAll s)
unfolding register_hears
register_learns t w i s =
    if_else (nat_eq i t.register) (Some s) (heard t (λ x. put i x s) (w.registers i) (s.registers i) s) (LearnsAll s) (all_self s)
    (heard_learns t (λ x. put i x s) (w.registers i) (s.registers i) s (λ x y there more. put_learns i x y s there more))

one_content : (x y : Content) → Some x ≡ Some y → x ≡ y
one_content x y e = cc

whole_is : (e : Eight) (x : Content) → whole_in e ≡ Some x → e ≡ Whole x
whole_is (Marked marks) x is = absurd (cc)
whole_is (Whole y) x is = ap Whole (one_content y x is)

slot_learns : (t : Teller) (w : Marking) (i : ℕ) (s : Situation) → IfSome (slot_hears t w i s) (LearnsAll s)
unfolding slot_hears
slot_learns t w i s = heard_learns t (λ x. fill i x s) (w.slots i) (whole_in (s.slots i)) s (λ x y there more. fill_learns i x y s (whole_is (s.slots i) x there) more)

-- ---- all of them learn
each_learns : (hears : ℕ → Situation → Option Situation) (count : ℕ) (s : Situation) → ((i : ℕ) (t : Situation) → IfSome (hears i t) (LearnsAll t)) → IfSome (each hears count s) (LearnsAll s)
unfolding each
each_learns hears zero s on = all_self s
each_learns hears (suc count) s on = then_learns s (each hears count s) (hears count) (each_learns hears count s on) (on count)

all_learn : (t : Teller) (w : Marking) (s : Situation) → IfSome (all_hear t w s) (LearnsAll s)
unfolding all_hear
all_learn t w s =
    then_learns s (each (register_hears t w) 11 s) (each (slot_hears t w) 64) (each_learns (register_hears t w) 11 s (register_learns t w))
    (λ u. each_learns (slot_hears t w) 64 u (slot_learns t w))

tells_learn : (register : ℕ) (mark : Option Mark) (o : Option Content) (w : Marking) (s : Situation) → IfSome (tells register mark o w s) (LearnsAll s)
unfolding tells
tells_learn register None o w s = all_self s
tells_learn register (Some mark) None w s = all_self s
tells_learn register (Some mark) (Some x) w s = all_learn (teller register mark x) w s

operand_learns : (right : Operand) (w : Marking) (s : Situation) → IfSome (operand_tells right w s) (LearnsAll s)
unfolding operand_tells
operand_learns (Immediate value) w s = all_self s
operand_learns (Source register) w s = tells_learn register (w.registers register) (s.registers register) w s

sides_learn : (left : ℕ) (right : Operand) (w : Marking) (s : Situation) → IfSome (sides_tell left right w s) (LearnsAll s)
unfolding sides_tell
sides_learn left right w s =
    then_learns s (register_tells left w s) (operand_tells right w) (tells_learn left (w.registers left) (s.registers left) w s) (λ t. operand_learns right w t)

pub copies_learn : (left : ℕ) (right : Operand) (o : Option Marking) (s : Situation) → IfSome (copies_tell left right o s) (LearnsAll s)
copies_learn left right None s = all_self s
copies_learn left right (Some w) s = sides_learn left right w s

-- Two places hear in either order alike.
use Rattle.std.proofs.Common.{◌≡◌, ℕ, nat_eq, if◌then◌else◌, Bool, true, false, Option, Some, None, option_map, option_and_then, ⊎_elim, refl, sym, ap, ◌∙◌, subst, arith}
use Rattle.std.proofs.lemmas.Bool.{cases_eq}
use Rattle.std.proofs.lemmas.Bool.Decides.{nat_tests}
use Rattle.abstract_state.specs.Addresses.{Content}
use Rattle.abstract_state.specs.Stacks.{Whole, whole_in}
use Rattle.abstract_state.specs.Situation.{Least, Situation, put, with_least}
use Rattle.abstract_state.specs.Edges.{raised}
use Rattle.value_marks.specs.declared.mark.Mark.{Mark}
use Rattle.value_marks.specs.Marking.{Marking}
use Rattle.value_marks.specs.Telling.{Teller, lesson, noted, heard, register_hears, fill, slot_hears}
use Rattle.telling_order.specs.Orders.{Place, Register, Slot, hears, IsAlike, AreAlike}
use Rattle.telling_order.proofs.Lengths.{lengths_by, raised_by, lengths_twice}

-- ---- alike
pub alike_refl : (s : Situation) → IsAlike s s
alike_refl s = record { registers = λ i. refl; slots = λ i. refl; least = refl }

pub are_alike : (o : Option Situation) → AreAlike o o
are_alike None = tt
are_alike (Some s) = alike_refl s

pub same_alike : (o p : Option Situation) → o ≡ p → AreAlike o p
same_alike o p same = subst (AreAlike o) same (are_alike o)

pub alike_sym : (o p : Option Situation) → AreAlike o p → AreAlike p o
alike_sym None None alike = tt
alike_sym None (Some b) alike = alike
alike_sym (Some a) None alike = alike
alike_sym (Some a) (Some b) alike = record { registers = λ i. sym (alike.registers i); slots = λ i. sym (alike.slots i); least = sym alike.least }

pub alike_trans : (o p q : Option Situation) → AreAlike o p → AreAlike p q → AreAlike o q
alike_trans None None q one two = two
alike_trans None (Some b) q one two = absurd one
alike_trans (Some a) None q one two = absurd one
alike_trans (Some a) (Some b) None one two = two
alike_trans (Some a) (Some b) (Some c) one two = record { registers = λ i. one.registers i ∙ two.registers i; slots = λ i. one.slots i ∙ two.slots i; least = one.least ∙ two.least }

-- ---- what a place hears, and what stands there then
abbrev pub content_at : Place → Situation → Option Content
content_at (Register i) s = s.registers i
content_at (Slot i) s = whole_in (s.slots i)

abbrev mark_at : Marking → Place → Option Mark
mark_at w (Register i) = w.registers i
mark_at w (Slot i) = w.slots i

abbrev stand : Place → Content → Situation → Situation
stand (Register i) c s = put i c s
stand (Slot i) c s = fill i c s

abbrev is_teller : Teller → Place → Bool
is_teller t (Register i) = nat_eq i t.register
is_teller t (Slot i) = false

abbrev lesson_of_content : Teller → Option Mark → Option Content → Option (Option Content)
lesson_of_content t mark None = Some None
lesson_of_content t mark (Some content) = lesson t mark content

abbrev lesson_at : Teller → Marking → Place → Situation → Option (Option Content)
lesson_at t w place s = if is_teller t place then Some None else lesson_of_content t (mark_at w place) (content_at place s)

abbrev learns : Place → Option (Option Content) → Situation → Option Situation
learns place learned s = noted (λ c. stand place c s) s learned

heard_is : (t : Teller) (there : Content → Situation) (mark : Option Mark) (o : Option Content) (s : Situation) → heard t there mark o s ≡ noted there s (lesson_of_content t mark o)
unfolding heard
heard_is t there mark None s = refl
heard_is t there mark (Some content) s = refl

unless_teller : (b : Bool) (there : Content → Situation) (s : Situation) (o : Option Situation) (learned : Option (Option Content)) → o ≡ noted there s learned → (if b then Some s else o) ≡ noted there s (if b then Some None else learned)
unless_teller true there s o learned same = refl
unless_teller false there s o learned same = same

pub hears_is : (t : Teller) (w : Marking) (place : Place) (s : Situation) → hears t w place s ≡ learns place (lesson_at t w place s) s
unfolding register_hears slot_hears
hears_is t w (Register i) s =
    unless_teller (nat_eq i t.register) (λ c. put i c s) s (heard t (λ c. put i c s) (w.registers i) (s.registers i) s) (lesson_of_content t (w.registers i) (s.registers i))
    (heard_is t (λ c. put i c s) (w.registers i) (s.registers i) s)
hears_is t w (Slot i) s = heard_is t (λ c. fill i c s) (w.slots i) (whole_in (s.slots i)) s

-- ---- places apart
abbrev IsApart : Place → Place → Type 0
IsApart (Register i) (Register j) = i ≡ j → ⊥
IsApart (Register i) (Slot j) = Unit {0}
IsApart (Slot i) (Register j) = Unit {0}
IsApart (Slot i) (Slot j) = i ≡ j → ⊥

-- a value put at one number is not read at another
other_kept : {A : Type 0} (i j : ℕ) (new old : A) → (i ≡ j → ⊥) → (if nat_eq j i then new else old) ≡ old
other_kept i j new old apart = let no : nat_eq j i ≡ false = grind (arith, nat_tests) in rw no refl

content_kept : (p q : Place) (c : Content) (s : Situation) → IsApart p q → content_at q (stand p c s) ≡ content_at q s
content_kept (Register i) (Register j) c s apart = other_kept i j (Some c) (s.registers j) apart
content_kept (Register i) (Slot j) c s apart = refl
content_kept (Slot i) (Register j) c s apart = refl
content_kept (Slot i) (Slot j) c s apart = ap whole_in (other_kept i j (Whole c) (s.slots j) apart)

content_longer : (q : Place) (s : Situation) (least : Least) → content_at q (with_least s least) ≡ content_at q s
content_longer (Register j) s least = refl
content_longer (Slot j) s least = refl

least_kept : (p : Place) (c : Content) (s : Situation) → (stand p c s).least ≡ s.least
least_kept (Register i) c s = refl
least_kept (Slot i) c s = refl

-- two values put at two numbers in either order
put_twice : {A : Type 0} (i j k : ℕ) (one two old : A) → (i ≡ j → ⊥) → (if nat_eq k j then two else (if nat_eq k i then one else old)) ≡ (if nat_eq k i then one else (if nat_eq k j then two else old))
put_twice i j k one two old apart =
    ⊎_elim
    (λ (first : k ≡ i).
    let yes : nat_eq k i ≡ true = grind (arith, nat_tests) in
    let no : nat_eq k j ≡ false = grind (arith, nat_tests) in
    rw (yes, no) refl)
    (λ (other : k ≡ i → ⊥). let no : nat_eq k i ≡ false = grind (arith, nat_tests) in rw no refl)
    (cases_eq k i)

stand_twice : (p q : Place) (c d : Content) (s : Situation) (l m n : Least) → IsApart p q → IsAlike (with_least (stand q d (with_least (stand p c s) l)) n) (with_least (stand p c (with_least (stand q d s) m)) n)
stand_twice (Register i) (Register j) c d s l m n apart = record { registers = λ k. put_twice i j k (Some c) (Some d) (s.registers k) apart; slots = λ k. refl; least = refl }
stand_twice (Register i) (Slot j) c d s l m n apart = record { registers = λ k. refl; slots = λ k. refl; least = refl }
stand_twice (Slot i) (Register j) c d s l m n apart = record { registers = λ k. refl; slots = λ k. refl; least = refl }
stand_twice (Slot i) (Slot j) c d s l m n apart = record { registers = λ k. refl; slots = λ k. put_twice i j k (Whole c) (Whole d) (s.slots k) apart; least = refl }

-- ---- two lessons
abbrev no_situation : Option Situation
no_situation = None

nowhere : (o : Option Situation) → option_and_then (λ (s : Situation). no_situation) o ≡ no_situation
nowhere None = refl
nowhere (Some s) = refl

onward : (o : Option Situation) → option_and_then Some o ≡ o
onward None = refl
onward (Some s) = refl

put_last : (p q : Place) (c d : Content) (s : Situation) (l m : Least) (o : Option Least) → IsApart p q → AreAlike (option_map (with_least (stand q d (with_least (stand p c s) l))) o) (option_map (with_least (stand p c (with_least (stand q d s) m))) o)
put_last p q c d s l m None apart = tt
put_last p q c d s l m (Some n) apart = stand_twice p q c d s l m n apart

-- both put a value, by what they say of the lengths
put_both : (p q : Place) (c d : Content) (s : Situation) (x y : Option Least) → IsApart p q → option_and_then (lengths_by d) x ≡ option_and_then (lengths_by c) y
    → AreAlike (option_and_then (λ r. option_map (with_least (stand q d r)) (lengths_by d r.least)) (option_map (with_least (stand p c s)) x))
    (option_and_then (λ r. option_map (with_least (stand p c r)) (lengths_by c r.least)) (option_map (with_least (stand q d s)) y))
put_both p q c d s None None apart same = tt
put_both p q c d s None (Some m) apart same =
    let none : lengths_by c m ≡ None = sym same in rw none tt
put_both p q c d s (Some l) None apart same = rw same tt
put_both p q c d s (Some l) (Some m) apart same =
    rw same (put_last p q c d s l m (lengths_by c m) apart)

raised_there : (p : Place) (c : Content) (s : Situation) → raised c (stand p c s) ≡ option_map (with_least (stand p c s)) (lengths_by c s.least)
raised_there p c s = raised_by c (stand p c s) ∙ ap (λ (l : Least). option_map (with_least (stand p c s)) (lengths_by c l)) (least_kept p c s)

then_same : {A B : Type 0} (f g : A → Option B) (o : Option A) → ((x : A) → f x ≡ g x) → option_and_then f o ≡ option_and_then g o
then_same f g None same = refl
then_same f g (Some x) same = same x

then_raised : (p q : Place) (c d : Content) (s : Situation) → option_and_then (λ r. raised d (stand q d r)) (raised c (stand p c s)) ≡ option_and_then (λ r. option_map (with_least (stand q d r)) (lengths_by d r.least)) (option_map (with_least (stand p c s)) (lengths_by c s.least))
then_raised p q c d s =
    then_same (λ r. raised d (stand q d r)) (λ r. option_map (with_least (stand q d r)) (lengths_by d r.least)) (raised c (stand p c s)) (raised_there q d)
    ∙ ap (option_and_then (λ r. option_map (with_least (stand q d r)) (lengths_by d r.least))) (raised_there p c s)

both_put : (p q : Place) (c d : Content) (s : Situation) → IsApart p q → AreAlike (option_and_then (λ r. raised d (stand q d r)) (raised c (stand p c s))) (option_and_then (λ r. raised c (stand p c r)) (raised d (stand q d s)))
both_put p q c d s apart =
    rw (then_raised p q c d s, then_raised q p d c s)
    (put_both p q c d s (lengths_by c s.least) (lengths_by d s.least) apart (lengths_twice c d s.least))

learn_both : (p q : Place) (one two : Option (Option Content)) (s : Situation) → IsApart p q → AreAlike (option_and_then (learns q two) (learns p one s)) (option_and_then (learns p one) (learns q two s))
learn_both p q None None s apart = tt
learn_both p q None (Some None) s apart = tt
learn_both p q None (Some (Some d)) s apart = same_alike None (option_and_then (λ (r : Situation). no_situation) (raised d (stand q d s))) (sym (nowhere (raised d (stand q d s))))
learn_both p q (Some None) None s apart = tt
learn_both p q (Some None) (Some None) s apart = alike_refl s
learn_both p q (Some None) (Some (Some d)) s apart = same_alike (raised d (stand q d s)) (option_and_then Some (raised d (stand q d s))) (sym (onward (raised d (stand q d s))))
learn_both p q (Some (Some c)) None s apart = same_alike (option_and_then (λ (r : Situation). no_situation) (raised c (stand p c s))) None (nowhere (raised c (stand p c s)))
learn_both p q (Some (Some c)) (Some None) s apart = same_alike (option_and_then Some (raised c (stand p c s))) (raised c (stand p c s)) (onward (raised c (stand p c s)))
learn_both p q (Some (Some c)) (Some (Some d)) s apart = both_put p q c d s apart

-- ---- what one place hears leaves the other's lesson as it is
abbrev Stays : Teller → Marking → Place → Situation → Option Situation → Type 0
Stays t w q s None = Unit {0}
Stays t w q s (Some r) = lesson_at t w q r ≡ lesson_at t w q s

lesson_by : (t : Teller) (w : Marking) (q : Place) (r s : Situation) → content_at q r ≡ content_at q s → lesson_at t w q r ≡ lesson_at t w q s
lesson_by t w q r s same = ap (λ (o : Option Content). if is_teller t q then Some None else lesson_of_content t (mark_at w q) o) same

stays_longer : (t : Teller) (w : Marking) (p q : Place) (c : Content) (s : Situation) (o : Option Least) → IsApart p q → Stays t w q s (option_map (with_least (stand p c s)) o)
stays_longer t w p q c s None apart = tt
stays_longer t w p q c s (Some l) apart =
    lesson_by t w q (with_least (stand p c s) l) s (content_longer q (stand p c s) l ∙ content_kept p q c s apart)

stays : (t : Teller) (w : Marking) (p q : Place) (learned : Option (Option Content)) (s : Situation) → IsApart p q → Stays t w q s (learns p learned s)
stays t w p q None s apart = tt
stays t w p q (Some None) s apart = refl
stays t w p q (Some (Some c)) s apart =
    subst (Stays t w q s) (sym (raised_there p c s)) (stays_longer t w p q c s (lengths_by c s.least) apart)

then_learns : (t : Teller) (w : Marking) (q : Place) (s : Situation) (o : Option Situation) → Stays t w q s o → option_and_then (hears t w q) o ≡ option_and_then (learns q (lesson_at t w q s)) o
then_learns t w q s None stay = refl
then_learns t w q s (Some r) stay = hears_is t w q r ∙ ap (λ (l : Option (Option Content)). learns q l r) stay

pub hears_both : (t : Teller) (w : Marking) (p q : Place) (s : Situation) → option_and_then (hears t w q) (hears t w p s) ≡ option_and_then (hears t w q) (learns p (lesson_at t w p s) s)
hears_both t w p q s = ap (option_and_then (hears t w q)) (hears_is t w p s)

apart_alike : (t : Teller) (w : Marking) (p q : Place) (s : Situation) → IsApart p q → IsApart q p → AreAlike (option_and_then (hears t w q) (hears t w p s)) (option_and_then (hears t w p) (hears t w q s))
apart_alike t w p q s apart other =
    let first = hears_both t w p q s ∙ then_learns t w q s (learns p (lesson_at t w p s) s) (stays t w p q (lesson_at t w p s) s apart) in
    let second = hears_both t w q p s ∙ then_learns t w p s (learns q (lesson_at t w q s) s) (stays t w q p (lesson_at t w q s) s other) in
    rw (first, second) (learn_both p q (lesson_at t w p s) (lesson_at t w q s) s apart)

pub swap_alike : (t : Teller) (w : Marking) (p q : Place) (s : Situation) → AreAlike (option_and_then (hears t w q) (hears t w p s)) (option_and_then (hears t w p) (hears t w q s))
swap_alike t w (Register i) (Slot j) s = apart_alike t w (Register i) (Slot j) s tt tt
swap_alike t w (Slot i) (Register j) s = apart_alike t w (Slot i) (Register j) s tt tt
swap_alike t w (Register i) (Register j) s =
    ⊎_elim
    (λ (same : i ≡ j). subst (λ (k : ℕ). AreAlike (option_and_then (hears t w (Register k)) (hears t w (Register i) s)) (option_and_then (hears t w (Register i)) (hears t w (Register k) s))) same
    (are_alike (option_and_then (hears t w (Register i)) (hears t w (Register i) s))))
    (λ (apart : i ≡ j → ⊥). apart_alike t w (Register i) (Register j) s apart (λ e. apart (sym e)))
    (cases_eq i j)
swap_alike t w (Slot i) (Slot j) s =
    ⊎_elim
    (λ (same : i ≡ j). subst (λ (k : ℕ). AreAlike (option_and_then (hears t w (Slot k)) (hears t w (Slot i) s)) (option_and_then (hears t w (Slot i)) (hears t w (Slot k) s))) same
    (are_alike (option_and_then (hears t w (Slot i)) (hears t w (Slot i) s))))
    (λ (apart : i ≡ j → ⊥). apart_alike t w (Slot i) (Slot j) s apart (λ e. apart (sym e)))
    (cases_eq i j)

-- ---- one place hears the same of what is alike
content_alike : (q : Place) (a b : Situation) → IsAlike a b → content_at q a ≡ content_at q b
content_alike (Register i) a b alike = alike.registers i
content_alike (Slot i) a b alike = ap whole_in (alike.slots i)

with_alike : {A : Type 0} (i k : ℕ) (new one two : A) → one ≡ two → (if nat_eq k i then new else one) ≡ (if nat_eq k i then new else two)
with_alike i k new one two same = ap (λ x. if nat_eq k i then new else x) same

stand_alike : (p : Place) (c : Content) (a b : Situation) (l : Least) → IsAlike a b → IsAlike (with_least (stand p c a) l) (with_least (stand p c b) l)
stand_alike (Register i) c a b l alike = record { registers = λ k. with_alike i k (Some c) (a.registers k) (b.registers k) (alike.registers k); slots = alike.slots; least = refl }
stand_alike (Slot i) c a b l alike = record { registers = alike.registers; slots = λ k. with_alike i k (Whole c) (a.slots k) (b.slots k) (alike.slots k); least = refl }

longer_alike : (p : Place) (c : Content) (a b : Situation) (o : Option Least) → IsAlike a b → AreAlike (option_map (with_least (stand p c a)) o) (option_map (with_least (stand p c b)) o)
longer_alike p c a b None alike = tt
longer_alike p c a b (Some l) alike = stand_alike p c a b l alike

learns_alike : (p : Place) (learned : Option (Option Content)) (a b : Situation) → IsAlike a b → AreAlike (learns p learned a) (learns p learned b)
learns_alike p None a b alike = tt
learns_alike p (Some None) a b alike = alike
learns_alike p (Some (Some c)) a b alike =
    let at_b : raised c (stand p c b) ≡ option_map (with_least (stand p c b)) (lengths_by c a.least) =
    raised_there p c b ∙ ap (λ (l : Least). option_map (with_least (stand p c b)) (lengths_by c l)) (sym alike.least) in
    rw (raised_there p c a, at_b) (longer_alike p c a b (lengths_by c a.least) alike)

pub hears_alike : (t : Teller) (w : Marking) (p : Place) (a b : Situation) → IsAlike a b → AreAlike (hears t w p a) (hears t w p b)
hears_alike t w p a b alike =
    let at_b : hears t w p b ≡ learns p (lesson_at t w p a) b =
    hears_is t w p b ∙ ap (λ (l : Option (Option Content)). learns p l b) (lesson_by t w p b a (sym (content_alike p a b alike))) in
    rw (hears_is t w p a, at_b) (learns_alike p (lesson_at t w p a) a b alike)

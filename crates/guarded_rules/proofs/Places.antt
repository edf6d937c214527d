-- Facts where a register is written, where a slot of the stack is filled, and where a region is found to be longer.
use Rattle.std.proofs.Common.{◌≡◌, ◌≢◌, ℕ, ◌+◌, ◌≤◌, nat_le, nat_eq, if◌then◌else◌, Bool, true, false, Option, Some, None, refl, sym, ap, ◌∙◌, subst, arith, max}
use Rattle.std.specs.Prelude.{option_map, option_and_then}
use Rattle.std.proofs.lemmas.Bool.Decides.{nat_tests}
use Rattle.abstract_state.specs.declared.region.Region.{Region}
use Rattle.abstract_state.specs.declared.region.Region.TheVariants.{Text, Link}
use Rattle.abstract_state.specs.Lent.{tail_of, limit_of}
use Rattle.abstract_state.specs.Estimate.{Estimate}
use Rattle.abstract_state.specs.Addresses.{Content, ANumber, InContext, InStack, InRegion}
use Rattle.abstract_state.specs.Situation.{Situation, Least, least_at, put, raised_bound, both_bounds, longer, lengthened, with_least}
use Rattle.abstract_state.specs.Edges.{raised}
use Rattle.guarded_rules.specs.Facts.{Register, Slot, Kind, Number, AddressIn, Property, Value, Of, ContextAt, StackAt, Fact, Holds, Long, Stored}
use Rattle.guarded_rules.specs.Says.{of_kind, HasTail, Says, IsKind, Has, Entails, EntailsIn}
use Rattle.guarded_rules.specs.Steps.{IsElsewhere}
use Rattle.guarded_rules.proofs.Kept.{says_of, kind_at}

-- ---- one value in place of another of its kind
pub kind_of : Option Content → Kind
kind_of None = Number
kind_of (Some (ANumber a)) = Number
kind_of (Some (InContext n)) = Number
kind_of (Some (InStack n)) = Number
kind_of (Some (InRegion r a)) = AddressIn r

kind_is : (k : Kind) (a : Estimate) → kind_of (Some (of_kind k a)) ≡ k
unfolding kind_of
kind_is Number a = refl
kind_is (AddressIn r) a = refl

pub one_kind : (k l : Kind) (a b : Estimate) → Some (of_kind k a) ≡ Some (of_kind l b) → l ≡ k
one_kind k l a b is = sym (kind_is l b) ∙ ap kind_of (sym is) ∙ kind_is k a

not_context : (k : Kind) (a : Estimate) (n : ℕ) → Some (of_kind k a) ≡ Some (InContext n) → ⊥
not_context Number a n is = cc
not_context (AddressIn r) a n is = cc

not_stack : (k : Kind) (a : Estimate) (n : ℕ) → Some (of_kind k a) ≡ Some (InStack n) → ⊥
not_stack Number a n is = cc
not_stack (AddressIn r) a n is = cc

-- each value that the one has, the other has
abbrev pub Replaces : Content → Content → Type 0
Replaces x y = (v : Value) → Has v (Some x) → Has v (Some y)

pub kind_replaces : (k : Kind) (x y : Estimate) → ((p : Property) → Says k p x → Says k p y) → Replaces (of_kind k x) (of_kind k y)
kind_replaces k x y more (Of l p) h =
    let same : l ≡ k = one_kind k l x h.estimate h.is in
    let there : IsKind k p (Some (of_kind k x)) = subst (λ (j : Kind). IsKind j p (Some (of_kind k x))) same h in
    subst (λ (j : Kind). IsKind j p (Some (of_kind k y))) (sym same)
    (kind_at k p y (more p (says_of k p x (Some (of_kind k x)) refl there)))
kind_replaces k x y more (ContextAt n) h = absurd (not_context k x n h)
kind_replaces k x y more (StackAt n) h = absurd (not_stack k x n h)

-- ---- registers
by_bool : (P : Option Content → Type 0) (b : Bool) (x y : Option Content) → (b ≡ true → P x) → (b ≡ false → P y) → P (if b then x else y)
by_bool P true x y here there = here refl
by_bool P false x y here there = there refl

at_place : (i j : ℕ) → nat_eq i j ≡ true → i ≡ j
at_place i j e = grind (arith, nat_tests, e)

off_place : (i j : ℕ) → nat_eq i j ≡ false → i ≢ j
off_place i j e = grind (arith, nat_tests, e)

pub put_has : (v : Value) (r d : ℕ) (c : Content) (s : Situation) → (r ≡ d → Has v (Some c)) → (r ≢ d → Has v (s.registers r)) → Has v ((put d c s).registers r)
put_has v r d c s here there =
    by_bool (λ (o : Option Content). Has v o) (nat_eq r d) (Some c) (s.registers r) (λ yes. here (at_place r d yes)) (λ no. there (off_place r d no))

-- a write keeps each fact that isn't of its register
pub put_elsewhere : (f : Fact) (d : ℕ) (c : Content) (s : Situation) → IsElsewhere d f → Entails s f → Entails (put d c s) f
put_elsewhere (Holds (Register r) v) d c s apart h = put_has v r d c s (λ is. absurd (apart is)) (λ no. h)
put_elsewhere (Holds (Slot i) v) d c s apart h = h
put_elsewhere (Long region n) d c s apart h = h
put_elsewhere (Stored at) d c s apart h = h

-- or all of them, where what is written is what stood there and more
pub put_replaces : (f : Fact) (d : ℕ) (x y : Content) (s : Situation) → s.registers d ≡ Some x → Replaces x y → Entails s f → Entails (put d y s) f
put_replaces (Holds (Register r) v) d x y s there more h =
    put_has v r d y s
    (λ is. more v (subst (λ (o : Option Content). Has v o) there (subst (λ (i : ℕ). Has v (s.registers i)) is h)))
    (λ no. h)
put_replaces (Holds (Slot i) v) d x y s there more h = h
put_replaces (Long region n) d x y s there more h = h
put_replaces (Stored at) d x y s there more h = h

pub put_here : (v : Value) (d : ℕ) (c : Content) (s : Situation) → Has v (Some c) → Has v ((put d c s).registers d)
put_here v d c s h = put_has v d d c s (λ is. h) (λ no. absurd (no refl))

-- ---- regions
abbrev IfLeast : (Least → Type 0) → Option Least → Type 0
IfLeast P None = Unit {0}
IfLeast P (Some least) = P least

abbrev IfBound : (ℕ → Type 0) → Option ℕ → Type 0
IfBound P None = Unit {0}
IfBound P (Some n) = P n

if_bound : (P : ℕ → Type 0) (b : Bool) (n : ℕ) → P n → IfBound P (if b then Some n else None)
if_bound P true n h = h
if_bound P false n h = tt

bound_grows : (limit bound low : ℕ) (t : Option ℕ) → IfBound (λ n. bound ≤ n) (raised_bound limit bound low t)
unfolding raised_bound
bound_grows limit bound low None = omega arith
bound_grows limit bound low (Some t) = if_bound (λ n. bound ≤ n) (nat_le (low + t) limit) (max bound (low + t)) (omega arith)

bound_reaches : (limit bound low m n : ℕ) (t : Option ℕ) → m ≤ low → HasTail n t → IfBound (λ b. m + n ≤ b) (raised_bound limit bound low t)
unfolding raised_bound
bound_reaches limit bound low m n None least h = absurd h
bound_reaches limit bound low m n (Some t) least h = if_bound (λ b. m + n ≤ b) (nat_le (low + t) limit) (max bound (low + t)) (omega (arith, least, h))

both_if : (P : Least → Type 0) (A B : ℕ → Type 0) (text link : Option ℕ) → IfBound A text → IfBound B link → ((t l : ℕ) → A t → B l → P (both_bounds t l)) → IfLeast P (option_and_then (λ t. option_map (both_bounds t) link) text)
both_if P A B None link h j both = tt
both_if P A B (Some t) None h j both = tt
both_if P A B (Some t) (Some l) h j both = both t l h j

longer_if : (P : Least → Type 0) (a : Estimate) (least : Least) (A B : ℕ → Type 0) → IfBound A (raised_bound (limit_of Text) least.text a.range.low a.tails.text) → IfBound B (raised_bound (limit_of Link) least.link a.range.low a.tails.link) → ((t l : ℕ) → A t → B l → P (both_bounds t l)) → IfLeast P (longer a least)
unfolding longer
longer_if P a least A B h j both =
    both_if P A B (raised_bound (limit_of Text) least.text a.range.low a.tails.text) (raised_bound (limit_of Link) least.link a.range.low a.tails.link) h j both

abbrev Grows : Least → Least → Type 0
Grows a b = (a.text ≤ b.text) × (a.link ≤ b.link)

longer_grows : (a : Estimate) (least : Least) → IfLeast (Grows least) (longer a least)
longer_grows a least =
    longer_if (Grows least) a least (λ n. least.text ≤ n) (λ n. least.link ≤ n) (bound_grows (limit_of Text) least.text a.range.low a.tails.text)
    (bound_grows (limit_of Link) least.link a.range.low a.tails.link) (λ t l h j. (h, j))

longer_reaches : (region : Region) (m n : ℕ) (a : Estimate) (least : Least) → m ≤ a.range.low → HasTail n (tail_of a.tails region) → IfLeast (λ b. m + n ≤ least_at b region) (longer a least)
longer_reaches Text m n a least low tail =
    longer_if (λ b. m + n ≤ least_at b Text) a least (λ b. m + n ≤ b) (λ b. least.link ≤ b) (bound_reaches (limit_of Text) least.text a.range.low m n a.tails.text low tail)
    (bound_grows (limit_of Link) least.link a.range.low a.tails.link) (λ t l h j. h)
longer_reaches Link m n a least low tail =
    longer_if (λ b. m + n ≤ least_at b Link) a least (λ b. least.text ≤ b) (λ b. m + n ≤ b) (bound_grows (limit_of Text) least.text a.range.low a.tails.text)
    (bound_reaches (limit_of Link) least.link a.range.low m n a.tails.link low tail) (λ t l h j. j)

grown : (f : Fact) (s : Situation) (least : Least) → Grows s.least least → Entails s f → Entails (with_least s least) f
grown (Holds (Register r) v) s least more h = h
grown (Holds (Slot i) v) s least more h = h
grown (Long Text n) s least more h = let one = more.0 in omega (arith, one, h)
grown (Long Link n) s least more h = let one = more.1 in omega (arith, one, h)
grown (Stored at) s least more h = h

map_least : (f : Fact) (P : Least → Type 0) (s : Situation) (o : Option Least) → IfLeast P o → ((least : Least) → P least → Entails (with_least s least) f) → EntailsIn (option_map (with_least s) o) f
map_least f P s None h each = tt
map_least f P s (Some least) h each = each least h

lengthened_entails : (f : Fact) (a : Estimate) (s : Situation) → Entails s f → EntailsIn (lengthened a s) f
unfolding lengthened
lengthened_entails f a s h = map_least f (Grows s.least) s (longer a s.least) (longer_grows a s.least) (λ least more. grown f s least more h)

lengthened_long : (region : Region) (m n : ℕ) (a : Estimate) (s : Situation) → m ≤ a.range.low → HasTail n (tail_of a.tails region) → EntailsIn (lengthened a s) (Long region (m + n))
unfolding lengthened
lengthened_long region m n a s low tail =
    map_least (Long region (m + n)) (λ b. m + n ≤ least_at b region) s (longer a s.least) (longer_reaches region m n a s.least low tail) (λ least h. h)

pub raised_entails : (f : Fact) (c : Content) (s : Situation) → Entails s f → EntailsIn (raised c s) f
unfolding raised
raised_entails f (ANumber a) s h = lengthened_entails f a s h
raised_entails f (InRegion r a) s h = lengthened_entails f a s h
raised_entails f (InContext n) s h = h
raised_entails f (InStack n) s h = h

pub raised_long : (region : Region) (m n : ℕ) (k : Kind) (a : Estimate) (s : Situation) → m ≤ a.range.low → HasTail n (tail_of a.tails region) → EntailsIn (raised (of_kind k a) s) (Long region (m + n))
unfolding raised
raised_long region m n Number a s low tail = lengthened_long region m n a s low tail
raised_long region m n (AddressIn r) a s low tail = lengthened_long region m n a s low tail

pub then_entails : (f : Fact) (o : Option Situation) (g : Situation → Option Situation) → EntailsIn o f → ((s : Situation) → Entails s f → EntailsIn (g s) f) → EntailsIn (option_and_then g o) f
then_entails f None g h next = tt
then_entails f (Some s) g h next = next s h

pub then_raised : (f : Fact) (c : Content) (o : Option Situation) → EntailsIn o f → EntailsIn (option_and_then (raised c) o) f
then_raised f c o h = then_entails f o (raised c) h (λ s held. raised_entails f c s held)

pub after_raised : (f : Fact) (c : Content) (o : Option Situation) → ((s : Situation) → EntailsIn (raised c s) f) → EntailsIn (option_and_then (raised c) o) f
after_raised f c None each = tt
after_raised f c (Some s) each = each s

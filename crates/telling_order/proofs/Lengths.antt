-- Two values raise the least lengths of what is lent alike in either order.
use Rattle.std.proofs.Common.{◌≡◌, ℕ, ◌+◌, nat_le, max, if◌then◌else◌, Bool, true, false, ◌&&◌, Option, Some, None, option_map, option_and_then, refl, sym, ap, ◌∙◌, arith}
use Rattle.abstract_state.specs.declared.region.Region.TheVariants.{Text, Link}
use Rattle.abstract_state.specs.Lent.{limit_of}
use Rattle.abstract_state.specs.Estimate.{Estimate}
use Rattle.abstract_state.specs.Addresses.{Content, ANumber, InRegion, InContext, InStack}
use Rattle.abstract_state.specs.Situation.{Least, Situation, raised_bound, both_bounds, longer, with_least, lengthened}
use Rattle.abstract_state.specs.Edges.{raised}

-- whether a number with a tail fits into what is lent, and how long that is then at least
abbrev fits : ℕ → ℕ → Option ℕ → Bool
fits limit low None = true
fits limit low (Some t) = nat_le (low + t) limit

abbrev grown : ℕ → ℕ → Option ℕ → ℕ
grown bound low None = bound
grown bound low (Some t) = max bound (low + t)

raised_is : (limit bound low : ℕ) (tail : Option ℕ) → raised_bound limit bound low tail ≡ (if fits limit low tail then Some (grown bound low tail) else None)
unfolding raised_bound
raised_is limit bound low None = refl
raised_is limit bound low (Some t) = refl

grown_twice : (bound low other : ℕ) (tail more : Option ℕ) → grown (grown bound low tail) other more ≡ grown (grown bound other more) low tail
grown_twice bound low other None None = refl
grown_twice bound low other None (Some u) = refl
grown_twice bound low other (Some t) None = refl
grown_twice bound low other (Some t) (Some u) = omega arith

abbrev both_fit : Estimate → Bool
both_fit a = fits (limit_of Text) a.range.low a.tails.text && fits (limit_of Link) a.range.low a.tails.link

abbrev both_grown : Estimate → Least → Least
both_grown a least = both_bounds (grown least.text a.range.low a.tails.text) (grown least.link a.range.low a.tails.link)

one_and_other : (b c : Bool) (text link : ℕ) → option_and_then (λ x. option_map (both_bounds x) (if c then Some link else None)) (if b then Some text else None) ≡ (if b && c then Some (both_bounds text link) else None)
one_and_other true true text link = refl
one_and_other true false text link = refl
one_and_other false true text link = refl
one_and_other false false text link = refl

longer_is : (a : Estimate) (least : Least) → longer a least ≡ (if both_fit a then Some (both_grown a least) else None)
unfolding longer
longer_is a least =
    rw (raised_is (limit_of Text) least.text a.range.low a.tails.text, raised_is (limit_of Link) least.link a.range.low a.tails.link)
    (one_and_other (fits (limit_of Text) a.range.low a.tails.text) (fits (limit_of Link) a.range.low a.tails.link) (grown least.text a.range.low a.tails.text) (grown least.link a.range.low a.tails.link))

both_grown_twice : (a b : Estimate) (least : Least) → both_grown b (both_grown a least) ≡ both_grown a (both_grown b least)
both_grown_twice a b least =
    ap (λ (n : ℕ). both_bounds n (grown (grown least.link a.range.low a.tails.link) b.range.low b.tails.link)) (grown_twice least.text a.range.low b.range.low a.tails.text b.tails.text)
    ∙ ap (λ (n : ℕ). both_bounds (grown (grown least.text b.range.low b.tails.text) a.range.low a.tails.text) n) (grown_twice least.link a.range.low b.range.low a.tails.link b.tails.link)

-- ---- what a value says of the least lengths, whatever else is known
abbrev pub lengths_by : Content → Least → Option Least
lengths_by (ANumber a) least = longer a least
lengths_by (InRegion region a) least = longer a least
lengths_by (InContext p) least = Some least
lengths_by (InStack p) least = Some least

pub raised_by : (content : Content) (s : Situation) → raised content s ≡ option_map (with_least s) (lengths_by content s.least)
unfolding raised lengthened
raised_by (ANumber a) s = refl
raised_by (InRegion region a) s = refl
raised_by (InContext p) s = refl
raised_by (InStack p) s = refl

then_same : {A B : Type 0} (f g : A → Option B) (o : Option A) → ((x : A) → f x ≡ g x) → option_and_then f o ≡ option_and_then g o
then_same f g None same = refl
then_same f g (Some x) same = same x

each_if : (b c : Bool) (f g : Least → Least) (least : Least) → g (f least) ≡ f (g least) → option_and_then (λ m. if c then Some (g m) else None) (if b then Some (f least) else None) ≡ option_and_then (λ m. if b then Some (f m) else None) (if c then Some (g least) else None)
each_if true true f g least same = ap Some same
each_if true false f g least same = refl
each_if false true f g least same = refl
each_if false false f g least same = refl

longer_twice : (a b : Estimate) (least : Least) → option_and_then (longer b) (longer a least) ≡ option_and_then (longer a) (longer b least)
longer_twice a b least =
    then_same (longer b) (λ m. if both_fit b then Some (both_grown b m) else None) (longer a least) (longer_is b)
    ∙ ap (option_and_then (λ m. if both_fit b then Some (both_grown b m) else None)) (longer_is a least)
    ∙ each_if (both_fit a) (both_fit b) (both_grown a) (both_grown b) least (both_grown_twice a b least)
    ∙ sym (ap (option_and_then (λ m. if both_fit a then Some (both_grown a m) else None)) (longer_is b least))
    ∙ sym (then_same (longer a) (λ m. if both_fit a then Some (both_grown a m) else None) (longer b least) (longer_is a))

nothing_more : (o : Option Least) → option_and_then Some o ≡ o
nothing_more None = refl
nothing_more (Some least) = refl

pub lengths_twice : (c d : Content) (least : Least) → option_and_then (lengths_by d) (lengths_by c least) ≡ option_and_then (lengths_by c) (lengths_by d least)
lengths_twice (ANumber a) (ANumber b) least = longer_twice a b least
lengths_twice (ANumber a) (InRegion region b) least = longer_twice a b least
lengths_twice (ANumber a) (InContext p) least = nothing_more (longer a least)
lengths_twice (ANumber a) (InStack p) least = nothing_more (longer a least)
lengths_twice (InRegion region a) (ANumber b) least = longer_twice a b least
lengths_twice (InRegion region a) (InRegion other b) least = longer_twice a b least
lengths_twice (InRegion region a) (InContext p) least = nothing_more (longer a least)
lengths_twice (InRegion region a) (InStack p) least = nothing_more (longer a least)
lengths_twice (InContext p) (ANumber b) least = sym (nothing_more (longer b least))
lengths_twice (InContext p) (InRegion region b) least = sym (nothing_more (longer b least))
lengths_twice (InContext p) (InContext q) least = refl
lengths_twice (InContext p) (InStack q) least = refl
lengths_twice (InStack p) (ANumber b) least = sym (nothing_more (longer b least))
lengths_twice (InStack p) (InRegion region b) least = sym (nothing_more (longer b least))
lengths_twice (InStack p) (InContext q) least = refl
lengths_twice (InStack p) (InStack q) least = refl

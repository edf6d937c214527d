-- What an estimate says, by the interval and the tails that it keeps.
use Rattle.std.proofs.Common.{◌≡◌, ◌<◌, ◌≤◌, if◌then◌else◌, Bool, true, false, Option, Some, None, refl, sym, ap, ◌∙◌, subst, arith}
use Rattle.std.specs.Prelude.{option_and_then, unwrap_or}
use Rattle.intervals.specs.Interval.{Interval}
use Rattle.known_bits.specs.KnownBits.{none_known}
use Rattle.abstract_state.specs.declared.region.Tails.{Tails}
use Rattle.abstract_state.specs.Lent.{tail_of}
use Rattle.abstract_state.specs.Estimate.{Estimate}
use Rattle.abstract_state.specs.Addresses.{Content, ANumber, InContext, InStack, InRegion}
use Rattle.guarded_rules.specs.Facts.{Kind, Number, AddressIn, Property, Any, AtLeast, AtMost, Behind, Value, Of, ContextAt, StackAt}
use Rattle.guarded_rules.specs.Keeps.{IsKept, Keeps}
use Rattle.guarded_rules.specs.Says.{of_kind, greatest, HasTail, HasProperty, Says, SaysIn, IsKind, Has}

abbrev pub seen : Interval → Tails → Estimate
seen a tails = record { bits = none_known; range = a; tails = tails }

pub property_kept : (p : Property) (a : Interval) (tails : Tails) (e : Estimate) → IsKept a tails e → HasProperty p (seen a tails) → HasProperty p e
property_kept Any a tails e kept h = tt
property_kept (AtLeast n) a tails e kept h = omega (arith, kept.low, h)
property_kept (AtMost n) a tails e kept h = omega (arith, kept.high, h)
property_kept (Behind r n) a tails e kept h = subst (λ (t : Tails). HasTail n (tail_of t r)) (sym kept.tails) h

pub says_kept : (k : Kind) (p : Property) (a : Interval) (tails : Tails) (o : Option Estimate) → a.high ≤ greatest k → Keeps a tails o → HasProperty p (seen a tails) → SaysIn k p o
says_kept k p a tails None top kept h = tt
says_kept k p a tails (Some e) top kept h = record { proper = kept.proper; word = omega (arith, kept.high, top); has = property_kept p a tails e kept h }

-- no number lies in an interval that ends before it begins
pub none_kept : (a : Interval) (tails : Tails) (o : Option Estimate) (k : Kind) (p : Property) → a.high < a.low → Keeps a tails o → SaysIn k p o
none_kept a tails None k p less kept = tt
none_kept a tails (Some e) k p less kept = absurd (omega (arith, less, kept.low, kept.proper, kept.high))

pub set_says : (k : Kind) (p : Property) (a : Estimate) → Says k p a → Says k Any a
set_says k p a h = record { proper = h.proper; word = h.word; has = tt }

-- one thing after another
pub bind_says : (k : Kind) (p : Property) (a : Interval) (tails : Tails) (o : Option Estimate) (f : Estimate → Option Estimate) → Keeps a tails o → ((e : Estimate) → IsKept a tails e → SaysIn k p (f e)) → SaysIn k p (option_and_then f o)
bind_says k p a tails None f kept next = tt
bind_says k p a tails (Some e) f kept next = next e kept

pub then_says : (k : Kind) (p q : Property) (o : Option Estimate) (f : Estimate → Option Estimate) → SaysIn k q o → ((e : Estimate) → Says k q e → SaysIn k p (f e)) → SaysIn k p (option_and_then f o)
then_says k p q None f h next = tt
then_says k p q (Some e) f h next = next e h

pub if_says : (k : Kind) (p : Property) (b : Bool) (x y : Option Estimate) → SaysIn k p x → SaysIn k p y → SaysIn k p (if b then x else y)
if_says k p true x y h j = h
if_says k p false x y h j = j

pub unwrap_says : (k : Kind) (p : Property) (o : Option Estimate) (a : Estimate) → SaysIn k p o → Says k p a → Says k p (unwrap_or o a)
unwrap_says k p None a h j = j
unwrap_says k p (Some e) a h j = h

-- ---- of what a place holds
pub kind_at : (k : Kind) (p : Property) (a : Estimate) → Says k p a → IsKind k p (Some (of_kind k a))
kind_at k p a h = record { estimate = a; is = refl; says = h }

pub estimate_at : Option Content → Estimate → Estimate
estimate_at None other = other
estimate_at (Some (ANumber a)) other = a
estimate_at (Some (InContext n)) other = other
estimate_at (Some (InStack n)) other = other
estimate_at (Some (InRegion r a)) other = a

at_kind : (k : Kind) (a other : Estimate) → estimate_at (Some (of_kind k a)) other ≡ a
unfolding estimate_at
at_kind Number a other = refl
at_kind (AddressIn r) a other = refl

-- one place holds one estimate, so two facts of it speak of the same
pub one_estimate : (k l : Kind) (a b : Estimate) (o : Option Content) → o ≡ Some (of_kind k a) → o ≡ Some (of_kind l b) → b ≡ a
one_estimate k l a b o is was =
    sym (at_kind l b a) ∙ ap (λ (c : Option Content). estimate_at c a) (sym was ∙ is) ∙ at_kind k a a

pub says_of : (k : Kind) (p : Property) (a : Estimate) (o : Option Content) → o ≡ Some (of_kind k a) → IsKind k p o → Says k p a
says_of k p a o is h = subst (λ (e : Estimate). Says k p e) (one_estimate k k a h.estimate o is h.is) h.says

pub none_has : (v : Value) → Has v None → ⊥
none_has (Of Number p) h = absurd (let e = h.is in cc)
none_has (Of (AddressIn r) p) h = absurd (let e = h.is in cc)
none_has (ContextAt n) h = cc
none_has (StackAt n) h = cc

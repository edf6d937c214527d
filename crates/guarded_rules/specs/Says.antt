-- What a situation says of facts.
use Rattle.std.specs.Prelude.{◌≡◌, ℕ, ◌-◌, ◌^◌, ◌≤◌, true, Option, Some, None, Result, Ok, Err}
use Rattle.abstract_state.specs.declared.refusal.Refusal.{Refusal}
use Rattle.abstract_state.specs.Lent.{tail_of}
use Rattle.abstract_state.specs.Estimate.{Estimate}
use Rattle.abstract_state.specs.Addresses.{Content, ANumber, InContext, InStack, InRegion}
use Rattle.abstract_state.specs.Stacks.{whole_in, is_set}
use Rattle.abstract_state.specs.Situation.{Situation, least_at}
use Rattle.guarded_rules.specs.Facts.{Place, Register, Slot, Kind, Number, AddressIn, Property, Any, AtLeast, AtMost}
use Rattle.guarded_rules.specs.Facts.{Behind, Value, Of, ContextAt, StackAt, Fact, Holds, Long, Stored}

abbrev pub of_kind : Kind → Estimate → Content
of_kind Number a = ANumber a
of_kind (AddressIn r) a = InRegion r a

-- a number is a word, and an address stays near its region's begin
abbrev pub greatest : Kind → ℕ
greatest Number = 2 ^ 64 - 1
greatest (AddressIn r) = 2 ^ 20

abbrev pub HasTail : ℕ → Option ℕ → Type 0
HasTail n None = ⊥
HasTail n (Some t) = n ≤ t

abbrev pub HasProperty : Property → Estimate → Type 0
HasProperty Any a = Unit {0}
HasProperty (AtLeast n) a = n ≤ a.range.low
HasProperty (AtMost n) a = a.range.high ≤ n
HasProperty (Behind r n) a = HasTail n (tail_of a.tails r)

-- an estimate holds a number of the kind, and has the property
pub record Says (k : Kind) (p : Property) (a : Estimate) : Type 0 where
  pub proper : a.range.low ≤ a.range.high
  pub word : a.range.high ≤ greatest k
  pub has : HasProperty p a

-- where no number is left, no run comes, and everything holds
abbrev pub SaysIn : Kind → Property → Option Estimate → Type 0
SaysIn k p None = Unit {0}
SaysIn k p (Some a) = Says k p a

-- what a place holds is of the kind, and has the property
pub record IsKind (k : Kind) (p : Property) (o : Option Content) : Type 0 where
  pub estimate : Estimate
  pub is : o ≡ Some (of_kind k estimate)
  pub says : Says k p estimate

abbrev pub Has : Value → Option Content → Type 0
Has (Of k p) o = IsKind k p o
Has (ContextAt n) o = o ≡ Some (InContext n)
Has (StackAt n) o = o ≡ Some (InStack n)

abbrev pub content_in : Situation → Place → Option Content
content_in s (Register r) = s.registers r
content_in s (Slot i) = whole_in (s.slots i)

abbrev pub Entails : Situation → Fact → Type 0
Entails s (Holds place value) = Has value (content_in s place)
Entails s (Long region n) = n ≤ least_at s.least region
Entails s (Stored at) = is_set s.slots at ≡ true

abbrev pub EntailsIn : Option Situation → Fact → Type 0
EntailsIn None f = Unit {0}
EntailsIn (Some s) f = Entails s f

-- what an answer says, where it isn't refused
abbrev pub OnAnswer : Value → Result (Option Content) Refusal → Type 0
OnAnswer value (Ok None) = Unit {0}
OnAnswer value (Ok (Some content)) = Has value (Some content)
OnAnswer value (Err refusal) = Unit {0}

abbrev pub OnSituation : Fact → Result (Option Situation) Refusal → Type 0
OnSituation f (Ok o) = EntailsIn o f
OnSituation f (Err refusal) = Unit {0}

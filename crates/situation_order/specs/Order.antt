-- Of what a register or a slot of the stack holds no less is known than of what another does.
use Rattle.std.specs.Prelude.{◌≡◌, Option, Some, None, Result, Ok, Err}
use Rattle.abstract_state.specs.declared.refusal.Refusal.{Refusal}
use Rattle.abstract_state.specs.Estimate.{Estimate}
use Rattle.abstract_state.specs.Addresses.{Content, ANumber, InContext, InStack, InRegion}
use Rattle.estimate_order.specs.Order.{IsWithin, IsNumber}

-- two numbers of a program, of which the first is known no less
pub record AreOrdered (a b : Estimate) : Type 0 where
  pub first : IsNumber a
  pub second : IsNumber b
  pub within : IsWithin a b

-- of one kind
abbrev pub IsContentWithin : Content → Content → Type 0
IsContentWithin (ANumber a) (ANumber b) = AreOrdered a b
IsContentWithin (InContext p) (InContext q) = p ≡ q
IsContentWithin (InStack p) (InStack q) = p ≡ q
IsContentWithin (InRegion r a) (InRegion s b) = (r ≡ s) × AreOrdered a b
IsContentWithin a b = ⊥

-- where the second answer is a refusal the first may be any; where no run comes past by it, none comes by the first
abbrev pub IsAnswerWithin : {A : Type 0} → (A → A → Type 0)
    → Result (Option A) Refusal → Result (Option A) Refusal → Type 0
IsAnswerWithin within r (Err e) = Unit {0}
IsAnswerWithin within (Err e) (Ok o) = ⊥
IsAnswerWithin within (Ok None) (Ok o) = Unit {0}
IsAnswerWithin within (Ok (Some a)) (Ok None) = ⊥
IsAnswerWithin within (Ok (Some a)) (Ok (Some b)) = within a b

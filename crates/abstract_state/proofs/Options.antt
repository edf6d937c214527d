-- Facts of an option that is there.
use Rattle.std.proofs.Common.{◌≡◌, Option, Some, None, refl, subst}
use Rattle.std.specs.Option.{IfSome}

pub at_some : {A : Type 0} (P : A → Type 0) (o : Option A) (a : A) → o ≡ Some a → (b : A) × (o ≡ Some b) × P b → P a
at_some P o a is (b, e, h) = let same : b ≡ a = cc in subst P same h

pub at_none : {A : Type 0} (P : A → Type 0) (o : Option A) → o ≡ None → (b : A) × (o ≡ Some b) × P b → ⊥
at_none P o is (b, e, h) = cc

pub where_some : {A : Type 0} (P : A → Type 0) (o : Option A) → ((a : A) → o ≡ Some a → P a) → IfSome o P
where_some P None f = tt
where_some P (Some a) f = f a refl

pub some_is : {A : Type 0} (P : A → Type 0) (o : Option A) (a : A) → o ≡ Some a → IfSome o P → P a
some_is {A = A} P o a is h = subst (λ (v : Option A). IfSome v P) is h

-- The shapes of instructions: what stands behind a mnemonic, before its registers and numbers are looked at.
-- Each reader takes what is at the front, and gives it with the terms behind it.
use Rattle.std.specs.Prelude.{ℕ, Bool, true, false, if◌then◌else◌, List, [], ◌∷◌, Option, Some, None, option_map}
use Rattle.assembler_lines.specs.declared.token.Sign.TheVariants.{Comma, Open, Close, Plus, Minus}
use Rattle.assembler_lines.specs.declared.token.Numeral.{Numeral}
use Rattle.assembler_lines.specs.declared.token.SignedNumeral.{SignedNumeral}
use Rattle.assembler_lines.specs.Terms.{Term, Symbol, Name, Number, ◌>>=◌}

-- a second operand: a register by its name, or a number
pub data Value : Type 0 where
  Named : List ℕ → Value
  Constant : SignedNumeral → Value

-- where a jump goes: to a label, or by a number of slots
pub data Target : Type 0 where
  AtLabel : List ℕ → Target
  Distance : SignedNumeral → Target

-- an address: a base register by its name, and an offset
pub record Address : Type 0 where
  pub base : List ℕ
  pub offset : SignedNumeral

abbrev pub signed : Bool → Numeral → SignedNumeral
signed negative numeral = record { negative = negative; numeral = numeral }

abbrev pub comma_at : List Term → Option (List Term)
comma_at (Symbol Comma ∷ terms) = Some terms
comma_at terms = None

abbrev pub open_at : List Term → Option (List Term)
open_at (Symbol Open ∷ terms) = Some terms
open_at terms = None

abbrev pub close_at : List Term → Option (List Term)
close_at (Symbol Close ∷ terms) = Some terms
close_at terms = None

-- nothing more
abbrev pub end_at : List Term → Option (List Term)
end_at [] = Some []
end_at (term ∷ terms) = None

unfoldable pub name_at : List Term → Option (List ℕ × List Term)
name_at (Name word ∷ terms) = Some (word, terms)
name_at terms = None

abbrev pub number_at : List Term → Option (Numeral × List Term)
number_at (Number numeral ∷ terms) = Some (numeral, terms)
number_at terms = None

-- what was taken, as another thing
abbrev pub taken_as : {A B : Type 0} → (A → B) → Option (A × List Term) → Option (B × List Term)
taken_as change found = option_map (λ x. (change x.0, x.1)) found

abbrev pub either : {A : Type 0} → Option A → Option A → Option A
either (Some first) second = Some first
either None second = second

-- a number with its sign
unfoldable pub signed_at : List Term → Option (SignedNumeral × List Term)
signed_at (Symbol Plus ∷ terms) = taken_as (signed false) (number_at terms)
signed_at (Symbol Minus ∷ terms) = taken_as (signed true) (number_at terms)
signed_at terms = None

-- a `-` is for decimal numbers
abbrev pub minus_at : Option (Numeral × List Term) → Option (SignedNumeral × List Term)
minus_at None = None
minus_at (Some found) = if found.0.hexadecimal then None else Some (signed true found.0, found.1)

-- an immediate: a number, or `-` and a decimal number
unfoldable pub constant_at : List Term → Option (SignedNumeral × List Term)
constant_at (Number numeral ∷ terms) = Some (signed false numeral, terms)
constant_at (Symbol Minus ∷ terms) = minus_at (number_at terms)
constant_at terms = None

-- a wide load's number; one with a sign is out of its range
unfoldable pub wide_at : List Term → Option (Option ℕ × List Term)
wide_at terms = either (taken_as (λ numeral. numeral.value) (number_at terms)) (taken_as (λ _. None) (signed_at terms))

unfoldable pub value_at : List Term → Option (Value × List Term)
value_at terms = either (taken_as Named (name_at terms)) (taken_as Constant (constant_at terms))

unfoldable pub target_at : List Term → Option (Target × List Term)
target_at terms = either (taken_as AtLabel (name_at terms)) (taken_as Distance (signed_at terms))

-- `[rS+N]`
unfoldable pub address_at : List Term → Option (Address × List Term)
address_at terms = do
  inner ← open_at terms
  base ← name_at inner
  offset ← signed_at base.1
  behind ← close_at offset.1
  Some (record { base = base.0; offset = offset.0 }, behind)

-- `rD`
unfoldable pub lone_name : List Term → Option (List ℕ)
lone_name terms = do
  name ← name_at terms
  _ ← end_at name.1
  Some name.0

-- `rD, rS`
unfoldable pub two_names : List Term → Option (List ℕ × List ℕ)
two_names terms = do
  first ← name_at terms
  behind ← comma_at first.1
  second ← lone_name behind
  Some (first.0, second)

-- `rD, rS` and `rD, N`
unfoldable pub name_and_value : List Term → Option (List ℕ × Value)
name_and_value terms = do
  name ← name_at terms
  behind ← comma_at name.1
  value ← value_at behind
  _ ← end_at value.1
  Some (name.0, value.0)

-- `rD, N` of a wide load
unfoldable pub name_and_wide : List Term → Option (List ℕ × Option ℕ)
name_and_wide terms = do
  name ← name_at terms
  behind ← comma_at name.1
  wide ← wide_at behind
  _ ← end_at wide.1
  Some (name.0, wide.0)

-- `rD, [rS+N]`
unfoldable pub name_and_address : List Term → Option (List ℕ × Address)
name_and_address terms = do
  name ← name_at terms
  behind ← comma_at name.1
  address ← address_at behind
  _ ← end_at address.1
  Some (name.0, address.0)

-- `[rD+N], N`
unfoldable pub address_and_constant : List Term → Option (Address × SignedNumeral)
address_and_constant terms = do
  address ← address_at terms
  behind ← comma_at address.1
  constant ← constant_at behind
  _ ← end_at constant.1
  Some (address.0, constant.0)

-- `[rD+N], rS`
unfoldable pub address_and_name : List Term → Option (Address × List ℕ)
address_and_name terms = do
  address ← address_at terms
  behind ← comma_at address.1
  name ← lone_name behind
  Some (address.0, name)

-- `T`
unfoldable pub lone_target : List Term → Option Target
lone_target terms = do
  target ← target_at terms
  _ ← end_at target.1
  Some target.0

-- `rD, rS` or `rD, N`, and `, T`
unfoldable pub name_value_and_target : List Term → Option (List ℕ × Value × Target)
name_value_and_target terms = do
  name ← name_at terms
  behind ← comma_at name.1
  value ← value_at behind
  last ← comma_at value.1
  target ← lone_target last
  Some (name.0, value.0, target)

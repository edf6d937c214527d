-- The shapes of instructions as they are written: which terms stand behind a mnemonic.
use Rattle.std.specs.Prelude.{◌≡◌, ℕ, false, ◌&&◌, if◌then◌else◌, ◌↔◌, ◌⊎◌, List, [], ◌∷◌, ◌++◌, Option, Some, None}
use Rattle.assembler_lines.specs.declared.token.Sign.TheVariants.{Comma, Open, Close, Plus, Minus}
use Rattle.assembler_lines.specs.declared.token.Numeral.{Numeral}
use Rattle.assembler_lines.specs.declared.token.SignedNumeral.{SignedNumeral}
use Rattle.assembler_lines.specs.Terms.{Term, Symbol, Name, Number}
use Rattle.assembler_lines.specs.Shapes.{Value, Named, Constant, Target, AtLabel, Distance, Address, lone_name}
use Rattle.assembler_lines.specs.Shapes.{two_names, name_and_value, name_and_wide, name_and_address}
use Rattle.assembler_lines.specs.Shapes.{address_and_constant, address_and_name, lone_target, name_value_and_target}

-- a number that has its sign
abbrev pub written_signed : SignedNumeral → List Term
written_signed number = Symbol (if number.negative then Minus else Plus) ∷ Number number.numeral ∷ []

-- an immediate has a sign only where it is negative, and then isn't hexadecimal
abbrev pub written_immediate : SignedNumeral → List Term
written_immediate number =
    if number.negative then Symbol Minus ∷ Number number.numeral ∷ [] else Number number.numeral ∷ []

abbrev pub IsImmediate : SignedNumeral → Type 0
IsImmediate number = (number.negative && number.numeral.hexadecimal) ≡ false

abbrev pub written_value : Value → List Term
written_value (Named word) = Name word ∷ []
written_value (Constant number) = written_immediate number

abbrev pub IsValue : Value → Type 0
IsValue (Named word) = Unit {0}
IsValue (Constant number) = IsImmediate number

abbrev pub written_target : Target → List Term
written_target (AtLabel word) = Name word ∷ []
written_target (Distance number) = written_signed number

abbrev pub written_address : Address → List Term
written_address address = Symbol Open ∷ Name address.base ∷ written_signed address.offset ++ Symbol Close ∷ []

-- a wide load's number has no sign; one that has is read as out of range
abbrev pub IsWide : List Term → Option ℕ → Type 0
IsWide terms value =
    ((numeral : Numeral) × (terms ≡ Number numeral ∷ []) × (value ≡ numeral.value)) ⊎
    ((number : SignedNumeral) × (terms ≡ written_signed number) × (value ≡ None))

-- `rD`
abbrev pub LoneName : List Term → Type 0
LoneName terms = (d : List ℕ) → (lone_name terms ≡ Some d) ↔ (terms ≡ Name d ∷ [])

-- `rD, rS`
abbrev pub TwoNames : List Term → Type 0
TwoNames terms = (d s : List ℕ) → (two_names terms ≡ Some (d, s)) ↔ (terms ≡ Name d ∷ Symbol Comma ∷ Name s ∷ [])

-- `rD, rS` and `rD, N`
abbrev pub NameAndValue : List Term → Type 0
NameAndValue terms =
    (d : List ℕ) (v : Value)
    → (name_and_value terms ≡ Some (d, v)) ↔ ((terms ≡ Name d ∷ Symbol Comma ∷ written_value v) × IsValue v)

-- `rD, N` of a wide load
abbrev pub NameAndWide : List Term → Type 0
NameAndWide terms =
    (d : List ℕ) (n : Option ℕ)
    → (name_and_wide terms ≡ Some (d, n)) ↔ ((ts : List Term) × (terms ≡ Name d ∷ Symbol Comma ∷ ts) × IsWide ts n)

-- `rD, [rS+N]`
abbrev pub NameAndAddress : List Term → Type 0
NameAndAddress terms =
    (d : List ℕ) (a : Address)
    → (name_and_address terms ≡ Some (d, a)) ↔ (terms ≡ Name d ∷ Symbol Comma ∷ written_address a)

-- `[rD+N], N`
abbrev pub AddressAndConstant : List Term → Type 0
AddressAndConstant terms =
    (a : Address) (n : SignedNumeral)
    → (address_and_constant terms ≡ Some (a, n))
    ↔ ((terms ≡ written_address a ++ Symbol Comma ∷ written_immediate n) × IsImmediate n)

-- `[rD+N], rS`
abbrev pub AddressAndName : List Term → Type 0
AddressAndName terms =
    (a : Address) (s : List ℕ)
    → (address_and_name terms ≡ Some (a, s)) ↔ (terms ≡ written_address a ++ Symbol Comma ∷ Name s ∷ [])

-- `T`
abbrev pub LoneTarget : List Term → Type 0
LoneTarget terms = (t : Target) → (lone_target terms ≡ Some t) ↔ (terms ≡ written_target t)

-- `rD, rS, T` and `rD, N, T`
abbrev pub NameValueAndTarget : List Term → Type 0
NameValueAndTarget terms =
    (d : List ℕ) (v : Value) (t : Target)
    → (name_value_and_target terms ≡ Some (d, v, t))
    ↔ ((terms ≡ Name d ∷ Symbol Comma ∷ written_value v ++ Symbol Comma ∷ written_target t) × IsValue v)

-- What a line says. In a line the order of faults is: a character or number of no token, the first word, the shape,
-- registers, numbers, and a distance that is out of its jump's range.
use Rattle.std.specs.Prelude.{ℕ, zero, suc, ◌-◌, ◌^◌, nat_lt, nat_le, ◌==◌, ◌&&◌, if◌then◌else◌, Bool, true, false}
use Rattle.std.specs.Prelude.{List, [], ◌∷◌, Option, Some, None, Result, Ok, Err, ℤ, pos, negsuc}
use Rattle.bpf_words.specs.declared.instruction.Operand.{Operand}
use Rattle.bpf_words.specs.declared.instruction.Operand.TheVariants.{Immediate, Source}
use Rattle.bpf_words.specs.declared.instruction.Insn.{Insn}
use Rattle.bpf_words.specs.declared.instruction.Insn.TheVariants as insn
use Rattle.assembler_lines.specs.declared.fault.LineFault.{LineFault}
use Rattle.assembler_lines.specs.declared.fault.LineFault.TheVariants.{Syntax, UnknownName, NumberRange, JumpRange}
use Rattle.assembler_lines.specs.declared.form.Form.{Form}
use Rattle.assembler_lines.specs.declared.form.Form.TheVariants as form
use Rattle.assembler_lines.specs.declared.statement.Jump.{Jump}
use Rattle.assembler_lines.specs.declared.statement.Jump.TheVariants.{Short, Long, OnComparison}
use Rattle.assembler_lines.specs.declared.token.Sign.TheVariants.{Colon}
use Rattle.assembler_lines.specs.declared.token.SignedNumeral.{SignedNumeral}
use Rattle.assembler_lines.specs.Tokens.{tokens_of}
use Rattle.assembler_lines.specs.Terms.{Term, Symbol, Name, Number, terms_of}
use Rattle.assembler_lines.specs.Mnemonics.{form_named}
use Rattle.assembler_lines.specs.Shapes.{Value, Named, Constant, Target, AtLabel, Distance, lone_name, two_names}
use Rattle.assembler_lines.specs.Shapes.{name_and_value, name_and_wide, name_and_address, address_and_constant}
use Rattle.assembler_lines.specs.Shapes.{address_and_name, lone_target, name_value_and_target}

-- what a line says: nothing, a label, an instruction, or a jump to a label
pub data Statement : Type 0 where
  Blank : Statement
  Label : List ℕ → Statement
  Plain : Insn → Statement
  Onto : Jump → List ℕ → Statement

abbrev pub Judged : Type 0 → Type 0
Judged A = Result A LineFault

infixl 10 ◌>>=◌
abbrev pub ◌>>=◌ : {A B : Type 0} → Judged A → (A → Judged B) → Judged B
Ok a >>= f = f a
Err fault >>= f = Err fault

-- a value that has to be there
abbrev pub demand : {A : Type 0} → LineFault → Option A → Judged A
demand fault None = Err fault
demand fault (Some a) = Ok a

-- `r0` to `r10`
unfoldable pub register_named : List ℕ → Option ℕ
register_named [] = None
register_named (r ∷ []) = None
register_named (r ∷ d ∷ []) = if r == 114 && nat_le 48 d && nat_le d 57 then Some (d - 48) else None
register_named (r ∷ d ∷ e ∷ []) = if r == 114 && d == 49 && e == 48 then Some 10 else None
register_named (r ∷ d ∷ e ∷ f ∷ word) = None

unfoldable pub register : List ℕ → Judged ℕ
register word = demand UnknownName (register_named word)

-- minus a number
abbrev pub negated : ℕ → ℤ
negated zero = pos 0
negated (suc n) = negsuc n

-- a signed number from minus the limit on, below the limit
abbrev pub value_within : ℕ → Bool → Option ℕ → Option ℤ
value_within limit negative None = None
value_within limit true (Some n) = if nat_le n limit then Some (negated n) else None
value_within limit false (Some n) = if nat_lt n limit then Some (pos n) else None

unfoldable pub within : ℕ → SignedNumeral → Option ℤ
within limit number = value_within limit number.negative number.numeral.value

-- an offset of 16 bits
unfoldable pub offset : SignedNumeral → Judged ℤ
offset number = demand NumberRange (within (2 ^ 15) number)

-- 32 bits, read as a signed number
abbrev pub as_signed : ℕ → ℤ
as_signed n = if nat_lt n (2 ^ 31) then pos n else negsuc (2 ^ 32 - 1 - n)

abbrev pub hexadecimal_value : Option ℕ → Option ℤ
hexadecimal_value None = None
hexadecimal_value (Some n) = if nat_lt n (2 ^ 32) then Some (as_signed n) else None

-- an immediate of 32 bits: a signed decimal number, or the bits in hexadecimal
unfoldable pub immediate : SignedNumeral → Judged ℤ
immediate number =
    demand NumberRange (if number.numeral.hexadecimal then hexadecimal_value number.numeral.value
    else within (2 ^ 31) number)

unfoldable pub operand : Value → Judged Operand
operand (Named word) = do
  source ← register word
  Ok (Source source)
operand (Constant number) = do
  value ← immediate number
  Ok (Immediate value)

-- how far a jump reaches: from minus this on, below this
abbrev pub reach : Jump → ℕ
reach Long = 2 ^ 31
reach Short = 2 ^ 15
reach (OnComparison width comparison left right) = 2 ^ 15

-- the jump over a distance
unfoldable pub jump_by : Jump → ℤ → Insn
jump_by Short distance = insn.Jump distance
jump_by Long distance = insn.JumpLong distance
jump_by (OnComparison width comparison left right) distance = insn.Branch width comparison left right distance

-- the jump over a distance as it is written
unfoldable pub jump_over : Jump → SignedNumeral → Judged Insn
jump_over jump number = do
  distance ← demand JumpRange (within (reach jump) number)
  Ok (jump_by jump distance)

unfoldable pub jump_to : Jump → Target → Judged Statement
jump_to jump (AtLabel name) = Ok (Onto jump name)
jump_to jump (Distance number) = do
  insn ← jump_over jump number
  Ok (Plain insn)

-- the instruction of a form, from what stands behind its mnemonic
unfoldable pub instruction_of : Form → List Term → Judged Statement
instruction_of (form.Compute width operation) terms = do
  shape ← demand Syntax (name_and_value terms)
  destination ← register shape.0
  value ← operand shape.1
  Ok (Plain (insn.Compute width operation destination value))
instruction_of (form.Negate width) terms = do
  name ← demand Syntax (lone_name terms)
  destination ← register name
  Ok (Plain (insn.Negate width destination))
instruction_of (form.Extend extension) terms = do
  names ← demand Syntax (two_names terms)
  destination ← register names.0
  source ← register names.1
  Ok (Plain (insn.Extend extension destination source))
instruction_of (form.Convert conversion bits) terms = do
  name ← demand Syntax (lone_name terms)
  destination ← register name
  Ok (Plain (insn.Convert conversion bits destination))
instruction_of form.Jump terms = do
  target ← demand Syntax (lone_target terms)
  jump_to Short target
instruction_of form.JumpLong terms = do
  target ← demand Syntax (lone_target terms)
  jump_to Long target
instruction_of (form.Branch width comparison) terms = do
  shape ← demand Syntax (name_value_and_target terms)
  left ← register shape.0
  right ← operand shape.1
  jump_to (OnComparison width comparison left right) shape.2
instruction_of (form.Load size) terms = do
  shape ← demand Syntax (name_and_address terms)
  destination ← register shape.0
  base ← register shape.1.base
  offset ← offset shape.1.offset
  Ok (Plain (insn.Load size destination base offset))
instruction_of (form.LoadSigned size) terms = do
  shape ← demand Syntax (name_and_address terms)
  destination ← register shape.0
  base ← register shape.1.base
  offset ← offset shape.1.offset
  Ok (Plain (insn.LoadSigned size destination base offset))
instruction_of (form.StoreImmediate size) terms = do
  shape ← demand Syntax (address_and_constant terms)
  base ← register shape.0.base
  offset ← offset shape.0.offset
  value ← immediate shape.1
  Ok (Plain (insn.Store size base offset (Immediate value)))
instruction_of (form.StoreRegister size) terms = do
  shape ← demand Syntax (address_and_name terms)
  base ← register shape.0.base
  source ← register shape.1
  offset ← offset shape.0.offset
  Ok (Plain (insn.Store size base offset (Source source)))
instruction_of form.LoadWide terms = do
  shape ← demand Syntax (name_and_wide terms)
  destination ← register shape.0
  value ← demand NumberRange shape.1
  Ok (Plain (insn.LoadWide destination value))
instruction_of form.Exit [] = Ok (Plain insn.Exit)
instruction_of form.Exit (term ∷ terms) = Err Syntax

-- the instruction of a line that begins with a name
abbrev pub instruction_in : Option Form → List Term → Judged Statement
instruction_in None terms = Err UnknownName
instruction_in (Some form) terms = instruction_of form terms

-- behind a `:`
abbrev pub colon_at : List Term → Option (List Term)
colon_at (Symbol Colon ∷ terms) = Some terms
colon_at terms = None

-- a line that begins with a name: a label, which nothing follows, or an instruction
abbrev pub name_first : List ℕ → List Term → Option (List Term) → Judged Statement
name_first word terms (Some []) = Ok (Label word)
name_first word terms (Some (term ∷ behind)) = Err Syntax
name_first word terms None = instruction_in (form_named word) terms

-- a line that begins with a number
abbrev pub number_first : Option (List Term) → Judged Statement
number_first (Some behind) = Err Syntax
number_first None = Err UnknownName

-- what the right tokens of a line say
unfoldable pub statement_of : List Term → Judged Statement
statement_of [] = Ok Blank
statement_of (Name word ∷ terms) = name_first word terms (colon_at terms)
statement_of (Number numeral ∷ terms) = number_first (colon_at terms)
statement_of (Symbol sign ∷ terms) = Err Syntax

-- what a line says, or its own fault
unfoldable pub reading_of : List ℕ → Judged Statement
reading_of line = demand Syntax (terms_of (tokens_of line)) >>= statement_of

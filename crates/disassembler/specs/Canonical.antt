-- The canonical text of a program: one line for each instruction, with single spaces.
use Rattle.std.specs.Prelude.{ℕ, suc, List, [], ◌∷◌, ◌++◌, flat_map, Option, Some, None, ℤ, pos, negsuc, codes}
use Rattle.std.specs.Fmt.{decimal}
use Rattle.span_context.specs.declared.size.Size.{Size}
use Rattle.bpf_words.specs.declared.instruction.Operand.{Operand}
use Rattle.bpf_words.specs.declared.instruction.Operand.TheVariants.{Immediate, Source}
use Rattle.bpf_words.specs.declared.instruction.Insn.{Insn}
use Rattle.bpf_words.specs.declared.instruction.Insn.TheVariants.{Compute, Negate, Extend, Convert, Jump, JumpLong}
use Rattle.bpf_words.specs.declared.instruction.Insn.TheVariants.{Branch, Load, LoadSigned, Store, LoadWide, Exit}
use Rattle.assembler_lines.specs.declared.form.Form.{Form}
use Rattle.assembler_lines.specs.declared.form.Form.TheVariants as form
use Rattle.assembler_lines.specs.declared.token.Sign.TheVariants.{Comma, Open, Close, Plus, Minus}
use Rattle.assembler_lines.specs.Mnemonics.{name_of}
use Rattle.assembler_lines.specs.Pieces.{Piece, Space, Sig, Text, spell}

-- a register: `r` and its number
abbrev pub register : ℕ → List Piece
register number = Text (codes "r" ++ decimal number) ∷ []

-- an immediate: decimal, with a sign where it is negative
abbrev pub immediate : ℤ → List Piece
immediate (pos n) = Text (decimal n) ∷ []
immediate (negsuc n) = Sig Minus ∷ Text (decimal (suc n)) ∷ []

-- a distance or an offset: decimal, always with its sign
abbrev pub signed : ℤ → List Piece
signed (pos n) = Sig Plus ∷ Text (decimal n) ∷ []
signed (negsuc n) = Sig Minus ∷ Text (decimal (suc n)) ∷ []

-- a wide load's number has no sign
abbrev pub unsigned : ℕ → List Piece
unsigned n = Text (decimal n) ∷ []

abbrev pub operand : Operand → List Piece
operand (Immediate value) = immediate value
operand (Source number) = register number

-- a base register and an offset, in brackets
abbrev pub address : ℕ → ℤ → List Piece
address base offset = Sig Open ∷ register base ++ signed offset ++ Sig Close ∷ []

abbrev pub store_form : Size → Operand → Form
store_form size (Immediate value) = form.StoreImmediate size
store_form size (Source number) = form.StoreRegister size

-- the form of an instruction, which its mnemonic names
abbrev pub form_of : Insn → Form
form_of (Compute width operation destination second) = form.Compute width operation
form_of (Negate width destination) = form.Negate width
form_of (Extend extension destination source) = form.Extend extension
form_of (Convert conversion bits destination) = form.Convert conversion bits
form_of (Jump distance) = form.Jump
form_of (JumpLong distance) = form.JumpLong
form_of (Branch width comparison left right distance) = form.Branch width comparison
form_of (Load size destination base offset) = form.Load size
form_of (LoadSigned size destination base offset) = form.LoadSigned size
form_of (Store size base offset value) = store_form size value
form_of (LoadWide destination value) = form.LoadWide
form_of Exit = form.Exit

-- what stands behind the mnemonic
abbrev pub arguments : Insn → List (List Piece)
arguments (Compute width operation destination second) = register destination ∷ operand second ∷ []
arguments (Negate width destination) = register destination ∷ []
arguments (Extend extension destination source) = register destination ∷ register source ∷ []
arguments (Convert conversion bits destination) = register destination ∷ []
arguments (Jump distance) = signed distance ∷ []
arguments (JumpLong distance) = signed distance ∷ []
arguments (Branch width comparison left right distance) = register left ∷ operand right ∷ signed distance ∷ []
arguments (Load size destination base offset) = register destination ∷ address base offset ∷ []
arguments (LoadSigned size destination base offset) = register destination ∷ address base offset ∷ []
arguments (Store size base offset value) = address base offset ∷ operand value ∷ []
arguments (LoadWide destination value) = register destination ∷ unsigned value ∷ []
arguments Exit = []

-- a space behind the mnemonic, and a comma and a space between arguments
abbrev pub with_commas : List (List Piece) → List Piece
with_commas [] = []
with_commas (argument ∷ more) = Sig Comma ∷ Space ∷ argument ++ with_commas more

abbrev pub behind_name : List (List Piece) → List Piece
behind_name [] = []
behind_name (argument ∷ more) = Space ∷ argument ++ with_commas more

-- the pieces of an instruction's line
abbrev pub pieces : Insn → List Piece
pieces insn = Text (name_of (form_of insn)) ∷ behind_name (arguments insn)

-- an instruction's line, with its LF
unfoldable pub canonical_line : Insn → List ℕ
canonical_line insn = spell (pieces insn) ++ codes "\n"

-- the second slot of a wide load has no line
abbrev pub line_of : Option Insn → List ℕ
line_of (Some insn) = canonical_line insn
line_of None = []

-- a program's canonical text
unfoldable pub canonical : List (Option Insn) → List ℕ
canonical program = flat_map line_of program

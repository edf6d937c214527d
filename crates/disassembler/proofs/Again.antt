-- A canonical line reads as its instruction.
use Rattle.std.proofs.Common.{◌≡◌, ℕ, suc, ◌<◌, ◌≤◌, ◌^◌, List, [], ◌∷◌, ◌++◌, Ok, ℤ, pos, negsuc, refl, arith}
use Rattle.std.specs.Prelude.{FitsSigned}
use Rattle.std.specs.Int.{w16, w32}
use Rattle.std.specs.Fmt.{decimal}
use Rattle.bpf_words.specs.declared.instruction.Operand.{Operand}
use Rattle.bpf_words.specs.declared.instruction.Operand.TheVariants.{Immediate, Source}
use Rattle.bpf_words.specs.declared.instruction.Insn.{Insn}
use Rattle.bpf_words.specs.declared.instruction.Insn.TheVariants.{Compute, Negate, Extend, Convert, Jump, JumpLong, Branch, Load, LoadSigned, Store, LoadWide, Exit}
use Rattle.assembler_lines.specs.declared.form.Form.TheVariants as form
use Rattle.assembler_lines.specs.Tokens.{Lexeme}
use Rattle.assembler_lines.specs.Pieces.{Piece, Sig, Text, BeginsApart, WellLaid, spell, lexemes}
use Rattle.assembler_lines.specs.Terms.{terms_of}
use Rattle.assembler_lines.specs.Shapes.{name_at, signed_at, constant_at, wide_at, value_at, target_at, address_at, lone_name, two_names, name_and_value, name_and_wide, name_and_address, address_and_constant, address_and_name, lone_target, name_value_and_target}
use Rattle.assembler_lines.specs.declared.fault.LineFault.TheVariants.{Syntax}
use Rattle.assembler_lines.specs.declared.token.Sign.TheVariants.{Plus, Minus, Close}
use Rattle.assembler_lines.specs.Statements.{◌>>=◌, Judged, Statement, Plain, demand, reading_of, statement_of, instruction_of, jump_to, jump_over, jump_by}
use Rattle.assembler_lines.specs.Statements.{operand as operand_of}
use Rattle.assembler_lines.proofs.Laws.{tokens_again}
use Rattle.assembler_lines.proofs.Naming.{form_again}
use Rattle.disassembler.specs.Canonical.{register, immediate, signed, unsigned, operand, address, form_of, arguments, with_commas, behind_name, pieces}
use Rattle.bpf_words.specs.Encoding.{IsOperand, IsInsn}
use Rattle.disassembler.proofs.Numerals.{name_term, number_term, register_term, register_again, near_again, far_again, offset_again, immediate_again, name_laid, number_laid, register_laid}

-- pieces behind which a line may go on, apart from the last word
abbrev IsPart : List Piece → Type 0
IsPart ps = (rest : List Piece) → BeginsApart rest → WellLaid rest → WellLaid (ps ++ rest)

abbrev ArePart : List (List Piece) → Type 0
ArePart [] = Unit {0}
ArePart (part ∷ parts) = IsPart part × ArePart parts

commas_apart : (parts : List (List Piece)) → BeginsApart (with_commas parts)
commas_apart [] = tt
commas_apart (part ∷ parts) = tt

commas_laid : (parts : List (List Piece)) → ArePart parts → WellLaid (with_commas parts)
commas_laid [] h = tt
commas_laid (part ∷ parts) h = h.0 (with_commas parts) (commas_apart parts) (commas_laid parts h.1)

behind_apart : (parts : List (List Piece)) → BeginsApart (behind_name parts)
behind_apart [] = tt
behind_apart (part ∷ parts) = tt

behind_laid : (parts : List (List Piece)) → ArePart parts → WellLaid (behind_name parts)
behind_laid [] h = tt
behind_laid (part ∷ parts) h = h.0 (with_commas parts) (commas_apart parts) (commas_laid parts h.1)

register_part : (n : ℕ) → n ≤ 10 → IsPart (register n)
register_part n h rest apart laid = register_laid n rest h apart laid

number_part : (n : ℕ) → n < 2 ^ 64 → IsPart (unsigned n)
number_part n h rest apart laid = number_laid n rest h apart laid

immediate_part : (z : ℤ) → FitsSigned w32 z → IsPart (immediate z)
immediate_part (pos n) h = number_part n (let f = h.sfits in omega arith)
immediate_part (negsuc n) h = number_part (suc n) (let f = h.sfits in omega arith)

far_part : (z : ℤ) → FitsSigned w32 z → IsPart (signed z)
far_part (pos n) h = number_part n (let f = h.sfits in omega arith)
far_part (negsuc n) h = number_part (suc n) (let f = h.sfits in omega arith)

near_part : (z : ℤ) → FitsSigned w16 z → IsPart (signed z)
near_part (pos n) h = number_part n (let f = h.sfits in omega arith)
near_part (negsuc n) h = number_part (suc n) (let f = h.sfits in omega arith)

operand_part : (o : Operand) → IsOperand o → IsPart (operand o)
operand_part (Immediate z) h = immediate_part z h
operand_part (Source n) h = register_part n h

address_part : (base : ℕ) (z : ℤ) → base ≤ 10 → FitsSigned w16 z → IsPart (address base z)
address_part base (pos n) r h rest apart laid =
    register_part base r (Sig Plus ∷ Text (decimal n) ∷ Sig Close ∷ rest) tt (near_part (pos n) h (Sig Close ∷ rest) tt laid)
address_part base (negsuc n) r h rest apart laid =
    register_part base r (Sig Minus ∷ Text (decimal (suc n)) ∷ Sig Close ∷ rest) tt (near_part (negsuc n) h (Sig Close ∷ rest) tt laid)

are_parts : (i : Insn) → IsInsn i → ArePart (arguments i)
are_parts (Compute width operation d o) h = (register_part d h.0, (operand_part o h.1, tt))
are_parts (Negate width d) h = (register_part d h, tt)
are_parts (Extend extension d s) h = (register_part d h.0, (register_part s h.1, tt))
are_parts (Convert conversion bits d) h = (register_part d h, tt)
are_parts (Jump z) h = (near_part z h, tt)
are_parts (JumpLong z) h = (far_part z h, tt)
are_parts (Branch width comparison l o z) h = (register_part l h.0, (operand_part o h.1, (near_part z h.2, tt)))
are_parts (Load size d b z) h = (register_part d h.0, (address_part b z h.1 h.2, tt))
are_parts (LoadSigned size d b z) h = (register_part d h.0, (address_part b z h.1 h.2, tt))
are_parts (Store size b z v) h = (address_part b z h.0 h.2, (operand_part v h.1, tt))
are_parts (LoadWide d v) h = (register_part d h.0, (number_part v h.1, tt))
are_parts Exit h = tt

pub laid : (i : Insn) → IsInsn i → WellLaid (pieces i)
laid i h = name_laid (form_of i) (behind_name (arguments i)) (behind_apart (arguments i)) (behind_laid (arguments i) (are_parts i h))

small : (n : ℕ) → n < 2 ^ 31 → n < 2 ^ 64
small n h = omega arith

small_suc : (n : ℕ) → n < 2 ^ 31 → suc n < 2 ^ 64
small_suc n h = omega arith

near : (n : ℕ) → n < 2 ^ 15 → n < 2 ^ 64
near n h = omega arith

near_suc : (n : ℕ) → n < 2 ^ 15 → suc n < 2 ^ 64
near_suc n h = omega arith

-- what the tokens of a line say
abbrev said : List Lexeme → Judged Statement
said tokens = demand Syntax (terms_of tokens) >>= statement_of

said_again : (i : Insn) → IsInsn i → said (lexemes (pieces i)) ≡ Ok (Plain i)
unfolding terms_of statement_of instruction_of operand_of jump_to jump_over jump_by name_at signed_at constant_at wide_at value_at target_at address_at lone_name two_names name_and_value name_and_wide name_and_address address_and_constant address_and_name lone_target name_value_and_target
said_again (Compute width operation d (Source s)) h = rw (name_term (form.Compute width operation), register_term d, register_term s, form_again (form.Compute width operation), register_again d h.0, register_again s (h.1)) refl
said_again (Compute width operation d (Immediate (pos n))) h = rw (name_term (form.Compute width operation), register_term d, number_term n (small n (h.1).sfits), form_again (form.Compute width operation), register_again d h.0, immediate_again (pos n) (h.1)) refl
said_again (Compute width operation d (Immediate (negsuc n))) h = rw (name_term (form.Compute width operation), register_term d, number_term (suc n) (small_suc n (h.1).sfits), form_again (form.Compute width operation), register_again d h.0, immediate_again (negsuc n) (h.1)) refl
said_again (Negate width d) h = rw (name_term (form.Negate width), register_term d, form_again (form.Negate width), register_again d h) refl
said_again (Extend extension d s) h = rw (name_term (form.Extend extension), register_term d, register_term s, form_again (form.Extend extension), register_again d h.0, register_again s h.1) refl
said_again (Convert conversion bits d) h = rw (name_term (form.Convert conversion bits), register_term d, form_again (form.Convert conversion bits), register_again d h) refl
said_again (Jump (pos m)) h = rw (name_term form.Jump, number_term m (near m (h).sfits), form_again form.Jump, near_again (pos m) h) refl
said_again (Jump (negsuc m)) h = rw (name_term form.Jump, number_term (suc m) (near_suc m (h).sfits), form_again form.Jump, near_again (negsuc m) h) refl
said_again (JumpLong (pos m)) h = rw (name_term form.JumpLong, number_term m (small m (h).sfits), form_again form.JumpLong, far_again (pos m) h) refl
said_again (JumpLong (negsuc m)) h = rw (name_term form.JumpLong, number_term (suc m) (small_suc m (h).sfits), form_again form.JumpLong, far_again (negsuc m) h) refl
said_again (Branch width comparison l (Source s) (pos m)) h = rw (name_term (form.Branch width comparison), register_term l, register_term s, number_term m (near m (h.2).sfits), form_again (form.Branch width comparison), register_again l h.0, register_again s (h.1), near_again (pos m) h.2) refl
said_again (Branch width comparison l (Source s) (negsuc m)) h = rw (name_term (form.Branch width comparison), register_term l, register_term s, number_term (suc m) (near_suc m (h.2).sfits), form_again (form.Branch width comparison), register_again l h.0, register_again s (h.1), near_again (negsuc m) h.2) refl
said_again (Branch width comparison l (Immediate (pos n)) (pos m)) h = rw (name_term (form.Branch width comparison), register_term l, number_term n (small n (h.1).sfits), number_term m (near m (h.2).sfits), form_again (form.Branch width comparison), register_again l h.0, immediate_again (pos n) (h.1), near_again (pos m) h.2) refl
said_again (Branch width comparison l (Immediate (pos n)) (negsuc m)) h = rw (name_term (form.Branch width comparison), register_term l, number_term n (small n (h.1).sfits), number_term (suc m) (near_suc m (h.2).sfits), form_again (form.Branch width comparison), register_again l h.0, immediate_again (pos n) (h.1), near_again (negsuc m) h.2) refl
said_again (Branch width comparison l (Immediate (negsuc n)) (pos m)) h = rw (name_term (form.Branch width comparison), register_term l, number_term (suc n) (small_suc n (h.1).sfits), number_term m (near m (h.2).sfits), form_again (form.Branch width comparison), register_again l h.0, immediate_again (negsuc n) (h.1), near_again (pos m) h.2) refl
said_again (Branch width comparison l (Immediate (negsuc n)) (negsuc m)) h = rw (name_term (form.Branch width comparison), register_term l, number_term (suc n) (small_suc n (h.1).sfits), number_term (suc m) (near_suc m (h.2).sfits), form_again (form.Branch width comparison), register_again l h.0, immediate_again (negsuc n) (h.1), near_again (negsuc m) h.2) refl
said_again (Load size d b (pos m)) h = rw (name_term (form.Load size), register_term d, register_term b, number_term m (near m (h.2).sfits), form_again (form.Load size), register_again d h.0, register_again b h.1, offset_again (pos m) h.2) refl
said_again (Load size d b (negsuc m)) h = rw (name_term (form.Load size), register_term d, register_term b, number_term (suc m) (near_suc m (h.2).sfits), form_again (form.Load size), register_again d h.0, register_again b h.1, offset_again (negsuc m) h.2) refl
said_again (LoadSigned size d b (pos m)) h = rw (name_term (form.LoadSigned size), register_term d, register_term b, number_term m (near m (h.2).sfits), form_again (form.LoadSigned size), register_again d h.0, register_again b h.1, offset_again (pos m) h.2) refl
said_again (LoadSigned size d b (negsuc m)) h = rw (name_term (form.LoadSigned size), register_term d, register_term b, number_term (suc m) (near_suc m (h.2).sfits), form_again (form.LoadSigned size), register_again d h.0, register_again b h.1, offset_again (negsuc m) h.2) refl
said_again (Store size b (pos m) (Source s)) h = rw (name_term (form.StoreRegister size), register_term b, number_term m (near m (h.2).sfits), register_term s, form_again (form.StoreRegister size), register_again b h.0, register_again s h.1, offset_again (pos m) h.2) refl
said_again (Store size b (negsuc m) (Source s)) h = rw (name_term (form.StoreRegister size), register_term b, number_term (suc m) (near_suc m (h.2).sfits), register_term s, form_again (form.StoreRegister size), register_again b h.0, register_again s h.1, offset_again (negsuc m) h.2) refl
said_again (Store size b (pos m) (Immediate (pos n))) h = rw (name_term (form.StoreImmediate size), register_term b, number_term m (near m (h.2).sfits), number_term n (small n (h.1).sfits), form_again (form.StoreImmediate size), register_again b h.0, offset_again (pos m) h.2, immediate_again (pos n) (h.1)) refl
said_again (Store size b (negsuc m) (Immediate (pos n))) h = rw (name_term (form.StoreImmediate size), register_term b, number_term (suc m) (near_suc m (h.2).sfits), number_term n (small n (h.1).sfits), form_again (form.StoreImmediate size), register_again b h.0, offset_again (negsuc m) h.2, immediate_again (pos n) (h.1)) refl
said_again (Store size b (pos m) (Immediate (negsuc n))) h = rw (name_term (form.StoreImmediate size), register_term b, number_term m (near m (h.2).sfits), number_term (suc n) (small_suc n (h.1).sfits), form_again (form.StoreImmediate size), register_again b h.0, offset_again (pos m) h.2, immediate_again (negsuc n) (h.1)) refl
said_again (Store size b (negsuc m) (Immediate (negsuc n))) h = rw (name_term (form.StoreImmediate size), register_term b, number_term (suc m) (near_suc m (h.2).sfits), number_term (suc n) (small_suc n (h.1).sfits), form_again (form.StoreImmediate size), register_again b h.0, offset_again (negsuc m) h.2, immediate_again (negsuc n) (h.1)) refl
said_again (LoadWide d v) h = rw (name_term form.LoadWide, register_term d, number_term v h.1, form_again form.LoadWide, register_again d h.0) refl
said_again Exit h = rw (name_term form.Exit, form_again form.Exit) refl

-- the canonical line reads as its instruction
pub line_again : (i : Insn) → IsInsn i → reading_of (spell (pieces i)) ≡ Ok (Plain i)
unfolding reading_of
line_again i h = rw (tokens_again (pieces i) (laid i h)) (said_again i h)

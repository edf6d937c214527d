-- Lines worked out by the definitions alone.
use Rattle.std.proofs.Common.{◌≡◌, Ok, Err, refl, codes, pos, negsuc}
use Rattle.bpf_words.specs.declared.instruction.Width.TheVariants.{Full}
use Rattle.bpf_words.specs.declared.instruction.Arithmetic.TheVariants.{Mov}
use Rattle.bpf_words.specs.declared.instruction.Comparison.TheVariants.{AnyBit}
use Rattle.span_context.specs.declared.size.Size.TheVariants.{Word, Double}
use Rattle.bpf_words.specs.declared.instruction.Operand.TheVariants.{Immediate}
use Rattle.bpf_words.specs.declared.instruction.Insn.TheVariants as insn
use Rattle.assembler_lines.specs.declared.fault.LineFault.TheVariants.{Syntax, UnknownName, NumberRange, JumpRange}
use Rattle.assembler_lines.specs.declared.statement.Jump.TheVariants.{OnComparison}
use Rattle.assembler_lines.specs.Statements.{Blank, Label, Plain, Onto, reading_of, statement_of, register, register_named, within, offset, immediate, operand, jump_by, jump_over, jump_to, instruction_of}
use Rattle.assembler_lines.specs.Shapes.{name_at, signed_at, constant_at, wide_at, value_at, target_at, address_at, lone_name, two_names, name_and_value, name_and_wide, name_and_address, address_and_constant, address_and_name, lone_target, name_value_and_target}
use Rattle.assembler_lines.specs.Mnemonics.{name_of, form_named, all_forms}
use Rattle.assembler_lines.specs.Terms.{terms_of, term_of_word, numeral_of, are_digits}
use Rattle.assembler_lines.specs.Tokens.{tokens_of, is_word_byte, is_blank, sign_of}

line_1 : reading_of (codes "mov r0, 0xffffffff ; x") ≡ Ok (Plain (insn.Compute Full Mov 0 (Immediate (negsuc 0))))
unfolding reading_of statement_of register register_named within offset immediate operand jump_by jump_over jump_to instruction_of name_at signed_at constant_at wide_at value_at target_at address_at lone_name two_names name_and_value name_and_wide name_and_address address_and_constant address_and_name lone_target name_value_and_target name_of form_named all_forms terms_of term_of_word numeral_of are_digits tokens_of is_word_byte is_blank sign_of
line_1 = refl

line_2 : reading_of (codes "jset r2, 1, yes") ≡ Ok (Onto (OnComparison Full AnyBit 2 (Immediate (pos 1))) (codes "yes"))
unfolding reading_of statement_of register register_named within offset immediate operand jump_by jump_over jump_to instruction_of name_at signed_at constant_at wide_at value_at target_at address_at lone_name two_names name_and_value name_and_wide name_and_address address_and_constant address_and_name lone_target name_value_and_target name_of form_named all_forms terms_of term_of_word numeral_of are_digits tokens_of is_word_byte is_blank sign_of
line_2 = refl

line_3 : reading_of (codes "ldxw r2, [r1+24]") ≡ Ok (Plain (insn.Load Word 2 1 (pos 24)))
unfolding reading_of statement_of register register_named within offset immediate operand jump_by jump_over jump_to instruction_of name_at signed_at constant_at wide_at value_at target_at address_at lone_name two_names name_and_value name_and_wide name_and_address address_and_constant address_and_name lone_target name_value_and_target name_of form_named all_forms terms_of term_of_word numeral_of are_digits tokens_of is_word_byte is_blank sign_of
line_3 = refl

line_4 : reading_of (codes "stdw [r10 - 0x8000], -2147483648") ≡ Ok (Plain (insn.Store Double 10 (negsuc 32767) (Immediate (negsuc 2147483647))))
unfolding reading_of statement_of register register_named within offset immediate operand jump_by jump_over jump_to instruction_of name_at signed_at constant_at wide_at value_at target_at address_at lone_name two_names name_and_value name_and_wide name_and_address address_and_constant address_and_name lone_target name_value_and_target name_of form_named all_forms terms_of term_of_word numeral_of are_digits tokens_of is_word_byte is_blank sign_of
line_4 = refl

line_5 : reading_of (codes "yes:") ≡ Ok (Label (codes "yes"))
unfolding reading_of statement_of register register_named within offset immediate operand jump_by jump_over jump_to instruction_of name_at signed_at constant_at wide_at value_at target_at address_at lone_name two_names name_and_value name_and_wide name_and_address address_and_constant address_and_name lone_target name_value_and_target name_of form_named all_forms terms_of term_of_word numeral_of are_digits tokens_of is_word_byte is_blank sign_of
line_5 = refl

line_6 : reading_of (codes " ;a") ≡ Ok Blank
unfolding reading_of statement_of register register_named within offset immediate operand jump_by jump_over jump_to instruction_of name_at signed_at constant_at wide_at value_at target_at address_at lone_name two_names name_and_value name_and_wide name_and_address address_and_constant address_and_name lone_target name_value_and_target name_of form_named all_forms terms_of term_of_word numeral_of are_digits tokens_of is_word_byte is_blank sign_of
line_6 = refl

line_7 : reading_of (codes "mov r0, 2147483648") ≡ Err NumberRange
unfolding reading_of statement_of register register_named within offset immediate operand jump_by jump_over jump_to instruction_of name_at signed_at constant_at wide_at value_at target_at address_at lone_name two_names name_and_value name_and_wide name_and_address address_and_constant address_and_name lone_target name_value_and_target name_of form_named all_forms terms_of term_of_word numeral_of are_digits tokens_of is_word_byte is_blank sign_of
line_7 = refl

line_8 : reading_of (codes "mov r11, 0") ≡ Err UnknownName
unfolding reading_of statement_of register register_named within offset immediate operand jump_by jump_over jump_to instruction_of name_at signed_at constant_at wide_at value_at target_at address_at lone_name two_names name_and_value name_and_wide name_and_address address_and_constant address_and_name lone_target name_value_and_target name_of form_named all_forms terms_of term_of_word numeral_of are_digits tokens_of is_word_byte is_blank sign_of
line_8 = refl

line_9 : reading_of (codes "ja +32768") ≡ Err JumpRange
unfolding reading_of statement_of register register_named within offset immediate operand jump_by jump_over jump_to instruction_of name_at signed_at constant_at wide_at value_at target_at address_at lone_name two_names name_and_value name_and_wide name_and_address address_and_constant address_and_name lone_target name_value_and_target name_of form_named all_forms terms_of term_of_word numeral_of are_digits tokens_of is_word_byte is_blank sign_of
line_9 = refl

line_10 : reading_of (codes "mov r0") ≡ Err Syntax
unfolding reading_of statement_of register register_named within offset immediate operand jump_by jump_over jump_to instruction_of name_at signed_at constant_at wide_at value_at target_at address_at lone_name two_names name_and_value name_and_wide name_and_address address_and_constant address_and_name lone_target name_value_and_target name_of form_named all_forms terms_of term_of_word numeral_of are_digits tokens_of is_word_byte is_blank sign_of
line_10 = refl

line_11 : reading_of (codes "foo 1a") ≡ Err Syntax
unfolding reading_of statement_of register register_named within offset immediate operand jump_by jump_over jump_to instruction_of name_at signed_at constant_at wide_at value_at target_at address_at lone_name two_names name_and_value name_and_wide name_and_address address_and_constant address_and_name lone_target name_value_and_target name_of form_named all_forms terms_of term_of_word numeral_of are_digits tokens_of is_word_byte is_blank sign_of
line_11 = refl

line_12 : reading_of (codes "foo , ,") ≡ Err UnknownName
unfolding reading_of statement_of register register_named within offset immediate operand jump_by jump_over jump_to instruction_of name_at signed_at constant_at wide_at value_at target_at address_at lone_name two_names name_and_value name_and_wide name_and_address address_and_constant address_and_name lone_target name_value_and_target name_of form_named all_forms terms_of term_of_word numeral_of are_digits tokens_of is_word_byte is_blank sign_of
line_12 = refl

line_13 : reading_of (codes "5 r0") ≡ Err UnknownName
unfolding reading_of statement_of register register_named within offset immediate operand jump_by jump_over jump_to instruction_of name_at signed_at constant_at wide_at value_at target_at address_at lone_name two_names name_and_value name_and_wide name_and_address address_and_constant address_and_name lone_target name_value_and_target name_of form_named all_forms terms_of term_of_word numeral_of are_digits tokens_of is_word_byte is_blank sign_of
line_13 = refl

line_14 : reading_of (codes "5:") ≡ Err Syntax
unfolding reading_of statement_of register register_named within offset immediate operand jump_by jump_over jump_to instruction_of name_at signed_at constant_at wide_at value_at target_at address_at lone_name two_names name_and_value name_and_wide name_and_address address_and_constant address_and_name lone_target name_value_and_target name_of form_named all_forms terms_of term_of_word numeral_of are_digits tokens_of is_word_byte is_blank sign_of
line_14 = refl

line_15 : reading_of (codes "mov r0, +1") ≡ Err Syntax
unfolding reading_of statement_of register register_named within offset immediate operand jump_by jump_over jump_to instruction_of name_at signed_at constant_at wide_at value_at target_at address_at lone_name two_names name_and_value name_and_wide name_and_address address_and_constant address_and_name lone_target name_value_and_target name_of form_named all_forms terms_of term_of_word numeral_of are_digits tokens_of is_word_byte is_blank sign_of
line_15 = refl

line_16 : reading_of (codes "mov r77, -0x1") ≡ Err Syntax
unfolding reading_of statement_of register register_named within offset immediate operand jump_by jump_over jump_to instruction_of name_at signed_at constant_at wide_at value_at target_at address_at lone_name two_names name_and_value name_and_wide name_and_address address_and_constant address_and_name lone_target name_value_and_target name_of form_named all_forms terms_of term_of_word numeral_of are_digits tokens_of is_word_byte is_blank sign_of
line_16 = refl

line_17 : reading_of (codes "lddw r0, -1") ≡ Err NumberRange
unfolding reading_of statement_of register register_named within offset immediate operand jump_by jump_over jump_to instruction_of name_at signed_at constant_at wide_at value_at target_at address_at lone_name two_names name_and_value name_and_wide name_and_address address_and_constant address_and_name lone_target name_value_and_target name_of form_named all_forms terms_of term_of_word numeral_of are_digits tokens_of is_word_byte is_blank sign_of
line_17 = refl

line_18 : reading_of (codes "lddw r0, 0xFFFFffffFFFFffff") ≡ Ok (Plain (insn.LoadWide 0 18446744073709551615))
unfolding reading_of statement_of register register_named within offset immediate operand jump_by jump_over jump_to instruction_of name_at signed_at constant_at wide_at value_at target_at address_at lone_name two_names name_and_value name_and_wide name_and_address address_and_constant address_and_name lone_target name_value_and_target name_of form_named all_forms terms_of term_of_word numeral_of are_digits tokens_of is_word_byte is_blank sign_of
line_18 = refl

line_19 : reading_of (codes "lddw r0, 18446744073709551616") ≡ Err NumberRange
unfolding reading_of statement_of register register_named within offset immediate operand jump_by jump_over jump_to instruction_of name_at signed_at constant_at wide_at value_at target_at address_at lone_name two_names name_and_value name_and_wide name_and_address address_and_constant address_and_name lone_target name_value_and_target name_of form_named all_forms terms_of term_of_word numeral_of are_digits tokens_of is_word_byte is_blank sign_of
line_19 = refl

line_20 : reading_of (codes "ja32 -0x80000000") ≡ Ok (Plain (insn.JumpLong (negsuc 2147483647)))
unfolding reading_of statement_of register register_named within offset immediate operand jump_by jump_over jump_to instruction_of name_at signed_at constant_at wide_at value_at target_at address_at lone_name two_names name_and_value name_and_wide name_and_address address_and_constant address_and_name lone_target name_value_and_target name_of form_named all_forms terms_of term_of_word numeral_of are_digits tokens_of is_word_byte is_blank sign_of
line_20 = refl

line_21 : reading_of (codes "ja32 -2147483649") ≡ Err JumpRange
unfolding reading_of statement_of register register_named within offset immediate operand jump_by jump_over jump_to instruction_of name_at signed_at constant_at wide_at value_at target_at address_at lone_name two_names name_and_value name_and_wide name_and_address address_and_constant address_and_name lone_target name_value_and_target name_of form_named all_forms terms_of term_of_word numeral_of are_digits tokens_of is_word_byte is_blank sign_of
line_21 = refl

line_22 : reading_of (codes "ja 5") ≡ Err Syntax
unfolding reading_of statement_of register register_named within offset immediate operand jump_by jump_over jump_to instruction_of name_at signed_at constant_at wide_at value_at target_at address_at lone_name two_names name_and_value name_and_wide name_and_address address_and_constant address_and_name lone_target name_value_and_target name_of form_named all_forms terms_of term_of_word numeral_of are_digits tokens_of is_word_byte is_blank sign_of
line_22 = refl

line_23 : reading_of (codes "stxb [r1+32768], r0") ≡ Err NumberRange
unfolding reading_of statement_of register register_named within offset immediate operand jump_by jump_over jump_to instruction_of name_at signed_at constant_at wide_at value_at target_at address_at lone_name two_names name_and_value name_and_wide name_and_address address_and_constant address_and_name lone_target name_value_and_target name_of form_named all_forms terms_of term_of_word numeral_of are_digits tokens_of is_word_byte is_blank sign_of
line_23 = refl

line_24 : reading_of (codes "stxb [r1+32768], rx") ≡ Err UnknownName
unfolding reading_of statement_of register register_named within offset immediate operand jump_by jump_over jump_to instruction_of name_at signed_at constant_at wide_at value_at target_at address_at lone_name two_names name_and_value name_and_wide name_and_address address_and_constant address_and_name lone_target name_value_and_target name_of form_named all_forms terms_of term_of_word numeral_of are_digits tokens_of is_word_byte is_blank sign_of
line_24 = refl

line_25 : reading_of (codes "exit r0") ≡ Err Syntax
unfolding reading_of statement_of register register_named within offset immediate operand jump_by jump_over jump_to instruction_of name_at signed_at constant_at wide_at value_at target_at address_at lone_name two_names name_and_value name_and_wide name_and_address address_and_constant address_and_name lone_target name_value_and_target name_of form_named all_forms terms_of term_of_word numeral_of are_digits tokens_of is_word_byte is_blank sign_of
line_25 = refl

line_26 : reading_of (codes "mov r0, 007") ≡ Ok (Plain (insn.Compute Full Mov 0 (Immediate (pos 7))))
unfolding reading_of statement_of register register_named within offset immediate operand jump_by jump_over jump_to instruction_of name_at signed_at constant_at wide_at value_at target_at address_at lone_name two_names name_and_value name_and_wide name_and_address address_and_constant address_and_name lone_target name_value_and_target name_of form_named all_forms terms_of term_of_word numeral_of are_digits tokens_of is_word_byte is_blank sign_of
line_26 = refl

line_27 : reading_of (codes "mov r0, -0") ≡ Ok (Plain (insn.Compute Full Mov 0 (Immediate (pos 0))))
unfolding reading_of statement_of register register_named within offset immediate operand jump_by jump_over jump_to instruction_of name_at signed_at constant_at wide_at value_at target_at address_at lone_name two_names name_and_value name_and_wide name_and_address address_and_constant address_and_name lone_target name_value_and_target name_of form_named all_forms terms_of term_of_word numeral_of are_digits tokens_of is_word_byte is_blank sign_of
line_27 = refl

line_28 : reading_of (codes "mov: exit") ≡ Err Syntax
unfolding reading_of statement_of register register_named within offset immediate operand jump_by jump_over jump_to instruction_of name_at signed_at constant_at wide_at value_at target_at address_at lone_name two_names name_and_value name_and_wide name_and_address address_and_constant address_and_name lone_target name_value_and_target name_of form_named all_forms terms_of term_of_word numeral_of are_digits tokens_of is_word_byte is_blank sign_of
line_28 = refl

line_29 : reading_of (codes "ldxw r0, [r1+-5]") ≡ Err Syntax
unfolding reading_of statement_of register register_named within offset immediate operand jump_by jump_over jump_to instruction_of name_at signed_at constant_at wide_at value_at target_at address_at lone_name two_names name_and_value name_and_wide name_and_address address_and_constant address_and_name lone_target name_value_and_target name_of form_named all_forms terms_of term_of_word numeral_of are_digits tokens_of is_word_byte is_blank sign_of
line_29 = refl

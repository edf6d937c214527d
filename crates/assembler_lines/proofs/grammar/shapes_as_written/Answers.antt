use Rattle.assembler_lines.proofs.Writing.{lone_name_written, two_names_written, name_and_value_written, name_and_wide_written, name_and_address_written, address_and_constant_written, address_and_name_written, lone_target_written, name_value_and_target_written}
use Rattle.assembler_lines.proofs.grammar.shapes_as_written.Goals as goal

pub returns-clause-lone_name : goal.returns-clause-lone_name
returns-clause-lone_name c = lone_name_written

pub returns-clause-two_names : goal.returns-clause-two_names
returns-clause-two_names c = two_names_written

pub returns-clause-name_and_value : goal.returns-clause-name_and_value
returns-clause-name_and_value c = name_and_value_written

pub returns-clause-name_and_wide : goal.returns-clause-name_and_wide
returns-clause-name_and_wide c = name_and_wide_written

pub returns-clause-name_and_address : goal.returns-clause-name_and_address
returns-clause-name_and_address c = name_and_address_written

pub returns-clause-address_and_constant : goal.returns-clause-address_and_constant
returns-clause-address_and_constant c = address_and_constant_written

pub returns-clause-address_and_name : goal.returns-clause-address_and_name
returns-clause-address_and_name c = address_and_name_written

pub returns-clause-lone_target : goal.returns-clause-lone_target
returns-clause-lone_target c = lone_target_written

pub returns-clause-name_value_and_target : goal.returns-clause-name_value_and_target
returns-clause-name_value_and_target c = name_value_and_target_written

use Rattle.bit_machine.proofs.Operations.{arithmetic_agrees, negation_agrees, extension_agrees, conversion_agrees, comparison_agrees, signed_word_agrees}
use Rattle.bit_machine.proofs.words_agree.Goals as goal

pub returns-clause-arithmetic : goal.returns-clause-arithmetic
returns-clause-arithmetic c = arithmetic_agrees

pub returns-clause-negation : goal.returns-clause-negation
returns-clause-negation c = negation_agrees

pub returns-clause-extension : goal.returns-clause-extension
returns-clause-extension c = extension_agrees

pub returns-clause-conversion : goal.returns-clause-conversion
returns-clause-conversion c = conversion_agrees

pub returns-clause-comparison : goal.returns-clause-comparison
returns-clause-comparison c = comparison_agrees

pub returns-clause-signed_load : goal.returns-clause-signed_load
returns-clause-signed_load c = signed_word_agrees

use Rattle.assembler_lines.proofs.Naming.{named_again}
use Rattle.assembler_lines.proofs.mnemonics.mnemonic.Goals as goal

pub returns-clause-reads_back : goal.returns-clause-reads_back
returns-clause-reads_back c = named_again c.args.form c.name.result.now c.name.ensures

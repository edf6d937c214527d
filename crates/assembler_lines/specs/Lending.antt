-- What the readers of shapes lend, as the definitions speak of it.
use Rattle.std.specs.Prelude.{ℕ, List, Option, Result, Ok, Err, option_map, map}
use Rattle.std.specs.Borrow.{Bor}
use Rattle.assembler_lines.specs.declared.fault.LineFault.{LineFault}
use Rattle.assembler_lines.specs.declared.token.Term as declared
use Rattle.assembler_lines.specs.declared.statement.Value as value
use Rattle.assembler_lines.specs.declared.statement.Value.TheVariants as lent
use Rattle.assembler_lines.specs.declared.statement.Target as target
use Rattle.assembler_lines.specs.declared.statement.Target.TheVariants as lent_target
use Rattle.assembler_lines.specs.declared.statement.Address as address
use Rattle.assembler_lines.specs.declared.statement.Statement as statement
use Rattle.assembler_lines.specs.declared.statement.Statement.TheVariants as lent_statement
use Rattle.assembler_lines.specs.Terms.{Term}
use Rattle.assembler_lines.specs.Scanning.{terms_seen}
use Rattle.assembler_lines.specs.Shapes.{Value, Named, Constant, Target, AtLabel, Distance, Address}
use Rattle.assembler_lines.specs.Statements.{Statement, Blank, Label, Plain, Onto, Judged}

abbrev pub bytes_seen : Bor (List ℕ) → List ℕ
bytes_seen word = word.now

abbrev pub value_seen : value.Value → Value
value_seen (lent.Named word) = Named word.now
value_seen (lent.Constant number) = Constant number

abbrev pub target_seen : target.Target → Target
target_seen (lent_target.AtLabel name) = AtLabel name.now
target_seen (lent_target.Distance number) = Distance number

abbrev pub address_seen : address.Address → Address
address_seen address = record { base = address.base.now; offset = address.offset }

-- the terms behind what was taken
abbrev pub behind_seen : Option (Bor (List declared.Term)) → Option (List Term)
behind_seen found = option_map (λ terms. terms_seen terms.now) found

-- what was taken, and the terms behind it
abbrev pub taken_seen : {A B : Type 0} → (A → B) → Option (A × Bor (List declared.Term)) → Option (B × List Term)
taken_seen view found = option_map (λ x. (view x.0, terms_seen x.1.now)) found

abbrev pub statement_seen : statement.Statement → Statement
statement_seen lent_statement.Blank = Blank
statement_seen (lent_statement.Label name) = Label name.now
statement_seen (lent_statement.Plain insn) = Plain insn
statement_seen (lent_statement.Onto jump name) = Onto jump name.now

abbrev pub judged_seen : Result statement.Statement LineFault → Judged Statement
judged_seen (Ok statement) = Ok (statement_seen statement)
judged_seen (Err fault) = Err fault

abbrev pub lines_seen : List (Bor (List ℕ)) → List (List ℕ)
lines_seen lines = map bytes_seen lines

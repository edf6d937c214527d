use Rattle.std.proofs.Common.{◌≡◌, None, Some, sym, ◌∙◌, arith}
use Rattle.std.proofs.lemmas.Grind.{common_steps}
use Rattle.change_ops.specs.Keys.{words, row_at}
use Rattle.change_ops.specs.declared.keys.TheConstants.{KEYS}
use Rattle.change_ops.proofs.Places.{place_checked}
use Rattle.change_ops.proofs.Tables.{keys_count}
use Rattle.change_ops.proofs.keys.KeyRow.named.Goals as goal

pub returns-in_err-row : goal.returns-in_err-row
unfolding words
returns-in_err-row c =
    let none : row_at c.args.word.now ≡ None = sym c.row_in.ensures ∙ c.in_err-row.was in
    let given : c.from_residual.result ≡ None = grind (arith, common_steps) in
    given ∙ sym none

pub returns : goal.returns
unfolding words
returns c =
    let found : row_at c.args.word.now ≡ Some c.in_ok-row.row = sym c.row_in.ensures ∙ c.in_ok-row.was in
    c.new.ensures ∙ place_checked words c.args.word.now KEYS c.in_ok-row.row keys_count found

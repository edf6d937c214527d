use Rattle.std.proofs.Common.{◌≡◌, ℕ, List, subst, ◌∙◌}
use Rattle.hub_commands.specs.Tested.{IsTestedReply, rejected}
use Rattle.hub_commands.proofs.Replies.{where_known}
use Rattle.hub_commands.proofs.filter_test.tested_answer.Goals as goal

pub returns-in_ok-cases_answer-in-Ok : goal.returns-in_ok-cases_answer-in-Ok
returns-in_ok-cases_answer-in-Ok g c =
    let reply = c.in_ok-cases_answer-in-Ok.field-0 in
    let P : List ℕ → Type 0 = λ input. IsTestedReply c.args.rules c.args.form input c.args.words.now reply in
    where_known (g.R.Read.remaining c.args.reader.now) P
    (λ input known.
    let read : c.in_ok-input-in-Ok.input.items ≡ input = rw known at c.in_ok-input-in-Ok.ensures in
    subst P (c.deref.ensures.value ∙ read) (c.in_ok-cases_answer-in-Ok.ensures c.args.rules c.in-Ok.ensures.accepted))

pub returns-in_ok-refused-in-Err : goal.returns-in_ok-refused-in-Err
returns-in_ok-refused-in-Err g c =
    where_known (g.R.Read.remaining c.args.reader.now) (λ (input : List ℕ). IsTestedReply c.args.rules c.args.form input c.args.words.now c.in_ok-refused-in-Err.field-0)
    (λ input known. rejected c.in-Err.error c.in-Err.ensures.refused c.in_ok-refused-in-Err.ensures)

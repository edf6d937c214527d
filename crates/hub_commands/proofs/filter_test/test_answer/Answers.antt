use Rattle.std.proofs.Common.{◌≡◌, ℕ, List, Ok, refl}
use Rattle.hex.specs.Hex.{decode_of}
use Rattle.hub_commands.specs.Tested.{IsTestedReply, IsTestReply}
use Rattle.hub_commands.proofs.Replies.{where_known, hex_refused, words_refused}
use Rattle.hub_commands.proofs.Trying.{with_program}
use Rattle.hub_commands.proofs.filter_test.test_answer.Goals as goal

pub returns-in_default : goal.returns-in_default
unfolding IsTestReply
returns-in_default g c =
    let digits = c.args.digits.now in
    let reply = c.in_ok-refused.field-0 in
    where_known (g.R.Read.remaining c.args.reader.now) (λ (input : List ℕ). IsTestReply c.args.rules c.args.form digits input reply)
    (λ input known. hex_refused (IsTestedReply c.args.rules c.args.form input) digits digits refl reply (rw c.in_default.is at c.in_ok-bytes.ensures) c.in_ok-refused.ensures)

pub returns-in-Ok : goal.returns-in-Ok
returns-in-Ok g c =
    let decoded : decode_of c.args.digits.now ≡ Ok c.in-Some.bytes.items = rw c.in-Some.is at c.in_ok-bytes.ensures in
    let right = c.in-Ok.ensures.value in
    with_program c.tested_answer.result (g.R.Read.remaining c.args.reader.now) c.args.rules c.args.form c.args.digits.now c.in-Some.bytes.items c.deref.result.now c.in-Ok.words decoded c.deref.ensures.value right.1 right.0
    c.tested_answer.ensures

pub returns : goal.returns
unfolding IsTestReply
returns g c =
    let digits = c.args.digits.now in
    let reply = c.in_ok-refused-in-Err.field-0 in
    let decoded : decode_of digits ≡ Ok c.in-Some.bytes.items = rw c.in-Some.is at c.in_ok-bytes.ensures in
    where_known (g.R.Read.remaining c.args.reader.now) (λ (input : List ℕ). IsTestReply c.args.rules c.args.form digits input reply)
    (λ input known. words_refused (IsTestedReply c.args.rules c.args.form input) digits digits refl c.in-Some.bytes.items c.deref.result.now c.in-Err.error reply decoded c.deref.ensures.value
    c.in-Err.ensures.value c.in_ok-refused-in-Err.ensures)

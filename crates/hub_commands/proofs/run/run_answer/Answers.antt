use Rattle.std.proofs.Common.{◌≡◌, ℕ, List, take, Ok, refl, subst, ◌∙◌}
use Rattle.hex.specs.Hex.{decode_of}
use Rattle.hub_commands.specs.Programs.{IsShownReply, IsRunReply}
use Rattle.hub_commands.proofs.Replies.{where_known, hex_refused, words_refused, program_answered, past_limit_shown}
use Rattle.hub_commands.proofs.run.run_answer.Goals as goal

pub returns-in_default : goal.returns-in_default
unfolding IsRunReply
returns-in_default g c =
    let shown = c.args.shown in
    let digits = c.args.digits.now in
    let options = c.args.options.now in
    let reply = c.in_ok-refused.field-0 in
    where_known (g.R.Read.remaining c.args.reader.now) (λ (text : List ℕ). IsRunReply shown digits options text reply)
    (λ text known. hex_refused (IsShownReply shown options text) digits digits refl reply (rw c.in_default.is at c.in_ok-bytes.ensures) c.in_ok-refused.ensures)

pub returns-in-Ok : goal.returns-in-Ok
unfolding IsRunReply
returns-in-Ok g c =
    let shown = c.args.shown in
    let digits = c.args.digits.now in
    let options = c.args.options.now in
    let words = c.in-Ok.words in
    let reply = c.in_ok-shown_answer-in-Ok.field-0 in
    let decoded : decode_of digits ≡ Ok c.in-Some.bytes.items = rw c.in-Some.is at c.in_ok-bytes.ensures in
    let right = c.in-Ok.ensures.value in
    let said : IsShownReply shown options c.deref-in-Ok.result.now words reply = c.in_ok-shown_answer-in-Ok.ensures in
    where_known (g.R.Read.remaining c.args.reader.now) (λ (text : List ℕ). IsRunReply shown digits options text reply)
    (λ text known.
    let read : c.in_ok-input-in-Ok.input.items ≡ take 131073 text = rw known at c.in_ok-input-in-Ok.ensures in
    let P : List ℕ → Type 0 = λ t. IsShownReply shown options t words reply in
    let Q : List ℕ → Type 0 = λ bytes. IsShownReply shown options text bytes reply in
    let whole : IsShownReply shown options text words reply = past_limit_shown shown options text words reply (subst P (c.deref-in-Ok.ensures.value ∙ read) said) in
    program_answered (IsShownReply shown options text) digits digits refl c.in-Some.bytes.items c.deref.result.now reply decoded c.deref.ensures.value right.1 (subst Q right.0 whole))

pub returns : goal.returns
unfolding IsRunReply
returns g c =
    let shown = c.args.shown in
    let digits = c.args.digits.now in
    let options = c.args.options.now in
    let reply = c.in_ok-refused-in-Err.field-0 in
    let decoded : decode_of digits ≡ Ok c.in-Some.bytes.items = rw c.in-Some.is at c.in_ok-bytes.ensures in
    where_known (g.R.Read.remaining c.args.reader.now) (λ (text : List ℕ). IsRunReply shown digits options text reply)
    (λ text known. words_refused (IsShownReply shown options text) digits digits refl c.in-Some.bytes.items c.deref.result.now c.in-Err.error reply decoded c.deref.ensures.value
    c.in-Err.ensures.value c.in_ok-refused-in-Err.ensures)

use Rattle.std.proofs.Common.{◌≡◌, ◌++◌, List, ℕ, rules, ap, ◌∙◌}
use Rattle.std.specs.Prelude.{string_bytes}
use Rattle.bpf_words.specs.Words.{program_of}
use Rattle.disassembler.specs.Canonical.{canonical}
use Rattle.refusals.specs.declared.reason.Reason.TheVariants.{BadHex, Words}
use Rattle.hub_commands.specs.Answers.{Answer, done}
use Rattle.hub_commands.specs.Digits.{AreDigits}
use Rattle.hub_commands.specs.Hexadecimal.{without_blanks}
use Rattle.hub_commands.specs.Reasons.{refusal}
use Rattle.hub_commands.specs.Programs.{IsDisReply, no_hex}
use Rattle.hub_commands.proofs.Replies.{mapped, first_refused, first_answered}
use Rattle.hub_commands.proofs.dis.dis_answer.Goals as goal

abbrev Text : List ℕ → Answer → Type 0
Text bytes reply = reply ≡ done (canonical (program_of bytes))

pub returns-in_default : goal.returns-in_default
unfolding IsDisReply
returns-in_default c =
    mapped (λ (reply : Answer). reply ≡ refusal BadHex) (λ (reply : Answer). (input : List ℕ) → AreDigits (without_blanks input) c.args.digits.now → IsDisReply input reply)
    c.refused.result c.refused.ensures (λ reply e input are. let none = (rw c.in_default.is at c.in_ok-bytes.ensures) (without_blanks input) are in no_hex none.0 none.1 e)

pub returns-in-Ok : goal.returns-in-Ok
unfolding IsDisReply
returns-in-Ok c = λ input are.
    let right = c.in-Ok.ensures.value in
    let stand = (rw c.in-Some.is at c.in_ok-bytes.ensures) (without_blanks input) are in
    let written : string_bytes c.disassemble.new.text ≡ string_bytes c.new-text.result ++ canonical (program_of c.in-Ok.words) = c.in_ok-disassemble-in-Ok.ensures.appended in
    let text : string_bytes c.disassemble.new.text ≡ canonical (program_of c.in-Ok.words) = search (rules, written, c.new-text.ensures.bytes) in
    let whole : c.done.result ≡ done (canonical (program_of c.deref.result.now)) =
    c.done.ensures ∙ ap done (text ∙ ap (λ (bytes : List ℕ). canonical (program_of bytes)) right.0) in
    first_answered Text (without_blanks input) c.in-Some.bytes.items c.deref.result.now c.done.result stand c.deref.ensures.value right.1 whole

pub returns : goal.returns
unfolding IsDisReply
returns c =
    mapped (λ (reply : Answer). reply ≡ refusal (Words c.in-Err.error)) (λ (reply : Answer). (input : List ℕ) → AreDigits (without_blanks input) c.args.digits.now → IsDisReply input reply)
    c.refused-in-Err.result c.refused-in-Err.ensures
    (λ reply e input are. let stand = (rw c.in-Some.is at c.in_ok-bytes.ensures) (without_blanks input) are in
    first_refused Text (without_blanks input) c.in-Some.bytes.items c.deref.result.now c.in-Err.error reply stand c.deref.ensures.value c.in-Err.ensures.value e)

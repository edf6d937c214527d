use Rattle.std.proofs.Common.{ℕ, List}
use Rattle.change_ops.specs.declared.size.Size.{Size}
use Rattle.hub_commands.specs.Answers.{Answer}
use Rattle.hub_commands.specs.ChangesInput.{IsWholeInput}
use Rattle.hub_commands.specs.SpansReply.{IsSpansReply}
use Rattle.hub_commands.proofs.Replies.{mapped}
use Rattle.hub_commands.proofs.ReadingChanges.{answers_fault, answers_spans}
use Rattle.hub_commands.proofs.spans.spans_answer.Goals as goal

pub returns-in-None : goal.returns-in-None
returns-in-None c =
    let input = c.args.input.now in
    mapped _ (λ (answer : Answer). (size : Size) (bytes : List ℕ) → IsWholeInput size bytes input → IsSpansReply size bytes answer) c.shown.result c.shown.ensures (λ (answer : Answer) made size bytes whole.
    answers_spans size bytes input.history.changes input.fault answer c.in-None.is made whole.concluded)

pub returns-in-Some : goal.returns-in-Some
returns-in-Some c =
    let input = c.args.input.now in
    mapped _ (λ (answer : Answer). (size : Size) (bytes : List ℕ) → IsWholeInput size bytes input → IsSpansReply size bytes answer) c.fault_answer.result c.fault_answer.ensures (λ (answer : Answer) made size bytes whole.
    answers_fault size bytes input.history.changes input.fault c.in-Some.fault answer c.in-Some.is made whole.concluded)

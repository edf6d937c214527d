use Rattle.std.proofs.Common.{ℕ, List, ◌∙◌}
use Rattle.change_ops.specs.declared.size.Size.{Size}
use Rattle.hub_commands.specs.Answers.{Answer}
use Rattle.hub_commands.specs.JoinReply.{IsJoinReply}
use Rattle.hub_commands.specs.KeptInput.{IsKeptWhole}
use Rattle.hub_commands.proofs.Replies.{mapped}
use Rattle.hub_commands.proofs.KeptInputs.{replied_none, replied_fault}
use Rattle.hub_commands.proofs.join.join_answer.Goals as goal

pub returns-in-None : goal.returns-in-None
returns-in-None c =
    let input = c.args.input.now in
    mapped _ (λ (answer : Answer). (size : Size) (bytes : List ℕ) → IsKeptWhole size bytes input → IsJoinReply size bytes answer) c.joined_answer.result c.joined_answer.ensures (λ (answer : Answer) all size bytes whole.
    replied_none size bytes c.deref.result.now input.changes.history.changes input.changes.fault answer c.in-None.is (c.deref.ensures.value ∙ whole.bytes) all whole.read.concluded)

pub returns-in-Some : goal.returns-in-Some
returns-in-Some c =
    let input = c.args.input.now in
    mapped _ (λ (answer : Answer). (size : Size) (bytes : List ℕ) → IsKeptWhole size bytes input → IsJoinReply size bytes answer) c.fault_answer.result c.fault_answer.ensures (λ (answer : Answer) made size bytes whole.
    replied_fault size bytes input.changes.history.changes input.changes.fault c.in-Some.fault answer c.in-Some.is made whole.read.concluded)

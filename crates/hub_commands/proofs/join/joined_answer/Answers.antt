use Rattle.std.proofs.Common.{◌∙◌, List, [], ap}
use Rattle.std.specs.List.{flat_map}
use Rattle.std.specs.String.{string_bytes}
use Rattle.change_ops.specs.Changes.{Change}
use Rattle.change_ops.specs.Spelling.{change_text}
use Rattle.change_join.specs.Joined.{joined}
use Rattle.change_ops.specs.declared.size.Size.{Size}
use Rattle.hub_commands.specs.Answers.{Answer}
use Rattle.hub_commands.specs.JoinReply.{IsJoinReply, no_text}
use Rattle.hub_commands.specs.SpansReply.{Begins}
use Rattle.hub_commands.proofs.Replies.{mapped}
use Rattle.hub_commands.proofs.KeptInputs.{replied_joined}
use Rattle.hub_commands.proofs.join.joined_answer.Goals as goal

pub returns-in_default : goal.returns-in_default
returns-in_default c =
    let bytes = c.args.bytes.now in
    mapped _ (λ (answer : Answer). (size : Size) (changes : List Change) → Begins size bytes changes [] → IsJoinReply size bytes answer) c.fault_answer.result c.fault_answer.ensures (λ (answer : Answer) made size changes begins.
    no_text c.in_default.ensures.cases.0 made)

pub returns : goal.returns
returns c =
    replied_joined c.args.bytes.now c.in-Ok.text.now (string_bytes c.in_ok-text.text) c.in_ok-changes.changes.items c.done.result c.in-Ok.ensures.cases.0 c.in_ok-changes.ensures
    (c.in_ok-text.ensures ∙ ap (λ (l : List Change). flat_map change_text (joined l)) c.deref.ensures.value) c.done.ensures

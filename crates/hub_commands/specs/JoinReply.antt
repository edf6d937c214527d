-- What the command `join` answers to its input: the texts of changes, one behind the other.
use Rattle.std.specs.Prelude.{◌≡◌, ℕ, List, []}
use Rattle.std.specs.List.{flat_map}
use Rattle.std.specs.Str.{IsUtf8}
use Rattle.change_ops.specs.Changes.{Change}
use Rattle.change_ops.specs.declared.size.Size.{Size}
use Rattle.change_ops.specs.Spelling.{change_text}
use Rattle.change_join.specs.Joined.{joined}
use Rattle.refusals.specs.declared.reason.ChangeReason.{ChangeReason}
use Rattle.refusals.specs.declared.reason.Reason.TheVariants.{TextRefused}
use Rattle.hub_commands.specs.Answers.{Answer, done}
use Rattle.hub_commands.specs.Reasons.{refusal, change_refusal}
use Rattle.hub_commands.specs.SpansReply.{Begins, Stops}

-- The texts of the joined changes, or the refusal that `spans` has.
pub data IsJoinReply (size : Size) (input : List ℕ) (reply : Answer) : Type 0 where
  no_text : ¬ (IsUtf8 input) → reply ≡ refusal TextRefused → IsJoinReply size input reply
  joined_all : (changes : List Change) → Begins size input changes []
      → reply ≡ done (flat_map change_text (joined changes)) → IsJoinReply size input reply
  stopped : (reason : ChangeReason) → IsUtf8 input → Stops size input reason → reply ≡ change_refusal reason
      → IsJoinReply size input reply

-- What the command `spans` answers to its input: the texts of changes, one behind the other.
use Rattle.std.specs.Prelude.{◌≡◌, ◌≢◌, ℕ, ◌+◌, List, [], ◌++◌, length, All}
use Rattle.std.specs.List.{flat_map}
use Rattle.std.specs.Str.{IsUtf8}
use Rattle.change_ops.specs.Changes.{Change, IsChange}
use Rattle.change_ops.specs.declared.size.Size.{Size}
use Rattle.change_ops.specs.Spelling.{change_text, Spells}
use Rattle.change_ops.specs.Refusals.{IsRefused as BeginsWithNoChange}
use Rattle.change_ops.specs.declared.refusal.ChangeError.{ChangeError}
use Rattle.span_flatten.specs.Spans.{Span, AreSpans}
use Rattle.change_history.specs.Accepted.{operations_of, AreAccepted, IsRefused}
use Rattle.change_history.specs.declared.refusal.SubmitError.{SubmitError}
use Rattle.change_history.specs.declared.refusal.SubmitError.TheVariants.{OutOfMemory}
use Rattle.refusals.specs.declared.reason.ChangeReason.{ChangeReason}
use Rattle.refusals.specs.declared.reason.Reason.TheVariants.{TextRefused, Unread, Unaccepted}
use Rattle.hub_commands.specs.Answers.{Answer, done}
use Rattle.hub_commands.specs.Reasons.{refusal, in_change, change_refusal}
use Rattle.span_lines.specs.SpanLines.{span_lines}

-- The input begins with the texts of these changes, each accepted at the size after those before it; the rest follows.
pub record Begins (size : Size) (input : List ℕ) (changes : List Change) (rest : List ℕ) : Type 0 where
  pub spelt : input ≡ flat_map change_text changes ++ rest
  pub limited : All IsChange changes
  pub accepted : AreAccepted size changes

-- the number of the change behind these, from 1
abbrev pub next_number : List Change → ℕ
next_number changes = length changes + 1

-- Why no change at the front of a text follows these: none can be read, by the grammar of changes, or the one that
-- stands there isn't accepted. Want of memory is no fault of the input.
pub data IsStopped (size : Size) (changes : List Change) (text : List ℕ) (reason : ChangeReason) : Type 0 where
  unread : (error : ChangeError) → BeginsWithNoChange text error
      → reason ≡ in_change (next_number changes) (Unread error) → IsStopped size changes text reason
  unaccepted : (change : Change) (rest : List ℕ) (error : SubmitError) → Spells text change rest
      → IsRefused size changes change error → error ≢ OutOfMemory
      → reason ≡ in_change (next_number changes) (Unaccepted error) → IsStopped size changes text reason

-- why the changes of an input end before it does
pub record Stops (size : Size) (input : List ℕ) (reason : ChangeReason) : Type 0 where
  pub changes : List Change
  pub rest : List ℕ
  pub before : Begins size input changes rest
  pub left : rest ≢ []
  pub here : IsStopped size changes rest reason

-- The spans of the changes' operations, or why the first change that isn't one of them is refused; of an input that
-- isn't UTF-8, only that.
pub data IsSpansReply (size : Size) (input : List ℕ) (reply : Answer) : Type 0 where
  no_text : ¬ (IsUtf8 input) → reply ≡ refusal TextRefused → IsSpansReply size input reply
  shown : (changes : List Change) (spans : List Span) → Begins size input changes []
      → AreSpans (operations_of changes) spans → reply ≡ done (span_lines spans) → IsSpansReply size input reply
  stopped : (reason : ChangeReason) → IsUtf8 input → Stops size input reason → reply ≡ change_refusal reason
      → IsSpansReply size input reply

-- What `check --context 4` replies.
use Rattle.std.specs.Prelude.{◌≡◌, ℕ, List, ◌++◌, length, codes, Result, Ok, Err}
use Rattle.std.specs.Fmt.{decimal}
use Rattle.bpf_words.specs.Words.{program_of}
use Rattle.semantics.specs.Step.{Program}
use Rattle.block_layout.specs.Meaning.{IsForward}
use Rattle.loop_labels.specs.Potential.{Bound}
use Rattle.loop_verifier.specs.Labelled.{HasLabels}
use Rattle.filters.specs.Accepted.{IsAccepted, IsRefused}
use Rattle.filters.specs.Filters.{IsBoundOf, constant_bound}
use Rattle.filters.specs.declared.refusal.FilterError.{FilterError}
use Rattle.filters.specs.declared.rules.RuleSet.TheVariants.{Looping}
use Rattle.refusals.specs.declared.reason.Reason.TheVariants.{Unverified}
use Rattle.hub_commands.specs.Answers.{Answer, done}
use Rattle.hub_commands.specs.Hexadecimal.{without_blanks}
use Rattle.hub_commands.specs.Reasons.{refusal}
use Rattle.hub_commands.specs.Programs.{IsProgramReply}

-- what was found of a program by the rules of loops
abbrev pub IsJudgment : Program → Result Program FilterError → Type 0
IsJudgment program (Ok filter) = (filter ≡ program) × IsAccepted Looping program
IsJudgment program (Err error) = IsRefused Looping program error

-- a line of how many slots a program has, and how many steps a run takes at most, by the lengths of the text and of the
-- link's text
abbrev pub bound_line : ℕ → Bound → List ℕ
bound_line slots bound =
    codes "accepted " ++ (decimal slots ++ (codes ", steps <= " ++ (decimal bound.constant ++ (codes " + "
    ++ (decimal bound.per_byte ++ (codes " * length + " ++ (decimal bound.per_link_byte
    ++ codes " * link length\n")))))))

-- a bound that is told of a program: without a jump back as many steps as it has slots, else one with inductive labels
pub record IsTold (program : Program) (bound : Bound) : Type 0 where
  pub ends : IsBoundOf program bound
  pub straight : IsForward program → bound ≡ constant_bound (length program)
  pub looping : ¬ IsForward program → HasLabels program bound

-- of a program: how many slots it has, and a bound of its steps; or why it isn't accepted
pub data IsLoopsReply (bytes : List ℕ) (reply : Answer) : Type 0 where
  accepted : (bound : Bound) → IsAccepted Looping (program_of bytes) → IsTold (program_of bytes) bound
      → reply ≡ done (bound_line (length (program_of bytes)) bound)
      → IsLoopsReply bytes reply
  rejected : (error : FilterError) → IsRefused Looping (program_of bytes) error → reply ≡ refusal (Unverified error)
      → IsLoopsReply bytes reply

-- the same, with further text behind
pub record IsDetailedReply (bytes : List ℕ) (reply : Answer) : Type 0 where
  pub plain : Answer
  pub is : IsLoopsReply bytes plain
  pub more : List ℕ
  pub whole : reply ≡ record plain { text = plain.text ++ more }

-- `check --context 4`
unfoldable pub IsLoopsCheckReply : List ℕ → Answer → Type 0
IsLoopsCheckReply input reply = IsProgramReply IsDetailedReply (without_blanks input) reply

-- What the command `test` replies.
use Rattle.std.specs.Prelude.{◌≡◌, ℕ, ◌==◌, if◌then◌else◌, List, map}
use Rattle.bpf_words.specs.Words.{program_of}
use Rattle.semantics.specs.declared.Outcome.{Outcome}
use Rattle.semantics.specs.declared.Outcome.TheVariants as outcome
use Rattle.semantics.specs.Step.{Program}
use Rattle.filters.specs.Accepted.{IsAccepted, IsRefused}
use Rattle.filters.specs.Filters.{whole_outcome}
use Rattle.filters.specs.declared.refusal.FilterError.{FilterError}
use Rattle.filters.specs.declared.rules.RuleSet.{RuleSet}
use Rattle.filter_cases.specs.Cases.{Case, AreCases, StopsAt}
use Rattle.filter_cases.specs.Marks.{bytes_of}
use Rattle.filter_cases.specs.Refusal.{bad_case}
use Rattle.filter_cases.specs.Report.{Tried, failed, report}
use Rattle.filter_cases.specs.declared.report.ReportForm.{ReportForm}
use Rattle.refusals.specs.declared.reason.Reason.TheVariants.{Unverified}
use Rattle.hub_commands.specs.Answers.{Answer, refused}
use Rattle.hub_commands.specs.declared.answer.Ending.TheVariants.{Done, Failed}
use Rattle.hub_commands.specs.Programs.{IsProgramReply}
use Rattle.hub_commands.specs.Reasons.{refusal}

-- the number with which a run ends; each run of an accepted program ends with one
abbrev pub verdict_in : Outcome → ℕ
verdict_in (outcome.Done verdict) = verdict
verdict_in (outcome.Fault slot kind) = 0
verdict_in outcome.OutOfSteps = 0

-- a case, and the program's verdict on its span
abbrev pub tried_on : Program → Case → Tried
tried_on program case = record {
  case = case;
  got = verdict_in (whole_outcome program (bytes_of case.marks case.text));
}

-- the report, and whether all passed
abbrev pub report_reply : ReportForm → List Tried → Answer
report_reply form all = record { ending = if failed all == 0 then Done else Failed; text = report form all }

-- of a program on cases: why the program isn't accepted, or which line is no case, or what is reported of the cases
pub data IsTestedReply (rules : RuleSet) (form : ReportForm) (input bytes : List ℕ) (reply : Answer) : Type 0 where
  rejected : (error : FilterError) → IsRefused rules (program_of bytes) error → reply ≡ refusal (Unverified error)
      → IsTestedReply rules form input bytes reply
  unread : (number : ℕ) → IsAccepted rules (program_of bytes) → StopsAt input number → reply ≡ refused (bad_case number)
      → IsTestedReply rules form input bytes reply
  tested : (cases : List Case) → IsAccepted rules (program_of bytes) → AreCases input cases
      → reply ≡ report_reply form (map (tried_on (program_of bytes)) cases)
      → IsTestedReply rules form input bytes reply

-- `test`: the program's bytes are looked at first, then whether it is accepted, then the cases
unfoldable pub IsTestReply : RuleSet → ReportForm → List ℕ → List ℕ → Answer → Type 0
IsTestReply rules form digits input reply = IsProgramReply (IsTestedReply rules form input) digits reply

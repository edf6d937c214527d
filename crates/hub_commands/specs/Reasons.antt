-- What is answered to an input that is refused.
use Rattle.std.specs.Prelude.{ℕ}
use Rattle.refusals.specs.declared.reason.Reason.{Reason}
use Rattle.refusals.specs.declared.reason.ChangeReason.{ChangeReason}
use Rattle.refusals.specs.Reasons.{reason_text, change_reason_text}
use Rattle.hub_commands.specs.Answers.{Answer, refused}

abbrev pub refusal : Reason → Answer
refusal reason = refused (reason_text reason)

-- the reason to refuse the change of a number, from 1
abbrev pub in_change : ℕ → Reason → ChangeReason
in_change number reason = record { number = number; reason = reason }

abbrev pub change_refusal : ChangeReason → Answer
change_refusal reason = refused (change_reason_text reason)

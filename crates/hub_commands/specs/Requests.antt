-- What is answered to each command.
use Rattle.std.specs.Prelude.{ℕ, true, false, List, string_bytes}
use Rattle.filters.specs.declared.rules.RuleSet.TheVariants.{Straight, Looping}
use Rattle.hub_requests.specs.declared.Command.{Command}
use Rattle.hub_requests.specs.declared.Command.TheVariants.{Asm, Check, Dis, Join, Run, Spans, Straighten, Test}
use Rattle.hub_requests.specs.declared.Detail.TheVariants.{Verdict, Reason, Listing}
use Rattle.hub_commands.specs.Answers.{Answer}
use Rattle.hub_commands.specs.Explained.{IsExplainReply}
use Rattle.hub_commands.specs.Loops.{IsLoopsCheckReply}
use Rattle.hub_commands.specs.JoinReply.{IsJoinReply}
use Rattle.hub_commands.specs.Programs.{IsAsmReply, IsCheckReply, IsDisReply, IsRunReply}
use Rattle.hub_commands.specs.SpansReply.{IsSpansReply}
use Rattle.hub_commands.specs.Straightened.{IsStraightenReply}
use Rattle.hub_commands.specs.Tested.{IsTestReply}

-- the reply that the command gives to an input
abbrev pub IsReplyTo : Command → List ℕ → Answer → Type 0
IsReplyTo Asm = IsAsmReply
IsReplyTo (Check Verdict (Straight profile)) = IsCheckReply profile
IsReplyTo (Check Reason (Straight profile)) = IsExplainReply false profile
IsReplyTo (Check Listing (Straight profile)) = IsExplainReply true profile
IsReplyTo (Check detail Looping) = IsLoopsCheckReply
IsReplyTo Dis = IsDisReply
IsReplyTo (Join size) = IsJoinReply size
IsReplyTo (Run shown digits options) = IsRunReply shown (string_bytes digits) options
IsReplyTo (Spans size) = IsSpansReply size
IsReplyTo Straighten = IsStraightenReply
IsReplyTo (Test rules form digits) = IsTestReply rules form (string_bytes digits)

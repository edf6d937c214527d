-- The lines that a session prints, without their LF.
use Rattle.std.specs.Prelude.{ℕ, List, [], ◌++◌, Option, None, Some, codes}
use Rattle.std.specs.Fmt.{decimal}
use Rattle.hex.specs.Hex.{encode_lower}
use Rattle.refusals.specs.Reasons.{reason_text}
use Rattle.refusals.specs.declared.reason.Reason.{Reason}
use Rattle.refusals.specs.declared.reason.Reason.TheVariants as reason
use Rattle.session_lines.specs.declared.fault.LineRefusal.{LineRefusal}
use Rattle.session_lines.specs.declared.fault.LineRefusal.TheVariants as line
use Rattle.session_lines.specs.declared.reply.Reply.{Reply}
use Rattle.session_lines.specs.declared.reply.Reply.TheVariants.{Version, Subscribed, Hit, End, Items, NoItemsFull}
use Rattle.session_lines.specs.declared.reply.Reply.TheVariants.{Closed, Latest, Left, Hub, Stats, Spans, Changes}
use Rattle.session_lines.specs.declared.reply.Reply.TheVariants.{Newest, Refused}
use Rattle.session_lines.specs.declared.stats.Limits.{Limits}
use Rattle.session_lines.specs.declared.stats.Memory.{Memory}
use Rattle.session_lines.specs.declared.stats.PerLimit.{PerLimit}
use Rattle.session_lines.specs.declared.stats.Stats.{Stats as StatsValue}

-- what is left of each limit
abbrev pub left_text : PerLimit → List ℕ
left_text left =
    codes "ok left " ++ decimal left.changes ++ codes " " ++ decimal left.characters ++ codes " " ++ decimal left.marks
    ++ codes " " ++ decimal left.subscribers

-- how much there is of a hub's text, of those that use it, and of each limit
abbrev pub text_stats : StatsValue → List ℕ
text_stats stats =
    codes "ok stats versions " ++ decimal stats.versions ++ codes " characters " ++ decimal stats.characters
    ++ codes " removed " ++ decimal stats.removed ++ codes " marks " ++ decimal stats.marks

abbrev pub user_stats : StatsValue → List ℕ
user_stats stats =
    codes " subscribers " ++ decimal stats.subscribers ++ codes " subscribed " ++ decimal stats.subscribed
    ++ codes " sessions " ++ decimal stats.sessions ++ codes " bytes " ++ decimal stats.bytes
    ++ codes " lag " ++ decimal stats.lag

abbrev pub used_stats : PerLimit → List ℕ
used_stats used =
    codes " changes-used " ++ decimal used.changes ++ codes " characters-used " ++ decimal used.characters
    ++ codes " marks-used " ++ decimal used.marks ++ codes " subscribers-used " ++ decimal used.subscribers

abbrev pub limit_stats : Limits → List ℕ
limit_stats limits =
    codes " changes-limit " ++ decimal limits.changes ++ codes " characters-limit " ++ decimal limits.characters
    ++ codes " bytes-limit " ++ decimal limits.bytes ++ codes " marks-limit " ++ decimal limits.marks
    ++ codes " subscribers-limit " ++ decimal limits.subscribers ++ codes " open-limit " ++ decimal limits.open_subscribers

-- and of its document's memory, where that has a limit
abbrev pub memory_stats : Option Memory → List ℕ
memory_stats None = []
memory_stats (Some memory) =
    codes " memory-used " ++ decimal memory.used ++ codes " memory-limit " ++ decimal memory.limit

abbrev pub reply_text : Reply → List ℕ
reply_text (Version number) = codes "ok version " ++ decimal number
reply_text (Subscribed id) = codes "ok sub " ++ decimal id
reply_text (Hit version span verdict) =
    codes "hit " ++ decimal version ++ codes " " ++ decimal span ++ codes " " ++ decimal verdict
reply_text (End version spans) = codes "end " ++ decimal version ++ codes " " ++ decimal spans
reply_text (Items count) = codes "ok items " ++ decimal count
reply_text NoItemsFull = codes "ok items 0 full"
reply_text (Closed id) = codes "ok closed " ++ decimal id
reply_text (Latest number) = codes "ok latest " ++ decimal number
reply_text (Left left) = left_text left
reply_text (Hub id) = codes "ok hub " ++ encode_lower id.bytes
reply_text (Stats stats) =
    text_stats stats ++ user_stats stats ++ used_stats stats.used ++ limit_stats stats.limits
    ++ memory_stats stats.memory
reply_text (Spans count) = codes "ok spans " ++ decimal count
reply_text (Changes count) = codes "ok changes " ++ decimal count
reply_text (Newest counter) = codes "ok newest " ++ decimal counter
reply_text (Refused reason) = codes "no " ++ reason_text reason

-- what is printed of a refused line
abbrev pub reason_of : LineRefusal → Reason
reason_of line.BadCommand = reason.BadCommand
reason_of line.BadCapacity = reason.BadCapacity
reason_of line.BadHex = reason.BadHex
reason_of (line.BadChange error) = reason.Unread error
reason_of line.OutOfMemory = reason.OutOfMemory

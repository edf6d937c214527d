-- The one history of a hub: that of a core whose sinks are queues.
use Rattle.std.specs.Prelude.{List}
use Rattle.change_ops.specs.declared.size.Size.{Size}
use Rattle.subscriber_queues.specs.Queue.{QueueSink, was_sent, IsFull, closed_end, unsent}
use Rattle.hub_core.specs.Machine.{Core}
use Rattle.call_history.specs.Calls.{Holds}
use Rattle.core_history.specs.Runs.{CoreEntry, CoreCall, CoreReply, Recorded, IsRunOf, IsLegal, Records}

abbrev pub HubEntry : Type 0
HubEntry = CoreEntry QueueSink

abbrev pub HubCall : Type 0
HubCall = CoreCall QueueSink

-- a share, as contracts see it
abbrev pub Seen : Type 0
Seen = Holds HubEntry

-- the history has led to this core
abbrev pub IsHubRun : Size → List HubEntry → Core QueueSink → Type 0
IsHubRun size log s = IsRunOf size was_sent IsFull closed_end unsent log s

-- it has led to some core, or none was made yet
abbrev pub IsHubLegal : Size → List HubEntry → Type 0
IsHubLegal size log = IsLegal size was_sent IsFull closed_end unsent log

-- one call was made and recorded, as a share's own
abbrev pub HubRecords : Size → Recorded QueueSink → Seen → HubCall → CoreReply → Recorded QueueSink → Seen → Type 0
HubRecords size old v call reply new w = Records size was_sent IsFull closed_end unsent old v call reply new w

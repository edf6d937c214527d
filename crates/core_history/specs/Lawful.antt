-- Which entries may be a history, where the hub isn't named.
use Rattle.std.specs.Prelude.{List}
use Rattle.change_ops.specs.declared.size.Size.{Size}
use Rattle.subscriber_queues.specs.Queue.{QueueSink, was_sent, IsFull, closed_end, unsent}
use Rattle.core_history.specs.Runs.{CoreEntry, IsLegal}

-- those of a core of some size, whose sinks are queues. What a call ensures names the size of its own hub
abbrev pub IsLawful : List (CoreEntry QueueSink) → Type 0
IsLawful log = (size : Size) × IsLegal size was_sent IsFull closed_end unsent log

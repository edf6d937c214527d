use Rattle.std.specs.Prelude.{None, All}
use Rattle.feeds.specs.Orderly.{ListSink}
use Rattle.hub_core.specs.Runs.{IsFreshEvent}
use Rattle.test_scripts.proofs.core_case.events.Given as goal

abbrev pub invariant-loop-line : goal.invariant-loop-line
invariant-loop-line g l = All (IsFreshEvent (λ (s : ListSink). s.sent) (λ (s : ListSink). None) g.N.Naming.size) l.events.items

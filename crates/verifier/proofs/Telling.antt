-- Both edges of a comparison together, as the rules take them.
use Rattle.std.proofs.Common.{◌≡◌, ℕ, true, false, Option, Ok, ap}
use Rattle.bpf_words.specs.declared.instruction.Width.{Width}
use Rattle.bpf_words.specs.declared.instruction.Comparison.{Comparison}
use Rattle.bpf_words.specs.declared.instruction.Operand.{Operand}
use Rattle.abstract_state.specs.Addresses.{answer_of}
use Rattle.abstract_state.specs.Situation.{Situation}
use Rattle.abstract_state.specs.Edges.{edge, ways, branched}
use Rattle.abstract_state.proofs.Edges.{branched_ok}
use Rattle.value_marks.specs.Marking.{Marking}
use Rattle.tracked_state.specs.declared.state.TrackedState.{TrackedState}
use Rattle.tracked_state.specs.Tracked.{IsTrackedIn}
use Rattle.tracked_state.specs.Rules.{TrackedWays, told_edge, told_ways}

pub ways_along : (width : Width) (comparison : Comparison) (left : ℕ) (right : Operand) (s : Situation) (marking : Option Marking) (t u : Option Situation) (taken untaken : Option TrackedState) → edge width comparison left right true s ≡ Ok t → edge width comparison left right false s ≡ Ok u → IsTrackedIn taken (told_edge left right marking t) → IsTrackedIn untaken (told_edge left right marking u) → (w : TrackedWays) × (answer_of (told_ways left right marking) (branched width comparison left right s) ≡ Ok w) × IsTrackedIn taken w.taken × IsTrackedIn untaken w.untaken
ways_along width comparison left right s marking t u taken untaken holds fails one other = (
  told_ways left right marking (ways t u),
  ap (answer_of (told_ways left right marking)) (branched_ok width comparison left right s t u holds fails),
  one,
  other,
)

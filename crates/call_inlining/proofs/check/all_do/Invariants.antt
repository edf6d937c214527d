use Rattle.std.specs.Prelude.{◌≡◌, ℕ, ◌<◌, slice_get, Some}
use Rattle.inlined_calls.specs.Inlined.{Placed}
use Rattle.call_inlining.specs.Checked.{DoesHere}
use Rattle.call_inlining.proofs.check.all_do.Given as goal

-- what there is to do at each place so far is done at its slot
abbrev pub invariant-loop-here : goal.invariant-loop-here
invariant-loop-here l =
    (index : ℕ) → index < l.here-index → (here : Placed) → slice_get l.places index ≡ Some here
    → DoesHere l.functions l.program l.places here

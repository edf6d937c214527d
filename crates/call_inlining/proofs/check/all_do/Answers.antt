use Rattle.std.proofs.Common.{◌≡◌, ℕ, ◌<◌, length, Some, ◌∙◌, subst, rules, arith}
use Rattle.std.proofs.lemmas.Option.{slice_get_within, get_or_from_slice_get}
use Rattle.std.specs.Prelude.{slice_get}
use borrow.Author.Count.{below_more}
use Rattle.inlined_calls.specs.Inlined.{Placed}
use Rattle.call_inlining.specs.Checked.{DoesHere}
use Rattle.call_inlining.proofs.check.all_do.Goals as goal

pub loop-here-preserved : goal.loop-here-preserved
loop-here-preserved c =
    let functions = c.args.functions.now in
    let program = c.args.program.now in
    let places = c.args.places.now in
    let read = c.here-item.result in
    let done : DoesHere functions program places read = (omega arith, c.does.ensures (search rules)) in
    below_more (λ (index : ℕ). (here : Placed) → slice_get places index ≡ Some here → DoesHere functions program places here)
    c.loop-here.here-index c.loop-here.invariant
    (λ here is. subst (λ (p : Placed). DoesHere functions program places p) (c.here-item.is ∙ get_or_from_slice_get places c.loop-here.here-index here read is) done)

pub returns : goal.returns
returns c = λ is here (index, listed).
    let within = slice_get_within c.args.places.now index here listed in
    c.loop-here.invariant index (omega arith) here listed

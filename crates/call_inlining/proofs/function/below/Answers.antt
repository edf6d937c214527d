use Rattle.std.proofs.Common.{◌≡◌, ◌+◌, ◌*◌, ◌∷◌, drop, get_or, length, arith}
use Rattle.std.specs.Prelude.{slice_get}
use Rattle.std.proofs.lemmas.List.{at_drop_more, at_drop_all}
use Rattle.inlined_calls.specs.declared.functions.Caller.{Caller}
use Rattle.inlined_calls.specs.Calls.{below, depth_in, kept_by}
use Rattle.call_inlining.proofs.function.below.Goals as goal

pub loop-caller-preserved : goal.loop-caller-preserved
unfolding below
loop-caller-preserved c =
    let functions = c.args.functions.now in
    let callers = c.args.callers.now in
    let index = c.loop-caller.caller-index in
    let none : Caller = record { function = 0; slot = 0 } in
    let caller = get_or callers index none in
    let more = at_drop_more (below functions) callers index none c.loop-caller-test.true in
    let was : c.loop-caller.bytes + below functions (drop index callers) ≡ below functions callers = c.loop-caller.invariant in
    let sum = c.in_ok-bytes.ensures in
    let is : c.in_ok-bytes.bytes ≡ c.loop-caller.bytes + c.in_ok-frame_of.field-0 = sum.1 in
    let frame = c.in_ok-frame_of.ensures in
    omega (arith, more, frame, is, was)

pub returns : goal.returns
unfolding below
returns c =
    let all = at_drop_all (below c.args.functions.now) c.args.callers.now c.loop-caller.caller-index c.loop-caller-test.false in
    let was : c.loop-caller.bytes + below c.args.functions.now (drop c.loop-caller.caller-index c.args.callers.now) ≡ below c.args.functions.now c.args.callers.now = c.loop-caller.invariant in
    omega (arith, all, was)

use Rattle.std.proofs.Common.{◌≤◌, inl, inr, arith}
use Rattle.std.proofs.lemmas.List.Elements.{All-contains}
use Rattle.mark_places.proofs.Blocks.{greatest_low, lists_block, copied_block, copied_marks}
use Rattle.mark_places.proofs.block.PlaceBlock.of_lists.Goals as goal

pub overflow_add-greatest : goal.overflow_add-greatest
overflow_add-greatest c =
    let a = c.args in
    let first = greatest_low a.offset a.names.now a.starts.now a.ends.now c.requires.sized.0 c.requires.sized.1 c.greatest_of.result c.requires.below (inl c.greatest_of.ensures.reached) in
    let last = greatest_low a.offset a.names.now a.starts.now a.ends.now c.requires.sized.0 c.requires.sized.1 c.greatest_of-2.result c.requires.below (inr c.greatest_of-2.ensures.reached) in
    omega (arith, first, last, c.max.ensures)

pub overflow_add-least : goal.overflow_add-least
overflow_add-least c =
    let a = c.args in
    let first = greatest_low a.offset a.names.now a.starts.now a.ends.now c.requires.sized.0 c.requires.sized.1 c.greatest_of.result c.requires.below (inl c.greatest_of.ensures.reached) in
    let low = All-contains (λ rank. c.least_of.result ≤ rank) a.starts.now c.greatest_of.result c.least_of.ensures.bound c.greatest_of.ensures.reached in
    omega (arith, first, low, c.min.ensures)

pub invariant_of-result : goal.invariant_of-result
invariant_of-result c =
    let a = c.args in
    copied_block a.offset _ _ a.names.now _ a.starts.now _ a.ends.now _ c.in_ok-names.ensures.items c.in_ok-starts.ensures.items c.in_ok-ends.ensures.items
    (lists_block a.offset a.names.now a.starts.now a.ends.now c.requires.sized.0 c.requires.sized.1 c.least_of.result c.least_of-2.result c.greatest_of.result c.greatest_of-2.result _ _
    c.least_of.ensures.bound c.least_of-2.ensures.bound c.greatest_of.ensures.bound c.greatest_of-2.ensures.bound c.greatest_of.ensures.reached c.greatest_of-2.ensures.reached
    (omega (arith, c.min.ensures)) (omega (arith, c.max.ensures)) c.requires.below)

pub returns : goal.returns
returns c =
    let a = c.args in
    copied_marks a.offset a.names.now _ a.starts.now _ a.ends.now _ c.in_ok-names.ensures.items c.in_ok-starts.ensures.items c.in_ok-ends.ensures.items

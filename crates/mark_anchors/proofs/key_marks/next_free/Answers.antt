use Rattle.std.proofs.Common.{◌≡◌, ◌∙◌, ◌<◌, ◌≤◌, ℕ, List, Some, length, sym, ap, arith}
use Rattle.std.specs.List.{slice_get}
use Rattle.std.proofs.lemmas.List.{length-set}
use Rattle.std.proofs.lemmas.Option.{same_Some}
use Rattle.mark_anchors.specs.KeyMarks.{NoneFree}
use Rattle.mark_anchors.proofs.Lists.{read_at}
use Rattle.mark_anchors.proofs.Jumps.{longer, none_free_between, none_free_more, free_still, halved}
use Rattle.mark_anchors.proofs.key_marks.next_free.Goals as goal

pub loop-index-preserved : goal.loop-index-preserved
loop-index-preserved c =
    let jumps : List ℕ = c.loop-index.jumps.items in
    let index : ℕ = c.loop-index.index in
    let to : ℕ = c.index-in-loop-index.result.now in
    let next : ℕ = c.index-next.result.now in
    let old = c.loop-index.invariant in
    let first : slice_get jumps index ≡ Some to = read_at jumps index to c.index-in-loop-index.ensures old.within in
    let within : to < length jumps = (old.jumps index to first).1 in
    let second : slice_get jumps to ≡ Some next = read_at jumps to next c.index-next.ensures within in
    let same : c.index.result.now ≡ to = same_Some c.index.result.now to (sym (read_at jumps index c.index.result.now c.index.ensures old.within) ∙ first) in
    let far = λ (is : to ≡ index). c.loop-index-test.true (same ∙ is) in
    let more = longer jumps index to next old.jumps first far second in
    let none : NoneFree jumps index next = none_free_between jumps index to next old.jumps first far second in
    let still = free_still jumps index to next old.jumps first far second in
    record {
      jumps = halved jumps index to next old.jumps first far second;
      sized = length-set jumps index next ∙ old.sized;
      low = let l : index < to = more.0 in let m : to ≤ next = more.1 in let o : c.args.from ≤ index = old.low in omega arith;
      within = let m : next < length jumps = more.2 in let s = length-set jumps index next in omega arith;
      same = λ j. (λ free. (still j).0 ((old.same j).0 free), λ free. (old.same j).1 ((still j).1 free));
      passed = none_free_more c.args.jumps.now.items c.args.from index next old.passed (λ j low high free. none j low high ((old.same j).0 free));
    }

pub returns-clause-free : goal.returns-clause-free
returns-clause-free c =
    let index : ℕ = c.loop-index.index in
    let at : slice_get c.loop-index.jumps.items index ≡ Some c.index.result.now = read_at c.loop-index.jumps.items index c.index.result.now c.index.ensures c.loop-index.invariant.within in
    (c.loop-index.invariant.low, (c.loop-index.invariant.same index).1 (at ∙ ap Some c.loop-index-test.false), c.loop-index.invariant.passed)

use Rattle.std.proofs.Common.{◌≡◌, ◌<◌, ◌≤◌, ap, sym, subst, ◌∙◌, arith, ⊎_elim}
use Rattle.std.specs.List.{slice_get}
use Rattle.std.proofs.lemmas.Option.{same_Some, slice_get_within}
use Rattle.std.proofs.lemmas.Bool.{cases_lt}
use Rattle.change_ops.specs.Ids.{Less}
use Rattle.char_sequence.proofs.Ids.{lower_floor}
use Rattle.char_sequence.proofs.Chunking.{here_at}
use Rattle.char_sequence.proofs.chunk.floor_of.Goals as goal

pub loop-element-preserved : goal.loop-element-preserved
loop-element-preserved c =
    λ k e within here less.
    let es = c.args.elements.now in
    let i = c.loop-element.element-index in
    let x = c.element-item.result in
    let there = here_at es i x c.loop-element-test.true c.element-item.is in
    ⊎_elim
    (λ (front : k < i). lower_floor e.id c.loop-element.floor c.lesser-floor.result (c.loop-element.invariant k e front here) c.lesser-floor.ensures.first less)
    (λ (past : i ≤ k).
    let at : i ≡ k = omega arith in
    let one : x ≡ e = same_Some x e (sym there ∙ ap (slice_get es) at ∙ here) in
    c.lesser-floor.ensures.second (subst (λ z. Less z.id c.lesser-floor.result) (sym one) less))
    (cases_lt k i)

pub returns : goal.returns
returns c =
    λ k e here.
    let low = slice_get_within c.args.elements.now k e here in
    let end = c.loop-element-test.false in
    c.loop-element.invariant k e (omega (arith, low, end)) here

use Rattle.std.proofs.Common.{◌≡◌, ◌+◌, ◌∙◌, sym, subst, length, arith}
use Rattle.std.proofs.lemmas.Bool.{false≢true}
use Rattle.insert_place.proofs.Places.{Seen, seen_past, seen_end, ends_last}
use Rattle.insert_place.proofs.place_from.Goals.{then-branch, else-branch}
use Rattle.insert_place.proofs.place_from.Goals as goal

pub loop-seen-preserved : goal.loop-seen-preserved
loop-seen-preserved c =
    let es = c.args.sequence.now.elements in
    let marks = c.args.marks.now in
    let caret = c.args.caret in
    let seen = c.loop-seen.seen in
    let at = sym c.element_at.ensures ∙ c.in-Some.is in
    elim c.if-branch.branch [
      | then-branch w ↦
          subst (λ n. Seen es marks caret n (seen + 1)) (sym w.place-is)
          (seen_end es marks caret c.loop-seen.place seen c.in-Some.element c.loop-seen.invariant at c.if-element.false (c.in_ok-bears_end.ensures.0 w.if-branch.true))
      | else-branch w ↦
          subst (λ n. Seen es marks caret n (seen + 1)) (sym w.place-is)
          (seen_past es marks caret c.loop-seen.place seen c.in-Some.element c.loop-seen.invariant at c.if-element.false
          (λ bears. false≢true (sym w.if-branch.false ∙ c.in_ok-bears_end.ensures.1 bears)))
    ]

pub returns-clause-place : goal.returns-clause-place
returns-clause-place c =
    let es = c.args.sequence.now.elements in
    let end : c.loop-seen.seen ≡ length es =
    omega (arith, c.loop-seen-test.false, c.len-seen-end.ensures.value, c.loop-seen.auto.seen-end, c.requires) in
    ends_last es c.args.marks.now c.args.caret c.loop-seen.place
    (subst (λ n. Seen es c.args.marks.now c.args.caret c.loop-seen.place n) end c.loop-seen.invariant)

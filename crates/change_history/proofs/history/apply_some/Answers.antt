use Rattle.std.proofs.Common.{◌≡◌, ◌+◌, ◌<◌, ◌++◌, length, take, drop, ap, ◌∙◌, subst, arith}
use Rattle.char_sequence.specs.RunElements.{later_id}
use Rattle.change_history.specs.Kept.{IsApplied, parent_at}
use Rattle.change_history.proofs.Running.{piece_stands, accepts_next, applied_some, length_rest}
use Rattle.change_history.proofs.history.apply_some.Goals as goal

pub add_some-requires-clause-accepted : goal.add_some-requires-clause-accepted
add_some-requires-clause-accepted c =
    let ops = c.requires.next.0 in
    let added = c.requires.next.1.0 in
    let from = c.requires.next.1.1.0 in
    let a = c.requires.next.1.1.1 in
    let run = c.args.run.now in
    let index = c.args.index in
    let rest = c.split_at.result.1.now in
    let at = c.later.ensures ∙ ap (λ i. later_id i index) c.id-id.ensures in
    let before = c.parent_at-parent.ensures ∙ ap (λ i. parent_at i c.parent.result index) c.id-id.ensures ∙ ap (λ p. parent_at run.id p index) c.parent.ensures in
    let read = c.split_at.ensures.back ∙ ap (drop index) c.characters.ensures.value in
    let next = piece_stands added from index run.id c.later.result run.parent c.parent_at-parent.result run.characters rest at before read c.requires.next.1.1.2 in
    let within = c.requires.within in
    let size = length_rest index run.characters rest read (omega (arith, within)) in
    let some : 0 < length rest = omega (arith, within, size) in
    (ops ++ take (from + index) added, a.kept, accepts_next ops added (from + index) c.args.parts.now c.later.result c.parent_at-parent.result rest some a next)

pub returns-clause-applied : goal.returns-clause-applied
returns-clause-applied c = λ ops added from a stand.
    let run = c.args.run.now in
    let index = c.args.index in
    let n = c.in_ok-count.count in
    let rest = c.split_at.result.1.now in
    let at = c.later.ensures ∙ ap (λ i. later_id i index) c.id-id.ensures in
    let before = c.parent_at-parent.ensures ∙ ap (λ i. parent_at i c.parent.result index) c.id-id.ensures ∙ ap (λ p. parent_at run.id p index) c.parent.ensures in
    let read = c.split_at.ensures.back ∙ ap (drop index) c.characters.ensures.value in
    let next = piece_stands added from index run.id c.later.result run.parent c.parent_at-parent.result run.characters rest at before read stand in
    let within = c.requires.within in
    let size = length_rest index run.characters rest read (omega (arith, within)) in
    let some : 0 < length rest = omega (arith, within, size) in
    let accepted = accepts_next ops added (from + index) c.args.parts.now c.later.result c.parent_at-parent.result rest some a next in
    let kept = c.in_ok-count.ensures.kept (ops ++ take (from + index) added) a.kept accepted in
    let on : from + index + n ≡ from + (index + n) = omega arith in
    subst (λ k. IsApplied ops added k c.add_some.new.self) on
    (applied_some ops added (from + index) n c.args.parts.now c.add_some.new.self c.later.result c.parent_at-parent.result rest a next c.in_ok-count.ensures.count.1 kept)

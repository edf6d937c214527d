use Rattle.std.proofs.Common.{ℕ, List, sym, subst}
use Rattle.std.specs.List.Sorted.{IsStrictlyIncreasing}
use Rattle.mark_anchors.specs.Ranges.{AreCuts}
use Rattle.mark_anchors.specs.Resolution.{AreInWindow}
use Rattle.mark_anchors.proofs.Alike.{ok_more}
use Rattle.mark_anchors.proofs.Cuts.{cuts_from_ends}
use Rattle.mark_anchors.proofs.resolved.ResolvedMarks.cuts.Goals as goal

pub returns : goal.returns
returns c =
    let low : ℕ = c.args.low in
    let high : ℕ = c.args.high in
    let ends = c.self.invariant.ends in
    ok_more (λ v. AreInWindow c.deref.result.now low high v.items) (λ v. AreCuts c.args.self.now.elements c.args.self.now.marks low high v.items) c.cuts_between.result
    (λ v inside.
    subst (λ r. AreCuts r.elements r.marks low high v.items) c.self.view_is
    (cuts_from_ends c.self.inside.sequence.now.elements c.self.inside.operations.now ends.0 c.self.inside.places.items low high v.items ends.1 ends.2
    (subst (λ (ps : List ℕ). AreInWindow ps low high v.items) c.deref.ensures.value inside)))
    c.cuts_between.ensures

pub cuts_between-requires : goal.cuts_between-requires
cuts_between-requires c = subst IsStrictlyIncreasing (sym c.deref.ensures.value) c.self.invariant.ends.2.rising

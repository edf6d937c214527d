use Rattle.std.proofs.Common.{◌≡◌, sym, subst}
use Rattle.mark_anchors.specs.CommentRuns.{numbers_at}
use Rattle.mark_anchors.specs.Formatting.{Format}
use Rattle.mark_anchors.specs.Ranges.{IsFormatAt}
use Rattle.mark_anchors.specs.Resolution.{formatting_of}
use Rattle.mark_anchors.proofs.Alike.{ok_more}
use Rattle.mark_anchors.proofs.resolved.ResolvedMarks.format_at_place.Goals as goal

pub returns : goal.returns
returns c =
    let is : Format → Type 0 = IsFormatAt c.args.self.now.elements c.args.self.now.marks c.args.place in
    ok_more (λ f. f ≡ formatting_of c.decided_at-decided.result (numbers_at c.args.self.now.runs c.args.place)) is c.format_of.result
    (λ f same. subst is (sym same) c.decided_at-decided.ensures)
    c.format_of.ensures

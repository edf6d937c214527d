use Rattle.std.proofs.Common.{◌≡◌, ◌∙◌, ap}
use Rattle.mark_anchors.specs.CommentRuns.{numbers_at}
use Rattle.mark_anchors.specs.Formatting.{Format}
use Rattle.mark_anchors.specs.Resolution.{ResolvedMarks, formatting_of}
use Rattle.mark_anchors.proofs.Formats.{same_fields}
use Rattle.mark_anchors.proofs.resolved.ResolvedMarks.format_of.Goals as goal

pub returns : goal.returns
returns c =
    let numbers : c.in_ok-at.field-0 ≡ numbers_at c.args.self.now.runs c.args.place = c.in_ok-at.ensures.numbers ∙ ap (λ (v : ResolvedMarks). numbers_at v.runs c.args.place) c.self.view_is in
    let made : Format = record { values = c.in_ok-of.field-0; comments = c.in_ok-at.field-0 } in
    same_fields made (formatting_of c.args.decided.now (numbers_at c.args.self.now.runs c.args.place)) c.in_ok-of.ensures numbers

use Rattle.std.proofs.Common.{◌≡◌, ◌∷◌, ◌++◌, rules, ap, sym, ◌∙◌, append_assoc, map}
use Rattle.std.proofs.Output.{has_written_append}
use Rattle.span_lines.specs.SpanLines.{parted, begun, comment_key}
use Rattle.span_lines.proofs.Commas.{one_more_key, begun_already}
use Rattle.span_lines.proofs.printing.write_comments.Goals as goal

pub loop-comment-preserved : goal.loop-comment-preserved
loop-comment-preserved g c =
    let behind = c.loop-comment.begun in
    let here : c.loop-comment.comment-iterator ≡ c.number.result ∷ c.next.new.self = c.in-Some.ensures.steps ∙ ap (λ n. n ∷ c.next.new.self) (sym c.number.ensures.value) in
    let rest = map comment_key c.next.new.self in
    let cut = ap (λ l. map comment_key l) here in
    record {
      written = λ plain.
          let (done, wrote, is) = c.loop-comment.invariant.written plain in
          let written = c.write.ensures.writes wrote.plain (search rules) in (
            _,
            has_written_append _ _ _ _ _ _ wrote written,
            append_assoc done _ _
                ∙ ap (λ l. done ++ l) (one_more_key behind (comment_key c.number.result) rest ∙ ap (λ l. parted behind l) (sym cut))
                ∙ is,
          );
      begun = begun_already rest ∙ ap (λ l. begun behind l) (sym cut) ∙ c.loop-comment.invariant.begun;
    }

use Rattle.std.proofs.Common.{◌≡◌, ◌++◌, ℕ, List, map}
use Rattle.std.specs.Fmt.{HasWritten, IsPlainFormatter}
use Rattle.span_lines.specs.SpanLines.{parted, begun, comment_key}
use Rattle.span_lines.proofs.printing.write_comments.Given as goal

abbrev pub invariant-loop-comment : goal.invariant-loop-comment
invariant-loop-comment g l =
    let all = map comment_key l.fn.format.comments in
    let left = map comment_key l.comment-iterator in
    record {
      written : IsPlainFormatter l.initial.f → (done : List ℕ) × HasWritten g.W.Write.write_str_gives l.initial.f done l.f
          × (done ++ parted l.begun left ≡ parted l.fn.behind all);
      begun : begun l.begun left ≡ begun l.fn.behind all;
    }

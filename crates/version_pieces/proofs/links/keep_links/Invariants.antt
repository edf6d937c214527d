use Rattle.std.proofs.Common.{◌≡◌, ℕ, ◌-◌, ◌<◌, ◌≤◌, drop, map}
use Rattle.span_flatten.specs.Spans.{Span}
use Rattle.span_flatten.specs.Version.{spans_of}
use Rattle.version_pieces.proofs.Linked.{AreLinked}
use Rattle.version_pieces.proofs.links.keep_links.Given as goal

abbrev pub invariant-loop-left : goal.invariant-loop-left
invariant-loop-left l = record {
  most : l.left ≤ l.to;
  rest : 0 < l.left → l.formats ≡ drop (l.to - l.left) (map (λ (span : Span). span.format) (spans_of l.version));
  linked : AreLinked (map (λ (span : Span). span.format) (spans_of l.version)) l.from (l.to - l.left);
}

abbrev pub decreases-loop-left : goal.decreases-loop-left
decreases-loop-left l = l.left

use Rattle.std.proofs.Common.{◌≡◌, ◌∙◌, ℕ, ◌+◌, ◌-◌, ◌<◌, ◌≤◌, List, length, map, drop, ap, sym, arith}
use Rattle.std.proofs.lemmas.List.{length-drop, length-map}
use Rattle.std.proofs.lemmas.Option.{slice_get_within}
use Rattle.mark_anchors.specs.Formatting.{Format}
use Rattle.span_flatten.specs.Spans.{Span}
use Rattle.span_flatten.specs.Version.{spans_of}
use Rattle.format_runs.specs.Runs.{Run}
use Rattle.version_pieces.proofs.Linked.{AreLinked, part_left, part_linked, spans_linked}
use Rattle.version_pieces.proofs.links.keep_links.Goals as goal

pub loop-left-init : goal.loop-left-init
loop-left-init c =
    let all : List Format = map (λ (span : Span). span.format) (spans_of c.args.version.now) in
    record {
      most = omega (arith, c.saturating_sub-left.ensures);
      rest = λ more.
          let at : c.args.from ≡ c.args.to - c.saturating_sub-left.result = omega (arith, c.saturating_sub-left.ensures) in
          c.formats_from-formats.ensures ∙ ap (λ k. drop k all) at;
      linked = λ i format low high is. absurd (omega (arith, c.saturating_sub-left.ensures));
    }

pub loop-left-preserved : goal.loop-left-preserved
loop-left-preserved c =
    let all : List Format = map (λ (span : Span). span.format) (spans_of c.args.version.now) in
    let part : List Run = c.in-Some.part.now in
    let at : ℕ = c.args.to - c.loop-left.left in
    let next : ℕ = c.args.to - c.saturating_sub-left-in-loop-left.result in
    let here = c.loop-left.invariant.rest c.loop-left-test.true in
    let few = length-map part (λ (run : Run). run.format) in
    let most = c.loop-left.invariant.most in
    record {
      most = omega (arith, c.saturating_sub-left-in-loop-left.ensures, most);
      rest = λ more.
          let there : at + length part ≡ next = omega (arith, c.saturating_sub-left-in-loop-left.ensures, most) in
          part_left all c.loop-left.formats c.next_part.new.self part at here c.in-Some.ensures.1 few ∙ ap (λ k. drop k all) there;
      linked =
          part_linked all c.loop-left.formats c.next_part.new.self part c.args.from at next here c.in-Some.ensures.1 few c.keep_each.ensures c.loop-left.invariant.linked
          (omega (arith, c.saturating_sub-left-in-loop-left.ensures, most));
    }

-- nothing is left behind those that were gone over
pub returns-in_default : goal.returns-in_default
returns-in_default c =
    let all : List Format = map (λ (span : Span). span.format) (spans_of c.args.version.now) in
    let at : ℕ = c.args.to - c.loop-left.left in
    let none = sym (c.loop-left.invariant.rest c.loop-left-test.true) ∙ c.in_default.ensures in
    spans_linked (spans_of c.args.version.now) c.args.from c.args.to
    (λ i format low high is.
    c.loop-left.invariant.linked i format low (omega (arith, length-drop at all, ap length none, slice_get_within all i format is)) is)

pub returns : goal.returns
returns c =
    let end : c.args.to - c.loop-left.left ≡ c.args.to = omega (arith, c.loop-left-test.false) in
    spans_linked (spans_of c.args.version.now) c.args.from c.args.to
    (λ i format low high is. c.loop-left.invariant.linked i format low (omega (arith, high, end)) is)

use Rattle.std.proofs.Common.{◌≡◌, ◌+◌, ◌∷◌, ◌++◌, ℕ, List, [], drop, map, vec_len, sym, ap, ◌∙◌}
use Rattle.std.specs.List.{slice_get}
use Rattle.span_flatten.specs.Spans.{Span}
use Rattle.span_flatten.specs.Version.{spans_of}
use Rattle.span_view.specs.Views.{view_at, views}
use Rattle.feeds.specs.Verdicts.{verdict_on}
use Rattle.span_view.proofs.Views.{first_of}
use Rattle.feeds.proofs.Walking.{verdict_all, verdict_more}
use Rattle.feeds.proofs.batch.verdicts.Goals as goal

pub lent-requires : goal.lent-requires
lent-requires c =
    let all : List Span = spans_of c.args.version.now in
    let left : drop (vec_len c.loop-span.found) all ≡ c.in-Some.span ∷ c.next.new.self = sym c.loop-span.invariant.left ∙ c.in-Some.ensures.steps in
    ap (slice_get all) c.len.ensures ∙ (first_of all c.next.new.self (vec_len c.loop-span.found) c.in-Some.span left).0

pub loop-span-preserved : goal.loop-span-preserved
loop-span-preserved c =
    let program = c.args.program.now in
    let version = c.args.version.now in
    let all : List Span = spans_of version in
    let count : ℕ = vec_len c.loop-span.found in
    let left : drop count all ≡ c.in-Some.span ∷ c.next.new.self = sym c.loop-span.invariant.left ∙ c.in-Some.ensures.steps in
    let more : vec_len c.push.new.self ≡ count + 1 = c.in_ok-push.ensures.len in
    let there = ap (λ n. view_at version n) (sym c.len.ensures) ∙ c.in_ok-span.ensures in
    let found : c.push.new.self.items ≡ c.loop-span.found.items ++ verdict_on program c.in_ok-span.span ∷ [] =
    c.in_ok-push.ensures.items ∙ ap (λ v. c.loop-span.found.items ++ v ∷ []) c.verdict.ensures.verdict in
    record {
      left = (first_of all c.next.new.self count c.in-Some.span left).1 ∙ ap (λ n. drop n all) (sym more);
      whole =
          ap (λ l. l ++ map (verdict_on program) (drop (vec_len c.push.new.self) (views version))) found
          ∙ ap (λ n. (c.loop-span.found.items ++ verdict_on program c.in_ok-span.span ∷ []) ++ map (verdict_on program) (drop n (views version))) more
          ∙ verdict_more program version count c.in_ok-span.span c.loop-span.found.items there c.loop-span.invariant.whole;
    }

pub returns : goal.returns
returns c =
    verdict_all c.args.program.now c.args.version.now (vec_len c.loop-span.found) c.loop-span.found.items
    (sym c.loop-span.invariant.left ∙ c.in-None.ensures.steps.0) c.loop-span.invariant.whole

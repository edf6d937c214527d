use Rattle.std.proofs.Common.{◌≡◌, true, ◌++◌, ◌∙◌, ℕ, [], rules, ap, arith, length, ⊎_elim}
use Rattle.std.proofs.Output.{has_written_append, has_written_of_eq, writes_in_calls_nil}
use Rattle.std.specs.declared.ops.Range.{Range}
use Rattle.std.specs.Iterator.Adapters.{zip_first, zip_second}
use Rattle.std.proofs.lemmas.List.{nil_from_length}
use Rattle.span_flatten.specs.Version.{spans_of}
use Rattle.span_view.proofs.Views.{rows_few}
use Rattle.span_lines.specs.SpanLines.{span_line, span_lines}
use Rattle.span_lines.proofs.Numbered.{one_more, all_done, same_numbered}
use Rattle.span_lines.proofs.printing.AllSpansDisplay.fmt.Goals as goal

pub loop-index-init : goal.loop-index-init
loop-index-init g c =
    let spans = spans_of c.args.self.now.0.now in
    let pairs = c.into_iter-index-iterator.result in
    let is = c.into_iter-index-iterator.ensures.into_iter_gives in
    let range = ap zip_first is ∙ c.zip-index-items.ensures.first in
    let items = ap zip_second is ∙ c.zip-index-items.ensures.second ∙ c.spans_from.ensures in
    let start : (zip_first pairs).start ≡ 0 = ap (λ (r : Range ℕ). r.start) range in
    let end : (zip_first pairs).end ≡ c.span_count.result = ap (λ (r : Range ℕ). r.end) range in
    record {
      written = λ plain. ([], record { wrote = writes_in_calls_nil _ _; plain = plain }, same_numbered (span_line true) (zip_first pairs).start 0 (zip_second pairs) spans start items);
      left = omega (arith, ap length items, rows_few c.args.self.now.0.now, c.span_count.ensures.value);
    }

pub loop-index-preserved : goal.loop-index-preserved
loop-index-preserved g c =
    let (range, cut) = c.in-Some.ensures.steps in
    let before = c.loop-index.index-iterator in
    let after = c.next.new.self in
    record {
      written = λ plain.
          let (done, wrote, is) = c.loop-index.invariant.written plain in (
            done ++ span_line true c.in-Some.index c.in-Some.span,
            has_written_append _ _ _ _ _ _ wrote (c.write_span.ensures wrote.plain (search rules)),
            one_more (span_line true) done (span_lines (spans_of c.args.self.now.0.now)) (zip_first before).start (zip_first after).start c.in-Some.index
                (zip_second before) (zip_second after) c.in-Some.span is cut (omega arith) (omega arith),
          );
      left = omega (arith, ap length cut, range);
    }

pub returns-clause-writes : goal.returns-clause-writes
returns-clause-writes g c = λ plain ok.
    let pairs = c.loop-index.index-iterator in
    let (done, wrote, is) = c.loop-index.invariant.written plain in
    let few = c.loop-index.invariant.left in
    let ended : length (zip_second pairs) ≡ 0 = ⊎_elim (λ range. omega (arith, few, range.1)) (λ rest. ap length rest.1.0) c.in-None.ensures.steps in
    has_written_of_eq _ _ _ _ _ (all_done (span_line true) done (span_lines (spans_of c.args.self.now.0.now)) (zip_first pairs).start (zip_second pairs) is (nil_from_length (zip_second pairs) ended)) wrote

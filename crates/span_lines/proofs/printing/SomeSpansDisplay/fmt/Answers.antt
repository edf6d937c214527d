use Rattle.std.proofs.Common.{◌≡◌, ◌<◌, ◌++◌, ◌∙◌, ℕ, [], rules, ap, arith, length, take, drop, length-drop, ⊎_elim}
use Rattle.std.proofs.Output.{has_written_append, has_written_of_eq, writes_in_calls_nil}
use Rattle.std.specs.declared.ops.Range.{Range}
use Rattle.std.specs.Iterator.Adapters.{take_source, take_count, zip_first, zip_second}
use Rattle.span_flatten.specs.Version.{spans_of}
use Rattle.span_view.proofs.Views.{rows_few}
use Rattle.span_lines.proofs.Numbered.{one_more_of, all_done, none_taken, same_numbered}
use Rattle.span_lines.proofs.Some.{named, some_named, some_are}
use Rattle.span_lines.proofs.printing.SomeSpansDisplay.fmt.Goals as goal

pub loop-index-init : goal.loop-index-init
loop-index-init g c =
    let here = c.args.self.now in
    let spans = drop here.first (spans_of here.version.now) in
    let taken = c.into_iter-index-iterator.result in
    let pairs = take_source taken in
    let gives = c.into_iter-index-iterator.ensures.into_iter_gives in
    let count = ap take_count gives ∙ c.take-index-items.ensures.count in
    let is = ap take_source gives ∙ c.take-index-items.ensures.source in
    let range = ap zip_first is ∙ c.zip.ensures.first in
    let items = ap zip_second is ∙ c.zip.ensures.second ∙ c.spans_from-spans.ensures in
    let start : (zip_first pairs).start ≡ here.first = ap (λ (r : Range ℕ). r.start) range in
    let end : (zip_first pairs).end ≡ c.span_count.result = ap (λ (r : Range ℕ). r.end) range in
    let some = ap (λ n. take n (zip_second pairs)) count ∙ ap (take here.most) items in
    record {
      written = λ plain. (
        [],
        record { wrote = writes_in_calls_nil _ _; plain = plain },
        same_numbered (named here.further) (zip_first pairs).start here.first (take (take_count taken) (zip_second pairs)) (take here.most spans) start some,
      );
      left = omega (arith, ap length items, length-drop here.first (spans_of here.version.now), rows_few here.version.now, c.span_count.ensures.value);
    }

pub loop-index-preserved : goal.loop-index-preserved
loop-index-preserved g c =
    let here = c.args.self.now in
    let (step, count) = c.in-Some.ensures.steps in
    let (range, cut) = step in
    let before = take_source c.loop-index.index-iterator in
    let after = take_source c.next.new.self in
    record {
      written = λ plain.
          let (done, wrote, is) = c.loop-index.invariant.written plain in
          let word = c.write_str.ensures.writes wrote.plain (search rules) in
          let line = c.write_span.ensures word.plain (search rules) in (
            done ++ named here.further c.in-Some.index c.in-Some.span,
            has_written_append _ _ _ _ _ _ wrote (has_written_append _ _ _ _ _ _ word line),
            one_more_of (named here.further) done (some_named here.further here.first here.most here.version.now) (zip_first before).start (zip_first after).start c.in-Some.index
                (take_count c.loop-index.index-iterator) (take_count c.next.new.self) (zip_second before) (zip_second after) c.in-Some.span is cut (omega arith) (omega arith) count,
          );
      left = omega (arith, ap length cut, range);
    }

pub returns-clause-writes : goal.returns-clause-writes
returns-clause-writes g c = λ plain ok.
    let here = c.args.self.now in
    let pairs = take_source c.loop-index.index-iterator in
    let most = take_count c.loop-index.index-iterator in
    let (done, wrote, is) = c.loop-index.invariant.written plain in
    let few = c.loop-index.invariant.left in
    let ended : 0 < most → length (zip_second pairs) ≡ 0 = λ some.
    ⊎_elim (λ range. omega (arith, few, range.1)) (λ rest. ap length rest.1.0) (c.in-None.ensures.steps some) in
    let whole = all_done (named here.further) done (some_named here.further here.first here.most here.version.now) (zip_first pairs).start (take most (zip_second pairs)) is (none_taken most (zip_second pairs) ended) in
    has_written_of_eq _ _ _ _ _ (whole ∙ some_are here.further here.version.now here.first here.most) wrote

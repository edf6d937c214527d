use Rattle.std.proofs.Common.{◌≡◌, ◌++◌, ◌+◌, ◌-◌, [], ap, arith}
use Rattle.std.proofs.Output.{has_written_append, has_written_of_eq, writes_in_calls_nil}
use Rattle.mark_anchors.specs.Formatting.{value_in}
use Rattle.span_lines.specs.SpanLines.{key_with, row_keys, parted, begun}
use Rattle.span_lines.proofs.Commas.{more_written, more_begun, all_written, all_begun, row_and_more, no_row_left, rows_at_first}
use Rattle.span_lines.proofs.printing.write_rows.Goals as goal

pub loop-row-init : goal.loop-row-init
loop-row-init g c =
    let same = rows_at_first c.args.format.now c.args.first c.args.count in
    record {
      written = λ plain. ([], record { wrote = writes_in_calls_nil _ _; plain = plain }, ap (λ l. parted c.args.behind l) same);
      begun = ap (λ l. begun c.args.behind l) same;
    }

pub loop-row-preserved : goal.loop-row-preserved
loop-row-preserved g c =
    let format = c.args.format.now in
    let row = c.loop-row.row in
    let end = c.args.first + c.args.count in
    let behind = c.loop-row.begun in
    let here = key_with row (value_in format row) in
    let left = row_keys format row (end - row) in
    let rest = row_keys format (row + 1) (end - (row + 1)) in
    let cut : left ≡ here ++ rest = row_and_more format row end (omega arith) in
    let next = c.in_ok-begun.ensures.begun in
    record {
      written = λ plain.
          let (done, wrote, is) = c.loop-row.invariant.written plain in (
            done ++ parted behind here,
            has_written_append _ _ _ _ _ _ wrote (c.in_ok-begun.ensures.writes wrote.plain),
            more_written done _ behind _ here rest left cut next is,
          );
      begun = more_begun behind _ _ here rest left cut next c.loop-row.invariant.begun;
    }

pub returns-clause-writes : goal.returns-clause-writes
returns-clause-writes g c = λ plain.
    let (done, wrote, is) = c.loop-row.invariant.written plain in
    let none = no_row_left c.args.format.now c.loop-row.row (c.args.first + c.args.count) (omega arith) in
    has_written_of_eq _ _ _ _ _ (all_written done _ c.loop-row.begun _ none is) wrote

pub returns-clause-begun : goal.returns-clause-begun
returns-clause-begun g c =
    let none = no_row_left c.args.format.now c.loop-row.row (c.args.first + c.args.count) (omega arith) in
    all_begun c.loop-row.begun _ _ none c.loop-row.invariant.begun

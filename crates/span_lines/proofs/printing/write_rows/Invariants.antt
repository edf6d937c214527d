use Rattle.std.proofs.Common.{◌≡◌, ◌++◌, ◌+◌, ◌-◌, ℕ, List}
use Rattle.std.specs.Fmt.{HasWritten, IsPlainFormatter}
use Rattle.span_lines.specs.SpanLines.{row_keys, parted, begun}
use Rattle.span_lines.proofs.printing.write_rows.Given as goal

abbrev pub invariant-loop-row : goal.invariant-loop-row
invariant-loop-row g l =
    let format = l.fn.format in
    let all = row_keys format l.fn.first l.fn.count in
    let left = row_keys format l.row (l.fn.first + l.fn.count - l.row) in
    record {
      written : IsPlainFormatter l.initial.f → (done : List ℕ) × HasWritten g.W.Write.write_str_gives l.initial.f done l.f
          × (done ++ parted l.begun left ≡ parted l.fn.behind all);
      begun : begun l.begun left ≡ begun l.fn.behind all;
    }

use Rattle.std.proofs.Common.{◌≡◌, ◌++◌, drop, string_bytes}
use Rattle.span_context.specs.ContextField.{every_field}
use Rattle.program_reads.specs.Positions.{marked}
use Rattle.program_reads.specs.Lines.{names_text}
use Rattle.program_reads.proofs.Naming.{names_left}
use Rattle.program_reads.proofs.lines.push_names.Given as goal

abbrev pub invariant-loop-i : goal.invariant-loop-i
invariant-loop-i l = record {
  written : string_bytes l.text ++ names_left l.some (marked (drop l.i l.fields) (drop l.i every_field)) ≡ string_bytes l.fn.text ++ names_text (marked l.fields every_field);
}

use Rattle.std.proofs.Common.{◌≡◌, ℕ, ◌<◌, true, false, Some, length, get_or}
use Rattle.std.specs.List.{slice_get}
use Rattle.span_context.specs.declared.context_field.ContextField.{ContextField}
use Rattle.span_context.specs.ContextField.{every_field}
use Rattle.program_reads.specs.Marks.{Takes}
use Rattle.program_reads.proofs.fields.mark.Given as goal

abbrev pub invariant-loop-i : goal.invariant-loop-i
invariant-loop-i l = record {
  long : length l.fields ≡ 13;
  kept : (j : ℕ) → get_or l.initial.fields j false ≡ true → get_or l.fields j false ≡ true;
  done : (j : ℕ) (f : ContextField) → j < l.i → slice_get every_field j ≡ Some f → Takes f l.first l.end → get_or l.fields j false ≡ true;
}

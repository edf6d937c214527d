use Rattle.std.proofs.Common.{◌≡◌, ℕ, ◌<◌, Some, slice_get}
use Rattle.span_context.specs.declared.context_field.ContextField.{ContextField}
use Rattle.span_context.specs.ContextField.{offset_of, size_of, every_field}
use Rattle.span_context.proofs.context_field.ContextField.at.Given as goal

abbrev pub invariant-loop-field : goal.invariant-loop-field
invariant-loop-field l = (k : ℕ) → k < l.field-index → (f : ContextField) → slice_get every_field k ≡ Some f → offset_of f ≡ l.offset → size_of f ≡ l.size → ⊥

-- What is listed grows, load by load.
use Rattle.std.specs.Prelude.{ℕ, ◌+◌, ◌<◌, ◌≤◌}
use Rattle.span_context.specs.declared.context_field.ContextField.{ContextField}
use Rattle.span_context.specs.ContextField.{offset_of, bytes_of}
use Rattle.program_reads.specs.declared.reads.Reads.{Reads}
use Rattle.program_reads.specs.Reads.{HasByte}

-- nothing that was listed is lost
pub record Grows (old new : Reads) : Type 0 where
  pub context : (k : ℕ) → HasByte old.fields k → HasByte new.fields k
  pub text : old.text ≤ new.text
  pub link : old.link ≤ new.link

-- some of the bytes from first up to end are the field's
abbrev pub Takes : ContextField → ℕ → ℕ → Type 0
Takes field first end = (offset_of field < end) × (first < offset_of field + bytes_of field)

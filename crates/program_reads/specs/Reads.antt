-- What a list of what can be read of a span has, spans that agree on it, and that they give a program one outcome.
use Rattle.std.specs.Prelude.{◌≡◌, ℕ, ◌+◌, ◌<◌, ◌≤◌, Bool, true, false, List, length, slice_get, slice_index}
use Rattle.std.specs.Prelude.{slice_index_or, Some}
use Rattle.span_context.specs.Context.{SpanBytes, context_base, text_base, text_limit, link_base, link_limit}
use Rattle.span_context.specs.declared.context_field.ContextField.{ContextField}
use Rattle.span_context.specs.ContextField.{offset_of, bytes_of, every_field}
use Rattle.span_context.specs.declared.profile.Profile.{Profile}
use Rattle.semantics.specs.Safe.{IsSpanIn}
use Rattle.semantics.specs.Step.{Program}
use Rattle.semantics.specs.Outcomes.{outcome}
use Rattle.program_reads.specs.declared.reads.Reads.{Reads}

-- byte k of the context is one of a field that is marked
abbrev pub HasByte : List Bool → ℕ → Type 0
HasByte fields k =
    (i : ℕ) × ((field : ContextField) × (slice_get every_field i ≡ Some field) × (slice_index_or fields i false ≡ true)
    × (offset_of field ≤ k) × (k < offset_of field + bytes_of field))

-- two spans agree on what is listed: on the fields, and on the bytes of the text and of the link's text, as far as both
-- have them
pub record AgreesOn (reads : Reads) (a b : SpanBytes) : Type 0 where
  pub context : (k : ℕ) → HasByte reads.fields k → slice_index a.context k ≡ slice_index b.context k
  pub text : (k : ℕ) → k < reads.text → k < length a.text → k < length b.text
      → slice_index a.text k ≡ slice_index b.text k
  pub link : (k : ℕ) → k < reads.link → k < length a.link → k < length b.link
      → slice_index a.link k ≡ slice_index b.link k

-- spans of the profile that agree on what is listed give the program one outcome
abbrev pub Determines : Reads → Profile → Program → Type 0
Determines reads profile program =
    (a b : SpanBytes) → IsSpanIn profile a → IsSpanIn profile b → AgreesOn reads a b
    → outcome program a ≡ outcome program b

-- count bytes at an address are listed, in whichever lent region they lie
pub record CoversAt (reads : Reads) (address count : ℕ) : Type 0 where
  pub context : (offset : ℕ) → address ≡ context_base + offset → offset + count ≤ 72 → (k : ℕ) → k < count
      → HasByte reads.fields (offset + k)
  pub text : (offset : ℕ) → address ≡ text_base + offset → offset + count ≤ text_limit → offset + count ≤ reads.text
  pub link : (offset : ℕ) → address ≡ link_base + offset → offset + count ≤ link_limit → offset + count ≤ reads.link

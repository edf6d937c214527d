-- Which field begins at an offset.
use Rattle.std.proofs.Common.{◌≡◌, ℕ, ◌<◌, Some, slice_get, Bool, false, IsTrue, ◌↔◌, refl, arith}
use Rattle.span_context.specs.declared.context_field.ContextField.{ContextField}
use Rattle.span_context.specs.declared.context_field.ContextField.TheVariants.{Text, End, Length, Characters, Flags, Color, LinkLength, Comments, Index, Count, Version, Link, LinkEnd}
use Rattle.span_context.specs.declared.size.Size.{Size}
use Rattle.span_context.specs.ContextField.{offset_of, size_of, every_field}

-- its index among the fields
abbrev pub index_of : ContextField → ℕ
index_of Text = 0
index_of End = 1
index_of Length = 2
index_of Characters = 3
index_of Flags = 4
index_of Color = 5
index_of LinkLength = 6
index_of Comments = 7
index_of Index = 8
index_of Count = 9
index_of Version = 10
index_of Link = 11
index_of LinkEnd = 12

-- each field is among those that are gone over
pub among-all : (f : ContextField) → (index_of f < 13) × (slice_get every_field (index_of f) ≡ Some f)
among-all Text = (omega arith, refl)
among-all End = (omega arith, refl)
among-all Length = (omega arith, refl)
among-all Characters = (omega arith, refl)
among-all Flags = (omega arith, refl)
among-all Color = (omega arith, refl)
among-all LinkLength = (omega arith, refl)
among-all Comments = (omega arith, refl)
among-all Index = (omega arith, refl)
among-all Count = (omega arith, refl)
among-all Version = (omega arith, refl)
among-all Link = (omega arith, refl)
among-all LinkEnd = (omega arith, refl)

-- a field that a test refused doesn't begin there
pub refused-field : (f g : ContextField) (offset : ℕ) (size : Size) (test : Bool) → (IsTrue test ↔ (offset_of g ≡ offset) × (size_of g ≡ size)) → test ≡ false → g ≡ f → offset_of f ≡ offset → size_of f ≡ size → ⊥
refused-field f g offset size test told refused same begins sized = grind arith

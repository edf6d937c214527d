-- Fields of a context by offset and size.
use Rattle.std.proofs.Common.{◌≡◌, ℕ, zero, suc, ◌+◌, ◌-◌, ◌*◌, ◌/◌, ◌<◌, ◌≤◌, ◌⊎◌, inl, inr, refl, sym, subst, arith}
use Rattle.span_context.specs.declared.context_field.ContextField.{ContextField}
use Rattle.span_context.specs.declared.context_field.ContextField.TheVariants.{Text, Length, Characters, Flags, Color, LinkLength, Comments, Index, Count, Version, Link, End, LinkEnd}
use Rattle.span_context.specs.declared.size.Size.{Size}
use Rattle.span_context.specs.declared.size.Size.TheVariants.{Byte, Half, Word, Double}
use Rattle.span_context.specs.ContextField.{offset_of, size_of}
use Rattle.semantics.specs.Memory.{bytes_in}
use Rattle.abstract_state.specs.declared.region.Region.{Region}
use Rattle.abstract_state.specs.declared.region.Region.TheVariants as TheRegions
use Rattle.abstract_state.specs.Lent.{begin_field, end_field}
use Rattle.abstract_state.specs.Kinds.{IsNumberField}

-- some field begins at an offset and has a size
abbrev pub IsField : Size → ℕ → Type 0
IsField size offset = (f : ContextField) × (offset_of f ≡ offset) × (size_of f ≡ size)

pub begin_is_field : (at : Region) → IsField Double (begin_field at)
begin_is_field TheRegions.Text = (Text, refl, refl)
begin_is_field TheRegions.Link = (Link, refl, refl)

pub end_is_field : (at : Region) → IsField Double (end_field at)
end_is_field TheRegions.Text = (End, refl, refl)
end_is_field TheRegions.Link = (LinkEnd, refl, refl)

-- the eight fields of four bytes
word_field : (k : ℕ) → k < 8 → IsField Word (16 + 4 * k)
word_field zero few = (Length, refl, refl)
word_field (suc zero) few = (Characters, refl, refl)
word_field (suc (suc zero)) few = (Flags, refl, refl)
word_field (suc (suc (suc zero))) few = (Color, refl, refl)
word_field (suc (suc (suc (suc zero)))) few = (LinkLength, refl, refl)
word_field (suc (suc (suc (suc (suc zero))))) few = (Comments, refl, refl)
word_field (suc (suc (suc (suc (suc (suc zero)))))) few = (Index, refl, refl)
word_field (suc (suc (suc (suc (suc (suc (suc zero))))))) few = (Count, refl, refl)
word_field (suc (suc (suc (suc (suc (suc (suc (suc k)))))))) few = absurd (omega arith)

pub number_is_field : (size : Size) (offset : ℕ) → IsNumberField size offset → IsField size offset
number_is_field Byte offset number = absurd number
number_is_field Half offset number = absurd number
number_is_field Word offset number =
    let at : 16 + 4 * ((offset - 16) / 4) ≡ offset = omega (arith, number) in
    subst (λ (p : ℕ). IsField Word p) at (word_field ((offset - 16) / 4) (omega (arith, number)))
number_is_field Double offset number = (Version, sym number, refl)

-- a field of which no more is known than that it is a number
abbrev pub IsPlain : ContextField → Type 0
IsPlain f = (f ≡ Characters) ⊎ ((f ≡ Flags) ⊎ ((f ≡ Color) ⊎ ((f ≡ LinkLength) ⊎ ((f ≡ Comments) ⊎ ((f ≡ Index) ⊎ ((f ≡ Count) ⊎ (f ≡ Version)))))))

-- it lies in the first 56 bytes, and behind the addresses of the text
pub record LiesBetween (f : ContextField) : Type 0 where
  pub within : offset_of f + bytes_in (size_of f) ≤ 56
  pub behind : 16 ≤ offset_of f

pub plain_between : (f : ContextField) → IsPlain f → LiesBetween f
plain_between f (inl e) = subst LiesBetween (sym e) (record { within = omega arith; behind = omega arith })
plain_between f (inr (inl e)) = subst LiesBetween (sym e) (record { within = omega arith; behind = omega arith })
plain_between f (inr (inr (inl e))) = subst LiesBetween (sym e) (record { within = omega arith; behind = omega arith })
plain_between f (inr (inr (inr (inl e)))) = subst LiesBetween (sym e) (record { within = omega arith; behind = omega arith })
plain_between f (inr (inr (inr (inr (inl e))))) = subst LiesBetween (sym e) (record { within = omega arith; behind = omega arith })
plain_between f (inr (inr (inr (inr (inr (inl e)))))) = subst LiesBetween (sym e) (record { within = omega arith; behind = omega arith })
plain_between f (inr (inr (inr (inr (inr (inr (inl e))))))) = subst LiesBetween (sym e) (record { within = omega arith; behind = omega arith })
plain_between f (inr (inr (inr (inr (inr (inr (inr e))))))) = subst LiesBetween (sym e) (record { within = omega arith; behind = omega arith })

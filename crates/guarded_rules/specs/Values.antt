-- What an instruction's answer says of the register that it writes.
use Rattle.std.specs.Prelude.{◌≡◌, ◌-◌, ◌^◌, true, Some, Result, Ok, Err}
use Rattle.span_context.specs.declared.profile.Profile.{Profile}
use Rattle.span_context.specs.Profile.{lends_link}
use Rattle.span_context.specs.declared.context_field.ContextField.{ContextField}
use Rattle.span_context.specs.declared.context_field.ContextField.TheVariants as field
use Rattle.span_context.specs.ContextField.{bytes_of}
use Rattle.abstract_state.specs.declared.region.Region.{Region}
use Rattle.abstract_state.specs.declared.region.Region.TheVariants.{Text, Link}
use Rattle.abstract_state.specs.declared.refusal.Refusal.{Refusal}
use Rattle.abstract_state.specs.Lent.{limit_of}
use Rattle.abstract_state.specs.Addresses.{Content}
use Rattle.guarded_rules.specs.Facts.{Kind, Number, AddressIn, Property, AtMost, Behind, Value}
use Rattle.guarded_rules.specs.Says.{Has}

-- what was read is there, and has the value
abbrev pub IsRead : Value → Result Content Refusal → Type 0
IsRead v (Ok content) = Has v (Some content)
IsRead v (Err refusal) = ⊥

-- two numbers are added, or a number and an address
pub data Adding : Kind → Kind → Kind → Type 0 where
  numbers : Adding Number Number Number
  onto_address : (r : Region) → Adding (AddressIn r) Number (AddressIn r)
  onto_number : (r : Region) → Adding Number (AddressIn r) (AddressIn r)

-- ---- the fields of a context
abbrev pub begin_of : Region → ContextField
begin_of Text = field.Text
begin_of Link = field.Link

abbrev pub end_of : Region → ContextField
end_of Text = field.End
end_of Link = field.LinkEnd

abbrev pub length_of : Region → ContextField
length_of Text = field.Length
length_of Link = field.LinkLength

abbrev pub IsLent : Profile → Region → Type 0
IsLent profile Text = Unit {0}
IsLent profile Link = lends_link profile ≡ true

-- the fields that are plain numbers
pub data IsPlain : ContextField → Type 0 where
  characters : IsPlain field.Characters
  flags : IsPlain field.Flags
  color : IsPlain field.Color
  comments : IsPlain field.Comments
  index : IsPlain field.Index
  count : IsPlain field.Count
  version : IsPlain field.Version

-- a region begins at 0; its end, and its length, are at most its limit, with no bytes behind
pub data Fields (profile : Profile) : ContextField → Kind → Property → Type 0 where
  begin_most : (r : Region) → IsLent profile r → Fields profile (begin_of r) (AddressIn r) (AtMost 0)
  begin_behind : (r : Region) → IsLent profile r → Fields profile (begin_of r) (AddressIn r) (Behind r 0)
  end_most : (r : Region) → IsLent profile r → Fields profile (end_of r) (AddressIn r) (AtMost (limit_of r))
  end_behind : (r : Region) → IsLent profile r → Fields profile (end_of r) (AddressIn r) (Behind r 0)
  length_most : (r : Region) → IsLent profile r → Fields profile (length_of r) Number (AtMost (limit_of r))
  length_behind : (r : Region) → IsLent profile r → Fields profile (length_of r) Number (Behind r 0)
  plain : (f : ContextField) → IsPlain f → Fields profile f Number (AtMost (256 ^ bytes_of f - 1))

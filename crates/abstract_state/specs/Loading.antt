-- Loads and stores, by what the base holds: what they give, and when they are refused.
use Rattle.std.specs.Prelude.{◌≡◌, ◌<◌}
use Rattle.std.specs.Prelude.{ℕ, ◌+◌, ◌-◌, ◌/◌, ◌%◌, ◌^◌, nat_le, nat_lt, nat_eq, ◌&&◌, ◌||◌, if◌then◌else◌}
use Rattle.std.specs.Prelude.{Bool, false, [], ◌∷◌, find, Option, Some, None, Result, Ok, Err}
use Rattle.std.specs.Prelude.{option_map, ⊤}
use Rattle.std.specs.Option.{option_map_or}
use Rattle.span_context.specs.declared.profile.Profile.{Profile}
use Rattle.span_context.specs.Profile.{lends_link, has_more_rules}
use Rattle.span_context.specs.declared.size.Size.{Size}
use Rattle.span_context.specs.declared.size.Size.TheVariants.{Word, Double}
use Rattle.span_context.specs.declared.context_field.ContextField.{ContextField}
use Rattle.span_context.specs.declared.context_field.ContextField.TheVariants as field
use Rattle.span_context.specs.ContextField.{offset_of, size_of}
use Rattle.semantics.specs.Memory.{bytes_in}
use Rattle.abstract_state.specs.declared.region.Region.{Region}
use Rattle.abstract_state.specs.declared.region.Region.TheVariants.{Text, Link}
use Rattle.abstract_state.specs.declared.refusal.Refusal.{Refusal}
use Rattle.abstract_state.specs.declared.refusal.Refusal.TheVariants as refusal
use Rattle.abstract_state.specs.Lent.{tail_of}
use Rattle.abstract_state.specs.Estimate.{Estimate, constant, up_to, up_to_end, tails_ending}
use Rattle.abstract_state.specs.Addresses.{Content, ANumber, InContext, InStack, InRegion, near, answer_of}
use Rattle.abstract_state.specs.Addresses.{then_answer}
use Rattle.abstract_state.specs.Situation.{Least, least_at}
use Rattle.abstract_state.specs.Stacks.{Slots, stored, spilled, whole_in, are_set}

-- each number of so many bytes
abbrev pub any_of : Size → Estimate
any_of size = up_to (256 ^ bytes_in size - 1)

-- ---- the context
-- the address at which a region begins
abbrev pub begin_of : Region → Content
begin_of region = InRegion region (record (constant 0) { tails = tails_ending region })

-- a field of which nothing is known
abbrev pub plain_field : ContextField → Result (Option Content) Refusal
plain_field f = Ok (Some (ANumber (any_of (size_of f))))

-- what a field holds, where a program may read that of the text alone
unfoldable pub text_field : ContextField → Result (Option Content) Refusal
text_field field.Text = Ok (Some (begin_of Text))
text_field field.End = near Text (up_to_end Text (2 ^ 64 - 1))
text_field field.Length = Ok (option_map ANumber (up_to_end Text (2 ^ 32 - 1)))
text_field field.Link = Err refusal.ContextField
text_field field.LinkEnd = Err refusal.ContextField
text_field f = plain_field f

-- what a field holds, where a program may read that of the link too
unfoldable pub link_field : ContextField → Result (Option Content) Refusal
link_field field.Link = Ok (Some (begin_of Link))
link_field field.LinkEnd = near Link (up_to_end Link (2 ^ 64 - 1))
link_field field.LinkLength = Ok (option_map ANumber (up_to_end Link (2 ^ 32 - 1)))
link_field f = text_field f

unfoldable pub lent_field : Profile → ContextField → Result (Option Content) Refusal
lent_field profile f = if lends_link profile then link_field f else text_field f

-- the field that begins there and has that size
unfoldable pub field_at : ℕ → Size → Option ContextField
field_at n Double =
    find (λ f. nat_eq (offset_of f) n)
    (field.Text ∷ field.End ∷ field.Version ∷ field.Link ∷ field.LinkEnd ∷ [])
field_at n Word =
    find (λ f. nat_eq (offset_of f) n)
    (field.Length ∷ field.Characters ∷ field.Flags ∷ field.Color ∷ field.LinkLength ∷ field.Comments ∷ field.Index
    ∷ field.Count ∷ [])
field_at n size = None

-- count bytes from n on lie in one number of the context: from 16 to 48 stand numbers of four bytes, then the version
unfoldable pub in_number : ℕ → ℕ → Bool
in_number n count =
    if nat_lt n 48 then nat_le 16 n && nat_le (n % 4 + count) 4 else nat_le (n + count) 56

-- by the rules that the first two profiles leave out, bytes of one number may be loaded
unfoldable pub part_of_number : Profile → ℕ → ℕ → Result ⊤ Refusal
part_of_number profile n count =
    if has_more_rules profile && in_number n count then Ok tt else Err refusal.ContextField

abbrev pub a_number : Estimate → ⊤ → Option Content
a_number a done = Some (ANumber a)

unfoldable pub part_at : Profile → ℕ → Size → Result (Option Content) Refusal
part_at profile n size = answer_of (a_number (any_of size)) (part_of_number profile n (bytes_in size))

-- a load takes a whole field, or gives any number of its size
unfoldable pub context_at : Profile → ℕ → Size → Result (Option Content) Refusal
context_at profile n size = option_map_or (lent_field profile) (field_at n size) (part_at profile n size)

-- ---- places
-- an offset has 16 bits and a sign, and is added modulo 2^64: a sum that isn't below 0 is near where it was added
unfoldable pub place : ℕ → ℕ → Option ℕ
place start offset =
    if nat_le ((start + offset) % 2 ^ 64) (start + 2 ^ 16) then Some ((start + offset) % 2 ^ 64) else None

unfoldable pub context_field : Profile → ℕ → ℕ → Size → Result (Option Content) Refusal
context_field profile start offset size =
    option_map_or (λ n. context_at profile n size) (place start offset) (Err refusal.ContextField)

-- count bytes, the first of them at a place, lie in the stack
abbrev pub within_stack : ℕ → ℕ → Result ℕ Refusal
within_stack count n = if nat_le (n + count) 512 then Ok n else Err refusal.StackBounds

unfoldable pub stack_place : ℕ → ℕ → ℕ → Result ℕ Refusal
stack_place start offset count = option_map_or (within_stack count) (place start offset) (Err refusal.StackBounds)

-- count bytes end by where the tail says that the region is still
abbrev pub ends_by_tail : ℕ → ℕ → Option ℕ → Bool
ends_by_tail low end None = false
ends_by_tail low end (Some t) = nat_le end (low + t)

-- count bytes at an offset from an address lie in a region, which has so many bytes at least: behind the region's
-- begin by the least address, and before its end by the greatest one or by the address's tail
unfoldable pub reaches : ℕ → Region → Estimate → ℕ → ℕ → Bool
reaches least region a offset count =
    option_map_or
    (λ n. nat_le (n + count + (a.range.high - a.range.low)) least
    || ends_by_tail a.range.low (n + count) (tail_of a.tails region))
    (place a.range.low offset) false

-- ---- loads
-- where count bytes may be loaded as a number
abbrev pub set_there : Slots → ℕ → ℕ → Result ⊤ Refusal
set_there slots count n = if are_set slots n count then Ok tt else Err refusal.StackUnset

unfoldable pub readable : Profile → Slots → Least → Content → ℕ → ℕ → Result ⊤ Refusal
readable profile slots least (ANumber a) offset count = Err refusal.NotAnAddress
readable profile slots least (InContext p) offset count =
    option_map_or (λ n. part_of_number profile n count) (place p offset) (Err refusal.ContextField)
readable profile slots least (InStack p) offset count =
    then_answer (set_there slots count) (stack_place p offset count)
readable profile slots least (InRegion r a) offset count =
    if reaches (least_at least r) r a offset count then Ok tt else Err refusal.TextBounds

-- what stands in a slot of the stack of which a load takes all eight bytes
abbrev pub whole_at : Slots → Result ℕ Refusal → Option Content
whole_at slots (Ok n) = if nat_eq (n % 8) 0 then whole_in (slots (n / 8)) else None
whole_at slots (Err refusal) = None

unfoldable pub filled : Slots → Content → ℕ → Size → Option Content
filled slots (InStack p) offset Double = whole_at slots (stack_place p offset 8)
filled slots content offset size = None

unfoldable pub loaded : Profile → Slots → Least → Content → ℕ → Size → Result (Option Content) Refusal
loaded profile slots least (InContext p) offset size = context_field profile p offset size
loaded profile slots least content offset size =
    option_map_or (λ whole. Ok (Some whole)) (filled slots content offset size)
    (answer_of (a_number (any_of size)) (readable profile slots least content offset (bytes_in size)))

-- ---- stores, to the stack alone
abbrev pub is_whole : ℕ → ℕ → Bool
is_whole n count = nat_eq count 8 && nat_eq (n % 8) 0

-- a number may be stored anywhere, an address only as all of a slot
abbrev pub bytes_stored : Slots → ℕ → ℕ → Content → Result Slots Refusal
bytes_stored slots n count (ANumber a) = Ok (stored n count slots)
bytes_stored slots n count address = Err refusal.PointerStore

abbrev pub stored_at : Slots → ℕ → Content → ℕ → Result Slots Refusal
stored_at slots count value n =
    if is_whole n count then Ok (spilled (n / 8) value slots) else bytes_stored slots n count value

unfoldable pub written : Slots → Content → ℕ → ℕ → Content → Result Slots Refusal
written slots (ANumber a) offset count value = Err refusal.NotAnAddress
written slots (InContext p) offset count value = Err refusal.ReadOnlyStore
written slots (InRegion r a) offset count value = Err refusal.ReadOnlyStore
written slots (InStack p) offset count value = then_answer (stored_at slots count value) (stack_place p offset count)

-- the answer is the rule's, and the slots then are
abbrev pub Leaves : Result Slots Refusal → Result ⊤ Refusal → Slots → Type 0
Leaves (Ok slots) answer new = (answer ≡ Ok tt) × ((i : ℕ) → i < 64 → new i ≡ slots i)
Leaves (Err refusal) answer new = answer ≡ Err refusal

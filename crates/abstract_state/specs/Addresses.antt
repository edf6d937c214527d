-- What may be done with addresses, and what an operation makes of what registers hold.
use Rattle.std.specs.Prelude.{ℕ, ◌+◌, ◌-◌, ◌%◌, ◌^◌, nat_le, nat_eq, if◌then◌else◌, Option, Some, None, Result, Ok, Err}
use Rattle.std.specs.Prelude.{option_map, unwrap_or}
use Rattle.span_context.specs.declared.profile.Profile.{Profile}
use Rattle.span_context.specs.Profile.{context_length, has_more_rules}
use Rattle.span_context.specs.Context.{context_base}
use Rattle.bpf_words.specs.declared.instruction.Arithmetic.{Arithmetic}
use Rattle.bpf_words.specs.declared.instruction.Arithmetic.TheVariants as is
use Rattle.bpf_words.specs.declared.instruction.Width.{Width}
use Rattle.bpf_words.specs.declared.instruction.Width.TheVariants.{Narrow, Full}
use Rattle.bpf_words.specs.declared.instruction.Extension.{Extension}
use Rattle.bpf_words.specs.declared.instruction.Extension.TheVariants.{FromByte, FromHalf, FromWord, NarrowFromByte}
use Rattle.bpf_words.specs.declared.instruction.Extension.TheVariants.{NarrowFromHalf}
use Rattle.bpf_words.specs.declared.instruction.ConvertedBits.{ConvertedBits}
use Rattle.semantics.specs.Value.{bytes_kept}
use Rattle.semantics.specs.Memory.{stack_base}
use Rattle.abstract_state.specs.declared.region.Region.{Region}
use Rattle.abstract_state.specs.declared.region.Region.TheVariants.{Text, Link}
use Rattle.abstract_state.specs.declared.known.Known.{Known}
use Rattle.abstract_state.specs.declared.known.Known.TheVariants.{Number, Context, Stack, Lent}
use Rattle.abstract_state.specs.declared.refusal.Refusal.{Refusal}
use Rattle.abstract_state.specs.declared.refusal.Refusal.TheVariants.{PointerArithmetic, TextOffset}
use Rattle.abstract_state.specs.Lent.{base_of}
use Rattle.abstract_state.specs.Estimate.{Estimate, estimate_of, up_to, unknown, only, normal_cut, operand_cut, joined}
use Rattle.abstract_state.specs.Transfer.{added, taken_away, transferred}

-- a number; an address in the context or the stack, by its offset, which is known; or an address in a lent region, by
-- what is known of its offset
pub data Content : Type 0 where
  ANumber : Estimate → Content
  InContext : ℕ → Content
  InStack : ℕ → Content
  InRegion : Region → Estimate → Content

abbrev pub content_of : Known → Content
content_of (Number q) = ANumber (estimate_of q)
content_of (Context p) = InContext p.offset
content_of (Stack p) = InStack p.offset
content_of (Lent p) = InRegion p.region (estimate_of p.offset)

-- the one number that it can be, where there is one; of an address at a known offset too
abbrev pub number_of : Content → Option ℕ
number_of (ANumber a) = only a
number_of (InContext p) = Some (context_base + p)
number_of (InStack p) = Some (stack_base + p)
number_of (InRegion region a) = option_map (λ x. base_of region + x) (only a)

-- an answer with what it says in place of what the code holds
abbrev pub answer_of : {A B : Type 0} → (A → B) → Result A Refusal → Result B Refusal
answer_of f (Ok a) = Ok (f a)
answer_of f (Err refusal) = Err refusal

abbrev pub then_answer : {A B : Type 0} → (A → Result B Refusal) → Result A Refusal → Result B Refusal
then_answer f (Ok a) = f a
then_answer f (Err refusal) = Err refusal

-- ---- constants are added to and taken from an address in the context or the stack, by all 64 bits
unfoldable pub displaced : Arithmetic → Width → ℕ → Estimate → Option ℕ
displaced is.Add Full offset by = option_map (λ n. (offset + n) % 2 ^ 64) (only by)
displaced is.Sub Full offset by = option_map (λ n. (offset + (2 ^ 64 - n)) % 2 ^ 64) (only by)
displaced operation width offset by = None

-- the address must stay there, or at the end
abbrev pub staying : ℕ → (ℕ → Content) → Option ℕ → Result Content Refusal
staying end there None = Err PointerArithmetic
staying end there (Some offset) = if nat_le offset end then Ok (there offset) else Err PointerArithmetic

unfoldable pub from_context : Profile → Arithmetic → Width → ℕ → Estimate → Result Content Refusal
from_context profile operation width offset by =
    staying (context_length profile) InContext (displaced operation width offset by)

unfoldable pub from_stack : Arithmetic → Width → ℕ → Estimate → Result Content Refusal
from_stack operation width offset by = staying 512 InStack (displaced operation width offset by)

-- ---- numbers are added to and taken from an address in a lent region, by all 64 bits
-- the address must be near the region's begin
unfoldable pub near : Region → Option Estimate → Result (Option Content) Refusal
near region None = Ok None
near region (Some a) = if nat_le a.range.high (2 ^ 20) then Ok (Some (InRegion region a)) else Err TextOffset

unfoldable pub from_region : Profile → Arithmetic → Width → Region → Estimate → Estimate
    → Result (Option Content) Refusal
from_region profile is.Add Full region offset by = near region (added profile Full offset by)
from_region profile is.Sub Full region offset by = near region (taken_away profile Full offset by)
from_region profile operation width region offset by = Err PointerArithmetic

unfoldable pub onto_region : Profile → Arithmetic → Width → Region → Estimate → Estimate
    → Result (Option Content) Refusal
onto_region profile is.Add Full region by offset = near region (added profile Full by offset)
onto_region profile operation width region by offset = Err PointerArithmetic

-- ---- by more rules, an address in a lent region is taken from another in the same region, by all 64 bits
-- the difference is that of their offsets
unfoldable pub distance : Profile → Arithmetic → Width → Region → Estimate → Region → Estimate
    → Result (Option Content) Refusal
distance profile is.Sub Full Text a Text b = Ok (option_map ANumber (taken_away profile Full a b))
distance profile is.Sub Full Link a Link b = Ok (option_map ANumber (taken_away profile Full a b))
distance profile operation width r a s b = Err PointerArithmetic

unfoldable pub between : Profile → Arithmetic → Width → Region → Estimate → Region → Estimate
    → Result (Option Content) Refusal
between profile operation width r a s b =
    if has_more_rules profile then distance profile operation width r a s b else Err PointerArithmetic

-- ---- the operations with two sides but moves; where no run comes past, the answer holds nothing
unfoldable pub computed : Profile → Arithmetic → Width → Content → Content → Result (Option Content) Refusal
computed profile operation width (ANumber a) (ANumber b) =
    Ok (option_map ANumber (transferred profile operation width a b))
computed profile operation width (InContext p) (ANumber b) = answer_of Some (from_context profile operation width p b)
computed profile operation width (InStack p) (ANumber b) = answer_of Some (from_stack operation width p b)
computed profile operation width (InRegion r a) (ANumber b) = from_region profile operation width r a b
computed profile operation width (ANumber a) (InRegion r b) = onto_region profile operation width r a b
computed profile operation width (InRegion r a) (InRegion s b) = between profile operation width r a s b
computed profile operation width a b = Err PointerArithmetic

-- ---- a move: of an address all 64 bits
unfoldable pub moved : Width → Content → Result (Option Content) Refusal
moved width (ANumber a) = Ok (option_map ANumber (normal_cut width a.bits a.range a.tails))
moved Full (InRegion r a) = near r (normal_cut Full a.bits a.range a.tails)
moved Full content = Ok (Some content)
moved width content = Err PointerArithmetic

-- ---- the operations with one side, of numbers alone
unfoldable pub replaced : Width → Content → Result (Option Content) Refusal
replaced width (ANumber a) = Ok (option_map (λ _. ANumber (unknown width)) (operand_cut width a))
replaced width content = Err PointerArithmetic

abbrev pub width_of : Extension → Width
width_of FromByte = Full
width_of FromHalf = Full
width_of FromWord = Full
width_of NarrowFromByte = Narrow
width_of NarrowFromHalf = Narrow

unfoldable pub converted : ConvertedBits → Content → Result Content Refusal
converted bits (ANumber a) = Ok (ANumber (up_to (256 ^ bytes_kept bits - 1)))
converted bits content = Err PointerArithmetic

-- ---- what either of two is; nothing where they are of different kinds, or addresses at different offsets
abbrev pub if_same : {A : Type 0} → ℕ → ℕ → A → Option A
if_same m n a = if nat_eq m n then Some a else None

-- where nothing is left, neither has a number, and the first says so
abbrev pub either_estimate : Estimate → Estimate → Estimate
either_estimate a b = unwrap_or (joined a b) a

unfoldable pub either : Content → Content → Option Content
either (ANumber a) (ANumber b) = Some (ANumber (either_estimate a b))
either (InContext p) (InContext q) = if_same p q (InContext p)
either (InStack p) (InStack q) = if_same p q (InStack p)
either (InRegion Text a) (InRegion Text b) = Some (InRegion Text (either_estimate a b))
either (InRegion Link a) (InRegion Link b) = Some (InRegion Link (either_estimate a b))
either a b = None

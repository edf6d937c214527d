-- What is known on the edges of a comparison, and which comparisons are refused.
use Rattle.std.specs.Prelude.{◌≡◌, ℕ, ℤ, nat_eq, if◌then◌else◌, Bool, true, false, Option, Some, None}
use Rattle.std.specs.Prelude.{Result, Ok, Err, option_map, option_and_then}
use Rattle.std.specs.Int.{cast_unsigned, w64}
use Rattle.bpf_words.specs.declared.instruction.Width.{Width}
use Rattle.bpf_words.specs.declared.instruction.Width.TheVariants.{Full}
use Rattle.bpf_words.specs.declared.instruction.Operand.{Operand}
use Rattle.bpf_words.specs.declared.instruction.Operand.TheVariants.{Immediate, Source}
use Rattle.bpf_words.specs.declared.instruction.Comparison.{Comparison}
use Rattle.bpf_words.specs.declared.instruction.Comparison.TheVariants as is
use Rattle.semantics.specs.Value.{cut}
use Rattle.abstract_state.specs.declared.region.Region.{Region}
use Rattle.abstract_state.specs.declared.region.Region.TheVariants.{Text, Link}
use Rattle.abstract_state.specs.declared.refusal.Refusal.{Refusal}
use Rattle.abstract_state.specs.declared.refusal.Refusal.TheVariants.{PointerCompare}
use Rattle.abstract_state.specs.declared.branch.Edges.{Edges}
use Rattle.abstract_state.specs.declared.branch.Pair.{Pair}
use Rattle.abstract_state.specs.Estimate.{Estimate, constant}
use Rattle.abstract_state.specs.Comparing.{Told, told_on}
pub use Rattle.abstract_state.specs.Addresses.{Content, ANumber, InContext, InStack, InRegion}
use Rattle.abstract_state.specs.Addresses.{content_of, then_answer}
pub use Rattle.abstract_state.specs.Situation.{lengthened}
use Rattle.abstract_state.specs.Situation.{Registers, Situation, IsSituationIn, read, put}

-- what is known of both sides
pub record Both : Type 0 where
  pub left : Content
  pub right : Content

abbrev pub both_of : Pair → Both
both_of p = record { left = content_of p.left; right = content_of p.right }

abbrev pub two : Content → Content → Both
two left right = record { left = left; right = right }

abbrev pub two_numbers : Told → Both
two_numbers t = two (ANumber t.left) (ANumber t.right)

abbrev pub two_addresses : Region → Told → Both
two_addresses region t = two (InRegion region t.left) (InRegion region t.right)

-- whether a test asks for equality, or for the order without sign
abbrev pub is_order : Comparison → Bool
is_order is.Equal = true
is_order is.NotEqual = true
is_order is.Greater = true
is_order is.GreaterOrEqual = true
is_order is.Less = true
is_order is.LessOrEqual = true
is_order other = false

-- two addresses in one region are compared by all 64 bits, for equality or for the order without sign
abbrev pub addresses : Comparison → Bool → Region → Estimate → Estimate → Result (Option Both) Refusal
addresses comparison taken region x y =
    if is_order comparison
    then Ok (option_map (two_addresses region) (told_on Full comparison taken x y))
    else Err PointerCompare

-- numbers are compared by each comparison
unfoldable pub sides_on : Width → Comparison → Bool → Content → Content → Result (Option Both) Refusal
sides_on width comparison taken (ANumber x) (ANumber y) =
    Ok (option_map two_numbers (told_on width comparison taken x y))
sides_on Full comparison taken (InRegion Text x) (InRegion Text y) = addresses comparison taken Text x y
sides_on Full comparison taken (InRegion Link x) (InRegion Link y) = addresses comparison taken Link x y
sides_on width comparison taken a b = Err PointerCompare

-- a comparison of a register with itself tells nothing
abbrev pub is_register : ℕ → Operand → Bool
is_register left (Immediate value) = false
is_register left (Source register) = nat_eq register left

abbrev pub unless : Bool → Both → Option Both → Option Both
unless same before told = if same then Some before else told

-- an immediate as a comparison of the width reads it
abbrev pub compared : Width → ℤ → Estimate
compared width value = constant (cut width (cast_unsigned w64 value))

abbrev pub right_side : Width → Registers → Operand → Result Content Refusal
right_side width registers (Immediate value) = Ok (ANumber (compared width value))
right_side width registers (Source register) = read (registers register)

abbrev pub put_right : Operand → Content → Situation → Situation
put_right (Immediate value) content s = s
put_right (Source register) content s = put register content s

-- lent regions are as long as a side says
unfoldable pub raised : Content → Situation → Option Situation
raised (ANumber a) s = lengthened a s
raised (InRegion region a) s = lengthened a s
raised (InContext p) s = Some s
raised (InStack p) s = Some s

-- what is known of both sides stands in their registers
unfoldable pub refined : ℕ → Operand → Option Both → Situation → Option Situation
refined left right None s = None
refined left right (Some p) s =
    option_and_then (raised p.right) (raised p.left (put_right right p.right (put left p.left s)))

-- the edge where the comparison holds, or the other
unfoldable pub edge : Width → Comparison → ℕ → Operand → Bool → Situation → Result (Option Situation) Refusal
edge width comparison left right taken s =
    then_answer (λ a.
    then_answer (λ b.
    then_answer (λ told. Ok (refined left right (unless (is_register left right) (two a b) told) s))
    (sides_on width comparison taken a b))
    (right_side width s.registers right))
    (read (s.registers left))

-- both edges: where the comparison holds, and where it doesn't
pub record Ways : Type 0 where
  pub taken : Option Situation
  pub untaken : Option Situation

abbrev pub ways : Option Situation → Option Situation → Ways
ways taken untaken = record { taken = taken; untaken = untaken }

unfoldable pub branched : Width → Comparison → ℕ → Operand → Situation → Result Ways Refusal
branched width comparison left right s =
    then_answer (λ taken. then_answer (λ untaken. Ok (ways taken untaken)) (edge width comparison left right false s))
    (edge width comparison left right true s)

-- the code's answer is the rule's
abbrev pub AnswersBranch : Result Ways Refusal → Result Edges Refusal → Type 0
AnswersBranch (Ok w) answer =
    (e : Edges) × (answer ≡ Ok e) × IsSituationIn e.taken w.taken × IsSituationIn e.untaken w.untaken
AnswersBranch (Err refusal) answer = answer ≡ Err refusal

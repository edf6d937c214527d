-- What is known of the machine before an instruction, as the rules take it: what each register and each slot of the
-- stack holds, and how long each lent region is at least.
use Rattle.std.specs.Prelude.{◌≡◌, ◌<◌, ℕ, ◌+◌, ◌-◌, nat_le, nat_eq, min, max, if◌then◌else◌, Option, Some, None}
use Rattle.std.specs.Prelude.{Result, Ok, Err, List, option_map, option_and_then}
use Rattle.std.specs.Int.{cast_unsigned, w64}
use Rattle.span_context.specs.declared.profile.Profile.{Profile}
use Rattle.span_context.specs.Profile.{has_more_rules}
use Rattle.bpf_words.specs.declared.instruction.Operand.{Operand}
use Rattle.bpf_words.specs.declared.instruction.Operand.TheVariants.{Immediate, Source}
use Rattle.abstract_state.specs.declared.region.Region.{Region}
use Rattle.abstract_state.specs.declared.region.Region.TheVariants.{Text, Link}
use Rattle.abstract_state.specs.declared.region.Tails.{Tails}
use Rattle.abstract_state.specs.declared.bounds.Bounds.{Bounds}
use Rattle.abstract_state.specs.declared.refusal.Refusal.{Refusal}
use Rattle.abstract_state.specs.declared.refusal.Refusal.TheVariants.{UnsetRegister}
use Rattle.abstract_state.specs.declared.state.AbsReg.{AbsReg}
use Rattle.abstract_state.specs.declared.state.AbsReg.TheVariants.{Unset, Set}
use Rattle.abstract_state.specs.declared.state.AbsState.{AbsState}
use Rattle.abstract_state.specs.declared.step.Flow.{Flow}
use Rattle.abstract_state.specs.declared.step.Flow.TheVariants.{Live, Dead}
use Rattle.abstract_state.specs.Lent.{limit_of}
use Rattle.abstract_state.specs.State.{register_at}
use Rattle.abstract_state.specs.Estimate.{Estimate, constant, greater_tail}
use Rattle.abstract_state.specs.Addresses.{Content, ANumber, InContext, InStack, InRegion, content_of, either}
use Rattle.abstract_state.specs.Stacks.{Eight, Slots, Marked, Whole, none_set, slots_of, either_eight}

-- how many bytes each lent region has at least
pub record Least : Type 0 where
  pub text : ℕ
  pub link : ℕ

abbrev pub least_of : Bounds → Least
least_of bounds = record { text = bounds.text; link = bounds.link }

abbrev pub least_at : Least → Region → ℕ
least_at least Text = least.text
least_at least Link = least.link

-- what each register holds, if it is set for sure
abbrev pub Registers : Type 0
Registers = ℕ → Option Content

abbrev pub register_of : AbsReg → Option Content
register_of Unset = None
register_of (Set known) = Some (content_of known)

abbrev pub registers_of : List AbsReg → Registers
registers_of registers i = register_of (register_at registers i)

pub record Situation : Type 0 where
  pub registers : Registers
  pub slots : Slots
  pub least : Least

abbrev pub situation_of : AbsState → Situation
situation_of a = record {
  registers = registers_of a.registers;
  slots = slots_of a.stack;
  least = least_of a.bounds;
}

-- a state of the code is the situation
pub record IsSituation (a : AbsState) (s : Situation) : Type 0 where
  pub registers : (i : ℕ) → i < 11 → registers_of a.registers i ≡ s.registers i
  pub slots : (i : ℕ) → i < 64 → slots_of a.stack i ≡ s.slots i
  pub least : least_of a.bounds ≡ s.least

-- the code's answer is the rule's: no run comes past, or the state then is the situation
abbrev pub Flows : Option Situation → Flow → AbsState → Type 0
Flows None flow a = flow ≡ Dead
Flows (Some s) flow a = (flow ≡ Live) × IsSituation a s

abbrev pub AnswersStep : Result (Option Situation) Refusal → Result Flow Refusal → AbsState → Type 0
AnswersStep (Ok o) answer a = (flow : Flow) × (answer ≡ Ok flow) × Flows o flow a
AnswersStep (Err refusal) answer a = answer ≡ Err refusal

-- the code's state is there where the situation is, and is that
abbrev pub IsSituationIn : Option AbsState → Option Situation → Type 0
IsSituationIn o None = o ≡ None
IsSituationIn o (Some s) = (a : AbsState) × (o ≡ Some a) × IsSituation a s

-- ---- at the start of each run r1 holds the context's begin and r10 the stack's end
abbrev pub entry : Situation
entry = record {
  registers = λ i. if nat_eq i 1 then Some (InContext 0) else (if nat_eq i 10 then Some (InStack 512) else None);
  slots = λ i. Marked none_set;
  least = record { text = 0; link = 0 };
}

-- ---- registers
abbrev pub read : Option Content → Result Content Refusal
read None = Err UnsetRegister
read (Some content) = Ok content

abbrev pub operand_of : Registers → Operand → Result Content Refusal
operand_of registers (Immediate value) = Ok (ANumber (constant (cast_unsigned w64 value)))
operand_of registers (Source register) = read (registers register)

abbrev pub with_content : ℕ → Content → Registers → Registers
with_content register content registers i = if nat_eq i register then Some content else registers i

abbrev pub put : ℕ → Content → Situation → Situation
put register content s = record s { registers = with_content register content s.registers }

-- ---- lent regions are as long as a number with a tail that stands there says; where none is, no run comes there
unfoldable pub raised_bound : ℕ → ℕ → ℕ → Option ℕ → Option ℕ
raised_bound limit bound low None = Some bound
raised_bound limit bound low (Some t) = if nat_le (low + t) limit then Some (max bound (low + t)) else None

abbrev pub both_bounds : ℕ → ℕ → Least
both_bounds text link = record { text = text; link = link }

unfoldable pub longer : Estimate → Least → Option Least
longer a least =
    option_and_then
    (λ text. option_map (both_bounds text) (raised_bound (limit_of Link) least.link a.range.low a.tails.link))
    (raised_bound (limit_of Text) least.text a.range.low a.tails.text)

abbrev pub with_least : Situation → Least → Situation
with_least s least = record s { least = least }

unfoldable pub lengthened : Estimate → Situation → Option Situation
lengthened a s = option_map (with_least s) (longer a s.least)

-- ---- tails of addresses by how long the lent regions are at least
-- a number up to high with this tail ends at the bound, if it is not past it
unfoldable pub tail_within : ℕ → ℕ → Option ℕ
tail_within bound high = if nat_le high bound then Some (bound - high) else None

-- one more tail for a region: the greater one is kept
abbrev pub with_tail : Region → Option ℕ → Tails → Tails
with_tail Text t tails = record { text = greater_tail tails.text t; link = tails.link }
with_tail Link t tails = record { text = tails.text; link = greater_tail tails.link t }

abbrev pub bounded_offset : Region → ℕ → Estimate → Estimate
bounded_offset region least a = record a { tails = with_tail region (tail_within least a.range.high) a.tails }

abbrev pub bounded : Least → Content → Content
bounded least (ANumber a) = ANumber a
bounded least (InContext p) = InContext p
bounded least (InStack p) = InStack p
bounded least (InRegion region a) = InRegion region (bounded_offset region (least_at least region) a)

abbrev pub bounded_eight : Least → Eight → Eight
bounded_eight least (Marked marks) = Marked marks
bounded_eight least (Whole content) = Whole (bounded least content)

abbrev pub bounded_all : Situation → Situation
bounded_all s = record {
  registers = λ i. option_map (bounded s.least) (s.registers i);
  slots = λ i. bounded_eight s.least (s.slots i);
  least = s.least;
}

-- ---- what either of two situations is
abbrev pub either_register : Option Content → Option Content → Option Content
either_register None b = None
either_register (Some a) None = None
either_register (Some a) (Some b) = either a b

abbrev pub shorter : Least → Least → Least
shorter a b = record { text = min a.text b.text; link = min a.link b.link }

abbrev pub either_situation : Situation → Situation → Situation
either_situation a b = record {
  registers = λ i. either_register (a.registers i) (b.registers i);
  slots = λ i. either_eight (a.slots i) (b.slots i);
  least = shorter a.least b.least;
}

-- by the rules that the first two profiles leave out, addresses first take the tails that their side's bounds give them
unfoldable pub joined : Profile → Situation → Situation → Situation
joined profile a b =
    if has_more_rules profile then either_situation (bounded_all a) (bounded_all b) else either_situation a b

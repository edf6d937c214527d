-- What a comparison that tells of one value tells of all that bear a mark of its origin.
use Rattle.std.specs.Prelude.{ℕ, zero, suc, ◌^◌, nat_eq, nat_lt, ◌&&◌, if◌then◌else◌, true, Option, Some, None}
use Rattle.std.specs.Prelude.{option_map, option_and_then}
use Rattle.span_context.specs.declared.profile.Profile.TheVariants.{Three}
use Rattle.bpf_words.specs.declared.instruction.Width.{Width}
use Rattle.bpf_words.specs.declared.instruction.Width.TheVariants.{Full}
use Rattle.bpf_words.specs.declared.instruction.Operand.{Operand}
use Rattle.bpf_words.specs.declared.instruction.Operand.TheVariants.{Immediate, Source}
use Rattle.bpf_words.specs.declared.instruction.Comparison.TheVariants.{Equal}
use Rattle.semantics.specs.Value.{bits_of}
use Rattle.abstract_state.specs.declared.region.Region.TheVariants.{Text, Link}
use Rattle.abstract_state.specs.Estimate.{Estimate, constant}
use Rattle.abstract_state.specs.Transfer.{added}
use Rattle.abstract_state.specs.Comparing.{Told, told_on}
use Rattle.abstract_state.specs.Addresses.{Content, ANumber, InRegion, content_of}
use Rattle.abstract_state.specs.Stacks.{spilled, whole_in}
use Rattle.abstract_state.specs.Situation.{Situation, put}
use Rattle.abstract_state.specs.Edges.{raised}
use Rattle.value_marks.specs.declared.mark.Mark.{Mark}
use Rattle.value_marks.specs.declared.telling.Teller.{Teller as TellerOf}
use Rattle.value_marks.specs.declared.telling.Lesson.{Lesson}
use Rattle.value_marks.specs.declared.telling.Lesson.TheVariants.{Nothing, More, Never}
use Rattle.abstract_state.specs.Lent.{Lengths}
use Rattle.abstract_state.specs.Known.{ContainsKnown}
use Rattle.value_marks.specs.Mark.{narrower, distance, Agrees}
use Rattle.value_marks.specs.Marking.{Marking}

-- ---- of two numbers of the width the second is so far ahead of the first, modulo the width: it equals their sum
abbrev pub left_of : Told → Estimate
left_of t = t.left

unfoldable pub told : Width → ℕ → Estimate → Estimate → Option Estimate
told width ahead x y =
    if nat_lt x.range.high (2 ^ bits_of width) && nat_lt y.range.high (2 ^ bits_of width)
    then
    option_and_then (λ sum. option_map left_of (told_on Full Equal true y sum))
    (added Three width x (constant ahead))
    else Some y

-- of two numbers, or of two addresses in one region; none where no run comes there
unfoldable pub told_content : Width → ℕ → Content → Content → Option Content
told_content width ahead (ANumber x) (ANumber y) = option_map ANumber (told width ahead x y)
told_content width ahead (InRegion Text x) (InRegion Text y) = option_map (InRegion Text) (told width ahead x y)
told_content width ahead (InRegion Link x) (InRegion Link y) = option_map (InRegion Link) (told width ahead x y)
told_content width ahead x y = Some y

-- ---- a register tells: its number, its mark, and what it holds
pub record Teller : Type 0 where
  pub register : ℕ
  pub mark : Mark
  pub content : Content

abbrev pub teller_of : TellerOf → Teller
teller_of t = record { register = t.register; mark = t.mark; content = content_of t.known }

-- what a place of the same origin holds then
unfoldable pub learned : Teller → Mark → Content → Option Content
learned t mark content =
    let width = narrower t.mark.width mark.width in
    told_content width (distance width t.mark mark) t.content content

-- what a place with a mark learns: none where no run comes there; nothing where the origins differ
unfoldable pub lesson : Teller → Option Mark → Content → Option (Option Content)
lesson t None content = Some None
lesson t (Some mark) content =
    if nat_eq mark.origin t.mark.origin then option_map Some (learned t mark content) else Some None

-- it stands in the place then, and lent regions are as long as it says
abbrev pub noted : (Content → Situation) → Situation → Option (Option Content) → Option Situation
noted stand s None = None
noted stand s (Some None) = Some s
noted stand s (Some (Some content)) = raised content (stand content)

unfoldable pub heard : Teller → (Content → Situation) → Option Mark → Option Content → Situation → Option Situation
heard t stand mark None s = Some s
heard t stand mark (Some content) s = noted stand s (lesson t mark content)

-- each register but the teller, and each slot of the stack
unfoldable pub register_hears : Teller → Marking → ℕ → Situation → Option Situation
register_hears t w i s =
    if nat_eq i t.register then Some s else heard t (λ c. put i c s) (w.registers i) (s.registers i) s

abbrev pub fill : ℕ → Content → Situation → Situation
fill i content s = record s { slots = spilled i content s.slots }

unfoldable pub slot_hears : Teller → Marking → ℕ → Situation → Option Situation
slot_hears t w i s = heard t (λ c. fill i c s) (w.slots i) (whole_in (s.slots i)) s

-- the first so many, one after another
unfoldable pub each : (ℕ → Situation → Option Situation) → ℕ → Situation → Option Situation
each hears zero s = Some s
each hears (suc count) s = option_and_then (hears count) (each hears count s)

unfoldable pub all_hear : Teller → Marking → Situation → Option Situation
all_hear t w s = option_and_then (each (slot_hears t w) 64) (each (register_hears t w) 11 s)

-- ---- a register that a comparison refined tells, if it bears a mark
abbrev pub teller : ℕ → Mark → Content → Teller
teller register mark content = record { register = register; mark = mark; content = content }

unfoldable pub tells : ℕ → Option Mark → Option Content → Marking → Situation → Option Situation
tells register (Some mark) (Some content) w s = all_hear (teller register mark content) w s
tells register mark content w s = Some s

abbrev pub register_tells : ℕ → Marking → Situation → Option Situation
register_tells register w s = tells register (w.registers register) (s.registers register) w s

unfoldable pub operand_tells : Operand → Marking → Situation → Option Situation
operand_tells (Immediate value) w s = Some s
operand_tells (Source register) w s = register_tells register w s

-- both sides, the left one first
unfoldable pub sides_tell : ℕ → Operand → Marking → Situation → Option Situation
sides_tell left right w s = option_and_then (operand_tells right w) (register_tells left w s)

-- ---- how the code teaches
abbrev pub lesson_of : Lesson → Option (Option Content)
lesson_of Nothing = Some None
lesson_of (More known) = Some (Some (content_of known))
lesson_of Never = None

-- the teller holds a number that agrees with its mark
abbrev pub Tells : TellerOf → Lengths → (ℕ → ℕ) → Type 0
Tells t lengths origins = (m : ℕ) × ContainsKnown t.known lengths m × Agrees origins t.mark m

-- a lesson is true of a number
abbrev pub IsTrueOf : Lesson → Lengths → ℕ → Type 0
IsTrueOf Nothing lengths n = Unit {0}
IsTrueOf (More known) lengths n = ContainsKnown known lengths n
IsTrueOf Never lengths n = ⊥

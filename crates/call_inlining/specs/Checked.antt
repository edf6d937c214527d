-- What the parts of the check look at.
use Rattle.std.specs.Prelude.{◌≡◌, ◌<◌, length, ℕ, ℤ, pos, Bool, false, nat_eq, ◌||◌, List, [], ◌∷◌, Option, Some, None}
use Rattle.bpf_words.specs.declared.instruction.Insn.{Insn}
use Rattle.bpf_words.specs.declared.instruction.Insn.TheVariants.{Extend, Branch}
use Rattle.bpf_words.specs.Flow.{jump_of}
use Rattle.semantics.specs.Step.{Program}
use Rattle.inlined_calls.specs.Calls.{Body, Work, Performs, is_frame, work_at}
use Rattle.inlined_calls.specs.Inlined.{Placed, IsListed, AllStand, behind, Does}
use Rattle.call_inlining.specs.declared.instructions.Replacement.{Replacement}
use Rattle.call_inlining.specs.declared.instructions.Replacement.TheVariants.{Alone, Pair}

abbrev pub or_none : Option ℤ → ℤ
or_none (Some distance) = distance
or_none None = pos 0

-- how far an instruction jumps; 0 if it doesn't
abbrev pub onward_of : Insn → ℤ
onward_of insn = or_none (jump_of insn)

-- a move with a sign of r10, or a comparison with it
abbrev pub uses_frame : Insn → Bool
uses_frame (Extend extension destination source) = nat_eq source 10
uses_frame (Branch width comparison left right distance) = nat_eq left 10 || is_frame right
uses_frame insn = false

abbrev pub work_of : Replacement → Work
work_of (Alone last) = Performs [] last
work_of (Pair before last) = Performs (before ∷ []) last

-- instructions stand from a slot on, and this is the slot behind them
abbrev pub StandTo : Program → ℕ → List Insn → ℕ → Type 0
StandTo program slot insns next = AllStand program slot insns × (next ≡ behind slot insns)

-- what there is to do at a listed place is done at its slot, which the program has
abbrev pub DoesHere : List Body → Program → List Placed → Placed → Type 0
DoesHere functions program places here =
    (here.slot < length program) × Does program places here.slot here.place (work_at functions here.place)

abbrev pub AllDo : List Body → Program → List Placed → Type 0
AllDo functions program places = (here : Placed) → IsListed places here → DoesHere functions program places here

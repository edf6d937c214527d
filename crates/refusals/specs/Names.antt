-- The numbers and names of the refusals of the libraries.
use Rattle.std.specs.Prelude.{ℕ, List, codes}
use Rattle.bpf_words.specs.declared.refusal.SlotFault.{SlotFault}
use Rattle.bpf_words.specs.declared.refusal.SlotFault.TheVariants.{UnknownOpcode, OutOfProfile, UnusedField}
use Rattle.bpf_words.specs.declared.refusal.SlotFault.TheVariants.{BadRegister, BadWidth, TruncatedWide}
use Rattle.abstract_state.specs.declared.refusal.Refusal.{Refusal as StateFault}
use Rattle.abstract_state.specs.declared.refusal.Refusal.TheVariants.{UnsetRegister, PointerArithmetic, PointerCompare}
use Rattle.abstract_state.specs.declared.refusal.Refusal.TheVariants.{ContextField, StackBounds, StackUnset, TextBounds}
use Rattle.abstract_state.specs.declared.refusal.Refusal.TheVariants.{TextOffset, ReadOnlyStore, NotAnAddress}
use Rattle.abstract_state.specs.declared.refusal.Refusal.TheVariants.{PointerStore, ReturnPointer}
use Rattle.verifier.specs.declared.refusal.StructureFault.{StructureFault}
use Rattle.verifier.specs.declared.refusal.StructureFault.TheVariants.{BackwardJump, JumpOut, JumpIntoWide, FallOff}
use Rattle.verifier.specs.declared.refusal.StructureFault.TheVariants.{WriteR10}
use Rattle.assembler_lines.specs.declared.fault.LineFault.{LineFault}
use Rattle.assembler_lines.specs.declared.fault.LineFault.TheVariants.{Syntax, UnknownName, NumberRange, UnknownLabel}
use Rattle.assembler_lines.specs.declared.fault.LineFault.TheVariants.{LabelTwice, JumpRange}
use Rattle.change_history.specs.declared.refusal.Refusal.{Refusal}
use Rattle.change_history.specs.declared.refusal.Refusal.TheVariants.{StaleCounter, UnknownRef, DocumentFull, MarksFull}

abbrev pub slot_fault : SlotFault → List ℕ
slot_fault UnknownOpcode = codes "4 UnknownOpcode"
slot_fault OutOfProfile = codes "5 OutOfProfile"
slot_fault UnusedField = codes "6 UnusedField"
slot_fault BadRegister = codes "7 BadRegister"
slot_fault BadWidth = codes "8 BadWidth"
slot_fault TruncatedWide = codes "9 TruncatedWide"

abbrev pub structure_fault : StructureFault → List ℕ
structure_fault BackwardJump = codes "10 BackwardJump"
structure_fault JumpOut = codes "11 JumpOut"
structure_fault JumpIntoWide = codes "12 JumpIntoWide"
structure_fault FallOff = codes "13 FallOff"
structure_fault WriteR10 = codes "14 WriteR10"

abbrev pub state_fault : StateFault → List ℕ
state_fault UnsetRegister = codes "15 UnsetRegister"
state_fault PointerArithmetic = codes "16 PointerArithmetic"
state_fault PointerCompare = codes "17 PointerCompare"
state_fault ContextField = codes "18 ContextField"
state_fault StackBounds = codes "19 StackBounds"
state_fault StackUnset = codes "20 StackUnset"
state_fault TextBounds = codes "21 TextBounds"
state_fault TextOffset = codes "22 TextOffset"
state_fault ReadOnlyStore = codes "23 ReadOnlyStore"
state_fault NotAnAddress = codes "24 NotAnAddress"
state_fault PointerStore = codes "25 PointerStore"
state_fault ReturnPointer = codes "26 ReturnPointer"

abbrev pub line_fault : LineFault → List ℕ
line_fault Syntax = codes "30 Syntax"
line_fault UnknownName = codes "31 UnknownName"
line_fault NumberRange = codes "32 NumberRange"
line_fault UnknownLabel = codes "33 UnknownLabel"
line_fault LabelTwice = codes "34 LabelTwice"
line_fault JumpRange = codes "35 JumpRange"

abbrev pub refusal_name : Refusal → List ℕ
refusal_name StaleCounter = codes "46 StaleCounter"
refusal_name UnknownRef = codes "47 UnknownRef"
refusal_name DocumentFull = codes "48 DocumentFull"
refusal_name MarksFull = codes "49 MarksFull"

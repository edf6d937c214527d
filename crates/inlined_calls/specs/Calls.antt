-- What functions that call each other mean (RFC 9669, section 4.3.2), by the step that an instruction has without
-- calls. A callee's frame lies below its caller's, and between them lie the cells of the registers that the call keeps.
use Rattle.std.specs.Prelude.{ℕ, ℤ, zero, suc, pos, negsuc, ◌+◌, ◌*◌, ◌+ℤ◌, ◌-ℤ◌, nat_eq, nat_le, not, ◌&&◌, ◌||◌}
use Rattle.std.specs.Prelude.{if◌then◌else◌, Bool, true, false, List, [], ◌∷◌, length, slice_get, Option, Some, None}
use Rattle.std.specs.Prelude.{Ok, Err}
use Rattle.std.specs.List.{list_any}
use Rattle.span_context.specs.Context.{SpanBytes}
use Rattle.span_context.specs.declared.size.Size.TheVariants.{Double}
use Rattle.bpf_words.specs.declared.instruction.Width.{Width}
use Rattle.bpf_words.specs.declared.instruction.Width.TheVariants.{Full}
use Rattle.bpf_words.specs.declared.instruction.Arithmetic.{Arithmetic}
use Rattle.bpf_words.specs.declared.instruction.Arithmetic.TheVariants.{Add, Mov}
use Rattle.bpf_words.specs.declared.instruction.Operand.{Operand}
use Rattle.bpf_words.specs.declared.instruction.Operand.TheVariants.{Immediate, Source}
use Rattle.bpf_words.specs.declared.instruction.Insn.{Insn}
use Rattle.bpf_words.specs.declared.instruction.Insn.TheVariants.{Compute, Negate, Extend, Convert, Jump, JumpLong}
use Rattle.bpf_words.specs.declared.instruction.Insn.TheVariants.{Branch, Load, LoadSigned, Store, LoadWide, Exit}
use Rattle.semantics.specs.declared.FaultKind.{FaultKind}
use Rattle.semantics.specs.declared.FaultKind.TheVariants.{BadInstruction, OutOfCode}
use Rattle.semantics.specs.State.{State}
use Rattle.semantics.specs.Step.{Moved, On, Returns, perform}
use Rattle.inlined_calls.specs.declared.functions.FunctionSlot.{FunctionSlot}
use Rattle.inlined_calls.specs.declared.functions.FunctionSlot.TheVariants.{Plain, Second, Call}
use Rattle.inlined_calls.specs.declared.functions.Caller.{Caller}

-- a function: its slots, and how many bytes of its frame it uses
pub record Body : Type 0 where
  pub slots : List FunctionSlot
  pub depth : ℕ

-- where a run is: at a slot of a function, within calls, of which the last comes first
pub record Place : Type 0 where
  pub function : ℕ
  pub slot : ℕ
  pub callers : List Caller

abbrev pub place_at : ℕ → ℕ → List Caller → Place
place_at function slot callers = record { function = function; slot = slot; callers = callers }

-- a run begins in the first function, within no call
abbrev pub first : Place
first = place_at 0 0 []

-- another slot of the same function, within the same calls
abbrev pub at_slot : Place → ℕ → Place
at_slot place slot = place_at place.function slot place.callers

-- ---- functions
abbrev pub slots_in : Option Body → List FunctionSlot
slots_in (Some body) = body.slots
slots_in None = []

abbrev pub depth_in : Option Body → ℕ
depth_in (Some body) = body.depth
depth_in None = 0

unfoldable pub slot_at : List Body → ℕ → ℕ → Option FunctionSlot
slot_at functions function slot = slice_get (slots_in (slice_get functions function)) slot

-- the registers that a call keeps, which are among r6 to r9
abbrev pub kept_from : ℕ → List Bool → List ℕ
kept_from register [] = []
kept_from register (true ∷ rest) = register ∷ kept_from (register + 1) rest
kept_from register (false ∷ rest) = kept_from (register + 1) rest

abbrev pub kept_in : Option FunctionSlot → List ℕ
kept_in (Some (Plain insn)) = []
kept_in (Some Second) = []
kept_in (Some (Call function kept)) = kept_from 6 kept
kept_in None = []

unfoldable pub kept_by : List Body → Caller → List ℕ
kept_by functions caller = kept_in (slot_at functions caller.function caller.slot)

-- ---- frames
-- how far below the end of the stack a frame begins, within such calls: the frames and cells of the callers lie above
unfoldable pub below : List Body → List Caller → ℕ
below functions [] = 0
below functions (caller ∷ callers) =
    below functions callers + depth_in (slice_get functions caller.function) + 8 * length (kept_by functions caller)

-- how far below it the cells of a call begin: under the caller's frame
unfoldable pub cells : List Body → Caller → List Caller → ℕ
cells functions caller callers = below functions callers + depth_in (slice_get functions caller.function)

-- a register is kept in the 8 bytes below those of the one before, and comes back
abbrev pub saving : ℕ → ℕ → Insn
saving depth register = Store Double 10 (pos 0 -ℤ pos (depth + 8)) (Source register)

abbrev pub restoring : ℕ → ℕ → Insn
restoring depth register = Load Double register 10 (pos 0 -ℤ pos (depth + 8))

unfoldable pub saves : ℕ → List ℕ → List Insn
saves depth [] = []
saves depth (register ∷ rest) = saving depth register ∷ saves (depth + 8) rest

unfoldable pub restores : ℕ → List ℕ → List Insn
restores depth [] = []
restores depth (register ∷ rest) = restoring depth register ∷ restores (depth + 8) rest

-- ---- what there is to do at a place
pub data Work : Type 0 where
  -- instructions, and one that says where the run goes on in the same function
  Performs : List Insn → Insn → Work
  -- instructions, and a place in another function
  Passes : List Insn → Place → Work
  -- no instruction is there
  Lacks : FaultKind → Work
  -- what is there has no meaning within such calls
  Stuck : Work

-- r10 is the end of the whole stack, so from a frame below it a base's offset is moved down
abbrev pub lowered : ℕ → ℕ → ℤ → ℤ
lowered depth base offset = if nat_eq base 10 then offset -ℤ pos depth else offset

abbrev pub is_frame : Operand → Bool
is_frame (Immediate value) = false
is_frame (Source register) = nat_eq register 10

-- a move of r10 is followed by a sum; no other operation on it has a meaning in a frame below
abbrev pub frame_address : ℕ → Width → Arithmetic → ℕ → Work
frame_address depth Full Mov destination =
    Performs (Compute Full Mov destination (Source 10) ∷ [])
    (Compute Full Add destination (Immediate (pos 0 -ℤ pos depth)))
frame_address depth width operation destination = Stuck

abbrev pub unless : Bool → Insn → Work
unless true insn = Stuck
unless false insn = Performs [] insn

-- an instruction in a frame that lies so far below
abbrev pub moved : ℕ → Insn → Work
moved depth (Compute width operation destination operand) =
    if is_frame operand then frame_address depth width operation destination
    else Performs [] (Compute width operation destination operand)
moved depth (Negate width destination) = Performs [] (Negate width destination)
moved depth (Extend extension destination source) = unless (nat_eq source 10) (Extend extension destination source)
moved depth (Convert conversion bits destination) = Performs [] (Convert conversion bits destination)
moved depth (Jump distance) = Performs [] (Jump distance)
moved depth (JumpLong distance) = Performs [] (JumpLong distance)
moved depth (Branch width comparison left right distance) =
    unless (nat_eq left 10 || is_frame right) (Branch width comparison left right distance)
moved depth (Load size destination base offset) = Performs [] (Load size destination base (lowered depth base offset))
moved depth (LoadSigned size destination base offset) =
    Performs [] (LoadSigned size destination base (lowered depth base offset))
moved depth (Store size base offset value) = unless (is_frame value) (Store size base (lowered depth base offset) value)
moved depth (LoadWide destination value) = Performs [] (LoadWide destination value)
moved depth Exit = Performs [] Exit

abbrev pub in_frame : ℕ → Insn → Work
in_frame depth insn = if nat_eq depth 0 then Performs [] insn else moved depth insn

-- ---- calls and returns
-- a function that is among the callers isn't called again, and a frame lies within the 512 bytes of the stack
abbrev pub is_running : Place → ℕ → Bool
is_running place function =
    nat_eq place.function function || list_any (λ (caller : Caller). nat_eq caller.function function) place.callers

abbrev pub caller_at : Place → Caller
caller_at place = record { function = place.function; slot = place.slot }

abbrev pub callee : Place → ℕ → Place
callee place function = place_at function 0 (caller_at place ∷ place.callers)

abbrev pub has_room : List Body → Place → Bool
has_room functions place =
    nat_le (below functions place.callers + depth_in (slice_get functions place.function)) 512

abbrev pub may_call : List Body → Place → ℕ → Bool
may_call functions place function = not (is_running place function) && has_room functions (callee place function)

abbrev pub calls : List Body → Place → ℕ → List Bool → Work
calls functions place function kept =
    if may_call functions place function
    then Passes (saves (cells functions (caller_at place) place.callers) (kept_from 6 kept)) (callee place function)
    else Stuck

-- an exit within no call ends the run, another goes back behind the call
abbrev pub returns : List Body → List Caller → Work
returns functions [] = Performs [] Exit
returns functions (caller ∷ callers) =
    Passes (restores (cells functions caller callers) (kept_by functions caller))
    (place_at caller.function (caller.slot + 1) callers)

abbrev pub is_exit : Insn → Bool
is_exit (Compute width operation destination operand) = false
is_exit (Negate width destination) = false
is_exit (Extend extension destination source) = false
is_exit (Convert conversion bits destination) = false
is_exit (Jump distance) = false
is_exit (JumpLong distance) = false
is_exit (Branch width comparison left right distance) = false
is_exit (Load size destination base offset) = false
is_exit (LoadSigned size destination base offset) = false
is_exit (Store size base offset value) = false
is_exit (LoadWide destination value) = false
is_exit Exit = true

abbrev pub plain : List Body → Place → Insn → Work
plain functions place insn =
    if is_exit insn then returns functions place.callers else in_frame (below functions place.callers) insn

abbrev pub work_in : List Body → Place → Option FunctionSlot → Work
work_in functions place (Some (Plain insn)) = plain functions place insn
work_in functions place (Some Second) = Lacks BadInstruction
work_in functions place (Some (Call function kept)) = calls functions place function kept
work_in functions place None = Lacks OutOfCode

unfoldable pub work_at : List Body → Place → Work
work_at functions place = work_in functions place (slot_at functions place.function place.slot)

-- ---- runs
-- how a run with calls ends: with a number, by a fault, where nothing has a meaning, or not within the steps
pub data Ended : Type 0 where
  Number : ℕ → Ended
  Faults : FaultKind → Ended
  Meaningless : Ended
  OutOfSteps : Ended

abbrev pub follow : Moved → (State → ℤ → Ended) → Ended
follow (Ok (On state distance)) rest = rest state distance
follow (Ok (Returns value)) rest = Number value
follow (Err kind) rest = Faults kind

-- instructions one after the other, none of which jumps
unfoldable pub perform_all : SpanBytes → List Insn → State → (State → Ended) → Ended
perform_all bytes [] state rest = rest state
perform_all bytes (insn ∷ more) state rest =
    follow (perform bytes state insn) (λ next distance. perform_all bytes more next rest)

-- on by a distance in the same function, counted from the slot after this one
abbrev pub go_to : (Place → State → Ended) → Place → State → ℤ → Ended
go_to rest place state (pos slot) = rest (at_slot place slot) state
go_to rest place state (negsuc n) = Faults OutOfCode

abbrev pub go_by : (Place → State → Ended) → Place → State → ℤ → Ended
go_by rest place state distance = go_to rest place state (pos (place.slot + 1) +ℤ distance)

abbrev pub do_work : (Place → State → Ended) → SpanBytes → Place → State → Work → Ended
do_work rest bytes place state (Performs before last) =
    perform_all bytes before state (λ next. follow (perform bytes next last) (go_by rest place))
do_work rest bytes place state (Passes insns next) = perform_all bytes insns state (rest next)
do_work rest bytes place state (Lacks kind) = Faults kind
do_work rest bytes place state Stuck = Meaningless

-- the end of at most that many places on the way
unfoldable pub ended_from : List Body → SpanBytes → ℕ → Place → State → Ended
ended_from functions bytes zero place state = OutOfSteps
ended_from functions bytes (suc steps) place state =
    do_work (ended_from functions bytes steps) bytes place state (work_at functions place)

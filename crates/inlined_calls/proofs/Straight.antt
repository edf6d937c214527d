-- What is done before a run goes on elsewhere is one instruction after the other, and none of them jumps.
use Rattle.std.proofs.Common.{◌≡◌, ℕ, ℤ, pos, ◌+◌, ◌-◌, Bool, true, false, if◌then◌else◌, List, [], ◌∷◌, Option, Some, None, refl}
use Rattle.std.specs.Prelude.{nat_eq, ◌||◌}
use Rattle.bpf_words.specs.declared.instruction.Width.{Width}
use Rattle.bpf_words.specs.declared.instruction.Width.TheVariants.{Narrow, Full}
use Rattle.bpf_words.specs.declared.instruction.Arithmetic.{Arithmetic}
use Rattle.bpf_words.specs.declared.instruction.Arithmetic.TheVariants.{Mov}
use Rattle.bpf_words.specs.declared.instruction.Insn.{Insn}
use Rattle.bpf_words.specs.declared.instruction.Insn.TheVariants.{Compute, Negate, Extend, Convert, Jump, JumpLong, Branch, Load, LoadSigned, Store, LoadWide, Exit}
use Rattle.bpf_words.specs.Flow.{jump_of, slots_of}
use Rattle.inlined_calls.specs.declared.functions.FunctionSlot.{FunctionSlot}
use Rattle.inlined_calls.specs.declared.functions.FunctionSlot.TheVariants.{Plain, Second, Call}
use Rattle.inlined_calls.specs.declared.functions.Caller.{Caller}
use Rattle.inlined_calls.specs.Calls.{Body, Place, is_exit, Work, Performs, Passes, Lacks, Stuck, saves, restores, cells, kept_by, is_frame, frame_address, unless, moved, lowered, in_frame, below, may_call, callee, calls, returns, plain, work_in, work_at, slot_at}
use Rattle.inlined_calls.specs.Inlined.{aimed}

pub record IsStraight (insn : Insn) : Type 0 where
  pub one : slots_of insn ≡ 1
  pub no_jump : jump_of insn ≡ None
  pub same : aimed insn (pos 0) ≡ insn

abbrev pub AreStraight : List Insn → Type 0
AreStraight [] = Unit {0}
AreStraight (insn ∷ rest) = IsStraight insn × AreStraight rest

abbrev pub IsStraightWork : Work → Type 0
IsStraightWork (Performs before last) = AreStraight before
IsStraightWork (Passes insns next) = AreStraight insns
IsStraightWork (Lacks kind) = Unit {0}
IsStraightWork Stuck = Unit {0}

saves_straight : (depth : ℕ) (registers : List ℕ) → AreStraight (saves depth registers)
unfolding saves
saves_straight depth [] = tt
saves_straight depth (register ∷ rest) = (record { one = refl; no_jump = refl; same = refl }, saves_straight (depth + 8) rest)

restores_straight : (depth : ℕ) (registers : List ℕ) → AreStraight (restores depth registers)
unfolding restores
restores_straight depth [] = tt
restores_straight depth (register ∷ rest) = (record { one = refl; no_jump = refl; same = refl }, restores_straight (depth + 8) rest)

address_straight : (depth : ℕ) (width : Width) (operation : Arithmetic) (destination : ℕ) → IsStraightWork (frame_address depth width operation destination)
address_straight depth Full Mov destination = (record { one = refl; no_jump = refl; same = refl }, tt)
address_straight depth width operation destination = tt

either_straight : (test : Bool) (one other : Work) → IsStraightWork one → IsStraightWork other → IsStraightWork (if test then one else other)
either_straight true one other a b = a
either_straight false one other a b = b

unless_straight : (test : Bool) (insn : Insn) → IsStraightWork (unless test insn)
unless_straight true insn = tt
unless_straight false insn = tt

moved_straight : (depth : ℕ) (insn : Insn) → IsStraightWork (moved depth insn)
moved_straight depth (Compute width operation destination operand) =
    either_straight (is_frame operand) (frame_address depth width operation destination) (Performs [] (Compute width operation destination operand)) (address_straight depth width operation destination) tt
moved_straight depth (Negate width destination) = tt
moved_straight depth (Extend extension destination source) = unless_straight (nat_eq source 10) (Extend extension destination source)
moved_straight depth (Convert conversion bits destination) = tt
moved_straight depth (Jump distance) = tt
moved_straight depth (JumpLong distance) = tt
moved_straight depth (Branch width comparison left right distance) = unless_straight (nat_eq left 10 || is_frame right) (Branch width comparison left right distance)
moved_straight depth (Load size destination base offset) = tt
moved_straight depth (LoadSigned size destination base offset) = tt
moved_straight depth (Store size base offset value) = unless_straight (is_frame value) (Store size base (lowered depth base offset) value)
moved_straight depth (LoadWide destination value) = tt
moved_straight depth Exit = tt

frame_straight : (depth : ℕ) (insn : Insn) → IsStraightWork (in_frame depth insn)
frame_straight depth insn = either_straight (nat_eq depth 0) (Performs [] insn) (moved depth insn) tt (moved_straight depth insn)

returns_straight : (functions : List Body) (callers : List Caller) → IsStraightWork (returns functions callers)
returns_straight functions [] = tt
returns_straight functions (caller ∷ callers) = restores_straight (cells functions caller callers) (kept_by functions caller)

plain_straight : (functions : List Body) (place : Place) (insn : Insn) → IsStraightWork (plain functions place insn)
plain_straight functions place insn =
    either_straight (is_exit insn) (returns functions place.callers) (in_frame (below functions place.callers) insn) (returns_straight functions place.callers) (frame_straight (below functions place.callers) insn)

calls_straight : (functions : List Body) (place : Place) (function : ℕ) (kept : List Bool) → IsStraightWork (calls functions place function kept)
calls_straight functions place function kept = either_straight _ (Passes (saves _ _) (callee place function)) Stuck (saves_straight _ _) tt

in_straight : (functions : List Body) (place : Place) (slot : Option FunctionSlot) → IsStraightWork (work_in functions place slot)
in_straight functions place (Some (Plain insn)) = plain_straight functions place insn
in_straight functions place (Some Second) = tt
in_straight functions place (Some (Call function kept)) = calls_straight functions place function kept
in_straight functions place None = tt

pub work_straight : (functions : List Body) (place : Place) → IsStraightWork (work_at functions place)
unfolding work_at
work_straight functions place = in_straight functions place (slot_at functions place.function place.slot)

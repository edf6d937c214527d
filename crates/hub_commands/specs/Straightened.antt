-- What `straighten` answers.
use Rattle.std.specs.Prelude.{◌≡◌, ℕ, List}
use Rattle.bpf_words.specs.Words.{IsProgram, program_of}
use Rattle.bpf_words.specs.declared.refusal.WordError.TheVariants.{TooLong}
use Rattle.verifier.specs.declared.refusal.StructureFault.{StructureFault}
use Rattle.verifier.specs.declared.refusal.StructureFault.TheVariants as structure
use Rattle.verifier.specs.declared.refusal.VerifyError.TheVariants.{Structure, OutOfMemory}
use Rattle.block_layout.specs.declared.refusal.WayFault.{WayFault}
use Rattle.block_layout.specs.declared.refusal.WayFault.TheVariants.{JumpOut, JumpIntoWide, FallOff}
use Rattle.block_layout.specs.declared.refusal.StraightenError.{StraightenError}
use Rattle.block_layout.specs.declared.refusal.StraightenError.TheVariants as straight
use Rattle.block_layout.specs.Meaning.{MeansSame, IsForward}
use Rattle.block_layout.specs.Refused.{IsRefused}
use Rattle.refusals.specs.declared.reason.Reason.{Reason}
use Rattle.filters.specs.declared.refusal.FilterError.TheVariants.{Program}
use Rattle.refusals.specs.declared.reason.Reason.TheVariants.{Unverified, Words}
use Rattle.hub_commands.specs.Answers.{Answer, done}
use Rattle.hub_commands.specs.Hexadecimal.{without_blanks, slot_lines}
use Rattle.hub_commands.specs.Programs.{IsProgramReply}
use Rattle.hub_commands.specs.Reasons.{refusal}

-- the refusal of `check` that says it
abbrev pub structure_fault : WayFault → StructureFault
structure_fault JumpOut = structure.JumpOut
structure_fault JumpIntoWide = structure.JumpIntoWide
structure_fault FallOff = structure.FallOff

-- a loop is a jump back; a program that has none, and no layout either, is too long without its jumps back
abbrev pub reason_of : StraightenError → Reason
reason_of (straight.Misplaced slot fault) = Unverified (Program (Structure slot (structure_fault fault)))
reason_of (straight.Loop slot) = Unverified (Program (Structure slot structure.BackwardJump))
reason_of straight.NoLayout = Words TooLong
reason_of straight.OutOfMemory = Unverified (Program OutOfMemory)

-- of a program: one of the same meaning without a jump back, or why there is none
pub data IsStraightReply (bytes : List ℕ) (reply : Answer) : Type 0 where
  straight_on : (new : List ℕ) → IsProgram new → MeansSame (program_of bytes) (program_of new)
      → IsForward (program_of new) → reply ≡ done (slot_lines new)
      → IsStraightReply bytes reply
  refused_by : (error : StraightenError) → IsRefused (program_of bytes) error
      → reply ≡ refusal (reason_of error)
      → IsStraightReply bytes reply

-- `straighten`: the program without its jumps back
unfoldable pub IsStraightenReply : List ℕ → Answer → Type 0
IsStraightenReply input reply = IsProgramReply IsStraightReply (without_blanks input) reply

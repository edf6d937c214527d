-- Why a program is not laid out.
use Rattle.std.specs.Prelude.{◌<◌}
use Rattle.semantics.specs.Step.{Program}
use Rattle.block_layout.specs.declared.refusal.StraightenError.{StraightenError}
use Rattle.block_layout.specs.declared.refusal.StraightenError.TheVariants.{Misplaced, Loop, NoLayout, OutOfMemory}
use Rattle.block_layout.specs.Loops.{IsLoop, HasNoLoop}
use Rattle.block_layout.specs.Meaning.{IsForward}
use Rattle.block_layout.specs.Rooms.{room}
use Rattle.block_layout.specs.Structure.{IsConnected, FirstFault}

abbrev pub IsRefused : Program → StraightenError → Type 0
IsRefused program (Misplaced slot fault) = FirstFault program slot fault
IsRefused program (Loop slot) = IsConnected program × IsLoop program slot
IsRefused program NoLayout = IsConnected program × ¬ (IsForward program) × HasNoLoop program × (4095 < room program)
IsRefused program OutOfMemory = Unit {0}

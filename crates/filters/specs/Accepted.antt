-- Which programs are accepted as filters, and why others aren't.
use Rattle.std.specs.Prelude.{ℕ}
use Rattle.span_context.specs.declared.profile.Profile.TheVariants.{Three}
use Rattle.semantics.specs.Step.{Program}
use Rattle.semantics.specs.Safe.{SafeIn}
use Rattle.block_layout.specs.Meaning.{IsForward}
use Rattle.block_layout.specs.Structure.{FirstBack, FirstFault, IsConnected}
use Rattle.block_layout.specs.declared.refusal.WayFault.TheVariants as way
use Rattle.loop_labels.specs.Potential.{Bound}
use Rattle.loop_verifier.specs.Labelled.{HasLabels}
use Rattle.verifier.specs.declared.refusal.StructureFault.TheVariants.{JumpOut, JumpIntoWide, FallOff}
use Rattle.verifier.specs.declared.refusal.VerifyError.{VerifyError}
use Rattle.verifier.specs.declared.refusal.VerifyError.TheVariants.{Structure}
use Rattle.verifier.specs.Decides.{IsAllowed}
use Rattle.verifier.specs.Judged.{Rejects}
use Rattle.verifier.specs.Structure.{IsStructured}
use Rattle.filters.specs.declared.rules.RuleSet.{RuleSet}
use Rattle.filters.specs.declared.rules.RuleSet.TheVariants.{Straight, Looping}
use Rattle.filters.specs.declared.refusal.FilterError.{FilterError}
use Rattle.filters.specs.declared.refusal.FilterError.TheVariants.{Program as OfProgram, UnboundedLoop, SearchLimit}
use Rattle.filters.specs.Filters.{IsBoundOf}

-- by a profile's rules: neither its structure nor the rules have a fault, and every run on what the profile lends ends
-- within as many steps as it has slots. By those of loops the same of a program without a jump back, by the third
-- profile; of one with a jump back each instruction leads to instructions, and there is a bound of its steps for which
-- it has inductive labels
abbrev pub IsAccepted : RuleSet → Program → Type 0
IsAccepted (Straight profile) program = IsStructured program × SafeIn profile program × IsAllowed profile program
IsAccepted Looping program =
    (IsForward program → IsStructured program × SafeIn Three program × IsAllowed Three program)
    × (¬ IsForward program → IsConnected program)
    × ((bound : Bound) × IsBoundOf program bound × (¬ IsForward program → HasLabels program bound))

-- where a refusal says that an instruction leads nowhere, it is the first
abbrev pub NamesWay : Program → VerifyError → Type 0
NamesWay program (Structure slot JumpOut) = FirstFault program slot way.JumpOut
NamesWay program (Structure slot JumpIntoWide) = FirstFault program slot way.JumpIntoWide
NamesWay program (Structure slot FallOff) = FirstFault program slot way.FallOff
NamesWay program _ = Unit {0}

-- what a refusal says of a program: by a profile's rules, as those reject it; by the rules of loops the same of one
-- without a jump back, and of one with a jump back that no bound of its steps was found, with the first jump back, or
-- that the search for one took too long
abbrev pub IsRefused : RuleSet → Program → FilterError → Type 0
IsRefused (Straight profile) program (OfProgram error) = Rejects profile program error
IsRefused (Straight profile) program _ = ⊥
IsRefused Looping program (OfProgram error) =
    (IsForward program → Rejects Three program error) × (¬ IsForward program → NamesWay program error)
IsRefused Looping program (UnboundedLoop slot) = FirstBack program slot
IsRefused Looping program SearchLimit = ¬ IsForward program

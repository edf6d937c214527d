use Rattle.std.proofs.Common.{◌≡◌, length}
use Rattle.bpf_words.specs.Words.{program_of}
use Rattle.tracked_state.specs.Tracking.{after_tracked}
use Rattle.verifier.specs.Waiting.{MarksBelowIn, WaitBelow}
use Rattle.verifier.specs.Arises.{AllArise, FallsAs}
use Rattle.verifier.specs.Walk.{Follows}
use Rattle.verifier.specs.Reaches.{Covers, ListsBelow}
use Rattle.verifier.specs.Awaited.{awaited_at}
use Rattle.verifier.specs.Decides.{IsAllowedBelow}
use Rattle.verifier.specs.Decided.{Awaits}
use Rattle.verifier.proofs.walk.walk_to.Given as goal

abbrev pub invariant-loop-slot : goal.invariant-loop-slot
invariant-loop-slot l = record {
  size : length l.waiting ≡ length (program_of l.words);
  follows : Follows l.profile (program_of l.words) l.slot (after_tracked l.flow l.state) l.waiting;
  covers : Covers l.profile (program_of l.words) l.slot (after_tracked l.flow l.state) l.waiting;
  lists : ListsBelow l.profile (program_of l.words) l.slot l.reads;
  marks : WaitBelow l.profile l.waiting × MarksBelowIn l.profile l.slot (after_tracked l.flow l.state);
  waits : AllArise l.profile (program_of l.words) l.waiting;
  falls : FallsAs l.profile (program_of l.words) l.slot (after_tracked l.flow l.state);
  awaits : Awaits l.slot (after_tracked l.flow l.state) l.waiting (awaited_at l.profile (program_of l.words) l.slot);
  sound : IsAllowedBelow l.profile (program_of l.words) l.slot;
}

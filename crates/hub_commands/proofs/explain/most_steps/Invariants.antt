use Rattle.std.proofs.Common.{◌≡◌, ℕ, ◌-◌, ◌≤◌, length, get_or}
use Rattle.bpf_words.specs.Words.{program_of}
use Rattle.verifier.proofs.Enough.{AreEnough}
use Rattle.hub_commands.proofs.explain.most_steps.Given as goal

abbrev pub invariant-loop-done : goal.invariant-loop-done
invariant-loop-done l = record {
  size : length l.steps.items ≡ length (program_of l.words);
  few : (k : ℕ) → get_or l.steps.items k 0 ≤ l.done;
  enough : AreEnough (program_of l.words) l.steps.items (length (program_of l.words) - l.done);
}

use Rattle.std.proofs.Common.{◌≡◌}
use Rattle.std.specs.Prelude.{map}
use Rattle.test_scripts.specs.Parts.{all_parts}
use Rattle.test_scripts.proofs.hub_case.play_lines.Given as goal

abbrev pub invariant-loop-line : goal.invariant-loop-line
invariant-loop-line g l = record {
  named : all_parts l.shares ≡ all_parts l.fn.shares;
  workers : all_parts (map (λ w. w.share) l.workers) ≡ all_parts (map (λ w. w.share) l.fn.workers);
}

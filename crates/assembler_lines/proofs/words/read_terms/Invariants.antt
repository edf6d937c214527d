use Rattle.std.proofs.Common.{◌≡◌, ◌≤◌, take, length, ◌++◌}
use Rattle.std.specs.Option.{option_map}
use Rattle.assembler_lines.specs.Scanning.{terms_seen}
use Rattle.assembler_lines.specs.Tokens.{tokens_of}
use Rattle.assembler_lines.specs.Terms.{terms_of}
use Rattle.assembler_lines.proofs.words.read_terms.Given as goal

abbrev pub invariant-loop-token : goal.invariant-loop-token
invariant-loop-token l = record {
  fits : length l.found.items ≤ 10;
  same : option_map (λ ts. take 10 (terms_seen l.found.items ++ ts)) (terms_of (tokens_of l.rest)) ≡ option_map (take 10) (terms_of (tokens_of l.fn.line));
}

abbrev pub decreases-loop-token : goal.decreases-loop-token
decreases-loop-token l = length l.rest

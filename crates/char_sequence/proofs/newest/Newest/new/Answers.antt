use Rattle.std.proofs.Common.{refl, ap, ◌∙◌}
use Rattle.std.specs.Prelude.{nat_eq}
use Rattle.std.specs.Map.{lookup}
use Rattle.char_sequence.proofs.Counters.{newest_none, get_lookup}
use Rattle.char_sequence.proofs.newest.Newest.new.Goals as goal

pub returns : goal.returns
returns c = newest_none _ (λ q. get_lookup c.new.result.entries _ refl q ∙ ap (lookup (nat_eq q)) c.new.ensures.empty)

use Rattle.std.proofs.Common.{refl}
use Rattle.std.specs.Fmt.{digits}
use Rattle.refusal_needs.specs.Wanted.{in_i64, ends_within, is_met, wanted_text}
use Rattle.refusal_needs.specs.Refused.{load_in, refused_for}
use Rattle.refusal_needs.proofs.worked.needs_are_worked.Goals as goal

pub returns-clause-text : goal.returns-clause-text
unfolding digits in_i64 load_in refused_for wanted_text
returns-clause-text c = refl

pub returns-clause-unknown : goal.returns-clause-unknown
unfolding in_i64 load_in refused_for ends_within is_met
returns-clause-unknown c = refl

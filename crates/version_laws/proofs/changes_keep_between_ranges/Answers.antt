use Rattle.version_laws.proofs.Ranging.{kept_between}
use Rattle.version_laws.proofs.changes_keep_between_ranges.Goals as goal

pub returns : goal.returns
returns c = λ ops added old new ranges shows shown apart touched. kept_between ops added old new ranges shows shown touched apart

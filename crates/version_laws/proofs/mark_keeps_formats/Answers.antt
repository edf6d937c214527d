use Rattle.version_laws.proofs.FormatKept.{format_outside}
use Rattle.version_laws.proofs.WindowKept.{there}
use Rattle.version_laws.proofs.mark_keeps_formats.Goals as goal

pub returns : goal.returns
returns c =
    λ ops es op first last shows a lies e place at outside.
    format_outside ops es op shows a e (there ops es shows e place at) first last place lies at outside

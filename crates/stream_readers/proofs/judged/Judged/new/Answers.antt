use Rattle.std.proofs.Common.{◌∙◌, ap}
use Rattle.span_flatten.specs.Version.{Version}
use Rattle.stream_readers.proofs.Judging.{batch_is}
use Rattle.stream_readers.proofs.judged.Judged.new.Goals as goal

pub returns-clause-pending : goal.returns-clause-pending
returns-clause-pending g c =
    batch_is c.args.program.now.value c.args.version.value c.number.result c.args.verdicts.items (c.number.ensures ∙ ap (λ (v : Version). v.number) c.look.ensures) c.requires

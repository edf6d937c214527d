use Rattle.std.proofs.Common.{◌<◌, length, arith}
use Rattle.test_scripts.proofs.Parts.{set_keeps}
use Rattle.test_scripts.proofs.hub_case.by_share.Goals as goal

pub returns : goal.returns
returns g c =
    let within : c.args.index < length c.args.shares.now = omega arith in
    set_keeps c.args.shares.now c.args.index c.ingest.new.share c.index-shares-index.result within c.ingest.ensures

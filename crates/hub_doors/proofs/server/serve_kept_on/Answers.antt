use Rattle.std.proofs.Common.{◌<◌, length, arith}
use Rattle.hub_doors.proofs.Served.{begun_set}
use Rattle.hub_doors.proofs.server.serve_kept_on.Goals as goal

-- one share accepted changes again, the others have made no call
pub serve_stored-ended-requires-clause-begun : goal.serve_stored-ended-requires-clause-begun
serve_stored-ended-requires-clause-begun g c κs within =
    let shares = c.in-Ok.shares in
    let there : 0 < length shares.items = omega (arith, shares.ok.0, c.in-Ok.ensures.0, c.requires.sessions.0) in
    begun_set g.N.Naming.size shares.items 0 c.index_mut-share.result.now c.restore.new.share c.in-Ok-restore.stored.changes there c.in-Ok.ensures.1 c.index_mut-share.ensures.value c.in-Ok-restore.ensures.restored.0

use Rattle.hub_doors.proofs.Served.{all_begun}
use Rattle.hub_doors.proofs.server.serve_on.Goals as goal

pub new-requires-2-after_bounds : goal.new-requires-2-after_bounds
new-requires-2-after_bounds g c κs within = all_begun g.N.Naming.size c.in_ok-hub.shares.items c.in_ok-hub.ensures.1

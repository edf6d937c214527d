use Rattle.hub_doors.proofs.Served.{of_sessions_then}
use Rattle.hub_doors.proofs.session_share.SessionShare.session.Goals as goal

-- one session more
pub invariant_of-self : goal.invariant_of-self
invariant_of-self g c =
    of_sessions_then g.N.Naming.size g.N.Keeping.kept c.self.inside.share c.session.new.share
    (record { stores = _; options = c.args.options; ended = c.session.result; left = g.I.Read.remaining c.args.reader; old = g.O.Write.contents c.args.writer.now; new = g.O.Write.contents c.session.new.writer })
    c.self.invariant c.session.ensures.session

use Rattle.hub_sessions.proofs.Keeping.{not_kept}
use Rattle.hub_sessions.proofs.submitting.submit.Goals as goal

pub returns-in-Err-keep-clause-submits : goal.returns-in-Err-keep-clause-submits
returns-in-Err-keep-clause-submits g c =
    not_kept g.N.Naming.size c.args.share.now c.admit.new.share g.K.Keeper.kept (g.K.Keeper.stores c.args.keeper.now) c.args.hub.now.options c.args.change c.args.left.now c.in-Err-keep.why c.in-Ok.ensures.admitted c.in-Err-keep.ensures.err

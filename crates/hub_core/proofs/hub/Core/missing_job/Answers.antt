use Rattle.std.proofs.Common.{◌<◌, ap, length, arith, sym, ◌∙◌}
use Rattle.hub_core.proofs.Sizes.{changes_few}
use Rattle.hub_core.proofs.Sound.{missed, missed_none}
use Rattle.hub_core.proofs.hub.Core.missing_job.Goals as goal

pub returns-in_default : goal.returns-in_default
returns-in_default g c =
    let within : c.args.id < length c.self.inside.subscribers.items = omega arith in
    missed_none c.args.self.now _ c.args.id c.latest.result c.index-sub.result.now c.self.view_is within c.index-sub.ensures c.latest.ensures.value c.in_default.ensures

pub returns : goal.returns
returns g c =
    let within : c.args.id < length c.self.inside.subscribers.items = omega arith in
    missed c.args.self.now _ c.job_of.result c.args.id c.in-Some.number c.latest.result c.index.result.now c.index-sub.result.now c.as_slice.result.now c.self.view_is within
    c.index.ensures (sym c.is_closed.ensures ∙ c.if-is_closed.false) c.index-sub.ensures c.latest.ensures.value c.in-Some.ensures c.job_of.ensures.of c.job_of.ensures.version c.as_slice.ensures.value

pub job_of-requires-clause-few : goal.job_of-requires-clause-few
job_of-requires-clause-few g c =
    omega (arith, ap length c.as_slice.ensures.value, c.self.invariant.1.named, c.self.invariant.1.few, changes_few c.self.inside.history.size)
